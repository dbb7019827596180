-- Scripts whose streams all drain.
use Rattle.std.specs.Prelude.{◌≡◌, ◌⊎◌, List, [], Option}
use Rattle.std.specs.List.{AllByRecursion}
use Rattle.block_registers.specs.Registers.{Registers}
use Rattle.rf_script_types.specs.declared.command.ScriptCommand.{ScriptCommand}
use Rattle.rf_script_types.specs.declared.command.ScriptCommand.TheVariants as command
use Rattle.script_books.specs.Counts.{undrained}
use Rattle.script_books.specs.declared.book.Book.{Book}
use Rattle.stream_endpoint.specs.declared.flow.Policy.TheVariants.{Auto}
use Rattle.script_runner.specs.Performed.{IsOneThread}

-- a run names no packet to be lost
abbrev pub NamesNothing : ScriptCommand → Type 0
NamesNothing (command.Net nodes links room routed limit) = Unit {0}
NamesNothing (command.Discover host lose) = Unit {0}
NamesNothing (command.Route host from to lose) = Unit {0}
NamesNothing (command.Control host to port op addr words enables lose) = Unit {0}
NamesNothing (command.Unload port) = Unit {0}
NamesNothing (command.Block kind ins outs packets time) = Unit {0}
NamesNothing (command.Connect from to flow start policy) = Unit {0}
NamesNothing (command.Set at value) = Unit {0}
NamesNothing command.Commit = Unit {0}
NamesNothing (command.Run seed trace peak lose) = lose ≡ []
NamesNothing (command.Twin cut peak lose) = lose ≡ []
NamesNothing (command.Duplex host acts seed peak lose) = lose ≡ []

-- the stream of a connect command resynchronises by itself
abbrev pub Resynchronises : ScriptCommand → Type 0
Resynchronises (command.Net nodes links room routed limit) = Unit {0}
Resynchronises (command.Discover host lose) = Unit {0}
Resynchronises (command.Route host from to lose) = Unit {0}
Resynchronises (command.Control host to port op addr words enables lose) = Unit {0}
Resynchronises (command.Unload port) = Unit {0}
Resynchronises (command.Block kind ins outs packets time) = Unit {0}
Resynchronises (command.Connect from to flow start policy) = policy ≡ Auto
Resynchronises (command.Set at value) = Unit {0}
Resynchronises command.Commit = Unit {0}
Resynchronises (command.Run seed trace peak lose) = Unit {0}
Resynchronises (command.Twin cut peak lose) = Unit {0}
Resynchronises (command.Duplex host acts seed peak lose) = Unit {0}

-- Where no run names a packet to be lost, or each stream resynchronises by itself, all streams of all runs are drained.
abbrev pub ScriptsDrain : Type 0
ScriptsDrain = (commands : List ScriptCommand) (books : List Book) (old new : List (Option Registers)) → IsOneThread commands books old new
    → AllByRecursion NamesNothing commands ⊎ AllByRecursion Resynchronises commands → undrained books ≡ 0
