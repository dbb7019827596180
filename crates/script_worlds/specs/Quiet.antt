-- What is answered to each command, whether it lets events happen or not.
use Rattle.std.specs.Prelude.{◌≡◌, Bool, true, false, List, Option, None, Some, slice_set}
use Rattle.block_registers.specs.Registers.{Registers}
use Rattle.fabric_net.specs.NetView.{NetSeen}
use Rattle.rf_script_types.specs.declared.command.ScriptCommand.{ScriptCommand}
use Rattle.rf_script_types.specs.declared.command.ScriptCommand.TheVariants as command
use Rattle.script_books.specs.declared.book.Book.{Book}
use Rattle.script_worlds.specs.Books.{IsQuietBook}
use Rattle.script_worlds.specs.WorldView.{BuiltStands, WorldSeen, new_net}
use Rattle.script_worlds.specs.Worlds.{IsNext, UnlessRefused, plan_of, unless_refused}

-- events happen in the network while the command is performed
abbrev pub lets_events_happen : ScriptCommand → Bool
lets_events_happen (command.Net nodes links room routed limit) = false
lets_events_happen (command.Discover host lose) = true
lets_events_happen (command.Route host from to lose) = true
lets_events_happen (command.Control host to port op addr words enables lose) = true
lets_events_happen (command.Unload port) = false
lets_events_happen (command.Block kind ins outs packets time) = false
lets_events_happen (command.Connect from to flow start policy) = false
lets_events_happen (command.Set at value) = false
lets_events_happen command.Commit = false
lets_events_happen (command.Run seed trace peak lose) = true
lets_events_happen (command.Twin cut peak lose) = true
lets_events_happen (command.Duplex host acts seed peak lose) = true

-- of the commands that let no event happen only net changes the net
abbrev pub net_after : ScriptCommand → Book → Option NetSeen → Option NetSeen
net_after (command.Net nodes links room routed limit) told net =
    unless_refused told net (Some (new_net (plan_of nodes links room limit) routed))
net_after c told net = net

-- and only unload changes the slots
abbrev pub slots_after : ScriptCommand → Book → List (Option Registers) → List (Option Registers)
slots_after (command.Unload port) told slots = unless_refused told slots (slice_set slots port None)
slots_after c told slots = slots

-- the net of a net command that was done stands for its network
abbrev pub StandsAfter : ScriptCommand → Book → Type 0
StandsAfter (command.Net nodes links room routed limit) told =
    UnlessRefused told (BuiltStands (plan_of nodes links room limit) routed)
StandsAfter c told = Unit {0}

-- the command was performed, with this book
pub record IsPerformed (c : ScriptCommand) (old new : WorldSeen) (slots left : List (Option Registers)) (told : Book) : Type 0 where
  pub book : IsQuietBook old.setup slots c told
  pub setup : IsNext old.setup c told new.setup
  pub net : new.net ≡ net_after c told old.net
  pub banks : left ≡ slots_after c told slots
  pub stands : StandsAfter c told

-- the command lets events happen, and nothing was done
pub record IsPassed (c : ScriptCommand) (old new : WorldSeen) (slots left : List (Option Registers)) : Type 0 where
  pub events : lets_events_happen c ≡ true
  pub world : new ≡ old
  pub banks : left ≡ slots
