-- The line of a command, and the last line.
use Rattle.std.specs.Prelude.{ℕ, codes, decimal, List, length}
use Rattle.rf_script_types.specs.declared.command.ScriptCommand.{ScriptCommand}
use Rattle.rf_script_types.specs.declared.command.ScriptCommand.TheVariants as command
use Rattle.script_books.specs.declared.book.Book.{Book}
use Rattle.script_books.specs.declared.book.Book.TheVariants as book
use Rattle.script_books.specs.Commands.{acts_of, kind_of}
use Rattle.script_books.specs.Counts.{refused, undrained}
use Rattle.script_lines.specs.Lines.{answer_text}
use Rattle.script_lines.specs.Names.{some_text, kind_text}
use Rattle.script_lines.specs.Page.{◌&◌}
use Rattle.script_lines.specs.RefusalTexts.{refusal_text}

-- net nodes N links L
abbrev pub net_text : ScriptCommand → List ℕ
net_text (command.Net nodes links room routed limit) = codes "net nodes " & decimal (length nodes) & codes " links " & decimal (length links)
net_text _ = codes ""

-- unload P
abbrev pub unload_text : ScriptCommand → List ℕ
unload_text (command.Unload port) = codes "unload " & decimal port
unload_text _ = codes ""

-- the line of a command, without its number and its end
abbrev pub command_text : ScriptCommand → Book → List ℕ
command_text c book.Net = net_text c
command_text c (book.Discover found) = (codes "discover nodes " & decimal (length found.nodes))
    & codes " bare " & decimal found.bare & codes " lost " & decimal (length found.lost)
command_text c (book.Route nodes) = codes "route nodes " & decimal nodes
command_text c (book.Control answer) = answer_text answer
command_text c book.Unload = unload_text c
command_text c (book.Block block) = (codes "block " & decimal block) & codes " " & some_text kind_text (kind_of c)
command_text c (book.Connect stream) = codes "connect stream " & decimal stream
command_text c book.Set = codes "set"
command_text c book.Commit = codes "commit"
command_text c (book.Run run) = codes "run streams " & decimal (length run.ends)
command_text c (book.Twin twin) = (codes "twin streams " & decimal (length twin.run.ends))
    & codes " nodes " & decimal twin.first_nodes & codes " " & decimal twin.second_nodes
command_text c (book.Duplex duplex) = codes "duplex streams " & decimal (length duplex.run.ends) & codes " acts " & decimal (length (acts_of c))
command_text c (book.Refused refusal) = codes "refused " & refusal_text refusal

-- K COMMAND
abbrev pub command_line : ℕ → ScriptCommand → Book → List ℕ
command_line k c b = (decimal k & codes " ") & command_text c b & codes "\n"

-- done commands N refused R undrained U
abbrev pub done_line : List Book → List ℕ
done_line bs = (codes "done commands " & decimal (length bs))
    & (codes " refused " & decimal (refused bs) & codes " undrained " & decimal (undrained bs)) & codes "\n"
