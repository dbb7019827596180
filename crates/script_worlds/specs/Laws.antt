-- What is set up after a command follows from what was set up, the command and its book.
use Rattle.std.specs.Prelude.{◌≡◌, List}
use Rattle.graph_core.specs.Pairs.{value_of}
use Rattle.graph_core.specs.declared.place.PropAt.{PropAt}
use Rattle.rf_script_types.specs.declared.command.ScriptCommand.{ScriptCommand}
use Rattle.run_plans.specs.Planned.{plan_of}
use Rattle.script_books.specs.declared.book.Book.{Book}
use Rattle.net_faults.specs.declared.fault.Fault.{Fault}
use Rattle.script_worlds.specs.Worlds.{IsNext, Setup}

-- two setups are the same, but for the order of the committed values
pub record AreAlike (one other : Setup) : Type 0 where
  pub tree : one.tree ≡ other.tree
  pub diagram : one.graph.diagram ≡ other.graph.diagram
  pub values : (at : PropAt) → value_of one.graph.committed at ≡ value_of other.graph.committed at
  pub mark : one.graph.is_committed ≡ other.graph.is_committed
  pub layout : one.layout ≡ other.layout
  pub found : one.found ≡ other.found

-- no command with its book leaves two setups that aren't alike
abbrev pub NextIsOne : Type 0
NextIsOne = (old : Setup) (command : ScriptCommand) (told : Book) (one other : Setup)
    → IsNext old command told one → IsNext old command told other → AreAlike one other

-- setups that are alike plan the same runs
abbrev pub AlikePlanTheSame : Type 0
AlikePlanTheSame = (one other : Setup) (faults : List Fault) → AreAlike one other
    → plan_of one.layout one.graph.committed faults ≡ plan_of other.layout other.graph.committed faults
