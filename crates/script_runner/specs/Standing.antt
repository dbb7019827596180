-- For which worlds of the laws a program's world and banks stand.
use Rattle.std.specs.Prelude.{◌≡◌, List, Option, None, Some}
use Rattle.block_registers.specs.Registers.{Registers}
use Rattle.fabric_net.specs.NetView.{NetSeen}
use Rattle.fabric_net.specs.Standing.{StandsFor}
use Rattle.found_nodes.specs.Found.{AreFound}
use Rattle.host_talk.specs.Settled.{IsSettledNow}
use Rattle.net_machine.specs.State.{State}
use Rattle.net_present.specs.Present.{Present}
use Rattle.net_topology.specs.declared.plan.Plan.{Plan}
use Rattle.rf_script_types.specs.declared.command.ScriptCommand.{ScriptCommand}
use Rattle.script_books.specs.declared.book.Book.{Book}
use Rattle.script_books.specs.declared.book.Book.TheVariants as book
use Rattle.script_worlds.specs.WorldView.{WorldSeen}
use Rattle.script_runner.specs.Performed.{IsPerformed}
use Rattle.script_runner.specs.ScriptWorlds.{ScriptWorld, banks_in, state_in}
use Rattle.script_runner.specs.Talks.{TalksOn}

-- a net stands for a state, or there is neither
abbrev pub NetStandsFor : Option NetSeen → Option State → Type 0
NetStandsFor None None = Unit {0}
NetStandsFor (Some net) (Some w) = StandsFor net.present w
NetStandsFor None (Some w) = ⊥
NetStandsFor (Some net) None = ⊥

pub record WorldStandsFor (seen : WorldSeen) (slots : List (Option Registers)) (world : ScriptWorld) : Type 0 where
  pub setup : world.setup ≡ seen.setup
  pub machine : NetStandsFor seen.net world.machine
  pub banks : world.banks ≡ slots

-- The command has this book, and what is left stands for the next world.
pub record Performs (world : ScriptWorld) (c : ScriptCommand) (told : Book) (seen : WorldSeen) (slots : List (Option Registers)) : Type 0 where
  pub next : ScriptWorld
  pub performed : IsPerformed world c told next
  pub stands : WorldStandsFor seen slots next

-- ---- the commands by which a host talks, by what they tell in a state, and the state that they leave

-- the nodes that a book tells were found are those of the network
abbrev pub AreToldFound : Plan → Book → Type 0
AreToldFound tree (book.Discover found) = AreFound tree found.nodes
AreToldFound tree told = Unit {0}

-- in a state for which the net stood the command has this book, and the net stands for the state that it leaves
pub record IsTold (Tells : State → Book → State → Type 0) (w : State) (told : Book) (new : Present) (left : List (Option Registers)) : Type 0 where
  pub end : State
  pub tells : Tells w told end
  pub stands : StandsFor new end
  pub banks : end.banks ≡ left

-- so it is in each such state, and another command may follow, which may go by the nodes that were found
pub record HasTold (Tells : State → Book → State → Type 0) (old : NetSeen) (slots : List (Option Registers)) (told : Book) (new : NetSeen) (left : List (Option Registers)) : Type 0 where
  pub tree : new.present.tree ≡ old.present.tree
  pub settled : IsSettledNow new.present
  pub found : AreToldFound old.present.tree told
  pub each : (w : State) → StandsFor old.present w → w.banks ≡ slots → IsTold Tells w told new.present left

-- in a world, where there may be no network
pub record Talks (Tells : State → Book → State → Type 0) (world : ScriptWorld) (told : Book) (seen : WorldSeen) (slots : List (Option Registers)) : Type 0 where
  pub next : ScriptWorld
  pub talk : TalksOn Tells (state_in world) told next.machine
  pub setup : next.setup ≡ world.setup
  pub banks : next.banks ≡ banks_in world.banks next.machine
  pub stands : WorldStandsFor seen slots next
