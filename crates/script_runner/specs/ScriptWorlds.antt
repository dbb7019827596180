-- The world in which a command of a script is performed, as the laws know it.
use Rattle.std.specs.Prelude.{List, [], Option, None, Some, option_map}
use Rattle.block_registers.specs.Registers.{Registers}
use Rattle.net_machine.specs.State.{Node, State}
use Rattle.script_worlds.specs.Worlds.{Setup, nothing}

pub record ScriptWorld : Type 0 where
  -- the network's plan, the graph, its layout, and what was found
  pub setup : Setup
  -- the state of the machine of the network, but for its banks; none before the first net command that was done
  pub machine : Option State
  pub banks : List (Option Registers)

-- the world before the first command
abbrev pub first_world : List (Option Registers) → ScriptWorld
first_world banks = record { setup = nothing; machine = None; banks = banks }

-- a state with other banks
abbrev pub with_banks : List (Option Registers) → State → State
with_banks banks w = record w { banks = banks }

-- the state of the machine, with the banks as they are
abbrev pub state_in : ScriptWorld → Option State
state_in world = option_map (with_banks world.banks) world.machine

-- what the nodes of the network hold
abbrev pub nodes_in : Option State → List Node
nodes_in None = []
nodes_in (Some w) = w.nodes

-- the banks of a state, if there is one
abbrev pub banks_in : List (Option Registers) → Option State → List (Option Registers)
banks_in banks None = banks
banks_in banks (Some w) = w.banks
