-- A network as it is built has its queues, and a run as it begins has the ways of its streams.
use Rattle.std.specs.Prelude.{Bool, List, Option}
use Rattle.block_registers.specs.Registers.{Registers}
use Rattle.net_topology.specs.Tree.{IsTree}
use Rattle.net_topology.specs.declared.plan.Plan.{Plan}
use Rattle.net_machine.specs.declared.plan.RunPlan.{RunPlan}
use Rattle.net_machine.specs.Begin.{begun, built}
use Rattle.net_machine.specs.CanBegin.{CanBegin}
use Rattle.net_machine.specs.Moves.{AreEmpty, Move, after_all}
use Rattle.net_machine.specs.State.{State}
use Rattle.net_ways.specs.Standing.{ArePlaced, HaveWays}
use Rattle.net_ways.specs.Ways.{HasQueues}

-- A network over a tree is built with its queues.
abbrev pub BuiltHasQueues : Type 0
BuiltHasQueues = (tree : Plan) (routed : Bool) (banks : List (Option Registers)) → IsTree tree → HasQueues (built tree routed banks)

-- A run begins over the same queues.
abbrev pub BegunHasQueues : Type 0
BegunHasQueues = (plan : RunPlan) (w : State) → HasQueues w → HasQueues (begun plan w)

-- No move changes that.
abbrev pub QueuesStay : Type 0
QueuesStay = (w : State) (moves : List Move) → HasQueues w → HasQueues (after_all w moves)

-- If a network can run a plan, the run begins with the ways of its streams.
abbrev pub BegunHasWays : Type 0
BegunHasWays = (plan : RunPlan) (w : State) → CanBegin w.tree w.nodes plan → HaveWays (begun plan w)

-- Where all queues are empty, each entry is placed.
abbrev pub EmptyIsPlaced : Type 0
EmptyIsPlaced = (w : State) → AreEmpty w → ArePlaced w
