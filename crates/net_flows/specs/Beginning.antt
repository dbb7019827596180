-- A run begins with all that lasts, and everything done to a network keeps it.
use Rattle.net_machine.specs.declared.plan.RunPlan.{RunPlan}
use Rattle.net_machine.specs.Begin.{begun}
use Rattle.net_machine.specs.CanBegin.{CanBegin}
use Rattle.net_machine.specs.Moves.{AreEmpty, IsAllowed, Move, after_move}
use Rattle.net_machine.specs.State.{State}
use Rattle.net_ways.specs.Standing.{AreMessages, ArePlaced, AreReady, HaveWays}
use Rattle.net_ways.specs.Ways.{HasQueues}
use Rattle.net_flows.specs.Flows.{IsSteady}

-- If a network with empty queues can run a plan, each stream of the run begins as a run of the machine of one stream.
abbrev pub BegunIsSteady : Type 0
BegunIsSteady = (plan : RunPlan) (w : State) → HasQueues w → AreMessages w → AreEmpty w → CanBegin w.tree w.nodes plan
    → IsSteady (begun plan w)

-- Each move keeps what lasts, as long as tables lead and entries stand on their ways.
abbrev pub MovesKeepSteady : Type 0
MovesKeepSteady = (w : State) (move : Move) → IsAllowed w move → IsSteady w → HaveWays w → ArePlaced w
    → IsSteady (after_move w move)

-- What waits to enter may stand in its first queue.
abbrev pub SteadyIsReady : Type 0
SteadyIsReady = (w : State) → IsSteady w → AreReady w
