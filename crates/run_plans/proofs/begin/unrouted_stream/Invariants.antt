use Rattle.std.proofs.Common.{ℕ, ◌<◌}
use Rattle.net_machine.specs.CanBegin.{IsLed}
use Rattle.run_plans.proofs.begin.unrouted_stream.Given as goal

abbrev pub invariant-loop-s : goal.invariant-loop-s
invariant-loop-s g l = (k : ℕ) → k < l.s → IsLed (g.T.Reaches.tree l.tables) (g.T.Reaches.nodes l.tables) l.plan k
