use Rattle.std.proofs.Common.{◌≡◌, length}
use Rattle.graph_core.specs.Reach.{Marked, MarksReached, unmarked}
use Rattle.graph_core.proofs.reach.reaches.Given as goal

abbrev pub invariant-loop : goal.invariant-loop
invariant-loop l = (length l.marks ≡ 32) × Marked l.marks l.first × MarksReached l.edges l.first l.marks

abbrev pub decreases-loop : goal.decreases-loop
decreases-loop l = unmarked l.marks
