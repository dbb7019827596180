use Rattle.std.proofs.Common.{◌≤◌, length}
use Rattle.rf_outside.specs.Bytes.{AddsUpTo}
use Rattle.rf_outside.proofs.loops.write_all.Given as goal

-- what isn't rest was added, and the count didn't fall
abbrev pub invariant-loop-rest : goal.invariant-loop-rest
invariant-loop-rest g l =
    AddsUpTo (g.K.Sink.written l.initial.out) (g.K.Sink.written l.out) l.bytes l.rest
    × (g.K.Sink.faults l.initial.out ≤ g.K.Sink.faults l.out)

abbrev pub decreases-loop-rest : goal.decreases-loop-rest
decreases-loop-rest g l = length l.rest
