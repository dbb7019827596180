use Rattle.std.proofs.Common.{◌+◌, ◌-◌, ◌≤◌, length}
use Rattle.std.specs.Io.KnownBytes.{Consumes}
use Rattle.rf_outside.proofs.loops.read_all.Given as goal

-- the bytes came from the source, and the count didn't fall
abbrev pub invariant-loop-piece : goal.invariant-loop-piece
invariant-loop-piece g l =
    Consumes (g.S.Source.left l.initial.src) (g.S.Source.left l.src) l.bytes.items
    × (g.S.Source.faults l.initial.src ≤ g.S.Source.faults l.src)

abbrev pub decreases-loop-piece : goal.decreases-loop-piece
decreases-loop-piece g l = l.limit + 1 - length l.bytes.items
