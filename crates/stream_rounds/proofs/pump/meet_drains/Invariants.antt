use Rattle.stream_rounds.specs.Meeting.{HaveMetDrain}
use Rattle.stream_rounds.proofs.Meeting.{PairsUpTo}
use Rattle.stream_rounds.proofs.pump.meet_drains.Given as goal

-- the ends of the first of the lanes met
abbrev pub invariant-loop-i : goal.invariant-loop-i
invariant-loop-i l = PairsUpTo HaveMetDrain l.i l.initial.outlets.items l.outlets.items l.initial.drains.items l.drains.items
