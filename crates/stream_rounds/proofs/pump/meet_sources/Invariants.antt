use Rattle.stream_rounds.specs.Meeting.{HaveMet}
use Rattle.stream_rounds.proofs.Meeting.{PairsUpTo}
use Rattle.stream_rounds.proofs.pump.meet_sources.Given as goal

-- the ends of the first of the lanes met
abbrev pub invariant-loop-i : goal.invariant-loop-i
invariant-loop-i l = PairsUpTo HaveMet l.i l.initial.sources.items l.sources.items l.initial.intakes.items l.intakes.items
