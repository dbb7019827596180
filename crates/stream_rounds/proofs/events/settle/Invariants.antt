use Rattle.stream_rounds.specs.Steps.{Goes}
use Rattle.stream_rounds.proofs.events.settle.Given as goal

-- events happened so far
abbrev pub invariant-loop-step : goal.invariant-loop-step
invariant-loop-step g l = Goes l.fn.net (g.B.RegisterSlots.slots l.fn.banks) l.net (g.B.RegisterSlots.slots l.banks)
