use Rattle.host_talk.specs.Talking.{IsGoing}
use Rattle.host_talk.proofs.requests.settle.Given as goal

-- the events so far are first ones, and others may follow
abbrev pub invariant-loop-step : goal.invariant-loop-step
invariant-loop-step g l = IsGoing l.fn.net (g.B.RegisterSlots.slots l.fn.banks) l.net (g.B.RegisterSlots.slots l.banks)
