use Rattle.std.proofs.Common.{◌≡◌, length, vec_len}
use Rattle.net_machine.specs.State.{State}
use Rattle.stream_pump.specs.Running.{IsOpen, IsRunning}
use Rattle.stream_pump.specs.Supply.{CarriesOut}
use Rattle.stream_pump.proofs.events.run_events.Given as goal

-- the journal so far is one that goes on
abbrev pub invariant-loop-step : goal.invariant-loop-step
invariant-loop-step g l = record {
  plan : CarriesOut l.net.present l.plan;
  many : vec_len l.drains ≡ length l.plan.streams;
  runs : (w : State) → IsOpen l.initial.net.present (g.B.RegisterSlots.slots l.initial.banks) l.initial.drains.items w
      → IsRunning l.initial.seed.0 w l.seed.0 l.net (g.B.RegisterSlots.slots l.banks) l.drains.items;
}
