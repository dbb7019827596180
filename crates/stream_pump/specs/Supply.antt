-- What offering changes of a present: more of what is ready is offered, and all else stays.
use Rattle.std.specs.Prelude.{◌≡◌, ℕ, ◌≤◌, length}
use Rattle.net_machine.specs.declared.plan.RunPlan.{RunPlan}
use Rattle.net_present.specs.Kept.{now_at}
use Rattle.net_present.specs.Present.{Present, StreamNow}

-- a present is one of a run of this plan
pub record CarriesOut (p : Present) (plan : RunPlan) : Type 0 where
  pub same : p.plan ≡ plan
  pub streams : length p.streams ≡ length plan.streams
  pub few : length plan.streams ≤ 16

-- both presents have one plan, and as many streams
pub record KeepsRun (p q : Present) : Type 0 where
  pub plan : q.plan ≡ p.plan
  pub streams : length q.streams ≡ length p.streams

-- more of a stream is offered, and the same is ready and waits
pub record OffersMore (old new : StreamNow) : Type 0 where
  pub ready : new.ready ≡ old.ready
  pub waiting : new.waiting ≡ old.waiting
  pub offered : old.offered ≤ new.offered

-- so it is with each stream
pub record OnlyOffers (p q : Present) : Type 0 where
  pub run : KeepsRun p q
  pub each : (s : ℕ) → OffersMore (now_at p.streams s) (now_at q.streams s)
