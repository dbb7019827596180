-- What is ready on a stream of a Tx is used up by its Enters alone.
use Rattle.std.specs.Prelude.{◌≡◌, ℕ, true, Some}
use Rattle.net_machine.specs.declared.event.Event.{Event}
use Rattle.net_machine.specs.declared.event.Event.TheVariants.{Ask, Command, Enter, Feed, Hop, Lose, Reply, Report, Seen}
use Rattle.net_machine.specs.declared.plan.RunPlan.{RunPlan}
use Rattle.net_machine.specs.Plans.{block_at, is_tx, stream_out_of}
use Rattle.net_present.specs.Fits.{ArePlanned}
use Rattle.net_present.specs.Kept.{now_at}
use Rattle.net_present.specs.Onward.{Held, goes_on}
use Rattle.net_present.specs.Present.{StreamNow}

-- each block with an output where stream s begins is a Tx
abbrev pub ComesFromTx : RunPlan → ℕ → Type 0
ComesFromTx plan s = (b j : ℕ) → stream_out_of plan (block_at plan b) j ≡ Some s → is_tx (block_at plan b).kind ≡ true

-- an event isn't an Enter of stream s
abbrev pub IsNoEnterOf : Event → ℕ → Type 0
IsNoEnterOf (Enter t) s = t ≡ s → ⊥
IsNoEnterOf (Command t op) s = Unit {0}
IsNoEnterOf (Report t) s = Unit {0}
IsNoEnterOf (Seen t n) s = Unit {0}
IsNoEnterOf (Feed b i) s = Unit {0}
IsNoEnterOf (Ask x) s = Unit {0}
IsNoEnterOf (Reply x) s = Unit {0}
IsNoEnterOf (Lose q) s = Unit {0}
IsNoEnterOf (Hop q) s = Unit {0}

-- the same is ready on a stream, and as many packets of it were offered
pub record KeepsReady (old new : StreamNow) : Type 0 where
  pub ready : new.ready ≡ old.ready
  pub offered : new.offered ≡ old.offered

-- Each event other than an Enter of the stream leaves a stream of a Tx so.
abbrev pub OnlyEntersSend : Type 0
OnlyEntersSend = (h : Held) (e : Event) (s : ℕ) → ArePlanned h.present.plan → ComesFromTx h.present.plan s → IsNoEnterOf e s
    → KeepsReady (now_at h.present.streams s) (now_at (goes_on e h).present.streams s)
