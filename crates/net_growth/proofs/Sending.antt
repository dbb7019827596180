-- A Feed makes nothing ready on a stream of a Tx, since a Tx has no input.
use Rattle.std.proofs.Common.{◌≡◌, ℕ, ◌<◌, false, refl, sym, ◌∙◌, arith}
use Rattle.std.specs.Prelude.{Some}
use Rattle.std.proofs.lemmas.Bool.{false≢true}
use Rattle.block_library.specs.Blocks.{inputs}
use Rattle.block_library.specs.declared.kind.BlockKind.{BlockKind}
use Rattle.block_library.specs.declared.kind.BlockKind.TheVariants.{Fifo, Keep, Repeat, Replay, Rx, Sink, Split, Switch, Tx}
use Rattle.net_machine.specs.declared.event.Event.{Event}
use Rattle.net_machine.specs.declared.event.Event.TheVariants.{Ask, Command, Enter, Feed, Hop, Lose, Reply, Report, Seen}
use Rattle.net_machine.specs.declared.plan.RunPlan.{RunPlan}
use Rattle.net_machine.specs.Plans.{block_at, is_tx, stream_into, stream_out_of}
use Rattle.net_present.specs.Fits.{ArePlanned}
use Rattle.net_present.specs.Kept.{now_at}
use Rattle.net_present.specs.Present.{StreamNow}
use Rattle.net_growth.specs.Sending.{ComesFromTx, IsNoEnterOf, KeepsReady, OnlyEntersSend}
use Rattle.net_growth.proofs.Presents.{LastsAt, lasts-now}

-- a block with an input is no Tx
no-input : (kind : BlockKind) (i : ℕ) → i < inputs kind → is_tx kind ≡ false
no-input Tx i few = absurd (omega (arith, few))
no-input Rx i few = refl
no-input Fifo i few = refl
no-input Split i few = refl
no-input (Keep n) i few = refl
no-input (Repeat n) i few = refl
no-input (Replay n) i few = refl
no-input (Switch n) i few = refl
no-input Sink i few = refl

-- a block that is fed has no output where a stream of a Tx begins
gives-none : (plan : RunPlan) (b i j s t : ℕ) → ArePlanned plan → ComesFromTx plan s → stream_into plan (block_at plan b) i ≡ Some t → stream_out_of plan (block_at plan b) j ≡ Some s → ⊥
gives-none plan b i j s t planned from_tx into out = false≢true (sym (no-input (block_at plan b).kind i (planned.inputs b i t into)) ∙ from_tx b j out)

keeps-ready : (plan : RunPlan) (old : StreamNow) (e : Event) (s : ℕ) → ArePlanned plan → ComesFromTx plan s → IsNoEnterOf e s → LastsAt (KeepsReady old) plan e s
keeps-ready plan old (Enter t) s planned from_tx none = λ e. absurd (none e)
keeps-ready plan old (Command t op) s planned from_tx none = λ st has. record { ready = has.ready; offered = has.offered }
keeps-ready plan old (Report t) s planned from_tx none = λ st has. record { ready = has.ready; offered = has.offered }
keeps-ready plan old (Seen t n) s planned from_tx none = λ e st has. record { ready = has.ready; offered = has.offered }
keeps-ready plan old (Feed b i) s planned from_tx none = record {
  fed = λ into st has. record { ready = has.ready; offered = has.offered };
  readies = λ t j packets into out. absurd (gives-none plan b i j s t planned from_tx into out);
}
keeps-ready plan old (Ask x) s planned from_tx none = tt
keeps-ready plan old (Reply x) s planned from_tx none = tt
keeps-ready plan old (Lose q) s planned from_tx none = tt
keeps-ready plan old (Hop q) s planned from_tx none = record {
  gets = λ packet st has. record { ready = has.ready; offered = has.offered };
  obeys = λ c st has. record { ready = has.ready; offered = has.offered };
  hears = λ terms status st has. record { ready = has.ready; offered = has.offered };
}

pub only-enters-send : OnlyEntersSend
only-enters-send h e s planned from_tx none =
    let old = now_at h.present.streams s in
    lasts-now (KeepsReady old) s e h (keeps-ready h.present.plan old e s planned from_tx none) (record { ready = refl; offered = refl })
