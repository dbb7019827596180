-- What a Tx made for a stream is used up by the stream's Enters alone, in the present of a lawful state.
use Rattle.std.specs.Prelude.{◌≡◌, ℕ, true, false}
use Rattle.std.specs.Option.{option_map_or}
use Rattle.net_machine.specs.State.{State}
use Rattle.net_machine.specs.declared.event.Event.{Event}
use Rattle.net_machine.specs.declared.plan.RunPlan.{RunPlan}
use Rattle.net_machine.specs.Plans.{block_at, is_tx, producer_of}
use Rattle.net_present.specs.Kept.{IsNow, now_at}
use Rattle.net_present.specs.Onward.{Held, goes_on}
use Rattle.net_growth.specs.Sending.{IsNoEnterOf, KeepsReady}
use Rattle.net_lawful.specs.Lawful.{Lawful}

-- the producer of stream s is a Tx
abbrev pub IsFilledByTx : RunPlan → ℕ → Type 0
IsFilledByTx plan s = option_map_or (λ b. is_tx (block_at plan b).kind) (producer_of plan s) false ≡ true

-- Each event but an Enter of such a stream leaves the same ready on it, and as many packets offered.
abbrev pub OnlyEntersSend : Type 0
OnlyEntersSend = (h : Held) (w : State) (e : Event) (s : ℕ) → Lawful w → IsNow h.present w → IsFilledByTx h.present.plan s
    → IsNoEnterOf e s → KeepsReady (now_at h.present.streams s) (now_at (goes_on e h).present.streams s)
