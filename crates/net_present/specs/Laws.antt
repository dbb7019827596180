-- The present tells what is enabled, and goes on as the state does.
use Rattle.std.specs.Prelude.{◌≡◌, IsTrue}
use Rattle.net_machine.specs.declared.event.Event.{Event}
use Rattle.net_machine.specs.Conditions.{enabled}
use Rattle.net_machine.specs.Effects.{after}
use Rattle.net_machine.specs.Front.{front}
use Rattle.net_machine.specs.State.{State}
use Rattle.net_present.specs.Fits.{FitsPresent}
use Rattle.net_present.specs.Kept.{IsNow}
use Rattle.net_present.specs.Onward.{Held, enabled_now, goes_on}
use Rattle.net_present.specs.Present.{Present, front_now}

-- conditions read the same of a state and of its present
abbrev pub FrontsAgree : Type 0
FrontsAgree = (p : Present) (w : State) → IsNow p w → front_now p ≡ front w

-- so the present tells whether an event is enabled
abbrev pub PresentTells : Type 0
PresentTells = (p : Present) (w : State) (e : Event) → IsNow p w → enabled_now p e ≡ enabled w e

-- a present and the registers beside it are those of a state
pub record IsHeld (h : Held) (w : State) : Type 0 where
  pub now : IsNow h.present w
  pub banks : h.banks ≡ w.banks

-- a present goes on at an enabled event as the state does
abbrev pub PresentFollows : Type 0
PresentFollows = (h : Held) (w : State) (e : Event) → FitsPresent w → IsTrue (enabled w e) → IsHeld h w →
    IsHeld (goes_on e h) (after w e)
