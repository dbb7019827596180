-- An event is prepared and happens.
use Rattle.std.proofs.Common.{◌≡◌, ◌++◌, List, [], ◌∷◌, ap, subst, sym, ◌∙◌}
use Rattle.std.specs.Prelude.{IsTrue, Option}
use Rattle.block_registers.specs.Registers.{Registers}
use Rattle.net_machine.specs.declared.event.Event.{Event}
use Rattle.net_machine.specs.Effects.{after}
use Rattle.net_machine.specs.State.{State}
use Rattle.net_present.specs.Onward.{goes_on}
use Rattle.net_present.specs.Present.{Present}
use Rattle.fabric_events.specs.Choosing.{doable_now}
use Rattle.fabric_net.specs.NetView.{NetSeen}
use Rattle.fabric_net.specs.Standing.{StandsFor}
use Rattle.stream_rounds.specs.Steps.{IsStepped}

pub stepped : (e : Event) (old mid new : NetSeen) (before banks : List (Option Registers)) → IsTrue (doable_now old.present e)
    → mid.present ≡ old.present → mid.journal ≡ old.journal
    → new.present ≡ (goes_on e (record { present = mid.present; banks = before })).present
    → ((w : State) → StandsFor mid.present w → w.banks ≡ before → StandsFor new.present (after w e) × ((after w e).banks ≡ banks))
    → new.journal ≡ mid.journal ++ e ∷ [] → IsStepped e old new before banks
stepped e old mid new before banks can kept written present machine journal = record {
  can = can;
  present = present ∙ ap (λ (p : Present). (goes_on e (record { present = p; banks = before })).present) kept;
  machine = λ w stands same. machine w (subst (λ (p : Present). StandsFor p w) (sym kept) stands) same;
  journal = journal ∙ ap (λ (js : List Event). js ++ e ∷ []) written;
}
