-- What is prepared serves the event of a step.
use Rattle.std.proofs.Common.{◌≡◌, sym, ap, subst}
use Rattle.std.specs.Prelude.{IsTrue, Option, None, Some, option_map}
use Rattle.std.specs.Option.{option_map_or}
use Rattle.net_machine.specs.declared.event.Event.{Event}
use Rattle.net_present.specs.Onward.{enabled_now}
use Rattle.fabric_events.specs.Fabrics.{present_of}
use Rattle.fabric_events.specs.Ready.{IsReady}
use Rattle.fabric_net.specs.NetView.{IsArmed, IsMadeFor, event_in}
use Rattle.fabric_net.specs.declared.net.Net.TheInside.{Inside}
use Rattle.fabric_net.specs.declared.net.Prepared.{Prepared}

same-event : (a b : Event) → ◌≡◌ {A = Option Event} (Some a) (Some b) → a ≡ b
same-event a b e = ap (λ (o : Option Event). option_map_or (λ (x : Event). x) o a) e

-- what was made for an event, where that is prepared
pub made-for : (net : Inside) (o : Option Prepared) (made : Prepared) → o ≡ Some made → IsArmed net o → IsMadeFor net made
made-for net o made is armed = subst (λ (q : Option Prepared). IsArmed net q) is armed

pub armed-ready : (net : Inside) (o : Option Prepared) (made : Prepared) (e : Event) → o ≡ Some made → IsArmed net o
    → option_map event_in o ≡ Some e → IsTrue (enabled_now (present_of net.fabric) e) → IsReady net.fabric made.room e
armed-ready net o made e is armed prepared can =
    let here = made-for net o made is armed in
    let same : made.event ≡ e = same-event made.event e (subst (λ (q : Option Prepared). option_map event_in q ≡ Some e) is prepared) in
    subst (λ (x : Event). IsReady net.fabric made.room x) same
    (here.ready (subst (λ (x : Event). IsTrue (enabled_now (present_of net.fabric) x)) (sym same) can))

none-event : (e : Event) → ◌≡◌ {A = Option Event} None (Some e) → ⊥
none-event e is = cc

-- something is prepared
pub not-none : (o : Option Prepared) (e : Event) → o ≡ None → option_map event_in o ≡ Some e → ⊥
not-none o e none prepared = none-event e (subst (λ (q : Option Prepared). option_map event_in q ≡ Some e) none prepared)
