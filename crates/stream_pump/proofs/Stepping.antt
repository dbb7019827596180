-- A run goes on by what happens next, until nothing does.
use Rattle.std.proofs.Common.{◌≡◌, ℕ, Bool, true, false, List, [], ◌∷◌, ◌++◌, refl, sym, ap, subst, ◌∙◌, append_assoc}
use Rattle.std.specs.Prelude.{◌&&◌, IsTrue, Option, None, Some}
use Rattle.std.proofs.lemmas.List.{append-nil, map-append}
use Rattle.block_registers.specs.Registers.{Registers}
use Rattle.chdr_packets.specs.declared.packet.Packet.{Packet}
use Rattle.net_machine.specs.declared.event.Event.{Event}
use Rattle.net_machine.specs.declared.event.Event.TheVariants as event
use Rattle.net_machine.specs.declared.plan.RunPlan.{RunPlan}
use Rattle.net_machine.specs.Choice.{IsChosen, next_of, seed_of}
use Rattle.net_machine.specs.Conditions.{enabled}
use Rattle.net_machine.specs.Effects.{after}
use Rattle.net_machine.specs.Moves.{Happens, Move, after_all, after_journal, moves_of}
use Rattle.net_machine.specs.State.{State}
use Rattle.net_machine.proofs.Laws.{runs}
use Rattle.net_present.specs.Laws.{IsHeld}
use Rattle.net_present.specs.Onward.{Held, enabled_now, goes_on}
use Rattle.net_present.specs.Present.{Present}
use Rattle.net_promises.proofs.Laws.{lawful_fits_present}
use Rattle.net_needs.proofs.Laws.{sizes_stay}
use Rattle.net_present.proofs.Laws.{present_tells}
use Rattle.fabric_events.specs.Choosing.{doable_now, is_handed, is_offered}
use Rattle.fabric_net.specs.NetView.{NetSeen}
use Rattle.fabric_net.specs.Standing.{StandsFor}
use Rattle.stream_pump.specs.Supply.{CarriesOut}
use Rattle.stream_pump.specs.Drains.{AreTaken}
use Rattle.stream_pump.specs.Running.{HasRun, IsNext, IsOpen, IsRunning}
use Rattle.stream_pump.proofs.Growing.{still-taken}

-- ---- journals

one-more : (w : State) (moves : List Move) (e : Event) → after_all w (moves ++ Happens e ∷ []) ≡ after (after_all w moves) e
unfolding after_all
one-more w moves e = runs.left w moves (Happens e ∷ [])

pub after-more : (w : State) (journal : List Event) (e : Event) → after_journal w (journal ++ e ∷ []) ≡ after (after_journal w journal) e
after-more w journal e = ap (after_all w) (map-append Happens journal (e ∷ [])) ∙ one-more w (moves_of journal) e

pub after-none : (w : State) → after_journal w [] ≡ w
unfolding after_all
after-none w = refl

chosen-more : (left next : ℕ) (w v : State) (e : Event) (rest : List Event) → next_of left w ≡ Some e → seed_of left w ≡ next → after w e ≡ v
    → IsChosen next v rest → IsChosen left w (e ∷ rest)
unfolding IsChosen
chosen-more left next w v e rest is seed goes chosen = (
  is,
  subst (λ (k : ℕ). IsChosen k (after w e) rest) (sym seed) (subst (λ (u : State). IsChosen next u rest) (sym goes) chosen),
)

chosen-none : (left : ℕ) (w : State) → next_of left w ≡ None → IsChosen left w []
unfolding IsChosen
chosen-none left w is = is

-- ---- the first state

pub running-first : (seed : ℕ) (w : State) (net : NetSeen) (banks : List (Option Registers)) (drains : List (List Packet))
    → net.journal ≡ [] → IsOpen net.present banks drains w → IsRunning seed w seed net banks drains
running-first seed w net banks drains none opened = record {
  here = subst (λ (v : State). IsOpen net.present banks drains v) (sym same) opened;
  goes_on = λ rest chosen. subst (λ (journal : List Event). IsChosen seed w (journal ++ rest)) (sym none)
      (subst (λ (v : State). IsChosen seed v rest) same chosen);
}
  where
    same : after_journal w net.journal ≡ w
    same = ap (after_journal w) none ∙ after-none w

-- ---- one event more

-- what a step leaves
pub record IsStepped (w : State) (e : Event) (old new : NetSeen) (before banks : List (Option Registers)) : Type 0 where
  pub can : IsTrue (enabled w e)
  pub held : IsHeld (record { present = old.present; banks = before }) w
  pub present : new.present ≡ (goes_on e (record { present = old.present; banks = before })).present
  pub stands : StandsFor new.present (after w e)
  pub slots : (after w e).banks ≡ banks
  pub journal : new.journal ≡ old.journal ++ e ∷ []

pub running-on : (seed left next : ℕ) (opened : State) (e : Event) (net old new : NetSeen) (before banks : List (Option Registers)) (drains more : List (List Packet))
    → IsRunning seed opened left net before drains
    → IsNext left (after_journal opened net.journal) (Some e) next old.present more
    → old.journal ≡ net.journal
    → IsStepped (after_journal opened net.journal) e old new before banks
    → IsRunning seed opened next new banks more
running-on seed left next opened e net old new before banks drains more running is kept step = record {
  here = subst (λ (v : State). IsOpen new.present banks more v) (sym goes) (record {
    stands = step.stands;
    slots = step.slots;
    taken = subst (λ (p : Present). AreTaken p (after w e) more) (sym step.present)
        (still-taken h w e more step.held (lawful_fits_present w running.here.stands.lawful) step.can is.given is.taken);
  });
  goes_on = λ rest chosen. subst (λ (js : List Event). IsChosen seed opened js) (sym (joined rest))
      (running.goes_on (e ∷ rest) (chosen-more left next w (after_journal opened new.journal) e rest (sym is.event) (sym is.seeds) (sym goes) chosen));
}
  where
    w : State
    w = after_journal opened net.journal

    h : Held
    h = record { present = old.present; banks = before }

    journal : new.journal ≡ net.journal ++ e ∷ []
    journal = step.journal ∙ ap (λ (js : List Event). js ++ e ∷ []) kept

    goes : after_journal opened new.journal ≡ after (after_journal opened net.journal) e
    goes = ap (after_journal opened) journal ∙ after-more opened net.journal e

    joined : (rest : List Event) → new.journal ++ rest ≡ net.journal ++ e ∷ rest
    joined rest = ap (λ (js : List Event). js ++ rest) journal ∙ append_assoc net.journal (e ∷ []) rest

-- what can happen is enabled
first-of : (a b : Bool) → (a && b) ≡ true → a ≡ true
first-of true b both = refl
first-of false b both = both

doable-enabled : (p : Present) (e : Event) → doable_now p e ≡ true → enabled_now p e ≡ true
unfolding doable_now
doable-enabled p (event.Enter s) can = first-of (enabled_now p (event.Enter s)) (is_offered p s) can
doable-enabled p (event.Hop q) can = can
doable-enabled p (event.Seen s n) can = first-of (enabled_now p (event.Seen s n)) (is_handed p s n) can
doable-enabled p (event.Feed b i) can = can
doable-enabled p (event.Report s) can = can
doable-enabled p (event.Command s op) can = can
doable-enabled p (event.Lose q) can = can
doable-enabled p (event.Reply x) can = can
doable-enabled p (event.Ask x) can = can

-- an event is prepared and happens
pub stepped : (e : Event) (w : State) (old mid new : NetSeen) (before banks : List (Option Registers)) → IsTrue (doable_now old.present e)
    → StandsFor old.present w → w.banks ≡ before → mid.present ≡ old.present → mid.journal ≡ old.journal
    → new.present ≡ (goes_on e (record { present = mid.present; banks = before })).present
    → ((v : State) → StandsFor mid.present v → v.banks ≡ before → StandsFor new.present (after v e) × ((after v e).banks ≡ banks))
    → new.journal ≡ mid.journal ++ e ∷ [] → IsStepped w e old new before banks
stepped e w old mid new before banks can stands same kept written present machine journal = record {
  can = sym (present_tells old.present w e stands.now) ∙ doable-enabled old.present e can;
  held = record { now = stands.now; banks = sym same };
  present = present ∙ ap (λ (p : Present). (goes_on e (record { present = p; banks = before })).present) kept;
  stands = (machine w (subst (λ (p : Present). StandsFor p w) (sym kept) stands) same).0;
  slots = (machine w (subst (λ (p : Present). StandsFor p w) (sym kept) stands) same).1;
  journal = journal ∙ ap (λ (js : List Event). js ++ e ∷ []) written;
}

-- the net is one of a run of the plan still
pub carries-on : (plan : RunPlan) (e : Event) (h : Held) (q : Present) → q ≡ (goes_on e h).present → CarriesOut h.present plan → CarriesOut q plan
carries-on plan e h q is out =
    let sizes = sizes_stay e h in
    subst (λ (p : Present). CarriesOut p plan) (sym is)
    (record { same = sizes.plan ∙ out.same; streams = sizes.streams ∙ out.streams; few = out.few })

-- ---- the end

pub running-done : (seed left next : ℕ) (opened : State) (net new : NetSeen) (banks : List (Option Registers)) (drains more : List (List Packet))
    → IsRunning seed opened left net banks drains
    → IsNext left (after_journal opened net.journal) None next new.present more
    → new.journal ≡ net.journal → HasRun seed opened new banks more
running-done seed left next opened net new banks drains more running is kept = record {
  here = subst (λ (js : List Event). IsOpen new.present banks more (after_journal opened js)) (sym kept) (record {
    stands = is.stands;
    slots = running.here.slots;
    taken = λ s rx. record { given = is.given s rx; count = is.taken s rx };
  });
  chosen = subst (λ (js : List Event). IsChosen seed opened js) (append-nil net.journal ∙ sym kept)
      (running.goes_on [] (chosen-none left (after_journal opened net.journal) (sym is.event)));
}
