-- First events happen one after another, until none is left.
use Rattle.std.proofs.Common.{◌≡◌, List, [], ◌∷◌, ◌++◌, sym, ◌∙◌, ap, subst, append_assoc, IsTrue}
use Rattle.std.specs.Prelude.{Option, Some, None}
use Rattle.std.proofs.lemmas.List.{append-nil, map-append}
use Rattle.block_registers.specs.Registers.{Registers}
use Rattle.net_machine.specs.declared.event.Event.{Event}
use Rattle.net_machine.specs.Choice.{chosen}
use Rattle.net_machine.specs.Conditions.{enabled}
use Rattle.net_machine.specs.Effects.{after}
use Rattle.net_machine.specs.Moves.{Happens, Move, after_all, after_journal, moves_of}
use Rattle.net_machine.specs.State.{State}
use Rattle.net_machine.proofs.Laws.{chosen_is_enabled, runs}
use Rattle.net_lone.specs.Lone.{lone_after}
use Rattle.net_lone.specs.Runs.{IsFirst}
use Rattle.net_lone.specs.Stages.{next_event}
use Rattle.net_lone.proofs.Laws.{one_happens, one_is_enabled}
use Rattle.fabric_events.specs.Choosing.{chosen_now}
use Rattle.fabric_net.specs.NetView.{NetSeen}
use Rattle.fabric_net.specs.Standing.{StandsFor}
use Rattle.host_talk.specs.Talking.{HasSettled, IsGoing, IsOpen}
use Rattle.host_talk.proofs.Firsts.{chosen-same}

pub going-starts : (net : NetSeen) (banks : List (Option Registers)) → IsGoing net banks net banks
unfolding after_all
going-starts net banks = record {
  journal = [];
  written = sym (append-nil net.journal);
  each = λ w here. record {
    here = here;
    goes_on = λ rest first. first;
  };
}

-- the state after one event more
after-more : (w : State) (journal : List Event) (e : Event) → after_journal w (journal ++ e ∷ []) ≡ after (after_journal w journal) e
unfolding after_all
after-more w journal e =
    ap (λ (moves : List Move). after_all w moves) (map-append Happens journal (e ∷ []))
    ∙ runs.left w (moves_of journal) (Happens e ∷ [])

-- an event is chosen, and happens
pub going-steps : (first before after_ : NetSeen) (x y z : List (Option Registers)) (e : Event) → IsGoing first x before y →
    chosen_now 0 before.present ≡ Some e → after_.journal ≡ before.journal ++ e ∷ [] →
    ((w : State) → StandsFor before.present w → w.banks ≡ y → StandsFor after_.present (after w e) × ((after w e).banks ≡ z)) →
    IsGoing first x after_ z
unfolding IsFirst
going-steps first before after_ x y z e going choice writes steps = record {
  journal = going.journal ++ e ∷ [];
  written = writes ∙ ap (λ (journal : List Event). journal ++ e ∷ []) going.written ∙ append_assoc first.journal going.journal (e ∷ []);
  each = λ w opened.
      let one = going.each w opened in
      let v = after_journal w going.journal in
      let more = after-more w going.journal e in
      let l = one.here.message in
      let chosen_ : chosen 0 v ≡ Some e = sym (chosen-same before.present v l one.here.stands.now one.here.lone one.here.state) ∙ choice in
      let next : next_event l.stage ≡ Some e =
      (one_is_enabled l e one.here.lone).0 (subst (λ (u : State). IsTrue (enabled u e)) one.here.state (chosen_is_enabled 0 v e chosen_)) in
      let on = one_happens l e one.here.lone next in
      let now = steps v one.here.stands one.here.banks in
      record {
        here = subst (λ (u : State). IsOpen after_.present z u) (sym more) (record {
          stands = now.0;
          banks = now.1;
          message = lone_after l;
          lone = on.lone;
          state = ap (λ (u : State). after u e) one.here.state ∙ on.after;
        });
        goes_on = λ rest is. subst (λ (journal : List Event). IsFirst w journal) (sym (append_assoc going.journal (e ∷ []) rest))
            (one.goes_on (e ∷ rest) (chosen_, subst (λ (u : State). IsFirst u rest) more is));
      };
}

pub going-ends : (first net : NetSeen) (x y : List (Option Registers)) → IsGoing first x net y → chosen_now 0 net.present ≡ None → HasSettled first x net y
unfolding IsFirst
going-ends first net x y going choice = record {
  journal = going.journal;
  written = going.written;
  each = λ w opened.
      let one = going.each w opened in
      let v = after_journal w going.journal in
      record {
        here = one.here;
        first = subst (λ (journal : List Event). IsFirst w journal) (append-nil going.journal)
            (one.goes_on [] (sym (chosen-same net.present v one.here.message one.here.stands.now one.here.lone one.here.state) ∙ choice));
      };
}
