-- Where one message is under way a net chooses as the machine does.
use Rattle.std.proofs.Common.{◌≡◌, Bool, true, false, IsTrue, sym, ◌∙◌, ap, subst}
use Rattle.std.specs.Prelude.{Option, Some, None, ◌&&◌}
use Rattle.std.proofs.lemmas.Bool.{false_from_ne_true}
use Rattle.net_machine.specs.declared.event.Event.{Event}
use Rattle.net_machine.specs.declared.event.Event.TheVariants as event
use Rattle.net_machine.specs.Choice.{chosen, chosen_of, enabled_list, listing}
use Rattle.net_machine.specs.Conditions.{enabled}
use Rattle.net_machine.specs.State.{State}
use Rattle.net_present.specs.Kept.{IsNow}
use Rattle.net_present.specs.Onward.{enabled_now}
use Rattle.net_present.specs.Present.{Present}
use Rattle.net_present.proofs.Laws.{fronts_agree, present_tells}
use Rattle.net_lone.specs.Stages.{Answered, Answering, Asking, Gone, IsLone, Lone, Stage, UnderWay, next_event, state_of}
use Rattle.net_lone.proofs.Laws.{one_is_enabled}
use Rattle.fabric_events.specs.Choosing.{chosen_now, doable_list, doable_now, is_handed, is_offered}

-- an event is none of those that wait for packets from outside
abbrev WaitsForNothing : Option Event → Type 0
WaitsForNothing None = Unit {0}
WaitsForNothing (Some (event.Enter s)) = ⊥
WaitsForNothing (Some (event.Hop q)) = Unit {0}
WaitsForNothing (Some (event.Seen s n)) = ⊥
WaitsForNothing (Some (event.Feed b i)) = Unit {0}
WaitsForNothing (Some (event.Report s)) = Unit {0}
WaitsForNothing (Some (event.Command s op)) = Unit {0}
WaitsForNothing (Some (event.Lose q)) = Unit {0}
WaitsForNothing (Some (event.Reply x)) = Unit {0}
WaitsForNothing (Some (event.Ask x)) = Unit {0}

waits : (stage : Stage) → WaitsForNothing (next_event stage)
waits (Asking x p) = tt
waits (UnderWay q true p) = tt
waits (UnderWay q false p) = tt
waits (Answering x p) = tt
waits (Answered x p) = tt
waits Gone = tt

never : (w : State) (l : Lone) (e : Event) → IsLone l → w ≡ state_of l → (WaitsForNothing (Some e) → ⊥) → enabled w e ≡ false
never w l e is state waiting = false_from_ne_true (enabled w e)
    (λ may_it. waiting (subst WaitsForNothing ((one_is_enabled l e is).0 (subst (λ (v : State). IsTrue (enabled v e)) state may_it)) (waits l.stage)))

both-fail : (a b : Bool) → a ≡ false → (a && b) ≡ false
both-fail a b fails = ap (λ c. c && b) fails

-- what can happen is what is enabled
same-test : (p : Present) (w : State) (l : Lone) → IsNow p w → IsLone l → w ≡ state_of l → (e : Event) → doable_now p e ≡ enabled w e
unfolding doable_now
same-test p w l now is state (event.Enter s) =
    let none = never w l (event.Enter s) is state (λ no_. no_) in
    both-fail (enabled_now p (event.Enter s)) (is_offered p s) (present_tells p w (event.Enter s) now ∙ none) ∙ sym none
same-test p w l now is state (event.Hop q) = present_tells p w (event.Hop q) now
same-test p w l now is state (event.Seen s n) =
    let none = never w l (event.Seen s n) is state (λ no_. no_) in
    both-fail (enabled_now p (event.Seen s n)) (is_handed p s n) (present_tells p w (event.Seen s n) now ∙ none) ∙ sym none
same-test p w l now is state (event.Feed b i) = present_tells p w (event.Feed b i) now
same-test p w l now is state (event.Report s) = present_tells p w (event.Report s) now
same-test p w l now is state (event.Command s op) = present_tells p w (event.Command s op) now
same-test p w l now is state (event.Lose q) = present_tells p w (event.Lose q) now
same-test p w l now is state (event.Reply x) = present_tells p w (event.Reply x) now
same-test p w l now is state (event.Ask x) = present_tells p w (event.Ask x) now

pub chosen-same : (p : Present) (w : State) (l : Lone) → IsNow p w → IsLone l → w ≡ state_of l → chosen_now 0 p ≡ chosen 0 w
unfolding doable_list enabled_list
chosen-same p w l now is state =
    let same = same-test p w l now is state in
    let fronts = fronts_agree p w now in
    λ i. chosen_of 0 (listing (λ e. same e i) (fronts i))
