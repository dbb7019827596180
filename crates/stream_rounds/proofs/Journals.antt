-- A journal grows by an event that can happen.
use Rattle.std.proofs.Common.{◌≡◌, Bool, true, false, List, [], ◌∷◌, ◌++◌, refl, sym, ap, subst, ◌∙◌}
use Rattle.std.specs.Prelude.{◌&&◌, IsTrue, Option}
use Rattle.std.proofs.lemmas.List.{map-append}
use Rattle.block_registers.specs.Registers.{Registers}
use Rattle.net_machine.specs.declared.event.Event.{Event}
use Rattle.net_machine.specs.declared.event.Event.TheVariants as event
use Rattle.net_machine.specs.Conditions.{enabled}
use Rattle.net_machine.specs.Effects.{after}
use Rattle.net_machine.specs.Moves.{Happens, IsLegal, Move, after_all, after_journal, moves_of}
use Rattle.net_machine.specs.State.{State}
use Rattle.net_machine.proofs.Laws.{runs}
use Rattle.net_present.specs.Laws.{IsHeld}
use Rattle.net_present.specs.Onward.{enabled_now}
use Rattle.net_present.specs.Present.{Present}
use Rattle.net_present.proofs.Laws.{present_tells}
use Rattle.fabric_events.specs.Choosing.{doable_now, is_handed, is_offered}
use Rattle.fabric_net.specs.NetView.{NetSeen}
use Rattle.fabric_net.specs.Standing.{StandsFor}
use Rattle.stream_rounds.specs.Steps.{IsStepped}

one-more : (w : State) (moves : List Move) (e : Event) → after_all w (moves ++ Happens e ∷ []) ≡ after (after_all w moves) e
unfolding after_all
one-more w moves e = runs.left w moves (Happens e ∷ [])

pub after-more : (w : State) (journal : List Event) (e : Event) → after_journal w (journal ++ e ∷ []) ≡ after (after_journal w journal) e
after-more w journal e = ap (after_all w) (map-append Happens journal (e ∷ [])) ∙ one-more w (moves_of journal) e

one-legal : (w : State) (e : Event) → IsTrue (enabled w e) → IsLegal w (Happens e ∷ [])
unfolding IsLegal
one-legal w e can = (can, tt)

pub legal-more : (w : State) (journal : List Event) (e : Event) → IsLegal w (moves_of journal) → IsTrue (enabled (after_journal w journal) e)
    → IsLegal w (moves_of (journal ++ e ∷ []))
legal-more w journal e legal can =
    subst (λ (moves : List Move). IsLegal w moves) (sym (map-append Happens journal (e ∷ [])))
    (runs.joined w (moves_of journal) (Happens e ∷ []) legal (one-legal (after_journal w journal) e can))

-- what can happen is enabled
both-first : (a b : Bool) → (a && b) ≡ true → a ≡ true
both-first true b both = refl
both-first false b both = both

pub doable-enabled : (p : Present) (e : Event) → doable_now p e ≡ true → enabled_now p e ≡ true
unfolding doable_now
doable-enabled p (event.Enter s) can = both-first (enabled_now p (event.Enter s)) (is_offered p s) can
doable-enabled p (event.Hop q) can = can
doable-enabled p (event.Seen s n) can = both-first (enabled_now p (event.Seen s n)) (is_handed p s n) can
doable-enabled p (event.Feed b i) can = can
doable-enabled p (event.Report s) can = can
doable-enabled p (event.Command s op) can = can
doable-enabled p (event.Lose q) can = can
doable-enabled p (event.Reply x) can = can
doable-enabled p (event.Ask x) can = can

pub step-enabled : (w : State) (e : Event) (old new : NetSeen) (before banks : List (Option Registers)) → StandsFor old.present w
    → IsStepped e old new before banks → IsTrue (enabled w e)
step-enabled w e old new before banks stands step = sym (present_tells old.present w e stands.now) ∙ doable-enabled old.present e step.can

pub step-held : (w : State) (e : Event) (old new : NetSeen) (before banks : List (Option Registers)) → StandsFor old.present w → w.banks ≡ before
    → IsStepped e old new before banks → IsHeld (record { present = old.present; banks = before }) w
step-held w e old new before banks stands slots step = record { now = stands.now; banks = sym slots }
