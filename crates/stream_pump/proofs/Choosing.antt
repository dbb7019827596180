-- What a seed chooses is no taking.
use Rattle.std.proofs.Common.{◌≡◌, ℕ, zero, suc, Bool, true, false, List, [], ◌∷◌, length, subst}
use Rattle.std.specs.Prelude.{◌==◌, Some, filter, if◌then◌else◌, slice_get}
use Rattle.net_machine.specs.declared.event.Event.{Event}
use Rattle.net_machine.specs.Choice.{candidates, chosen, enabled_list}
use Rattle.net_machine.specs.Conditions.{enabled}
use Rattle.net_machine.specs.Front.{front}
use Rattle.net_machine.specs.Laws.{IsTaking}
use Rattle.net_machine.specs.Seeds.{next_seed, place_in}
use Rattle.net_machine.specs.State.{State}
use Rattle.fabric_net.proofs.Laws.{NoTakings, no-takings}

none-if : (b : Bool) (x : Event) (xs : List Event) → (IsTaking x → ⊥) → NoTakings xs → NoTakings (if b then x ∷ xs else xs)
none-if true x xs never none = (never, none)
none-if false x xs never none = none

none-kept : (test : Event → Bool) (events : List Event) → NoTakings events → NoTakings (filter test events)
none-kept test [] none = tt
none-kept test (e ∷ es) none = none-if (test e) e (filter test es) none.0 (none-kept test es none.1)

at-place : (events : List Event) (k : ℕ) (e : Event) → NoTakings events → slice_get events k ≡ Some e → IsTaking e → ⊥
at-place [] k e none is = absurd cc
at-place (x ∷ xs) zero e none is = let same : x ≡ e = cc in subst (λ (y : Event). IsTaking y → ⊥) same none.0
at-place (x ∷ xs) (suc k) e none is = at-place xs k e none.1 is

by-seed : (b : Bool) (events : List Event) (k : ℕ) (e : Event) → NoTakings events
    → (if b then slice_get events 0 else slice_get events k) ≡ Some e → IsTaking e → ⊥
by-seed true events k e none is = at-place events 0 e none is
by-seed false events k e none is = at-place events k e none is

pub chosen-takes_nothing : (seed : ℕ) (w : State) (e : Event) → chosen seed w ≡ Some e → IsTaking e → ⊥
unfolding enabled_list
chosen-takes_nothing seed w e is =
    by-seed (seed == 0) (enabled_list w) (place_in (length (enabled_list w)) (next_seed seed)) e (none-kept (enabled w) (candidates (front w)) (no-takings (front w))) is
