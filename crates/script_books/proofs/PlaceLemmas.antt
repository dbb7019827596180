-- The last of a list's first places at which a test holds.
use Rattle.std.proofs.Common.{◌≡◌, ◌+◌, ℕ, List, refl, add-one}
use Rattle.std.specs.Prelude.{Bool, if◌then◌else◌, Option, None, Some, slice_get}
use Rattle.script_books.specs.Made.{is_some_of, last_place}

pub last_place_none : {X : Type 0} (p : X → Bool) (xs : List X) → last_place p xs 0 ≡ None
unfolding last_place
last_place_none p xs = refl

pub last_place_more : {X : Type 0} (p : X → Bool) (xs : List X) (k : ℕ) →
    last_place p xs (k + 1) ≡ (if is_some_of p (slice_get xs k) then Some k else last_place p xs k)
unfolding last_place
last_place_more p xs k = rw (add-one) refl

pub ruleset place_lemmas = (last_place_none, last_place_more)
