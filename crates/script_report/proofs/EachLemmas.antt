-- The texts of a list's places.
use Rattle.std.proofs.Common.{◌≡◌, ◌+◌, ◌++◌, ℕ, List, [], refl, ap, ◌∙◌, zero, suc, add-zero, add-suc, add-one, append_assoc, append-nil}
use Rattle.script_lines.specs.Lines.{each}

pub each_none : (f : ℕ → List ℕ) → each f 0 ≡ []
unfolding each
each_none f = refl

pub each_more : (f : ℕ → List ℕ) (k : ℕ) → each f (k + 1) ≡ each f k ++ f k
unfolding each
each_more f k = rw (add-one) refl

-- the first places, and then the others
pub each_from : (f : ℕ → List ℕ) (k d : ℕ) → each f (k + d) ≡ each f k ++ each (λ i. f (k + i)) d
unfolding each
each_from f k zero = rw (add-zero, append-nil) refl
each_from f k (suc d) = rw (add-suc) (ap (λ (l : List ℕ). l ++ f (k + d)) (each_from f k d) ∙ append_assoc (each f k) (each (λ i. f (k + i)) d) (f (k + d)))

pub ruleset text_lemmas = (each_none, each_more, append_assoc, append-nil)
