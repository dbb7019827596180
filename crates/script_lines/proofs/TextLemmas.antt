-- Texts put one behind the other, and the texts of a list's places.
use Rattle.std.proofs.Common.{◌≡◌, ◌+◌, ◌++◌, ℕ, List, [], refl, ap, ◌∙◌, add-one, append_assoc, append-nil}
use Rattle.script_lines.specs.Lines.{each}

pub each_none : (f : ℕ → List ℕ) → each f 0 ≡ []
unfolding each
each_none f = refl

pub each_more : (f : ℕ → List ℕ) (k : ℕ) → each f (k + 1) ≡ each f k ++ f k
unfolding each
each_more f k = rw (add-one) refl

pub ruleset text_lemmas = (each_none, each_more, append_assoc, append-nil)

-- ---- texts that were put one behind the other

pub two_texts : (old mid new a b : List ℕ) → mid ≡ old ++ a → new ≡ mid ++ b → new ≡ old ++ (a ++ b)
two_texts old mid new a b p q = q ∙ ap (λ (l : List ℕ). l ++ b) p ∙ append_assoc old a b

pub three_texts : (old one two new a b c : List ℕ) → one ≡ old ++ a → two ≡ one ++ b → new ≡ two ++ c → new ≡ old ++ (a ++ (b ++ c))
three_texts old one two new a b c p q r = two_texts old one new a (b ++ c) p (two_texts one two new b c q r)
