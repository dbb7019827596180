-- What several writes or reads move together.
use Rattle.std.proofs.Common.{ℕ, List, [], ◌++◌, take, drop, sym, ◌∙◌, ap, append_assoc, take-append-drop, append-nil, length, ◌-◌}
use Rattle.std.proofs.lemmas.List.{take_rest}
use Rattle.std.specs.Prelude.{Option, None, Some}
use Rattle.std.specs.Io.KnownBytes.{Appends, Consumes, Keeps}
use Rattle.std.proofs.lemmas.Grind.{common_steps}
use Rattle.rf_outside.specs.Bytes.{Adds, AddsUpTo}

pub Adds-none : (known : Option (List ℕ)) → Adds known known []
Adds-none None = tt
Adds-none (Some xs) = simp common_steps

pub Adds-then : (a b c : Option (List ℕ)) (xs ys : List ℕ) → Adds a b xs → Adds b c ys → Adds a c (xs ++ ys)
Adds-then None None None xs ys p q = tt
Adds-then None None (Some _) xs ys p q = q
Adds-then None (Some _) c xs ys p q = absurd p
Adds-then (Some ws) None None xs ys p q = tt
Adds-then (Some ws) None (Some _) xs ys p q = absurd q
Adds-then (Some ws) (Some bs) None xs ys p q = tt
Adds-then (Some ws) (Some bs) (Some cs) xs ys p q = q ∙ ap (λ zs. zs ++ ys) p ∙ append_assoc ws xs ys

-- one more piece of the rest was taken
pub AddsUpTo-take : (a b c : Option (List ℕ)) (bs rest : List ℕ) (n : ℕ) → AddsUpTo a b bs rest
    → Adds b c (take n rest) → AddsUpTo a c bs (take (length rest - n) (drop n rest))
AddsUpTo-take a b c bs rest n so_far moved = rw take_rest (record {
  front = so_far.front ++ take n rest;
  splits = so_far.splits ∙ ap (λ r. so_far.front ++ r) (sym (take-append-drop n rest)) ∙ sym (append_assoc so_far.front (take n rest) (drop n rest));
  added = Adds-then a b c so_far.front (take n rest) so_far.added moved;
})

-- what was read stays read
pub consumes_keeps : (a b c : Option (List ℕ)) (xs : List ℕ) → Consumes a b xs → Keeps b c → Consumes a c xs
consumes_keeps None b c xs p q = tt
consumes_keeps (Some ws) None c xs p q = absurd p
consumes_keeps (Some ws) (Some ys) None xs p q = absurd q
consumes_keeps (Some ws) (Some ys) (Some zs) xs p q = rw q p

-- nothing more is as before
pub appends_none : (a b : Option (List ℕ)) (bs : List ℕ) → Appends a b (take 0 bs) → Keeps a b
appends_none None b bs p = tt
appends_none (Some xs) None bs p = absurd p
appends_none (Some xs) (Some ys) bs p = p ∙ append-nil xs
