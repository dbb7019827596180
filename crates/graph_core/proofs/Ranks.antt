-- In a graph without cycles each block has a number that falls along the edges.
use Rattle.std.proofs.Common.{◌≡◌, ℕ, zero, suc, ◌+◌, ◌<◌, ◌≤◌, ◌⊎◌, inl, inr, ⊎_elim, refl, sym, ap, subst, List, [], ◌∷◌, true, false, Bool, arith, length, get_or}
use Rattle.std.proofs.lemmas.Bool.{cases_eq}
use Rattle.std.proofs.lemmas.List.Elements.{All-contains}
use Rattle.graph_core.specs.declared.place.Edge.{Edge}
use Rattle.graph_core.specs.Edges.{Reaches}
use Rattle.graph_core.specs.Edges.Reaches.{here, along}
use Rattle.graph_core.specs.Reach.{HasEndsBelow}
use Rattle.graph_core.specs.Settled.{ChainsAreShort}

joined : (edges : List Edge) {a b c : ℕ} → Reaches edges a b → Reaches edges b c → Reaches edges a c
joined edges here more = more
joined edges (along edge has at rest) more = along edge has at (joined edges rest more)

wider : (first : Edge) (edges : List Edge) {a b : ℕ} → Reaches edges a b → Reaches (first ∷ edges) a b
wider first edges here = here
wider first edges (along edge has at rest) =
    let lt = has.1 in along edge (suc has.0, omega arith, has.2) at (wider first edges rest)

-- a way uses the first edge, and is without it before and behind, or not at all
split : (first : Edge) (edges : List Edge) {a b : ℕ} → Reaches (first ∷ edges) a b →
    Reaches edges a b ⊎ (Reaches edges a first.from.block × Reaches edges first.to.block b)
split first edges here = inl here
split first edges {a} {b} (along edge has at rest) = by has.0 has.1 has.2 (split first edges rest)
  where
    by : (k : ℕ) → k < length (first ∷ edges) → get_or (first ∷ edges) k edge ≡ edge →
        Reaches edges edge.to.block b ⊎ (Reaches edges edge.to.block first.from.block × Reaches edges first.to.block b) →
        Reaches edges a b ⊎ (Reaches edges a first.from.block × Reaches edges first.to.block b)
    by zero lt same (inl way) = inr (
      subst (λ x. Reaches edges a x) (sym (ap (λ (e : Edge). e.from.block) same)) (subst (λ x. Reaches edges x edge.from.block) at here),
      subst (λ x. Reaches edges x b) (sym (ap (λ (e : Edge). e.to.block) same)) way,
    )
    by zero lt same (inr ways) = inr (subst (λ x. Reaches edges a x) (sym (ap (λ (e : Edge). e.from.block) same)) (subst (λ x. Reaches edges x edge.from.block) at here), ways.1)
    by (suc k) lt same (inl way) = inl (along edge (k, omega arith, same) at way)
    by (suc k) lt same (inr ways) = inr (along edge (k, omega arith, same) at ways.0, ways.1)

none_lead : {a b : ℕ} → Reaches [] a b → a ≡ b
none_lead here = refl
none_lead (along edge has at rest) = let lt = has.1 in absurd (omega arith)

-- whether edges lead from one block to another
decide : (edges : List Edge) (a b : ℕ) → Reaches edges a b ⊎ (Reaches edges a b → ⊥)
decide [] a b = ⊎_elim (λ same. inl (subst (λ x. Reaches [] a x) same here)) (λ apart. inr (λ way. apart (none_lead way))) (cases_eq a b)
decide (first ∷ edges) a b = by (decide edges a b) (decide edges a first.from.block) (decide edges first.to.block b)
  where
    by : Reaches edges a b ⊎ (Reaches edges a b → ⊥) → Reaches edges a first.from.block ⊎ (Reaches edges a first.from.block → ⊥) →
        Reaches edges first.to.block b ⊎ (Reaches edges first.to.block b → ⊥) → Reaches (first ∷ edges) a b ⊎ (Reaches (first ∷ edges) a b → ⊥)
    by (inl way) q r = inl (wider first edges way)
    by (inr p) (inl one) (inl two) = inl (joined (first ∷ edges) (wider first edges one) (along first (0, omega arith, refl) refl (wider first edges two)))
    by (inr p) (inr q) r = inr (λ way. ⊎_elim p (λ ways. q ways.0) (split first edges way))
    by (inr p) (inl one) (inr r) = inr (λ way. ⊎_elim p (λ ways. r ways.1) (split first edges way))

test : {P : Type 0} → P ⊎ (P → ⊥) → Bool
test (inl proof) = true
test (inr refusal) = false

test-true : {P : Type 0} (d : P ⊎ (P → ⊥)) → P → test d ≡ true
unfolding test
test-true (inl proof) p = refl
test-true (inr refusal) p = absurd (refusal p)

test-holds : {P : Type 0} (d : P ⊎ (P → ⊥)) → test d ≡ true → P
unfolding test
test-holds (inl proof) e = proof
test-holds (inr refusal) e = let z : false ≡ true = e in absurd cc

leads : List Edge → ℕ → ℕ → Bool
leads edges a b = test (decide edges a b)

one_if : Bool → ℕ
one_if true = 1
one_if false = 0

-- how many of the blocks below the count edges lead to
marked : (ℕ → Bool) → ℕ → ℕ
marked p zero = 0
marked p (suc n) = one_if (p n) + marked p n

one_if-most : (b : Bool) → one_if b ≤ 1
unfolding one_if
one_if-most true = omega arith
one_if-most false = omega arith

marked-most : (p : ℕ → Bool) (n : ℕ) → marked p n ≤ n
unfolding marked
marked-most p zero = omega arith
marked-most p (suc n) = omega (arith, one_if-most (p n), marked-most p n)

one_if-le : (a b : Bool) → (a ≡ true → b ≡ true) → one_if a ≤ one_if b
unfolding one_if
one_if-le true true h = omega arith
one_if-le true false h = let z : false ≡ true = h refl in absurd cc
one_if-le false b h = omega arith

marked-le : (p q : ℕ → Bool) (n : ℕ) → ((k : ℕ) → p k ≡ true → q k ≡ true) → marked p n ≤ marked q n
unfolding marked
marked-le p q zero h = omega arith
marked-le p q (suc n) h = omega (arith, one_if-le (p n) (q n) (h n), marked-le p q n h)

one_if-lt : (a b : Bool) → (a ≡ true → ⊥) → b ≡ true → one_if a < one_if b
unfolding one_if
one_if-lt true b h e = absurd (h refl)
one_if-lt false true h e = omega arith
one_if-lt false false h e = let z : false ≡ true = e in absurd cc

marked-lt : (p q : ℕ → Bool) (n j : ℕ) → j < n → ((k : ℕ) → p k ≡ true → q k ≡ true) → (p j ≡ true → ⊥) → q j ≡ true →
    marked p n < marked q n
unfolding marked
marked-lt p q zero j lt h off on = absurd (omega arith)
marked-lt p q (suc n) j lt h off on = ⊎_elim
    (λ same. omega (arith, one_if-lt (p n) (q n) (subst (λ x. p x ≡ true → ⊥) same off) (subst (λ x. q x ≡ true) same on), marked-le p q n h))
    (λ apart. omega (arith, one_if-le (p n) (q n) (h n), marked-lt p q n j (omega arith) h off on))
    (cases_eq j n)

rank : List Edge → ℕ → ℕ → ℕ
rank edges count block = marked (leads edges block) count

pub chains_are_short : ChainsAreShort
unfolding rank leads
chains_are_short edges count ends acyclic = (
  rank edges count,
  record {
    falls = λ edge has.
        let a : ℕ = edge.from.block in
        let b : ℕ = edge.to.block in
        let below : a < count = (All-contains (HasEndsBelow count) edges edge ends has).0 in
        marked-lt (leads edges b) (leads edges a) count a below
        (λ k e. test-true (decide edges a k) (along edge has refl (test-holds (decide edges b k) e)))
        (λ e. acyclic edge has (test-holds (decide edges b a) e))
        (test-true (decide edges a a) here);
    most = λ block. marked-most (leads edges block) count;
  },
)
