-- Streams that lead from block to block, one after another, pass no block twice: so what holds of a stream if it holds
-- of those before it, or of those behind it, holds of all streams.
use Rattle.std.proofs.Common.{◌≡◌, ℕ, zero, suc, ◌+◌, ◌<◌, ◌≤◌, true, false, List, [], ◌∷◌, length, Option, Some, None, IsSome, refl, sym, subst, arith, eqb, ne_eqb, eqb-true}
use Rattle.std.specs.List.{AllByRecursion, IsDistinct, list_any}
use Rattle.std.proofs.lemmas.Bool.{or_cases}
use Rattle.std.proofs.lemmas.List.Quantifiers.{position-Some}
use Rattle.std.proofs.lemmas.Map.Steps.{length-le_from_distinct_below}
use Rattle.std.proofs.Common.{◌⊎◌, inl, inr}
use Rattle.net_topology.specs.Links.{Avoids, NoneTwice}
use Rattle.net_machine.specs.declared.plan.BlockPlan.{BlockPlan}
use Rattle.net_machine.specs.declared.plan.RunPlan.{RunPlan}
use Rattle.net_machine.specs.CanBegin.{EachStream, NeverReturns, Reaches, here, along}
use Rattle.net_machine.specs.Plans.{consumer_of, is_among, no_block, plan_at, producer_of}

-- ---- numbers below n of which none comes twice

abbrev AreBelow : ℕ → List ℕ → Type 0
AreBelow n [] = Unit {0}
AreBelow n (x ∷ xs) = (x < n) × AreBelow n xs

avoids-all : (x : ℕ) (xs : List ℕ) → Avoids x xs → AllByRecursion (λ (y : ℕ). eqb x y ≡ false) xs
avoids-all x [] h = tt
avoids-all x (y ∷ ys) h = (ne_eqb x y h.0, avoids-all x ys h.1)

distinct : (xs : List ℕ) → NoneTwice xs → IsDistinct eqb xs
unfolding IsDistinct
distinct [] h = tt
distinct (x ∷ xs) h = (avoids-all x xs h.0, distinct xs h.1)

below-any : (n : ℕ) (xs : List ℕ) → AreBelow n xs → (q : ℕ) → list_any (eqb q) xs ≡ true → q < n
below-any n [] h q is = let z : false ≡ true = is in cc
below-any n (x ∷ xs) h q is = by_place (or_cases (eqb q x) (list_any (eqb q) xs) is) (below-any n xs h.1 q)
  where
    by_place : (eqb q x ≡ true) ⊎ (list_any (eqb q) xs ≡ true) → (list_any (eqb q) xs ≡ true → q < n) → q < n
    by_place (inl same) rest = subst (λ (k : ℕ). k < n) (sym (eqb-true q x same)) h.0
    by_place (inr there) rest = rest there

few : (n : ℕ) (xs : List ℕ) → NoneTwice xs → AreBelow n xs → length xs ≤ n
few n xs none below = length-le_from_distinct_below xs n (distinct xs none) (below-any n xs below)

-- ---- blocks of a plan

some-is : {A : Type 0} (o : Option A) → IsSome o → (x : A) × (o ≡ Some x)
some-is None h = let z : false ≡ true = h in cc
some-is (Some x) h = (x, refl)

pub producer-below : (plan : RunPlan) (s b : ℕ) → producer_of plan s ≡ Some b → b < length plan.blocks
producer-below plan s b is = (position-Some (λ (block : BlockPlan). is_among (plan_at plan s).from block.outs) plan.blocks b no_block is).0

pub consumer-below : (plan : RunPlan) (s b : ℕ) → consumer_of plan s ≡ Some b → b < length plan.blocks
consumer-below plan s b is = (position-Some (λ (block : BlockPlan). is_among (plan_at plan s).to block.ins) plan.blocks b no_block is).0

module _ (plan : RunPlan) (ports : EachStream plan (λ s. IsSome (producer_of plan s) × IsSome (consumer_of plan s))) (acyclic : EachStream plan (NeverReturns plan)) where
  -- each of these blocks is reached from block b
  abbrev AreAhead : ℕ → List ℕ → Type 0
  AreAhead b [] = Unit {0}
  AreAhead b (x ∷ xs) = Reaches plan b x × AreAhead b xs

  -- block b is reached from each of these
  abbrev AreBehind : ℕ → List ℕ → Type 0
  AreBehind b [] = Unit {0}
  AreBehind b (x ∷ xs) = Reaches plan x b × AreBehind b xs

  reaches-more : (s a b c : ℕ) → Reaches plan a b → producer_of plan s ≡ Some b → consumer_of plan s ≡ Some c → Reaches plan a c
  reaches-more s a b c here from to = along s c from to here
  reaches-more s a b c (along t d first second rest) from to = along t d first second (reaches-more s d b c rest from to)

  ahead-more : (s a c : ℕ) (xs : List ℕ) → producer_of plan s ≡ Some a → consumer_of plan s ≡ Some c → AreAhead c xs → AreAhead a xs
  ahead-more s a c [] from to h = tt
  ahead-more s a c (x ∷ xs) from to h = (along s c from to h.0, ahead-more s a c xs from to h.1)

  behind-more : (s a c : ℕ) (xs : List ℕ) → producer_of plan s ≡ Some a → consumer_of plan s ≡ Some c → AreBehind a xs → AreBehind c xs
  behind-more s a c [] from to h = tt
  behind-more s a c (x ∷ xs) from to h = (reaches-more s x a c h.0 from to, behind-more s a c xs from to h.1)

  ahead-avoids : (s a c : ℕ) (xs : List ℕ) → s < length plan.streams → producer_of plan s ≡ Some a → consumer_of plan s ≡ Some c → AreAhead c xs → Avoids a xs
  ahead-avoids s a c [] lt from to h = tt
  ahead-avoids s a c (x ∷ xs) lt from to h =
      ((λ same. acyclic s lt a c from to (subst (λ (k : ℕ). Reaches plan c k) (sym same) h.0)), ahead-avoids s a c xs lt from to h.1)

  behind-avoids : (s a c : ℕ) (xs : List ℕ) → s < length plan.streams → producer_of plan s ≡ Some a → consumer_of plan s ≡ Some c → AreBehind a xs → Avoids c xs
  behind-avoids s a c [] lt from to h = tt
  behind-avoids s a c (x ∷ xs) lt from to h =
      ((λ same. acyclic s lt a c from to (subst (λ (k : ℕ). Reaches plan k a) (sym same) h.0)), behind-avoids s a c xs lt from to h.1)

  -- what holds of a stream, through one block more, if it holds of those that end at its producer
  up-from : (P : ℕ → ℕ → Type 0) → ((k s b : ℕ) → s < length plan.streams → producer_of plan s ≡ Some b → ((t : ℕ) → t < length plan.streams → consumer_of plan t ≡ Some b → P k t) → P (suc k) s) →
      (k s c : ℕ) (path : List ℕ) → s < length plan.streams → consumer_of plan s ≡ Some c → AreAhead c path → NoneTwice path → AreBelow (length plan.blocks) path → k + length path ≡ length plan.blocks → P k s
  up-from P step zero s c path lt to ahead none below full =
      let b = some-is (producer_of plan s) (ports s lt).0 in
      let many = few (length plan.blocks) (b.0 ∷ path) (ahead-avoids s b.0 c path lt b.1 to ahead, none) (producer-below plan s b.0 b.1, below) in
      absurd (omega (arith, many, full))
  up-from P step (suc k) s c path lt to ahead none below full =
      let b = some-is (producer_of plan s) (ports s lt).0 in
      step k s b.0 lt b.1 (λ t there at. up-from P step k t b.0 (b.0 ∷ path) there at (here, ahead-more s b.0 c path b.1 to ahead) (ahead-avoids s b.0 c path lt b.1 to ahead, none) (producer-below plan s b.0 b.1, below) (omega (arith, full)))

  pub up : (P : ℕ → ℕ → Type 0) → ((k s b : ℕ) → s < length plan.streams → producer_of plan s ≡ Some b → ((t : ℕ) → t < length plan.streams → consumer_of plan t ≡ Some b → P k t) → P (suc k) s) →
      (s : ℕ) → s < length plan.streams → P (length plan.blocks) s
  up P step s lt = let c = some-is (consumer_of plan s) (ports s lt).1 in up-from P step (length plan.blocks) s c.0 [] lt c.1 tt tt tt (omega arith)

  -- what holds of a stream if it holds of those that begin at its consumer
  down-from : (P : ℕ → Type 0) → ((s b : ℕ) → s < length plan.streams → consumer_of plan s ≡ Some b → ((t : ℕ) → t < length plan.streams → producer_of plan t ≡ Some b → P t) → P s) →
      (k s a : ℕ) (path : List ℕ) → s < length plan.streams → producer_of plan s ≡ Some a → AreBehind a path → NoneTwice path → AreBelow (length plan.blocks) path → k + length path ≡ length plan.blocks → P s
  down-from P step zero s a path lt from behind none below full =
      let b = some-is (consumer_of plan s) (ports s lt).1 in
      let many = few (length plan.blocks) (b.0 ∷ path) (behind-avoids s a b.0 path lt from b.1 behind, none) (consumer-below plan s b.0 b.1, below) in
      absurd (omega (arith, many, full))
  down-from P step (suc k) s a path lt from behind none below full =
      let b = some-is (consumer_of plan s) (ports s lt).1 in
      step s b.0 lt b.1 (λ t there at. down-from P step k t b.0 (b.0 ∷ path) there at (here, behind-more s a b.0 path from b.1 behind) (behind-avoids s a b.0 path lt from b.1 behind, none) (consumer-below plan s b.0 b.1, below) (omega (arith, full)))

  pub down : (P : ℕ → Type 0) → ((s b : ℕ) → s < length plan.streams → consumer_of plan s ≡ Some b → ((t : ℕ) → t < length plan.streams → producer_of plan t ≡ Some b → P t) → P s) →
      (s : ℕ) → s < length plan.streams → P s
  down P step s lt = let a = some-is (producer_of plan s) (ports s lt).0 in down-from P step (length plan.blocks) s a.0 [] lt a.1 tt tt tt (omega arith)
