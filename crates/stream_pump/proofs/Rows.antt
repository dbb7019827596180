-- Facts on rows of numbers and what is made of them.
use Rattle.std.proofs.Common.{◌≡◌, ℕ, zero, suc, ◌+◌, ◌<◌, ◌≤◌, true, false, Bool, List, [], ◌∷◌, ◌++◌, map, refl, sym, ap, arith, ◌∙◌, cond}
use Rattle.std.specs.Prelude.{filter}
use Rattle.std.specs.List.{range_with_len}
use Rattle.std.proofs.lemmas.List.{append-nil, map-append, map-id}
use Rattle.std.proofs.lemmas.List.FromFn.{filter_of_map_range_with_len_more, map-range_with_len_more}
use Rattle.net_machine.specs.declared.plan.RunPlan.{RunPlan}
use Rattle.net_machine.specs.Plans.{block_at}
use Rattle.block_library.specs.declared.kind.BlockKind.{BlockKind}

-- what is made of each number is the same where each is
pub same-map : {B : Type 0} (f g : ℕ → B) → ((k : ℕ) → f k ≡ g k) → (ns : List ℕ) → map f ns ≡ map g ns
same-map f g same [] = refl
same-map {B} f g same (n ∷ ns) = ap (λ (x : B). x ∷ map f ns) (same n) ∙ ap (λ (xs : List B). g n ∷ xs) (same-map f g same ns)

pub same-row : {B : Type 0} (f g : ℕ → B) (a n : ℕ) → ((k : ℕ) → a ≤ k → k < a + n → f k ≡ g k) → map f (range_with_len a n) ≡ map g (range_with_len a n)
same-row f g a zero same = refl
same-row {B} f g a (suc n) same =
    ap (λ (x : B). x ∷ map f (range_with_len (a + 1) n)) (same a (omega arith) (omega arith))
    ∙ ap (λ (xs : List B). g a ∷ xs) (same-row f g (a + 1) n (λ k low high. same k (omega arith) (omega arith)))

-- or where each that passes a test is
same-if : {B : Type 0} (f g : ℕ → B) (b : Bool) (n : ℕ) (ns : List ℕ) → (b ≡ true → f n ≡ g n) → map f ns ≡ map g ns
    → map f (cond b (n ∷ ns) ns) ≡ map g (cond b (n ∷ ns) ns)
same-if {B} f g true n ns here rest = ap (λ (x : B). x ∷ map f ns) (here refl) ∙ ap (λ (xs : List B). g n ∷ xs) rest
same-if f g false n ns here rest = rest

pub same-kept : {B : Type 0} (f g : ℕ → B) (test : ℕ → Bool) → ((k : ℕ) → test k ≡ true → f k ≡ g k) → (ns : List ℕ)
    → map f (filter test ns) ≡ map g (filter test ns)
same-kept f g test same [] = refl
same-kept f g test same (n ∷ ns) = same-if f g (test n) n (filter test ns) (same n) (same-kept f g test same ns)

pub twice-map : {B C : Type 0} (f : ℕ → B) (g : B → C) (ns : List ℕ) → map g (map f ns) ≡ map (λ k. g (f k)) ns
twice-map f g [] = refl
twice-map {B} {C} f g (n ∷ ns) = ap (λ (xs : List C). g (f n) ∷ xs) (twice-map f g ns)

-- one more
pub more-map : {B : Type 0} (f : ℕ → B) (ns : List ℕ) (n : ℕ) (x : B) (old new : List B) → old ≡ map f ns → x ≡ f n → new ≡ old ++ x ∷ []
    → new ≡ map f (ns ++ n ∷ [])
more-map {B} f ns n x old new row is more =
    more ∙ ap (λ (xs : List B). xs ++ x ∷ []) row ∙ ap (λ (y : B). map f ns ++ y ∷ []) is ∙ sym (map-append f ns (n ∷ []))

pub more-row : {B : Type 0} (f : ℕ → B) (n : ℕ) (x : B) (old new : List B) → old ≡ map f (range_with_len 0 n) → x ≡ f n → new ≡ old ++ x ∷ []
    → new ≡ map f (range_with_len 0 (n + 1))
more-row {B} f n x old new row is more =
    more ∙ ap (λ (xs : List B). xs ++ x ∷ []) row ∙ ap (λ (y : B). map f (range_with_len 0 n) ++ y ∷ []) is
    ∙ sym (map-range_with_len_more f 0 n n (omega arith))

-- the first n blocks of a plan whose kind passes a test
abbrev pub blocks_below : (BlockKind → Bool) → RunPlan → ℕ → List ℕ
blocks_below test plan n = filter (λ b. test (block_at plan b).kind) (range_with_len 0 n)

below-more : (test : ℕ → Bool) (n : ℕ) → filter test (range_with_len 0 (n + 1)) ≡ filter test (range_with_len 0 n) ++ cond (test n) (n ∷ []) []
below-more test n =
    ap (λ (ns : List ℕ). filter test ns) (sym (map-id (range_with_len 0 (n + 1))))
    ∙ filter_of_map_range_with_len_more test (λ k. k) 0 n n (omega arith)
    ∙ ap (λ (ns : List ℕ). filter test ns ++ cond (test n) (n ∷ []) []) (map-id (range_with_len 0 n))

pub below-with : (test : BlockKind → Bool) (plan : RunPlan) (n : ℕ) → test (block_at plan n).kind ≡ true
    → blocks_below test plan (n + 1) ≡ blocks_below test plan n ++ n ∷ []
below-with test plan n is =
    below-more (λ b. test (block_at plan b).kind) n
    ∙ ap (λ (c : Bool). blocks_below test plan n ++ cond c (n ∷ []) []) is

pub below-without : (test : BlockKind → Bool) (plan : RunPlan) (n : ℕ) → test (block_at plan n).kind ≡ false
    → blocks_below test plan (n + 1) ≡ blocks_below test plan n
below-without test plan n is =
    below-more (λ b. test (block_at plan b).kind) n
    ∙ ap (λ (c : Bool). blocks_below test plan n ++ cond c (n ∷ []) []) is
    ∙ append-nil (blocks_below test plan n)

-- what is made of the first blocks, with one more, or with none of it
pub made-with : {B : Type 0} (f : ℕ → B) (test : BlockKind → Bool) (plan : RunPlan) (n : ℕ) (x : B) (old new : List B)
    → old ≡ map f (blocks_below test plan n) → test (block_at plan n).kind ≡ true → x ≡ f n → new ≡ old ++ x ∷ []
    → new ≡ map f (blocks_below test plan (n + 1))
made-with f test plan n x old new made is same more =
    more-map f (blocks_below test plan n) n x old new made same more ∙ ap (map f) (sym (below-with test plan n is))

pub made-without : {B : Type 0} (f : ℕ → B) (test : BlockKind → Bool) (plan : RunPlan) (n : ℕ) (old : List B)
    → old ≡ map f (blocks_below test plan n) → test (block_at plan n).kind ≡ false → old ≡ map f (blocks_below test plan (n + 1))
made-without f test plan n old made not = made ∙ ap (map f) (sym (below-without test plan n not))
