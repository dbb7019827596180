-- What keep and repeat give grows sample by sample.
use Rattle.std.proofs.Common.{◌≡◌, ◌+◌, ℕ, ◌++◌, [], ◌∷◌, sym, ◌∙◌, ap, map-id, append-nil, List, ◌<◌, refl, map, take, drop, cond, nat_eq, ◌*◌, ◌/◌, ◌%◌, arith, ◌≤◌, ◌-◌}
use Rattle.std.specs.List.{flat_map, range_with_len}
use Rattle.std.proofs.lemmas.List.FromFn.{map-range_with_len_more}
use Rattle.std.proofs.lemmas.List.Concat.{flat_map-append}
use Rattle.block_library.specs.Samples.{sample, samples_from}
use Rattle.block_library.specs.Blocks.{sample_at, kept_samples, repeated_samples}
use Rattle.std.specs.Prelude.{slice_range}
use Rattle.std.proofs.lemmas.Nat.{div_below, div-mul-add}
use Rattle.std.proofs.Math.Nat.{mul-le-mul_left, mul_comm}

-- one number more
pub range_with_len-more : (first count next : ℕ) → first + count ≡ next →
    range_with_len first (count + 1) ≡ range_with_len first count ++ next ∷ []
range_with_len-more first count next e =
    sym (map-id (range_with_len first (count + 1)))
    ∙ map-range_with_len_more (λ x. x) first count next e
    ∙ ap (λ xs. xs ++ next ∷ []) (map-id (range_with_len first count))

-- the pieces of one number more
pub flat_map_more : {A : Type 0} (piece : ℕ → List A) (first count next : ℕ) → first + count ≡ next →
    flat_map piece (range_with_len first (count + 1)) ≡ flat_map piece (range_with_len first count) ++ piece next
flat_map_more piece first count next e =
    ap (flat_map piece) (range_with_len-more first count next e)
    ∙ flat_map-append piece (range_with_len first count) (next ∷ [])
    ∙ ap (λ xs. flat_map piece (range_with_len first count) ++ xs) (append-nil (piece next))

-- the same up to a number, as a loop counts
pub flat_map-up_to : {A : Type 0} (piece : ℕ → List A) (first next : ℕ) → first ≤ next →
    flat_map piece (range_with_len first (next + 1 - first)) ≡ flat_map piece (range_with_len first (next - first)) ++ piece next
flat_map-up_to piece first next le =
    let e : next + 1 - first ≡ next - first + 1 = omega arith in
    rw e (flat_map_more piece first (next - first) next (omega arith))

-- one sample more
pub samples_up_to-more : (item first next : ℕ) → first ≤ next →
    samples_from item first (next + 1 - first) ≡ samples_from item first (next - first) ++ sample item next
samples_up_to-more item first next le = flat_map-up_to (sample item) first next le

-- keep, one sample more: it is kept or left out
pub kept-step : (n item first : ℕ) (payload : List ℕ) (i : ℕ) (before after : List ℕ) →
    before ≡ kept_samples n item first payload i →
    after ≡ before ++ cond (nat_eq ((first + i) % n) 0) (sample_at item payload i) [] →
    after ≡ kept_samples n item first payload (i + 1)
kept-step n item first payload i before after b a =
    rw (a, b)
    (sym (flat_map_more (λ j. cond (nat_eq ((first + j) % n) 0) (sample_at item payload j) []) 0 i i (omega arith)))

-- repeat, one sample more
pub repeated-step : (n item : ℕ) (payload : List ℕ) (first i index : ℕ) (before after : List ℕ) → (first + i) / n ≡ index →
    before ≡ repeated_samples n item payload first i → after ≡ before ++ sample_at item payload index →
    after ≡ repeated_samples n item payload first (i + 1)
repeated-step n item payload first i index before after q b a =
    rw (a, b, ← q) (sym (flat_map_more (λ j. sample_at item payload (j / n)) first i (first + i) refl))

-- one packet more
pub map-step : {A : Type 0} (f : ℕ → A) (k : ℕ) (before after : List A) (next : A) → before ≡ map f (range_with_len 0 k) →
    next ≡ f k → after ≡ before ++ next ∷ [] → after ≡ map f (range_with_len 0 (k + 1))
map-step f k before after next b n a = rw (a, b, n) (sym (map-range_with_len_more f 0 k k (omega arith)))

-- a sample as a part of a payload
pub sample_at_range : (item : ℕ) (payload : List ℕ) (i start : ℕ) → start ≡ item * i →
    slice_range payload start (start + item) ≡ sample_at item payload i
sample_at_range item payload i start e =
    let width : start + item - start ≡ item = omega arith in
    rw width (ap (λ s. take item (drop s payload)) e)

pub ruleset sample_lemmas = (samples_up_to-more)

-- the sample that a number stands for, each n times
pub index-is : (index n turn number : ℕ) → index * n + turn ≡ number → turn < n → number / n ≡ index
index-is index n turn number e h = ap (λ m. m / n) (sym e) ∙ div-mul-add index n turn h

pub index-below : (index n turn number i count k : ℕ) → index * n + turn ≡ number → turn < n → number ≡ k * count + i →
    i < count → k < n → index < count
index-below index n turn number i count k e h at below turns =
    let more : k + 1 ≤ n = omega arith in
    let q : number / n < count =
    div_below number n count (omega arith) (omega (arith, mul-le-mul_left count more, mul_comm count (k + 1))) in
    rw (index-is index n turn number e h) at q
