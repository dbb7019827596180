-- Keep goes from one kept sample to the next.
use Rattle.std.proofs.Common.{◌≡◌, ◌+◌, ◌-◌, ◌*◌, ◌%◌, ◌<◌, ◌≤◌, ℕ, List, [], ◌++◌, true, false, cond, nat_eq, sym, ◌∙◌, ap, arith, append-nil, ne_eqb, zero, suc, add-zero}
use Rattle.std.proofs.lemmas.Nat.{mod_below, mod-mul-add}
use Rattle.block_library.specs.Blocks.{sample_at, kept_samples}
use Rattle.block_library.proofs.BlockLemmas.{mod_first}
use Rattle.block_library.proofs.SampleLemmas.{kept-step}

-- a number below n is its own rest
small-mod : (n r : ℕ) → r < n → r % n ≡ r
small-mod n r h = let e : 0 * n + r ≡ r = omega arith in ap (λ m. m % n) (sym e) ∙ mod-mul-add 0 n r h

whole-mod : (n : ℕ) → 0 < n → n % n ≡ 0
whole-mod n h = let e : 1 * n + 0 ≡ n = omega arith in ap (λ m. m % n) (sym e) ∙ mod-mul-add 1 n 0 h

-- n places on, the rest is the same
pub turn-more : (n first i : ℕ) → 0 < n → (first + i) % n ≡ 0 → (first + (i + n)) % n ≡ 0
turn-more n first i low e =
    let same : first + i + n ≡ first + (i + n) = omega arith in
    ap (λ m. m % n) (sym same)
    ∙ sym (mod_first (first + i) n n)
    ∙ ap (λ m. (m + n) % n) e
    ∙ (let z : 0 + n ≡ n = omega arith in ap (λ m. m % n) z)
    ∙ whole-mod n low

-- the first number that n divides stands this far on
pub turn-first : (n first : ℕ) → 0 < n → (first + (n - first % n) % n) % n ≡ 0
turn-first n first low = sym (mod_first first n ((n - first % n) % n)) ∙ by (first % n) (mod_below first n low)
  where
    by : (r : ℕ) → r < n → (r + (n - r) % n) % n ≡ 0
    by zero h =
        let z : n - 0 ≡ n = omega arith in
        rw (z, whole-mod n low) (small-mod n 0 low)
    by (suc r) h =
        let less : n - suc r < n = omega arith in
        let all : suc r + (n - suc r) ≡ n = omega arith in
        rw (small-mod n (n - suc r) less, all) (whole-mod n low)

-- samples that aren't kept add nothing
kept-over : (n item first : ℕ) (payload : List ℕ) (i d : ℕ) → ((k : ℕ) → k < d → (first + (i + k)) % n ≡ 0 → ⊥) →
    kept_samples n item first payload (i + d) ≡ kept_samples n item first payload i
kept-over n item first payload i zero none = ap (kept_samples n item first payload) (add-zero i)
kept-over n item first payload i (suc d) none =
    let e : i + suc d ≡ i + d + 1 = omega arith in
    let no : nat_eq ((first + (i + d)) % n) 0 ≡ false = ne_eqb _ _ (none d (omega arith)) in
    let before = kept-over n item first payload i d (λ k h. none k (omega arith)) in
    let same : kept_samples n item first payload i
    ≡ kept_samples n item first payload i ++ cond (nat_eq ((first + (i + d)) % n) 0) (sample_at item payload (i + d)) [] =
    rw no (sym (append-nil (kept_samples n item first payload i))) in
    ap (kept_samples n item first payload) e
    ∙ sym (kept-step n item first payload (i + d) (kept_samples n item first payload i) (kept_samples n item first payload i) (sym before) same)

-- between two numbers that n divides there is none
apart : (n number d : ℕ) → number % n ≡ 0 → 0 < d → d < n → (number + d) % n ≡ 0 → ⊥
apart n number d e low high z =
    let plain : 0 + d ≡ d = omega arith in
    let small : (0 + d) % n ≡ d = ap (λ m. m % n) plain ∙ small-mod n d high in
    let same : (number + d) % n ≡ (0 + d) % n = sym (mod_first number n d) ∙ ap (λ m. (m + d) % n) e in
    let no : d ≡ 0 = sym small ∙ sym same ∙ z in
    omega arith

-- up to the next kept sample, one is kept
pub kept-jump : (n item first : ℕ) (payload : List ℕ) (i k : ℕ) (before after : List ℕ) → (first + i) % n ≡ 0 → i < k → k ≤ i + n →
    before ≡ kept_samples n item first payload i → after ≡ before ++ sample_at item payload i →
    after ≡ kept_samples n item first payload k
kept-jump n item first payload i k before after turn low high b a =
    let yes : nat_eq ((first + i) % n) 0 ≡ true = ap (λ m. nat_eq m 0) turn in
    let one : after ≡ kept_samples n item first payload (i + 1) =
    kept-step n item first payload i before after b (rw yes a) in
    let far : i + 1 + (k - (i + 1)) ≡ k = omega arith in
    one
    ∙ sym (kept-over n item first payload (i + 1) (k - (i + 1)) (λ j h z.
    let e : first + (i + 1 + j) ≡ first + i + (j + 1) = omega arith in
    apart n (first + i) (j + 1) turn (omega arith) (omega arith) (rw e at z)))
    ∙ ap (kept_samples n item first payload) far

-- up to the first kept sample, none is
pub kept-none : (n item first : ℕ) (payload : List ℕ) (k : ℕ) → 0 < n → k ≤ (n - first % n) % n →
    [] ≡ kept_samples n item first payload k
kept-none n item first payload k low h =
    let e : 0 + k ≡ k = omega arith in
    sym (kept-over n item first payload 0 k (λ j below z. gone (first % n) (mod_below first n low) h j below (mod_first first n (0 + j) ∙ z)))
    ∙ ap (kept_samples n item first payload) e
  where
    gone : (r : ℕ) → r < n → k ≤ (n - r) % n → (j : ℕ) → j < k → (r + (0 + j)) % n ≡ 0 → ⊥
    gone zero less up j below z =
        let no : (n - 0) % n ≡ 0 = let z : n - 0 ≡ n = omega arith in ap (λ m. m % n) z ∙ whole-mod n low in
        omega (arith, no)
    gone (suc r) less up j below z =
        let is : (n - suc r) % n ≡ n - suc r = small-mod n (n - suc r) (omega arith) in
        let own : (suc r + (0 + j)) % n ≡ suc r + (0 + j) = small-mod n (suc r + (0 + j)) (omega (arith, is)) in
        omega (arith, own, z)
