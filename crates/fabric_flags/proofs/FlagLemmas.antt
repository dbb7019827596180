-- A flag is a bit of its word, and the next set one is found word by word.
use Rattle.std.proofs.Common.{◌≡◌, ◌≢◌, ◌⊎◌, ℕ, zero, suc, ◌+◌, ◌-◌, ◌*◌, ◌/◌, ◌%◌, ◌^◌, ◌<◌, ◌≤◌, ◌==◌, ◌∙◌, Bool, true, false, cond, List, [], length, take, get_or, set, replicate, ext_get_or, get_or-set_same, get_or-set_other, refl, sym, ap, subst, inl, inr, arith, w64, Option, Some, None}
use Rattle.std.specs.Prelude.{MatchOption}
use Rattle.std.specs.Int.{bit_at, trailing_zeros}
use Rattle.std.proofs.lemmas.Bool.{false≢true}
use Rattle.std.proofs.lemmas.Bool.Decides.{nat_tests}
use Rattle.std.proofs.Math.ListN.{length-set}
use Rattle.std.proofs.lemmas.List.{get_or_past, length-replicate, take_all}
use Rattle.std.proofs.lemmas.List.Sums.{count_by-le-length, sum_by-set, sum_by_more}
use Rattle.std.proofs.lemmas.List.FromFn.{get_or-map-range_with_len, length-map-range_with_len}
use Rattle.std.proofs.Math.Nat.{div-div-eq-div-mul}
use Rattle.std.proofs.Math.Pow.{pow-add}
use Rattle.std.proofs.lemmas.Nat.{shr_le}
use Rattle.std.proofs.lemmas.Nat.Bits.{bit_at-trailing_zeros, bit_at-zero, bit_at_above}
use Rattle.fabric_flags.specs.Set.{IsNext, IsNth, NoneFrom, count_set, flag_at, flags_in, is_on}

pub length-flags : (words : List ℕ) (len : ℕ) → length (flags_in words len) ≡ len
length-flags words len = length-map-range_with_len (is_on words) 0 len

below_or_not : (a b : ℕ) → (a < b) ⊎ (b ≤ a)
below_or_not zero zero = inr (omega arith)
below_or_not zero (suc b) = inl (omega arith)
below_or_not (suc a) zero = inr (omega arith)
below_or_not (suc a) (suc b) = elim (below_or_not a b) [ inl h ↦ inl (omega arith) | inr h ↦ inr (omega arith) ]

same_or_not : (a b : ℕ) → (a ≡ b) ⊎ (a ≢ b)
same_or_not zero zero = inl refl
same_or_not zero (suc b) = inr (λ e. omega arith)
same_or_not (suc a) zero = inr (λ e. omega arith)
same_or_not (suc a) (suc b) = elim (same_or_not a b) [ inl e ↦ inl (ap suc e) | inr ne ↦ inr (λ e. ne (omega arith)) ]

add_zero : (a : ℕ) → a + 0 ≡ a
add_zero a = omega arith

-- one flag of the first ones
flag-at : (words : List ℕ) (len i : ℕ) → i < len → get_or (flags_in words len) i false ≡ is_on words i
flag-at words len i h = get_or-map-range_with_len (is_on words) 0 len i i false h (omega arith)

-- a flag is its bit
pub flag-read : (words : List ℕ) (len : ℕ) → ((i : ℕ) → len ≤ i → is_on words i ≡ false) → (i : ℕ) →
    flag_at (flags_in words len) i ≡ is_on words i
flag-read words len past i = elim (below_or_not i len) [
  | inl h ↦ get_or-map-range_with_len (is_on words) 0 len i i false h (omega arith)
  | inr h ↦ get_or_past (flags_in words len) i false (omega (arith, length-flags words len)) ∙ sym (past i h)
]

-- what is next by the bits is next by the flags
pub next-read : (words : List ℕ) (len : ℕ) → ((i : ℕ) → len ≤ i → is_on words i ≡ false) → (n i : ℕ) →
    IsNext (is_on words) n i → IsNext (flag_at (flags_in words len)) n i
next-read words len past n i h = record {
  from = h.from;
  here = flag-read words len past i ∙ h.here;
  none = λ j low high. flag-read words len past j ∙ h.none j low high;
}

pub none-read : (words : List ℕ) (len : ℕ) → ((i : ℕ) → len ≤ i → is_on words i ≡ false) → (n : ℕ) →
    NoneFrom (is_on words) n → NoneFrom (flag_at (flags_in words len)) n
none-read words len past n h = λ j low. flag-read words len past j ∙ h j low

pub on-from : (b : ℕ) → b ≡ 1 → (b == 1) ≡ true
on-from b e = grind (arith, nat_tests)

pub off-from : (b : ℕ) → b ≡ 0 → (b == 1) ≡ false
off-from b e = grind (arith, nat_tests)

-- bit j of a word that was shifted by s
shifted : (word s j : ℕ) → bit_at (word / 2 ^ s) j ≡ bit_at word (s + j)
shifted word s j =
    ap (λ (n : ℕ). n % 2) (div-div-eq-div-mul word (2 ^ s) (2 ^ j))
    ∙ ap (λ (n : ℕ). word / n % 2) (sym (pow-add 2 s j))

-- the bits of a word, as those of the words
pub on-in-word : (words : List ℕ) (i k b : ℕ) → i ≡ 64 * k + b → b < 64 → is_on words i ≡ (bit_at (get_or words k 0) b == 1)
on-in-word words i k b e low =
    let word : i / 64 ≡ k = omega arith in
    let bit : i % 64 ≡ b = omega arith in
    ap (λ (n : ℕ). bit_at (get_or words n 0) (i % 64) == 1) word ∙ ap (λ (n : ℕ). bit_at (get_or words k 0) n == 1) bit

-- the lowest 1 of what is left of a word is a bit of that word
pub within-here : (words : List ℕ) (n rest : ℕ) → rest ≡ get_or words (n / 64) 0 / 2 ^ (n % 64) → 0 < rest →
    get_or words (n / 64) 0 < 2 ^ 64 → n % 64 + trailing_zeros w64 rest < 64
within-here words n rest is some low =
    let word = get_or words (n / 64) 0 in
    let s = n % 64 in
    let at = trailing_zeros w64 rest in
    let small : rest < 2 ^ 64 = omega (arith, shr_le word s, is) in
    let lowest = bit_at-trailing_zeros w64 rest some small in
    let bit : bit_at word (s + at) ≡ 1 = sym (shifted word s at) ∙ ap (λ (m : ℕ). bit_at m at) (sym is) ∙ lowest.1 in
    elim (below_or_not (s + at) 64) [
      | inl h ↦ h
      | inr h ↦ let none : bit_at word (s + at) ≡ 0 = bit_at_above word 64 (s + at) low h in absurd (omega arith)
    ]

-- the lowest 1 of what is left of a word is the next bit
pub next-here : (words : List ℕ) (n rest : ℕ) → rest ≡ get_or words (n / 64) 0 / 2 ^ (n % 64) → 0 < rest →
    get_or words (n / 64) 0 < 2 ^ 64 → IsNext (is_on words) n (n + trailing_zeros w64 rest)
next-here words n rest is some low =
    let word = get_or words (n / 64) 0 in
    let s = n % 64 in
    let at = trailing_zeros w64 rest in
    let small : rest < 2 ^ 64 = omega (arith, shr_le word s, is) in
    let lowest = bit_at-trailing_zeros w64 rest some small in
    let bit : bit_at word (s + at) ≡ 1 = sym (shifted word s at) ∙ ap (λ (m : ℕ). bit_at m at) (sym is) ∙ lowest.1 in
    let within : s + at < 64 = within-here words n rest is some low in
    record {
      from = omega arith;
      here = on-in-word words (n + at) (n / 64) (s + at) (omega arith) within ∙ on-from _ bit;
      none = λ j from below.
          let d = j - n in
          let zero : bit_at word (s + d) ≡ 0 =
          sym (shifted word s d) ∙ ap (λ (m : ℕ). bit_at m d) (sym is) ∙ lowest.2 d (omega arith) in
          on-in-word words j (n / 64) (s + d) (omega arith) (omega arith) ∙ off-from _ zero;
    }

-- where nothing is left of a word, no bit of it is 1
pub none-here : (words : List ℕ) (n : ℕ) → get_or words (n / 64) 0 / 2 ^ (n % 64) ≡ 0 → (j : ℕ) → n ≤ j →
    j < 64 * (n / 64 + 1) → is_on words j ≡ false
none-here words n is j from below =
    let word = get_or words (n / 64) 0 in
    let s = n % 64 in
    let d = j - n in
    let zero : bit_at word (s + d) ≡ 0 = sym (shifted word s d) ∙ ap (λ (m : ℕ). bit_at m d) is ∙ bit_at-zero d in
    on-in-word words j (n / 64) (s + d) (omega arith) (omega arith) ∙ off-from _ zero

-- the lowest 1 of a later word is the next bit, if there was none before that word
pub next-there : (words : List ℕ) (n k : ℕ) → n ≤ 64 * k → ((j : ℕ) → n ≤ j → j < 64 * k → is_on words j ≡ false) →
    0 < get_or words k 0 → get_or words k 0 < 2 ^ 64 → IsNext (is_on words) n (64 * k + trailing_zeros w64 (get_or words k 0))
next-there words n k from before some low =
    let word = get_or words k 0 in
    let at = trailing_zeros w64 word in
    let lowest = bit_at-trailing_zeros w64 word some low in
    let within : at < 64 = lowest.0 in
    record {
      from = omega arith;
      here = on-in-word words (64 * k + at) k at refl within ∙ on-from _ lowest.1;
      none = λ j low' high. elim (below_or_not j (64 * k)) [
        | inl h ↦ before j low' h
        | inr h ↦ on-in-word words j k (j - 64 * k) (omega arith) (omega arith) ∙ off-from _ (lowest.2 (j - 64 * k) (omega arith))
      ];
    }

-- a word of 0 has no bit that is 1
pub none-there : (words : List ℕ) (n k : ℕ) → ((j : ℕ) → n ≤ j → j < 64 * k → is_on words j ≡ false) → get_or words k 0 ≡ 0 →
    (j : ℕ) → n ≤ j → j < 64 * (k + 1) → is_on words j ≡ false
none-there words n k before is j from below = elim (below_or_not j (64 * k)) [
  | inl h ↦ before j from h
  | inr h ↦ on-in-word words j k (j - 64 * k) (omega arith) (omega arith)
      ∙ off-from _ (ap (λ (m : ℕ). bit_at m (j - 64 * k)) is ∙ bit_at-zero (j - 64 * k))
]

-- past the last word there is none
pub none-past : (words : List ℕ) (j : ℕ) → 64 * length words ≤ j → is_on words j ≡ false
none-past words j h =
    let past : get_or words (j / 64) 0 ≡ 0 = get_or_past words (j / 64) 0 (omega arith) in
    off-from _ (ap (λ (m : ℕ). bit_at m (j % 64)) past ∙ bit_at-zero (j % 64))

pub none-after : (words : List ℕ) (n k : ℕ) → length words ≤ k → ((j : ℕ) → n ≤ j → j < 64 * k → is_on words j ≡ false) →
    NoneFrom (is_on words) n
none-after words n k last before = λ j from. elim (below_or_not j (64 * k)) [
  | inl h ↦ before j from h
  | inr h ↦ none-past words j (omega arith)
]

-- ---- a word is written

-- a bit that was written
pub on-set_same : (words : List ℕ) (i word : ℕ) → i / 64 < length words →
    is_on (set words (i / 64) word) i ≡ (bit_at word (i % 64) == 1)
on-set_same words i word there = ap (λ (m : ℕ). bit_at m (i % 64) == 1) (get_or-set_same words (i / 64) word 0 there)

-- every other bit stays
pub on-set_other : (words : List ℕ) (i j word : ℕ) → i ≢ j → i / 64 < length words →
    ((b : ℕ) → b < 64 → b ≢ i % 64 → bit_at word b ≡ bit_at (get_or words (i / 64) 0) b) →
    is_on (set words (i / 64) word) j ≡ is_on words j
on-set_other words i j word apart there others = elim (same_or_not (i / 64) (j / 64)) [
  | inl e ↦
      let bit : j % 64 ≢ i % 64 = λ same. apart (omega arith) in
      let read : get_or (set words (i / 64) word) (j / 64) 0 ≡ word =
      subst (λ (k : ℕ). get_or (set words (i / 64) word) k 0 ≡ word) e (get_or-set_same words (i / 64) word 0 there) in
      let old : get_or words (i / 64) 0 ≡ get_or words (j / 64) 0 = ap (λ (k : ℕ). get_or words k 0) e in
      ap (λ (m : ℕ). m == 1) (ap (λ (m : ℕ). bit_at m (j % 64)) read ∙ others (j % 64) (omega arith) bit ∙ ap (λ (m : ℕ). bit_at m (j % 64)) old)
  | inr ne ↦ ap (λ (m : ℕ). bit_at m (j % 64) == 1) (get_or-set_other words (i / 64) (j / 64) word 0 (λ e. ne (sym e)))
]

-- the flags, once a bit is written
pub flags-set : (words new : List ℕ) (len i : ℕ) (on : Bool) → i < len → is_on new i ≡ on →
    ((j : ℕ) → i ≢ j → is_on new j ≡ is_on words j) → flags_in new len ≡ set (flags_in words len) i on
flags-set words new len i on within here others = ext_get_or false (flags_in new len) (set (flags_in words len) i on)
    (length-flags new len ∙ sym (length-set (flags_in words len) i on ∙ length-flags words len))
    (λ j h.
    let low : j < len = omega (arith, length-flags new len) in
    let read : get_or (flags_in new len) j false ≡ is_on new j = flag-at new len j low in
    elim (same_or_not i j) [
      | inl e ↦ read ∙ ap (is_on new) (sym e) ∙ here
          ∙ sym (subst (λ (k : ℕ). get_or (set (flags_in words len) i on) k false ≡ on) e
          (get_or-set_same (flags_in words len) i on false (omega (arith, length-flags words len))))
      | inr ne ↦ read ∙ others j ne ∙ sym (get_or-set_other (flags_in words len) i j on false (λ e. ne (sym e)) ∙ flag-at words len j low)
    ])

-- the count, once a flag is set or cleared
pub count-set : (flags : List Bool) (i : ℕ) (on : Bool) → i < length flags →
    count_set (set flags i on) + cond (flag_at flags i) 1 0 ≡ count_set flags + cond on 1 0
count-set flags i on h = sum_by-set (λ (flag : Bool). cond flag 1 0) flags i on false h

pub match-read : (words : List ℕ) (len : ℕ) → ((i : ℕ) → len ≤ i → is_on words i ≡ false) → (n : ℕ) (o : Option ℕ) →
    MatchOption o (NoneFrom (is_on words) n) (IsNext (is_on words) n) →
    MatchOption o (NoneFrom (flag_at (flags_in words len)) n) (IsNext (flag_at (flags_in words len)) n)
match-read words len past n None h = none-read words len past n h
match-read words len past n (Some i) h = next-read words len past n i h

-- ---- how many flags are set before a place

count-more : (flags : List Bool) (i : ℕ) → count_set (take (i + 1) flags) ≡ count_set (take i flags) + cond (flag_at flags i) 1 0
count-more flags i = elim (below_or_not i (length flags)) [
  | inl h ↦ sum_by_more (λ (flag : Bool). cond flag 1 0) flags i false h
  | inr h ↦
      let more : take (i + 1) flags ≡ flags = take_all (i + 1) flags (omega arith) in
      let all : take i flags ≡ flags = take_all i flags h in
      let off : flag_at flags i ≡ false = get_or_past flags i false h in
      ap count_set more ∙ sym (ap count_set all) ∙ sym (ap (λ (b : Bool). count_set (take i flags) + cond b 1 0) off ∙ omega arith)
]

-- where no flag is set between two places, as many are set before the one as before the other
count-stays : (flags : List Bool) (n d : ℕ) → ((j : ℕ) → n ≤ j → j < n + d → flag_at flags j ≡ false) →
    count_set (take (n + d) flags) ≡ count_set (take n flags)
count-stays flags n zero h = ap (λ (k : ℕ). count_set (take k flags)) (omega arith)
count-stays flags n (suc d) h =
    let next : n + suc d ≡ n + d + 1 = omega arith in
    ap (λ (k : ℕ). count_set (take k flags)) next ∙ count-more flags (n + d)
    ∙ ap (λ (b : Bool). count_set (take (n + d) flags) + cond b 1 0) (h (n + d) (omega arith) (omega arith))
    ∙ add_zero (count_set (take (n + d) flags))
    ∙ count-stays flags n d (λ j low high. h j low (omega arith))

count-up : (flags : List Bool) (n i : ℕ) → n ≤ i → ((j : ℕ) → n ≤ j → j < i → flag_at flags j ≡ false) →
    count_set (take i flags) ≡ count_set (take n flags)
count-up flags n i low h =
    let is : n + (i - n) ≡ i = omega arith in
    subst (λ (k : ℕ). count_set (take k flags) ≡ count_set (take n flags)) is
    (count-stays flags n (i - n) (λ j a b. h j a (omega arith)))

-- the first set flag has none before it
pub nth-first : (flags : List Bool) (i : ℕ) → IsNext (flag_at flags) 0 i → IsNth flags 0 i
nth-first flags i h = record { is_set = h.here; before = count-up flags 0 i (omega arith) h.none }

-- the next set flag has one more before it
pub nth-next : (flags : List Bool) (n at i : ℕ) → IsNth flags n at → IsNext (flag_at flags) (at + 1) i → IsNth flags (n + 1) i
nth-next flags n at i before h = record {
  is_set = h.here;
  before = count-up flags (at + 1) i h.from h.none ∙ count-more flags at
      ∙ ap (λ (b : Bool). count_set (take at flags) + cond b 1 0) before.is_set ∙ ap (λ (k : ℕ). k + 1) before.before;
}

-- where no flag is set from a place on, all that are set are before it
pub count-all : (flags : List Bool) (n : ℕ) → NoneFrom (flag_at flags) n → count_set flags ≡ count_set (take n flags)
count-all flags n h = elim (below_or_not n (length flags)) [
  | inl low ↦ sym (ap count_set (take_all (length flags) flags (omega arith))) ∙ count-up flags n (length flags) (omega arith) (λ j a b. h j a)
  | inr past ↦ sym (ap count_set (take_all n flags past))
]

-- if no flag is set behind the last one of these, there are no more
pub count-last : (flags : List Bool) (n at : ℕ) → IsNth flags n at → NoneFrom (flag_at flags) (at + 1) → count_set flags ≡ n + 1
count-last flags n at here none = count-all flags (at + 1) none ∙ count-more flags at
    ∙ ap (λ (b : Bool). count_set (take at flags) + cond b 1 0) here.is_set ∙ ap (λ (k : ℕ). k + 1) here.before

pub count-none : (flags : List Bool) → NoneFrom (flag_at flags) 0 → count_set flags ≡ 0
count-none flags none = count-all flags 0 none

pub count-most : (flags : List Bool) → count_set flags ≤ length flags
count-most flags = count_by-le-length (λ (flag : Bool). flag) flags

-- a set flag is one of the flags
pub set-within : (flags : List Bool) (i : ℕ) → flag_at flags i ≡ true → i < length flags
set-within flags i is = elim (below_or_not i (length flags)) [
  | inl h ↦ h
  | inr h ↦ absurd (false≢true (sym (get_or_past flags i false h) ∙ is))
]

-- ---- words of 0

get-zeros : (n k : ℕ) → ◌≡◌ {A = ℕ} (get_or (replicate n 0) k 0) 0
get-zeros zero k = get_or_past [] k 0 (omega arith)
get-zeros (suc n) zero = refl
get-zeros (suc n) (suc k) = get-zeros n k

pub zeros-off : (n i : ℕ) → is_on (replicate n 0) i ≡ false
zeros-off n i = off-from _ (ap (λ (m : ℕ). bit_at m (i % 64)) (get-zeros n (i / 64)) ∙ bit_at-zero (i % 64))

get-offs : (n k : ℕ) → get_or (replicate n false) k false ≡ false
get-offs zero k = get_or_past [] k false (omega arith)
get-offs (suc n) zero = refl
get-offs (suc n) (suc k) = get-offs n k

pub flags-zeros : (n len : ℕ) → flags_in (replicate n 0) len ≡ replicate len false
flags-zeros n len = ext_get_or false (flags_in (replicate n 0) len) (replicate len false)
    (length-flags (replicate n 0) len ∙ sym (length-replicate len false))
    (λ j h. flag-at (replicate n 0) len j (omega (arith, length-flags (replicate n 0) len)) ∙ zeros-off n j ∙ sym (get-offs len j))

pub count-offs : (n : ℕ) → count_set (replicate n false) ≡ 0
count-offs n = count-none (replicate n false) (λ j low. get-offs n j)
