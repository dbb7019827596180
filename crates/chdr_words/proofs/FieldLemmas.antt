-- A word with one field replaced is computed without an overflow.
use Rattle.std.proofs.Common.{◌≡◌, ℕ, ◌+◌, ◌-◌, ◌*◌, ◌/◌, ◌%◌, ◌^◌, ◌<◌, ◌≤◌, sym, ap, ◌∙◌, arith}
use Rattle.std.proofs.lemmas.Nat.{pow_pos, pow-add, shr_split, shr-shr, shr_below, mod_below, shl_whole, mul-add-lt}
use Rattle.chdr_words.specs.Field.{field, with_field}

-- a number cut in three, with another middle
recut : (word high wide middle low cut other rest : ℕ) → high * wide + middle ≡ rest → rest * cut + low ≡ word
    → word - middle * cut + other * cut ≡ high * (wide * cut) + other * cut + low
recut word high wide middle low cut other rest a b =
    let whole : (high * wide + middle) * cut + low ≡ word = ap (λ (r : ℕ). r * cut + low) a ∙ b in
    omega (arith, whole)

pub record Replaced (word hi lo old value : ℕ) : Type 0 where
  pub is : word - old * 2 ^ lo % 2 ^ 64 + value * 2 ^ lo % 2 ^ 64 ≡ with_field word hi lo value
  pub fits : word - old * 2 ^ lo % 2 ^ 64 + value * 2 ^ lo % 2 ^ 64 < 2 ^ 64

pub replaced : (word hi lo old value : ℕ) → lo ≤ hi → hi ≤ 63 → word < 2 ^ 64 → old ≡ field word hi lo → value < 2 ^ (hi + 1 - lo)
    → Replaced word hi lo old value
replaced word hi lo old value order within wide is_field fits =
    let j = hi + 1 - lo in
    let jl : j + lo ≡ hi + 1 = omega arith in
    let below : old < 2 ^ j = rw is_field (mod_below (word / 2 ^ lo) (2 ^ j) (pow_pos j)) in
    let old_whole = shl_whole old j lo 64 below (omega arith) in
    let value_whole = shl_whole value j lo 64 fits (omega arith) in
    let power : 2 ^ (hi + 1) ≡ 2 ^ j * 2 ^ lo = ap (λ (k : ℕ). 2 ^ k) (sym jl) ∙ pow-add 2 j lo in
    let lj : lo + j ≡ hi + 1 = omega arith in
    let high_is : word / 2 ^ lo / 2 ^ j ≡ word / 2 ^ (hi + 1) = shr-shr word lo j ∙ ap (λ (k : ℕ). word / 2 ^ k) lj in
    let cut : word / 2 ^ (hi + 1) * 2 ^ j + old ≡ word / 2 ^ lo = rw (← high_is, is_field) (shr_split (word / 2 ^ lo) j) in
    let made : word - old * 2 ^ lo + value * 2 ^ lo ≡ word / 2 ^ (hi + 1) * (2 ^ j * 2 ^ lo) + value * 2 ^ lo + word % 2 ^ lo =
    recut word (word / 2 ^ (hi + 1)) (2 ^ j) old (word % 2 ^ lo) (2 ^ lo) value (word / 2 ^ lo) cut (shr_split word lo) in
    let is : word - old * 2 ^ lo % 2 ^ 64 + value * 2 ^ lo % 2 ^ 64 ≡ with_field word hi lo value =
    rw (old_whole, value_whole) (made ∙ ap (λ (p : ℕ). word / 2 ^ (hi + 1) * p + value * 2 ^ lo + word % 2 ^ lo) (sym power)) in
    let top : word / 2 ^ (hi + 1) < 2 ^ (63 - hi) = shr_below word (63 - hi) (hi + 1) (rw (the_power hi within) wide) in
    let low : value * 2 ^ lo + word % 2 ^ lo < 2 ^ j * 2 ^ lo =
    omega (arith, mul-add-lt value (2 ^ lo) (word % 2 ^ lo) (2 ^ j) fits (mod_below word (2 ^ lo) (pow_pos lo))) in
    let low' : value * 2 ^ lo + word % 2 ^ lo < 2 ^ (hi + 1) = rw power low in
    let all : word / 2 ^ (hi + 1) * 2 ^ (hi + 1) + (value * 2 ^ lo + word % 2 ^ lo) < 2 ^ (63 - hi) * 2 ^ (hi + 1) =
    omega (arith, mul-add-lt (word / 2 ^ (hi + 1)) (2 ^ (hi + 1)) (value * 2 ^ lo + word % 2 ^ lo) (2 ^ (63 - hi)) top low') in
    let whole : 2 ^ (63 - hi) * 2 ^ (hi + 1) ≡ 2 ^ 64 = sym (pow-add 2 (63 - hi) (hi + 1)) ∙ the_power hi within in
    record { is = is; fits = rw is (omega (arith, all, whole)) }
  where
    the_power : (hi : ℕ) → hi ≤ 63 → 2 ^ (63 - hi + (hi + 1)) ≡ 2 ^ 64
    the_power hi within = let e : 63 - hi + (hi + 1) ≡ 64 = omega arith in ap (λ (k : ℕ). 2 ^ k) e
