-- A port's digits as `parse` reads them.
use Rattle.std.proofs.Common.{◌≡◌, ℕ, ◌<◌, ◌≤◌, ◌^◌, Bool, true, false, cond, ltb, leb, eqb, ne_eqb, List, [], ◌∷◌, length, drop, get_or, Option, None, Some, refl, sym, ap, subst, ◌∙◌, arith}
use Rattle.std.specs.Prelude.{◌&&◌}
use Rattle.std.specs.List.{list_all}
use Rattle.std.specs.Str.Parse.{AllDigits, IsNumeral, digits_value, without_leading_plus}
use Rattle.std.proofs.lemmas.Bool.{lt-ltb, leb-true, ltb-true}
use Rattle.std.proofs.lemmas.Str.{digit_value_digit}
use Rattle.rfnoc_cli.specs.Words.{is_digit, number_of}

both_true : (a b : Bool) → (a && b) ≡ true → (a ≡ true) × (b ≡ true)
both_true true true e = (refl, refl)
both_true true false e = absurd cc
both_true false b e = absurd cc

all_digits : (text : List ℕ) → list_all is_digit text ≡ true → AllDigits 10 text
all_digits [] e = tt
all_digits (c ∷ text) e =
    let parts = both_true (is_digit c) (list_all is_digit text) e in
    let digit = both_true (leb 48 c) (leb c 57) parts.0 in
    let low : 48 ≤ c = leb-true _ _ digit.0 in
    let high : c ≤ 57 = leb-true _ _ digit.1 in
    (omega (arith, high, digit_value_digit c (low, high)), all_digits text parts.1)

some_text : (text : List ℕ) → 49 ≤ get_or text 0 0 → 0 < length text
some_text [] le = absurd (omega arith)
some_text (c ∷ text) le = omega arith

no_plus : (text : List ℕ) → 49 ≤ get_or text 0 0 → without_leading_plus text ≡ text
no_plus text le =
    let other : eqb (get_or text 0 0) 43 ≡ false = ne_eqb (get_or text 0 0) 43 (omega arith) in
    ap (λ (t : Bool). drop (cond t 1 0) text) other

abbrev no_port : Option ℕ
no_port = None

abbrev chosen : Bool → ℕ → Option ℕ
chosen t value = cond t (Some value) None

abbrev IsPort : List ℕ → Type 0
IsPort text = IsNumeral 10 (without_leading_plus text) × (digits_value 10 (without_leading_plus text) < 2 ^ 16)

-- what `parse` gives is the number of the digits
pub parsed : (text : List ℕ) (port : ℕ) → 49 ≤ get_or text 0 0 → IsPort text × (port ≡ digits_value 10 (without_leading_plus text)) → Some port ≡ number_of text
parsed text port le p =
    let same : digits_value 10 (without_leading_plus text) ≡ digits_value 10 text = ap (digits_value 10) (no_plus text le) in
    let fits : ltb (digits_value 10 text) 65536 ≡ true = lt-ltb _ _ (omega (arith, p.0.1, same)) in
    ap (λ (n : ℕ). Some n) (p.1 ∙ same) ∙ ap (λ (t : Bool). chosen t (digits_value 10 text)) (sym fits)

-- and it fails if the number is too large
pub unparsed : (text : List ℕ) → 49 ≤ get_or text 0 0 → list_all is_digit text ≡ true → (IsPort text → ⊥) → None ≡ number_of text
unparsed text le digits p = unfit (ltb (digits_value 10 text) 65536) refl
  where
    numeral : IsNumeral 10 (without_leading_plus text)
    numeral = subst (λ (t : List ℕ). IsNumeral 10 t) (sym (no_plus text le)) (some_text text le, all_digits text digits)

    unfit : (t : Bool) → ltb (digits_value 10 text) 65536 ≡ t → no_port ≡ chosen t (digits_value 10 text)
    unfit true e =
        let small : digits_value 10 text < 65536 = ltb-true _ _ e in
        absurd (p (numeral, omega (arith, small, ap (digits_value 10) (no_plus text le))))
    unfit false e = refl
