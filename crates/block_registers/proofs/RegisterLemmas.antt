-- Registers that are read or written one after another are those of the whole request.
use Rattle.std.proofs.Common.{◌≡◌, ◌+◌, ◌*◌, ◌<◌, ◌&&◌, ◌++◌, [], ◌∷◌, ℕ, List, Bool, true, false, Some, None, length, sym, ◌∙◌, ap, refl, map-id, arith, cond, zero-add, is_some, map, get_or, set, ◌^◌, ◌/◌, bit_and}
use Rattle.std.proofs.Math.ListN.{get_or-map}
use Rattle.std.specs.Int.Bits.{and_zero_l, and_zero_r, or_zero_l}
use Rattle.std.proofs.lemmas.List.{set-get_or}
use Rattle.std.proofs.lemmas.Grind.{and_numeral}
use Rattle.std.proofs.lemmas.Option.{cond_some, none-some}
use Rattle.std.proofs.lemmas.List.Sums.{fold-append}
use Rattle.std.proofs.Math.Bool.{and-true}
use Rattle.std.specs.List.{range_with_len, list_all, fold}
use Rattle.std.proofs.lemmas.List.FromFn.{length-range_with_len, get_or-range_with_len, map-range_with_len_more, length-map-range_with_len}
use Rattle.std.proofs.lemmas.List.Folds.{list_all-append, list_all_at}
use Rattle.block_registers.specs.Registers.{Change, is_register, register, word_at, written, written_one, merged, enabled_bits}
use Rattle.block_registers.specs.Operations.{are_registers, words_from, change_at, changes}

-- one number more
range_with_len-more : (first count next : ℕ) → first + count ≡ next →
    range_with_len first (count + 1) ≡ range_with_len first count ++ next ∷ []
range_with_len-more first count next e =
    sym (map-id (range_with_len first (count + 1)))
    ∙ map-range_with_len_more (λ x. x) first count next e
    ∙ ap (λ xs. xs ++ next ∷ []) (map-id (range_with_len first count))

cond_none : (b : Bool) (x : ℕ) → cond b (Some x) None ≡ None → b ≡ false
cond_none true x e = absurd (none-some x (sym e))
cond_none false x e = refl

is_some-cond : (b : Bool) (x : ℕ) → is_some (cond b (Some x) None) ≡ b
is_some-cond true x = refl
is_some-cond false x = refl

pub is_some-register : (words : List ℕ) (addr : ℕ) → is_some (register words addr) ≡ is_register words addr
is_some-register words addr = is_some-cond (is_register words addr) (word_at words addr)

-- no register where nothing is read
pub is_register-none : (words : List ℕ) (addr : ℕ) → None ≡ register words addr → is_register words addr ≡ false
is_register-none words addr e = cond_none (is_register words addr) (word_at words addr) (sym e)

pub is_register-some : (words : List ℕ) (addr word : ℕ) → Some word ≡ register words addr →
    (is_register words addr ≡ true) × (word_at words addr ≡ word)
is_register-some words addr word e = cond_some (is_register words addr) (word_at words addr) word (sym e)

pub are_registers-more : (words : List ℕ) (addr k : ℕ) →
    are_registers words addr (k + 1) ≡ (are_registers words addr k && is_register words (addr + 4 * k))
are_registers-more words addr k =
    let p : ℕ → Bool = λ j. is_register words (addr + 4 * j) in
    ap (list_all p) (range_with_len-more 0 k k (omega arith)) ∙ list_all-append p (range_with_len 0 k) (k ∷ [])
    ∙ ap (λ b. list_all p (range_with_len 0 k) && b) (and-true (p k))

pub are_registers-missing : (words : List ℕ) (addr count k : ℕ) → k < count → is_register words (addr + 4 * k) ≡ false →
    are_registers words addr count ≡ false
are_registers-missing words addr count k h e =
    list_all_at (λ j. is_register words (addr + 4 * j)) (range_with_len 0 count) k 0 (omega (arith, length-range_with_len 0 count))
    (rw (get_or-range_with_len 0 count k 0 h) (rw zero-add e))

pub words_from-more : (words : List ℕ) (addr k : ℕ) →
    words_from words addr (k + 1) ≡ words_from words addr k ++ word_at words (addr + 4 * k) ∷ []
words_from-more words addr k = map-range_with_len_more (λ j. word_at words (addr + 4 * j)) 0 k k (omega arith)

-- the same, as a loop reads them
pub words_from-step : (words : List ℕ) (addr k word : ℕ) (before after : List ℕ) → word_at words (addr + 4 * k) ≡ word →
    before ≡ words_from words addr k → after ≡ before ++ word ∷ [] → after ≡ words_from words addr (k + 1)
words_from-step words addr k word before after w b a = rw (a, b, words_from-more words addr k, w) refl

pub length-words_from : (words : List ℕ) (addr count : ℕ) → length (words_from words addr count) ≡ count
length-words_from words addr count = length-map-range_with_len (λ j. word_at words (addr + 4 * j)) 0 count

-- a change where no register stands
pub written_one-missing : (masks words : List ℕ) (w : Change) → is_register words w.addr ≡ false → written_one masks words w ≡ words
unfolding written_one
written_one-missing masks words w e = rw e

pub written-more : (masks words : List ℕ) (enables addr : ℕ) (values : List ℕ) (k : ℕ) →
    written masks words (changes enables addr values (k + 1)) ≡
    written_one masks (written masks words (changes enables addr values k)) (change_at enables addr values k)
written-more masks words enables addr values k =
    ap (fold (written_one masks) words) (map-range_with_len_more (change_at enables addr values) 0 k k (omega arith))
    ∙ fold-append (written_one masks) words (changes enables addr values k) (change_at enables addr values k ∷ [])

-- a change, where its register stands
pub written-if_found : (masks words after : List ℕ) (w : Change) (found : Bool) → found ≡ is_register words w.addr →
    after ≡ written_one masks words w → after ≡ written masks words (cond found (w ∷ []) [])
written-if_found masks words after w true e h = h
written-if_found masks words after w false e h = h ∙ written_one-missing masks words w (sym e)

-- no bit is taken
merged-kept : (word value gate : ℕ) → word < 2 ^ 32 → merged word value (bit_and 0 gate) ≡ word
unfolding merged
merged-kept word value gate h =
    simp (and_zero_l, and_zero_r, or_zero_l) (and_numeral word 4294967294 refl ∙ omega arith)

set-kept : (words : List ℕ) (i word : ℕ) → word ≡ get_or words i 0 → set words i word ≡ words
set-kept words i word e = rw e (set-get_or words i 0)

cond_same : {A : Type 0} (b : Bool) (x y : A) → x ≡ y → cond b x y ≡ y
cond_same true x y e = e
cond_same false x y e = refl

-- words whose masks are 0 stay
pub written_one_fixed : (words : List ℕ) (w : Change) → ((i : ℕ) → get_or words i 0 < 2 ^ 32) →
    written_one (map (λ _. 0) words) words w ≡ words
unfolding written_one
written_one_fixed words w small =
    let i = w.addr / 4 in
    cond_same (is_register words w.addr) _ _ (set-kept words i _
    (rw (get_or-map {B = ℕ} (λ (_ : ℕ). 0) words i 0) (merged-kept (get_or words i 0) w.value (enabled_bits w.enables) (small i))))
