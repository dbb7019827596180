-- Words are read back from the bytes that spell them, one after another.
use Rattle.std.proofs.Common.{◌≤◌, ◌∙◌, ℕ, zero, suc, add-one, add-zero, ◌≡◌, ◌+◌, ◌*◌, ◌^◌, ◌<◌, List, [], ◌∷◌, ◌++◌, length, get_or, drop, refl, sym, ap, append_assoc, arith}
use Rattle.std.specs.Int.{w32, w64, from_le_bytes, to_le_bytes}
use Rattle.std.proofs.lemmas.Nat.{from_le_bytes-to_le_bytes_4, from_le_bytes-to_le_bytes_8}
use Rattle.std.specs.List.{flat_map}
use Rattle.std.proofs.lemmas.List.{get_or-drop, length-append, drop_at, drop-append-le, get_or_append_left, length-drop}
use Rattle.std.proofs.lemmas.List.Concat.{flat_map-cons}
use Rattle.chdr_words.specs.Field.{word_at, half_at, each_at, words_at}
use Rattle.chdr_words.specs.Laws.{Below}

-- a word's bytes spell it
pub word_of : (bytes : List ℕ) (a : ℕ) → a < 2 ^ 64 → bytes ≡ to_le_bytes w64 a → from_le_bytes w64 bytes ≡ a
word_of bytes a wide e = rw e (from_le_bytes-to_le_bytes_8 a wide)

-- eight bytes from a place on
pub word_at-is : (bytes : List ℕ) (at : ℕ) → word_at bytes at ≡
    get_or bytes at 0 + get_or bytes (at + 1) 0 * 256 + get_or bytes (at + 2) 0 * 65536 + get_or bytes (at + 3) 0 * 256 ^ 3
    + get_or bytes (at + 4) 0 * 256 ^ 4 + get_or bytes (at + 5) 0 * 256 ^ 5 + get_or bytes (at + 6) 0 * 256 ^ 6 + get_or bytes (at + 7) 0 * 256 ^ 7
unfolding word_at
word_at-is bytes at = simp (get_or-drop, add-zero) refl

pub half_at-is : (bytes : List ℕ) (at : ℕ) → half_at bytes at ≡
    get_or bytes at 0 + get_or bytes (at + 1) 0 * 256 + get_or bytes (at + 2) 0 * 65536 + get_or bytes (at + 3) 0 * 256 ^ 3
unfolding half_at
half_at-is bytes at = simp (get_or-drop, add-zero) refl

-- one word more
pub each_at-more : (read : List ℕ → ℕ → ℕ) (size : ℕ) (bytes : List ℕ) (at k : ℕ)
    → each_at read size bytes at (k + 1) ≡ each_at read size bytes at k ++ read bytes (at + size * k) ∷ []
unfolding each_at
each_at-more read size bytes at k = rw add-one refl

pub each_at-none : (read : List ℕ → ℕ → ℕ) (size : ℕ) (bytes : List ℕ) (at : ℕ) → each_at read size bytes at 0 ≡ []
unfolding each_at
each_at-none read size bytes at = refl

pub length-each_at : (read : List ℕ → ℕ → ℕ) (size : ℕ) (bytes : List ℕ) (at k : ℕ) → length (each_at read size bytes at k) ≡ k
unfolding each_at
length-each_at read size bytes at zero = refl
length-each_at read size bytes at (suc k) =
    length-append (each_at read size bytes at k) (read bytes (at + size * k) ∷ []) ∙ rw (length-each_at read size bytes at k) (omega arith)

pub ruleset more = (each_at-more, each_at-none, length-each_at)

-- the first word stands in front
pub each_at-cons : (read : List ℕ → ℕ → ℕ) (size : ℕ) (bytes : List ℕ) (at k : ℕ)
    → each_at read size bytes at (suc k) ≡ read bytes at ∷ each_at read size bytes (at + size) k
unfolding each_at
each_at-cons read size bytes at zero = let e : at + size * 0 ≡ at = omega arith in rw e refl
each_at-cons read size bytes at (suc k) =
    let e : at + size * suc k ≡ at + size + size * k = omega arith in
    rw (each_at-cons read size bytes at k, e) refl

-- numbers below the limit are written as so many bytes, and read back wherever they stand
pub record IsCode (encode : ℕ → List ℕ) (read : List ℕ → ℕ → ℕ) (size limit : ℕ) : Type 0 where
  pub len : (v : ℕ) → length (encode v) ≡ size
  pub back : (front rest : List ℕ) (v : ℕ) → v < limit → read (front ++ (encode v ++ rest)) (length front) ≡ v

pub word_code : IsCode (to_le_bytes w64) word_at 8 (2 ^ 64)
unfolding word_at
word_code = record {
  len = λ v. refl;
  back = λ front rest v wide. rw (drop_at front (to_le_bytes w64 v ++ rest) (length front) refl) (from_le_bytes-to_le_bytes_8 v wide);
}

pub half_code : IsCode (to_le_bytes w32) half_at 4 (2 ^ 32)
unfolding half_at
half_code = record {
  len = λ v. refl;
  back = λ front rest v wide. rw (drop_at front (to_le_bytes w32 v ++ rest) (length front) refl) (from_le_bytes-to_le_bytes_4 v wide);
}

-- words that were written are read back
pub each_at-written : (encode : ℕ → List ℕ) (read : List ℕ → ℕ → ℕ) (size limit : ℕ) (code : IsCode encode read size limit)
    (words front rest : List ℕ) → Below limit words
    → each_at read size (front ++ (flat_map encode words ++ rest)) (length front) (length words) ≡ words
each_at-written encode read size limit code [] front rest below = each_at-none read size (front ++ (flat_map encode [] ++ rest)) (length front)
each_at-written encode read size limit code (w ∷ words) front rest below =
    let bytes : List ℕ = front ++ (flat_map encode (w ∷ words) ++ rest) in
    let more : List ℕ = flat_map encode words ++ rest in
    let one : bytes ≡ front ++ (encode w ++ more) =
    ap (λ (x : List ℕ). front ++ (x ++ rest)) (flat_map-cons encode w words) ∙ ap (λ (x : List ℕ). front ++ x) (append_assoc (encode w) (flat_map encode words) rest) in
    let two : bytes ≡ (front ++ encode w) ++ more = one ∙ sym (append_assoc front (encode w) more) in
    let at : length front + size ≡ length (front ++ encode w) = rw (length-append front (encode w), code.len w) refl in
    let head : read bytes (length front) ≡ w = rw one (code.back front more w below.0) in
    let tail : each_at read size bytes (length front + size) (length words) ≡ words =
    rw (at, two) (each_at-written encode read size limit code words (front ++ encode w) rest below.1) in
    each_at-cons read size bytes (length front) (length words) ∙ ap (λ (x : ℕ). x ∷ each_at read size bytes (length front + size) (length words)) head
    ∙ ap (λ (x : List ℕ). w ∷ x) tail

-- ---- what stands in front doesn't depend on what follows

pub word_at-front : (x y : List ℕ) (at : ℕ) → at + 8 ≤ length x → word_at (x ++ y) at ≡ word_at x at
unfolding word_at
word_at-front x y at le =
    let past : at ≤ length x = omega arith in
    let l : List ℕ = drop at x in
    let long : 8 ≤ length l = omega (arith, length-drop at x) in
    let g : (i : ℕ) → i < 8 → get_or (l ++ y) i 0 ≡ get_or l i 0 = λ i lt. get_or_append_left l y 0 i (omega (arith, lt, long)) in
    ap (λ (z : List ℕ). from_le_bytes w64 z) (drop-append-le at x y past)
    ∙ rw (g 0 (omega arith), g 1 (omega arith), g 2 (omega arith), g 3 (omega arith), g 4 (omega arith), g 5 (omega arith), g 6 (omega arith), g 7 (omega arith)) refl

pub words_at-front : (count : ℕ) (x y : List ℕ) (at : ℕ) → at + 8 * count ≤ length x → words_at (x ++ y) at count ≡ words_at x at count
words_at-front zero x y at le = each_at-none word_at 8 (x ++ y) at ∙ sym (each_at-none word_at 8 x at)
words_at-front (suc count) x y at le =
    let one : word_at (x ++ y) at ≡ word_at x at = word_at-front x y at (omega arith) in
    let others : words_at (x ++ y) (at + 8) count ≡ words_at x (at + 8) count = words_at-front count x y (at + 8) (omega arith) in
    each_at-cons word_at 8 (x ++ y) at count ∙ ap (λ (w : ℕ). w ∷ words_at (x ++ y) (at + 8) count) one ∙ ap (λ (ws : List ℕ). word_at x at ∷ ws) others ∙ sym (each_at-cons word_at 8 x at count)
