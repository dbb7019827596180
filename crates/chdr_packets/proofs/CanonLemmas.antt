-- Bytes that have the same words are the same, and what a packet spells canonically is the same.
use Rattle.std.proofs.Common.{◌≡◌, ℕ, zero, suc, ◌+◌, ◌-◌, ◌*◌, ◌^◌, ◌<◌, ◌≤◌, true, eqb, List, [], ◌∷◌, ◌++◌, length, get_or, take, drop, Option, None, Some, refl, sym, ap, ◌∙◌, arith}
use Rattle.std.specs.Prelude.{IfSome, slice_range}
use Rattle.std.specs.Int.{w32, to_le_bytes, from_le_bytes}
use Rattle.std.specs.List.{list_all}
use Rattle.std.proofs.lemmas.Bool.{eqb-true}
use Rattle.std.proofs.lemmas.Bool.Decides.{nat_tests}
use Rattle.std.proofs.lemmas.Nat.{le_bytes_4}
use Rattle.std.proofs.lemmas.List.{length-take, length-drop, take-append-drop, drop-drop, drop_all, take_all, get_or-drop, get_or-take}
use Rattle.std.proofs.lemmas.List.Concat.{flat_map-cons}
use Rattle.chdr_words.specs.Field.{field, word_at, half_at, words_at, halves_at, words_bytes, halves_bytes}
use Rattle.chdr_words.specs.Header.{bit_of, header_of, header_word, type_of, type_number}
use Rattle.chdr_words.specs.Wire.{time_bytes}
use Rattle.chdr_words.specs.Laws.{IsBytes}
use Rattle.chdr_words.proofs.Laws.{each_at-cons, each_at-none, words_at-front, small_take, words_whole}
use Rattle.chdr_packets.proofs.WritingLemmas.{and_parts}

-- ---- the header's word

bit_back : (n : ℕ) → n < 2 → n ≡ bit_of (eqb n 1)
bit_back n lt = grind (arith, nat_tests)

type_back : (n : ℕ) → n < 8 → type_number (type_of n) ≡ n
type_back zero lt = refl
type_back (suc zero) lt = refl
type_back (suc (suc zero)) lt = refl
type_back (suc (suc (suc zero))) lt = refl
type_back (suc (suc (suc (suc zero)))) lt = refl
type_back (suc (suc (suc (suc (suc zero))))) lt = refl
type_back (suc (suc (suc (suc (suc (suc zero)))))) lt = refl
type_back (suc (suc (suc (suc (suc (suc (suc zero))))))) lt = refl
type_back (suc (suc (suc (suc (suc (suc (suc (suc n)))))))) lt = absurd (omega (arith, lt))

header_back : (w : ℕ) → w < 2 ^ 64 → header_word (header_of w) ≡ w
header_back w lt =
    omega (arith, bit_back (field w 57 57) (omega arith), bit_back (field w 56 56) (omega arith), type_back (field w 55 53) (omega arith))

pub same_header : (v w : ℕ) → v < 2 ^ 64 → w < 2 ^ 64 → header_of v ≡ header_of w → v ≡ w
same_header v w lt lt' e = sym (header_back v lt) ∙ ap header_word e ∙ header_back w lt'

-- ---- bytes by their words

pub same_words : (n : ℕ) (a b : List ℕ) → IsBytes a → IsBytes b → length a ≡ 8 * n → length b ≡ 8 * n → words_at a 0 n ≡ words_at b 0 n → a ≡ b
same_words n a b small small' len len' e = words_whole n a 0 small (omega (arith, len)) ∙ ap words_bytes e ∙ sym (words_whole n b 0 small' (omega (arith, len')))

pub half_at-below : (b : List ℕ) (at : ℕ) → IsBytes b → half_at b at < 2 ^ 32
unfolding half_at
half_at-below b at small =
    let h : (i : ℕ) → get_or (drop at b) i 0 < 256 = λ i. rw get_or-drop (small (at + i)) in
    omega (arith, h 0, h 1, h 2, h 3)

four : (b : List ℕ) (at : ℕ) → IsBytes b → at + 4 ≤ length b → to_le_bytes w32 (half_at b at) ≡ take 4 (drop at b)
unfolding half_at
four b at small le =
    let l : List ℕ = drop at b in
    let h : (i : ℕ) → get_or l i 0 < 256 = λ i. rw get_or-drop (small (at + i)) in
    let t : (i : ℕ) → i < 4 → get_or (take 4 l) i 0 ≡ get_or l i 0 = λ i lt. get_or-take 4 l i 0 lt in
    let len : length (take 4 l) ≡ 4 = omega (arith, length-take 4 l, length-drop at b) in
    let is : from_le_bytes w32 l ≡ from_le_bytes w32 (take 4 l) = rw (t 0 (omega arith), t 1 (omega arith), t 2 (omega arith), t 3 (omega arith)) refl in
    le_bytes_4 (take 4 l) (from_le_bytes w32 l) len (λ i. small_take 4 l i h) is

pub halves_whole : (n : ℕ) (b : List ℕ) (at : ℕ) → IsBytes b → length b ≡ at + 4 * n → drop at b ≡ halves_bytes (halves_at b at n)
halves_whole zero b at small len = rw (each_at-none half_at 4 b at) (drop_all at b (omega arith))
halves_whole (suc n) b at small len =
    let le : at + 4 ≤ length b = omega arith in
    let rest : drop (at + 4) b ≡ halves_bytes (halves_at b (at + 4) n) = halves_whole n b (at + 4) small (omega arith) in
    sym (take-append-drop 4 (drop at b))
    ∙ ap (λ (x : List ℕ). take 4 (drop at b) ++ x) (drop-drop 4 at b ∙ rest)
    ∙ ap (λ (x : List ℕ). x ++ halves_bytes (halves_at b (at + 4) n)) (sym (four b at small le))
    ∙ sym (ap halves_bytes (each_at-cons half_at 4 b at n) ∙ flat_map-cons (to_le_bytes w32) (half_at b at) (halves_at b (at + 4) n))

-- ---- a first word, a time where there is one, and words behind them

-- so many words
abbrev pub words_count : Option ℕ → ℕ → ℕ
words_count None n = suc n
words_count (Some t) n = suc (suc n)

words_size : (time : Option ℕ) (n : ℕ) → 8 * words_count time n ≡ 8 + time_bytes time + 8 * n
words_size None n = omega arith
words_size (Some t) n = omega arith

front_words : (time : Option ℕ) (ws a b : List ℕ) → word_at a 0 ≡ word_at b 0 → IfSome time (λ t. word_at a 8 ≡ t) → IfSome time (λ t. word_at b 8 ≡ t)
    → words_at a (8 + time_bytes time) (length ws) ≡ ws → words_at b (8 + time_bytes time) (length ws) ≡ ws
    → words_at a 0 (words_count time (length ws)) ≡ words_at b 0 (words_count time (length ws))
front_words None ws a b first s t h k = rw (each_at-cons word_at 8 a 0 (length ws), each_at-cons word_at 8 b 0 (length ws), first, h, k) refl
front_words (Some time) ws a b first s t h k =
    rw (each_at-cons word_at 8 a 0 (suc (length ws)), each_at-cons word_at 8 b 0 (suc (length ws)), each_at-cons word_at 8 a 8 (length ws), each_at-cons word_at 8 b 8 (length ws), first, s, t, h, k) refl

words_take : (n m : ℕ) (a : List ℕ) → 8 * n ≡ m → m ≤ length a → words_at (take m a) 0 n ≡ words_at a 0 n
words_take n m a e le =
    let len : length (take m a) ≡ m = omega (arith, length-take m a, le) in
    sym (words_at-front n (take m a) (drop m a) 0 (omega (arith, len, e))) ∙ ap (λ (x : List ℕ). words_at x 0 n) (take-append-drop m a)

pub same_front : (time : Option ℕ) (ws a b : List ℕ) (m : ℕ) → m ≡ 8 + time_bytes time + 8 * length ws → m ≤ length a → m ≤ length b → IsBytes a → IsBytes b
    → word_at a 0 ≡ word_at b 0 → IfSome time (λ t. word_at a 8 ≡ t) → IfSome time (λ t. word_at b 8 ≡ t)
    → words_at a (8 + time_bytes time) (length ws) ≡ ws → words_at b (8 + time_bytes time) (length ws) ≡ ws → take m a ≡ take m b
same_front time ws a b m e le le' small small' first s t h k =
    let n : ℕ = words_count time (length ws) in
    let size : 8 * n ≡ m = words_size time (length ws) ∙ sym e in
    same_words n (take m a) (take m b) (λ i. small_take m a i small) (λ i. small_take m b i small') (omega (arith, length-take m a, le, size)) (omega (arith, length-take m b, le', size))
    (words_take n m a size le ∙ front_words time ws a b first s t h k ∙ sym (words_take n m b size le'))

-- ---- parts put together

pub same_zeros : (a b : List ℕ) → list_all (λ byte. eqb byte 0) a ≡ true → list_all (λ byte. eqb byte 0) b ≡ true → length a ≡ length b → a ≡ b
same_zeros [] [] s t e = refl
same_zeros [] (y ∷ b) s t e = absurd cc
same_zeros (x ∷ a) [] s t e = absurd cc
same_zeros (x ∷ a) (y ∷ b) s t e =
    let f = and_parts (eqb x 0) (list_all (λ byte. eqb byte 0) a) s in
    let g = and_parts (eqb y 0) (list_all (λ byte. eqb byte 0) b) t in
    rw (eqb-true _ _ f.0, eqb-true _ _ g.0) (ap (λ (l : List ℕ). 0 ∷ l) (same_zeros a b f.1 g.1 (omega (arith, e))))

three_parts : (a : List ℕ) (i j k : ℕ) → i ≤ j → j ≤ k → length a ≡ k → take i a ++ (slice_range a i j ++ slice_range a j k) ≡ a
three_parts a i j k le le' len =
    let n : i + (j - i) ≡ j = omega (arith, le) in
    let last : slice_range a j k ≡ drop j a = take_all (k - j) (drop j a) (omega (arith, length-drop j a, len)) in
    ap (λ (x : List ℕ). take i a ++ (slice_range a i j ++ x)) (last ∙ ap (λ (m : ℕ). drop m a) (sym n) ∙ sym (drop-drop (j - i) i a))
    ∙ ap (λ (x : List ℕ). take i a ++ x) (take-append-drop (j - i) (drop i a)) ∙ take-append-drop i a

pub same_parts : (a b : List ℕ) (i j k : ℕ) → i ≤ j → j ≤ k → length a ≡ k → length b ≡ k → take i a ≡ take i b → slice_range a i j ≡ slice_range b i j → slice_range a j k ≡ slice_range b j k → a ≡ b
same_parts a b i j k le le' len len' e f g =
    sym (three_parts a i j k le le' len)
    ∙ ap (λ (x : List ℕ). x ++ (slice_range a i j ++ slice_range a j k)) e
    ∙ ap (λ (x : List ℕ). take i b ++ (x ++ slice_range a j k)) f
    ∙ ap (λ (x : List ℕ). take i b ++ (slice_range b i j ++ x)) g
    ∙ three_parts b i j k le le' len'
