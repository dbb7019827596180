-- The management payload: what is read is spelled so, what is spelled so is read, and what is written is spelled so.
use Rattle.std.proofs.Common.{eq-eqb, ne_eqb, ◌≡◌, ◌≢◌, ℕ, zero, suc, ◌+◌, ◌-◌, ◌*◌, ◌/◌, ◌%◌, ◌^◌, ◌<◌, ◌≤◌, ◌⊎◌, inl, inr, Bool, true, false, cond, eqb, leb, List, [], ◌∷◌, ◌++◌, length, get_or, take, drop, Result, Ok, Err, refl, sym, ap, subst, ◌∙◌, arith}
use Rattle.std.specs.Prelude.{◌&&◌, ◌||◌, IfOk, IsTrue}
use Rattle.std.specs.Int.{w64, to_le_bytes, from_le_bytes}
use Rattle.std.specs.List.{sum_by, AllByRecursion}
use Rattle.std.proofs.lemmas.Bool.{eqb-true, eqb-false, leb-true, le-leb}
use Rattle.std.proofs.lemmas.Nat.{le_bytes_8, from_le_bytes-to_le_bytes_8}
use Rattle.std.proofs.lemmas.List.{append-nil, length-drop, length-take, take-append-drop, drop-drop, get_or-take, get_or-drop, drop_all}
use Rattle.std.proofs.lemmas.List.Elements.{All-from_recursion, recursion_from_All}
use Rattle.std.proofs.lemmas.List.Concat.{flat_map-cons, length-flat_map}
use Rattle.std.proofs.lemmas.List.Sums.{sum_by-cons}
use Rattle.chdr_words.specs.Field.{field, word_at, words_at, words_bytes}
use Rattle.chdr_words.specs.Reads.{Reads}
use Rattle.chdr_words.specs.declared.fault.MsgFault.{MsgFault}
use Rattle.chdr_words.specs.declared.fault.MsgFault.TheVariants.{BadManagement}
use Rattle.chdr_words.specs.declared.management.MgmtOp.{MgmtOp}
use Rattle.chdr_words.specs.declared.management.Management.{Management}
use Rattle.chdr_words.specs.Management.{FitsOp, FitsHop, FitsManagement, SpellsManagement, SpellsNoManagement, op_word, hop_words, hops_words, pending_of, op_of, runs_down, in_front, hops_of, words_of, hop_count, are_hops, management_formed, management_of, management_read, management_plain, management_head, management_words}
use Rattle.chdr_words.specs.Laws.{Below, IsBytes}
use Rattle.chdr_words.proofs.WordLemmas.{word_code, each_at-cons, each_at-none, each_at-written}

abbrev one_if : Bool → ℕ
one_if b = cond b 1 0

abbrev two : ℕ → ℕ → MgmtOp
two code payload = record { code = code; payload = payload }

abbrev made : ℕ → ℕ → ℕ → List (List MgmtOp) → Management
made version width src hops = record { version = version; width = width; src = record { 0 = src }; hops = hops }

abbrev fine : Management → Result Management MsgFault
fine m = Ok m

abbrev bad : Result Management MsgFault
bad = Err BadManagement

-- the fields of word 0
pub record HeadSpells (w version width count src : ℕ) : Type 0 where
  pub below : w < 2 ^ 64
  pub version_is : field w 63 48 ≡ version
  pub width_is : field w 47 45 ≡ width
  pub count_is : field w 25 16 ≡ count
  pub src_is : field w 15 0 ≡ src
  pub plain : field w 44 26 ≡ 0

-- ---- words and bytes

pub word_at-below : (b : List ℕ) (at : ℕ) → IsBytes b → word_at b at < 2 ^ 64
unfolding word_at
word_at-below b at fits =
    let h : (i : ℕ) → get_or (drop at b) i 0 < 256 = λ i. rw get_or-drop (fits (at + i)) in
    omega (arith, h 0, h 1, h 2, h 3, h 4, h 5, h 6, h 7)

words_at-below : (n : ℕ) (b : List ℕ) (at : ℕ) → IsBytes b → Below (2 ^ 64) (words_at b at n)
words_at-below zero b at fits = rw (each_at-none word_at 8 b at) tt
words_at-below (suc n) b at fits = rw (each_at-cons word_at 8 b at n) (word_at-below b at fits, words_at-below n b (at + 8) fits)

pub small_take : (n : ℕ) (l : List ℕ) (i : ℕ) → ((j : ℕ) → get_or l j 0 < 256) → get_or (take n l) i 0 < 256
small_take zero l i h = omega arith
small_take (suc n) [] i h = h i
small_take (suc n) (x ∷ l) zero h = h 0
small_take (suc n) (x ∷ l) (suc i) h = small_take n l i (λ j. h (suc j))

eight : (b : List ℕ) (at : ℕ) → IsBytes b → at + 8 ≤ length b → to_le_bytes w64 (word_at b at) ≡ take 8 (drop at b)
unfolding word_at
eight b at fits le =
    let l : List ℕ = drop at b in
    let h : (i : ℕ) → get_or l i 0 < 256 = λ i. rw get_or-drop (fits (at + i)) in
    let t : (i : ℕ) → i < 8 → get_or (take 8 l) i 0 ≡ get_or l i 0 = λ i lt. get_or-take 8 l i 0 lt in
    let len : length (take 8 l) ≡ 8 = omega (arith, length-take 8 l, length-drop at b) in
    let small : (i : ℕ) → get_or (take 8 l) i 0 < 256 = λ i. small_take 8 l i h in
    let is : from_le_bytes w64 l ≡ from_le_bytes w64 (take 8 l) =
    rw (t 0 (omega arith), t 1 (omega arith), t 2 (omega arith), t 3 (omega arith), t 4 (omega arith), t 5 (omega arith), t 6 (omega arith), t 7 (omega arith)) refl in
    le_bytes_8 (take 8 l) (from_le_bytes w64 l) len small is

-- bytes are the bytes of their words
pub words_whole : (n : ℕ) (b : List ℕ) (at : ℕ) → IsBytes b → length b ≡ at + 8 * n → drop at b ≡ words_bytes (words_at b at n)
words_whole zero b at fits len =
    let le : length b ≤ at = omega arith in
    rw (each_at-none word_at 8 b at) (drop_all at b le)
words_whole (suc n) b at fits len =
    let le : at + 8 ≤ length b = omega arith in
    let rest : drop (at + 8) b ≡ words_bytes (words_at b (at + 8) n) = words_whole n b (at + 8) fits (omega arith) in
    sym (take-append-drop 8 (drop at b))
    ∙ ap (λ (x : List ℕ). take 8 (drop at b) ++ x) (drop-drop 8 at b ∙ rest)
    ∙ ap (λ (x : List ℕ). x ++ words_bytes (words_at b (at + 8) n)) (sym (eight b at fits le))
    ∙ sym (ap words_bytes (each_at-cons word_at 8 b at n) ∙ flat_map-cons (to_le_bytes w64) (word_at b at) (words_at b (at + 8) n))

length-words : (ws : List ℕ) → length (words_bytes ws) ≡ 8 * length ws
length-words ws = length-flat_map (to_le_bytes w64) ws ∙ eights ws
  where
    eights : (ws : List ℕ) → sum_by (λ x. 8) ws ≡ 8 * length ws
    eights [] = refl
    eights (w ∷ ws) = omega (arith, eights ws, sum_by-cons (λ (x : ℕ). 8) w ws)

-- ---- hops that were cut are made of their words

-- the first hop is so long, where the length isn't 0
abbrev First : List (List MgmtOp) → ℕ → Type 0
First hops zero = Unit {0}
First [] (suc n) = ⊥
First (hop ∷ hops) (suc n) = length hop ≡ suc n

-- hops are those of the words behind a word with so many pending
pub record Parts (pending : ℕ) (ws : List ℕ) (hops : List (List MgmtOp)) : Type 0 where
  pub words : hops_words hops ≡ ws
  pub each : AllByRecursion FitsHop hops
  pub count : length hops ≡ hop_count ws
  pub first : First hops pending

op_fits : (w : ℕ) → w < 2 ^ 64 → FitsOp (op_of w)
op_fits w below = record { code = omega arith; payload = omega arith }

op_again : (w p : ℕ) → w < 2 ^ 64 → pending_of w ≡ p → op_word (op_of w) p ≡ w
op_again w p below is = omega (arith, is)

and_parts : (a b : Bool) → (a && b) ≡ true → (a ≡ true) × (b ≡ true)
and_parts true b e = (refl, e)
and_parts false b e = absurd cc

or_cases : (a b : Bool) → (a || b) ≡ true → (a ≡ true) ⊎ (b ≡ true)
or_cases true b e = inl refl
or_cases false b e = inr e

-- where the count goes on it is one less
goes_on : (pending next : ℕ) → (eqb pending 0 || eqb pending (next + 1)) ≡ true → pending ≢ 0 → pending ≡ suc next
goes_on pending next e some =
    elim (or_cases (eqb pending 0) (eqb pending (next + 1)) e) [
      | inl none ↦ absurd (some (eqb-true _ _ none))
      | inr same ↦ omega (arith, eqb-true pending (next + 1) same)
    ]

first_alone : (pending next : ℕ) (op : MgmtOp) (hops : List (List MgmtOp)) → (eqb pending 0 || eqb pending (next + 1)) ≡ true → next ≡ 0 → First ((op ∷ []) ∷ hops) pending
first_alone zero next op hops e none = tt
first_alone (suc p) next op hops e none = let s : suc p ≡ suc next = goes_on (suc p) next e (λ h. absurd (omega (arith, h))) in omega (arith, s)

first_more : (pending next : ℕ) (op : MgmtOp) (hop : List MgmtOp) (hops : List (List MgmtOp)) → (eqb pending 0 || eqb pending (next + 1)) ≡ true → length hop ≡ next → First ((op ∷ hop) ∷ hops) pending
first_more zero next op hop hops e long = tt
first_more (suc p) next op hop hops e long = let s : suc p ≡ suc next = goes_on (suc p) next e (λ h. absurd (omega (arith, h))) in omega (arith, s, long)

cut_alone : (pending w : ℕ) (ws : List ℕ) (hops : List (List MgmtOp)) → w < 2 ^ 64 → (eqb pending 0 || eqb pending (pending_of w + 1)) ≡ true
    → eqb (pending_of w) 0 ≡ true → Parts (pending_of w) ws hops → Parts pending (w ∷ ws) ((op_of w ∷ []) ∷ hops)
cut_alone pending w ws hops below follows none p =
    let zero_is : pending_of w ≡ 0 = eqb-true _ _ none in
    let fits : FitsHop (op_of w ∷ []) = record { some = omega arith; many = omega arith; each = All-from_recursion FitsOp (op_of w ∷ []) (op_fits w below, tt) } in
    record {
      words = flat_map-cons hop_words (op_of w ∷ []) hops ∙ ap (λ (x : ℕ). x ∷ hops_words hops) (op_again w 0 below zero_is) ∙ ap (λ (x : List ℕ). w ∷ x) p.words;
      each = (fits, p.each);
      count = omega (arith, p.count, sum_by-cons (λ (x : ℕ). cond (eqb (pending_of x) 0) 1 0) w ws, ap one_if none);
      first = first_alone pending (pending_of w) (op_of w) hops follows zero_is;
    }

cut_in_front : (pending w : ℕ) (ws : List ℕ) (hops : List (List MgmtOp)) → w < 2 ^ 64 → (eqb pending 0 || eqb pending (pending_of w + 1)) ≡ true
    → (next : ℕ) → next ≡ pending_of w → next ≢ 0 → First hops next → Parts (pending_of w) ws hops → Parts pending (w ∷ ws) (in_front (op_of w) hops)
cut_in_front pending w ws hops below follows zero is some first p = absurd (some refl)
cut_in_front pending w ws [] below follows (suc q) is some first p = absurd first
cut_in_front pending w ws (hop ∷ hops) below follows (suc q) is some first p =
    let long : length hop ≡ pending_of w = first ∙ is in
    let fits : FitsHop (op_of w ∷ hop) = record {
      some = omega arith;
      many = omega (arith, long);
      each = All-from_recursion FitsOp (op_of w ∷ hop) (op_fits w below, recursion_from_All FitsOp hop p.each.0.each);
    } in
    let nonzero : eqb (pending_of w) 0 ≡ false = ne_eqb (pending_of w) 0 (λ h. some (is ∙ h)) in
    record {
      words = flat_map-cons hop_words (op_of w ∷ hop) hops ∙ ap (λ (x : ℕ). x ∷ (hop_words hop ++ hops_words hops)) (op_again w (length hop) below (sym long))
          ∙ ap (λ (x : List ℕ). w ∷ x) (sym (flat_map-cons hop_words hop hops) ∙ p.words);
      each = (fits, p.each.1);
      count = omega (arith, p.count, sum_by-cons (λ (x : ℕ). cond (eqb (pending_of x) 0) 1 0) w ws, ap one_if nonzero);
      first = first_more pending (pending_of w) (op_of w) hop hops follows long;
    }

pub cut_words : (pending : ℕ) (ws : List ℕ) → Below (2 ^ 64) ws → runs_down pending ws ≡ true → Parts pending ws (hops_of ws)
cut_words pending [] below e = let none : 0 ≡ pending = sym (eqb-true _ _ e) in record { words = refl; each = tt; count = refl; first = subst (First []) none tt }
cut_words pending (w ∷ ws) below e =
    let both = and_parts (eqb pending 0 || eqb pending (pending_of w + 1)) (runs_down (pending_of w) ws) e in
    let p = cut_words (pending_of w) ws below.1 both.1 in
    cases (eqb (pending_of w) 0) refl both.0 p
  where
    cases : (b : Bool) → eqb (pending_of w) 0 ≡ b → (eqb pending 0 || eqb pending (pending_of w + 1)) ≡ true → Parts (pending_of w) ws (hops_of ws)
        → Parts pending (w ∷ ws) (cond b ((op_of w ∷ []) ∷ hops_of ws) (in_front (op_of w) (hops_of ws)))
    cases true is follows p = cut_alone pending w ws (hops_of ws) below.0 follows is p
    cases false is follows p = cut_in_front pending w ws (hops_of ws) below.0 follows (pending_of w) refl (eqb-false _ _ is) p.first p

-- ---- the words of hops are cut into these hops

pending_back : (op : MgmtOp) (p : ℕ) → p < 256 → pending_of (op_word op p) ≡ p
pending_back op p small = omega arith

op_back : (op : MgmtOp) (p : ℕ) → FitsOp op → p < 256 → op_of (op_word op p) ≡ op
op_back op p fits small =
    let code : field (op_word op p) 15 8 ≡ op.code = omega (arith, fits.code) in
    let payload : field (op_word op p) 63 16 ≡ op.payload = omega (arith, fits.code, fits.payload) in
    same code payload
  where
    same : {a b c d : ℕ} → a ≡ b → c ≡ d → two a c ≡ two b d
    same h g = cc

op_below : (op : MgmtOp) (p : ℕ) → FitsOp op → p < 256 → op_word op p < 2 ^ 64
op_below op p fits small = omega (arith, fits.code, fits.payload)

-- what a hop's words do in front of others
pub record InFront (hop : List MgmtOp) (rest : List ℕ) : Type 0 where
  pub runs : (pending : ℕ) → (pending ≡ 0) ⊎ (pending ≡ length hop) → runs_down pending (hop_words hop ++ rest) ≡ runs_down 0 rest
  pub cut : hops_of (hop_words hop ++ rest) ≡ hop ∷ hops_of rest
  pub count : hop_count (hop_words hop ++ rest) ≡ 1 + hop_count rest

or_right : (a b : Bool) → b ≡ true → (a || b) ≡ true
or_right true b e = refl
or_right false b e = e

follows_so : (pending next : ℕ) → (pending ≡ 0) ⊎ (pending ≡ suc next) → (eqb pending 0 || eqb pending (next + 1)) ≡ true
follows_so pending next (inl none) = rw none refl
follows_so pending next (inr same) = or_right (eqb pending 0) (eqb pending (next + 1)) (eq-eqb pending (next + 1) (omega (arith, same)))

put_hop : (op : MgmtOp) (ops : List MgmtOp) (rest : List ℕ) → AllByRecursion FitsOp (op ∷ ops) → length ops < 256 → InFront (op ∷ ops) rest
put_hop op [] rest fits small =
    let none : pending_of (op_word op 0) ≡ 0 = pending_back op 0 small in
    let test : eqb (pending_of (op_word op 0)) 0 ≡ true = eq-eqb _ _ none in
    record {
      runs = λ pending h. rw (none, follows_so pending 0 h) refl;
      cut = rw (test, op_back op 0 fits.0 small) refl;
      count = omega (arith, sum_by-cons (λ (x : ℕ). cond (eqb (pending_of x) 0) 1 0) (op_word op 0) rest, ap one_if test);
    }
put_hop op (next ∷ ops) rest fits small =
    let p = put_hop next ops rest fits.1 (omega arith) in
    let n : ℕ = suc (length ops) in
    let is : pending_of (op_word op n) ≡ n = pending_back op n small in
    let test : eqb (pending_of (op_word op n)) 0 ≡ false = ne_eqb _ _ (λ h. absurd (omega (arith, is, h))) in
    let others : List ℕ = hop_words (next ∷ ops) ++ rest in
    record {
      runs = λ pending h. rw (is, follows_so pending n h) (p.runs n (inr refl));
      cut = rw test (ap (in_front (op_of (op_word op n))) p.cut ∙ ap (λ (x : MgmtOp). (x ∷ next ∷ ops) ∷ hops_of rest) (op_back op n fits.0 small));
      count = omega (arith, p.count, sum_by-cons (λ (x : ℕ). cond (eqb (pending_of x) 0) 1 0) (op_word op n) others, ap one_if test);
    }

-- the words of hops that fit
pub record Put (hops : List (List MgmtOp)) : Type 0 where
  pub runs : runs_down 0 (hops_words hops) ≡ true
  pub cut : hops_of (hops_words hops) ≡ hops
  pub count : hop_count (hops_words hops) ≡ length hops
  pub below : Below (2 ^ 64) (hops_words hops)

hop_below : (hop : List MgmtOp) (rest : List ℕ) → AllByRecursion FitsOp hop → length hop ≤ 256 → Below (2 ^ 64) rest → Below (2 ^ 64) (hop_words hop ++ rest)
hop_below [] rest fits small below = below
hop_below (op ∷ ops) rest fits small below = (op_below op (length ops) fits.0 (omega arith), hop_below ops rest fits.1 (omega arith) below)

pub put_hops : (hops : List (List MgmtOp)) → AllByRecursion FitsHop hops → Put hops
put_hops [] fits = record { runs = refl; cut = refl; count = refl; below = tt }
put_hops ([] ∷ hops) fits = absurd (omega (arith, fits.0.some))
put_hops ((op ∷ ops) ∷ hops) fits =
    let p = put_hops hops fits.1 in
    let each = recursion_from_All FitsOp (op ∷ ops) fits.0.each in
    let q = put_hop op ops (hops_words hops) each (omega (arith, fits.0.many)) in
    let e : hops_words ((op ∷ ops) ∷ hops) ≡ hop_words (op ∷ ops) ++ hops_words hops = flat_map-cons hop_words (op ∷ ops) hops in
    record {
      runs = ap (runs_down 0) e ∙ q.runs 0 (inl refl) ∙ p.runs;
      cut = ap hops_of e ∙ q.cut ∙ ap (λ (x : List (List MgmtOp)). (op ∷ ops) ∷ x) p.cut;
      count = ap hop_count e ∙ q.count ∙ omega (arith, p.count);
      below = subst (Below (2 ^ 64)) (sym e) (hop_below (op ∷ ops) (hops_words hops) each fits.0.many p.below);
    }

-- ---- the whole payload

pub management_takes : (b : List ℕ) → IsBytes b → management_formed b ≡ true → SpellsManagement (management_of b) b
management_takes b fits formed =
    let a = and_parts (leb 8 (length b) && eqb (length b % 8) 0) (are_hops (field (word_at b 0) 25 16) (words_of b)) formed in
    let c = and_parts (leb 8 (length b)) (eqb (length b % 8) 0) a.0 in
    let long : 8 ≤ length b = leb-true _ _ c.0 in
    let whole : length b % 8 ≡ 0 = eqb-true _ _ c.1 in
    let d = and_parts (runs_down 0 (words_of b)) (eqb (hop_count (words_of b)) (field (word_at b 0) 25 16)) a.1 in
    let n : ℕ = length b / 8 - 1 in
    let len : length b ≡ 8 + 8 * n = omega (arith, long, whole) in
    let p = cut_words 0 (words_of b) (words_at-below n b 8 fits) d.0 in
    record {
      head = long;
      version = refl;
      width = refl;
      count = sym (p.count ∙ eqb-true _ _ d.1);
      src = refl;
      hops = words_whole n b 8 fits len ∙ ap words_bytes (sym p.words);
      each = All-from_recursion FitsHop (hops_of (words_of b)) p.each;
    }

pub management_again : (b : List ℕ) (m : Management) → SpellsManagement m b → management_read b ≡ Ok m
management_again b m s =
    let p = put_hops m.hops (recursion_from_All FitsHop m.hops s.each) in
    let ws : List ℕ = hops_words m.hops in
    let size : length b ≡ 8 + 8 * length ws = omega (arith, s.head, length-drop 8 b, ap length s.hops, length-words ws) in
    let n_is : length b / 8 - 1 ≡ length ws = omega (arith, size) in
    let front : length (take 8 b) ≡ 8 = omega (arith, length-take 8 b, s.head) in
    let whole : b ≡ take 8 b ++ (words_bytes ws ++ []) = sym (take-append-drop 8 b) ∙ ap (λ (x : List ℕ). take 8 b ++ x) (s.hops ∙ sym (append-nil (words_bytes ws))) in
    let read : words_at (take 8 b ++ (words_bytes ws ++ [])) (length (take 8 b)) (length ws) ≡ ws =
    each_at-written (to_le_bytes w64) word_at 8 (2 ^ 64) word_code ws (take 8 b) [] p.below in
    let words : words_of b ≡ ws = ap (λ (k : ℕ). words_at b 8 k) n_is ∙ ap (λ (x : List ℕ). words_at x 8 (length ws)) whole ∙ ap (λ (k : ℕ). words_at (take 8 b ++ (words_bytes ws ++ [])) k (length ws)) (sym front) ∙ read in
    let long : leb 8 (length b) ≡ true = le-leb _ _ s.head in
    let eights : eqb (length b % 8) 0 ≡ true = eq-eqb _ _ (omega (arith, size)) in
    let count : eqb (hop_count (words_of b)) (field (word_at b 0) 25 16) ≡ true = eq-eqb _ _ (ap hop_count words ∙ p.count ∙ sym s.count) in
    let runs : runs_down 0 (words_of b) ≡ true = ap (runs_down 0) words ∙ p.runs in
    let formed : management_formed b ≡ true = rw (long, eights, runs, count) refl in
    let cut : hops_of (words_of b) ≡ m.hops = ap hops_of words ∙ p.cut in
    rw formed (ap (λ (x : Management). Ok x) (rebuilt _ m.version _ m.width _ m.src.0 _ m.hops s.version s.width s.src cut))
  where
    rebuilt : (a a' b b' c c' : ℕ) (h h' : List (List MgmtOp)) → a ≡ a' → b ≡ b' → c ≡ c' → h ≡ h' → made a b c h ≡ made a' b' c' h'
    rebuilt a a' b b' c c' h h' e1 e2 e3 e4 = cc

ok_is : (x y : Management) → fine x ≡ fine y → x ≡ y
ok_is x y e = cc

ok_no : (x : Management) → bad ≡ fine x → ⊥
ok_no x e = absurd cc

pub management_reads : (b : List ℕ) (r : Result Management MsgFault) → IsBytes b → Reads r (management_read b) → IfOk r (λ m. SpellsManagement m b)
management_reads b (Err e) fits given = tt
management_reads b (Ok m) fits given = cases (management_formed b) refl
  where
    cases : (t : Bool) → management_formed b ≡ t → SpellsManagement m b
    cases true formed = let e : management_of b ≡ m = ok_is (management_of b) m (sym (ap (λ (t : Bool). cond t (Ok (management_of b)) (Err BadManagement)) formed) ∙ given) in subst (λ (x : Management). SpellsManagement x b) e (management_takes b fits formed)
    cases false formed = absurd (ok_no m (sym (ap (λ (t : Bool). cond t (Ok (management_of b)) (Err BadManagement)) formed) ∙ given))

pub management_accepts : (b : List ℕ) (r : Result Management MsgFault) (m : Management) → SpellsManagement m b → Reads r (management_read b) → Reads r (Ok m)
management_accepts b r m s given = subst (λ (x : Result Management MsgFault). Reads r x) (management_again b m s) given

bad_no : (x : Management) → bad ≡ fine x → ⊥
bad_no x e = absurd cc

-- what is refused is no spelling
pub management_refused : (b : List ℕ) (r : Result Management MsgFault) → Reads r (management_read b) → r ≡ Err BadManagement → SpellsNoManagement b
management_refused b r given is = λ m s.
    let read : management_read b ≡ bad = subst (λ (x : Result Management MsgFault). Reads x (management_read b)) is given in
    bad_no m (sym read ∙ management_again b m s)

-- ---- what is written

head_spells : (version width count src : ℕ) → version < 2 ^ 16 → width < 2 ^ 3 → count ≤ 1023 → src < 2 ^ 16 → HeadSpells (version * 2 ^ 48 + width * 2 ^ 45 + count * 2 ^ 16 + src) version width count src
head_spells version width count src h1 h2 h3 h4 = record { below = omega arith; version_is = omega arith; width_is = omega arith; count_is = omega arith; src_is = omega arith; plain = omega arith }

written_head : (head : ℕ) (ws : List ℕ) → head < 2 ^ 64 → word_at (words_bytes (head ∷ ws)) 0 ≡ head
unfolding word_at
written_head head ws below = ap (λ (x : List ℕ). word_at x 0) (flat_map-cons (to_le_bytes w64) head ws) ∙ from_le_bytes-to_le_bytes_8 head below

written_rest : (head : ℕ) (ws : List ℕ) → drop 8 (words_bytes (head ∷ ws)) ≡ words_bytes ws
written_rest head ws = ap (λ (x : List ℕ). drop 8 x) (flat_map-cons (to_le_bytes w64) head ws)

pub management_spelled : (m : Management) → FitsManagement m → m.version < 2 ^ 16 → m.src.0 < 2 ^ 16
    → SpellsManagement m (words_bytes (management_words m)) × IsTrue (management_plain (words_bytes (management_words m)))
management_spelled m fits version src =
    let h = head_spells m.version m.width (length m.hops) m.src.0 version fits.width fits.many src in
    let first : word_at (words_bytes (management_words m)) 0 ≡ management_head m = written_head (management_head m) (hops_words m.hops) h.below in (
      record {
        head = omega (arith, length-words (management_words m));
        version = rw first h.version_is;
        width = rw first h.width_is;
        count = rw first h.count_is;
        src = rw first h.src_is;
        hops = written_rest (management_head m) (hops_words m.hops);
        each = fits.each;
      },
      eq-eqb _ _ (rw first h.plain),
    )
