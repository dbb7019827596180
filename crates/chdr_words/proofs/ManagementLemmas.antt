-- The hops of a management payload, word by word.
use Rattle.std.proofs.Common.{eq-eqb, ne_eqb, ◌≡◌, ◌≢◌, ℕ, suc, add-one, ◌+◌, ◌-◌, ◌*◌, ◌%◌, ◌<◌, ◌≤◌, Bool, true, false, cond, eqb, List, [], ◌∷◌, ◌++◌, length, get_or, drop, refl, sym, ap, subst, ◌∙◌, append_assoc, arith}
use Rattle.std.specs.Prelude.{◌&&◌, ◌||◌}
use Rattle.std.specs.Int.{w64, to_le_bytes}
use Rattle.std.proofs.Math.Seq.{drop-cons}
use Rattle.std.proofs.lemmas.Bool.{eqb-true}
use Rattle.std.proofs.lemmas.List.{append-nil, length-drop}
use Rattle.std.proofs.lemmas.List.Concat.{flat_map-cons}
use Rattle.std.proofs.lemmas.List.Sums.{sum_by-cons}
use Rattle.chdr_words.specs.Field.{word_at, words_at, words_bytes}
use Rattle.chdr_words.specs.declared.management.MgmtOp.{MgmtOp}
use Rattle.chdr_words.specs.Management.{op_word, hop_words, pending_of, op_of, runs_down, in_front, hops_of, hop_count, are_hops}
use Rattle.chdr_words.proofs.WordLemmas.{each_at-cons, each_at-none}

-- the words from one on: it and the others
pub words_next : (b : List ℕ) (n k : ℕ) → k < n → words_at b (8 + 8 * k) (n - k) ≡ word_at b (8 + 8 * k) ∷ words_at b (8 + 8 * (k + 1)) (n - (k + 1))
words_next b n k lt =
    let count : n - k ≡ suc (n - (k + 1)) = omega arith in
    let at : 8 + 8 * k + 8 ≡ 8 + 8 * (k + 1) = omega arith in
    rw count (each_at-cons word_at 8 b (8 + 8 * k) (n - (k + 1)) ∙ ap (λ (x : ℕ). word_at b (8 + 8 * k) ∷ words_at b x (n - (k + 1))) at)

-- ---- writing a hop

pub hop_step : (hop : List MgmtOp) (i pending : ℕ) (op : MgmtOp) (out all : List ℕ) → i < length hop → op ≡ get_or hop i op → pending + (i + 1) ≡ length hop
    → out ++ words_bytes (hop_words (drop i hop)) ≡ all
    → (out ++ to_le_bytes w64 (op_word op pending)) ++ words_bytes (hop_words (drop (i + 1) hop)) ≡ all
hop_step hop i pending op out all lt is count so_far =
    let left : length (drop (i + 1) hop) ≡ pending = omega (arith, length-drop (i + 1) hop) in
    let next : drop i hop ≡ op ∷ drop (i + 1) hop = drop-cons hop i op lt ∙ rw (← is, add-one) refl in
    let words : hop_words (drop i hop) ≡ op_word op pending ∷ hop_words (drop (i + 1) hop) =
    ap hop_words next ∙ ap (λ (n : ℕ). op_word op n ∷ hop_words (drop (i + 1) hop)) left in
    append_assoc out (to_le_bytes w64 (op_word op pending)) (words_bytes (hop_words (drop (i + 1) hop)))
    ∙ ap (λ (x : List ℕ). out ++ x) (sym (ap words_bytes words ∙ flat_map-cons (to_le_bytes w64) (op_word op pending) (hop_words (drop (i + 1) hop)))) ∙ so_far

-- ---- testing the hops

-- the test of the words so far leads to that of the rest
pub record Tested (b : List ℕ) (n k pending hops : ℕ) : Type 0 where
  pub runs : runs_down pending (words_at b (8 + 8 * k) (n - k)) ≡ runs_down 0 (words_at b 8 n)
  pub counts : hops + hop_count (words_at b (8 + 8 * k) (n - k)) ≡ hop_count (words_at b 8 n)
  pub below : hops ≤ k

pub tested_none : (b : List ℕ) (n : ℕ) → Tested b n 0 0 0
tested_none b n = let e : n - 0 ≡ n = omega arith in record { runs = rw e refl; counts = rw e (omega arith); below = omega arith }

and_true : (a b : Bool) → a ≡ true → (a && b) ≡ b
and_true true b e = refl
and_true false b e = absurd cc

and_false : (a b : Bool) → a ≡ false → (a && b) ≡ false
and_false true b e = absurd cc
and_false false b e = refl

pub tested_more : (b : List ℕ) (n k pending hops more : ℕ) → k < n → (eqb pending 0 || eqb pending (pending_of (word_at b (8 + 8 * k)) + 1)) ≡ true
    → more ≡ hops + cond (eqb (pending_of (word_at b (8 + 8 * k))) 0) 1 0
    → Tested b n k pending hops → Tested b n (k + 1) (pending_of (word_at b (8 + 8 * k))) more
tested_more b n k pending hops more lt follows count t =
    let w = word_at b (8 + 8 * k) in
    let rest = words_at b (8 + 8 * (k + 1)) (n - (k + 1)) in
    let next = words_next b n k lt in
    record {
      runs = sym (and_true _ (runs_down (pending_of w) rest) follows) ∙ sym (ap (runs_down pending) next) ∙ t.runs;
      counts = rw count (omega (arith, t.counts, ap hop_count next, sum_by-cons (λ (x : ℕ). cond (eqb (pending_of x) 0) 1 0) w rest));
      below = rw count (step (eqb (pending_of w) 0));
    }
  where
    step : (c : Bool) → hops + cond c 1 0 ≤ k + 1
    step true = omega (arith, t.below)
    step false = omega (arith, t.below)

pub tested_fails : (b : List ℕ) (n k pending hops count : ℕ) → k < n → (eqb pending 0 || eqb pending (pending_of (word_at b (8 + 8 * k)) + 1)) ≡ false
    → Tested b n k pending hops → false ≡ are_hops count (words_at b 8 n)
tested_fails b n k pending hops count lt follows t =
    let failed : runs_down 0 (words_at b 8 n) ≡ false = sym t.runs ∙ ap (runs_down pending) (words_next b n k lt) ∙ and_false _ _ follows in
    rw failed refl

pub tested_all : (b : List ℕ) (n k pending hops count : ℕ) → n ≤ k → Tested b n k pending hops → (eqb pending 0 && eqb hops count) ≡ are_hops count (words_at b 8 n)
tested_all b n k pending hops count le t =
    let none : n - k ≡ 0 = omega arith in
    let rest : words_at b (8 + 8 * k) (n - k) ≡ [] = rw none (each_at-none word_at 8 b (8 + 8 * k)) in
    let runs : eqb pending 0 ≡ runs_down 0 (words_at b 8 n) = sym (ap (runs_down pending) rest) ∙ t.runs in
    let counts : hops ≡ hop_count (words_at b 8 n) = omega (arith, t.counts, ap hop_count rest) in
    rw (← runs, ← counts) refl

-- ---- cutting the words into hops

-- operations in front of the first hop
abbrev pub behind : List MgmtOp → List (List MgmtOp) → List (List MgmtOp)
behind [] hops = hops
behind (op ∷ ops) hops = in_front op (behind ops hops)

behind-push : (ops : List MgmtOp) (op : MgmtOp) (hops : List (List MgmtOp)) → behind (ops ++ op ∷ []) hops ≡ behind ops (in_front op hops)
behind-push [] op hops = refl
behind-push (x ∷ ops) op hops = ap (in_front x) (behind-push ops op hops)

behind-end : (ops : List MgmtOp) (op : MgmtOp) (hops : List (List MgmtOp)) → behind ops ((op ∷ []) ∷ hops) ≡ (ops ++ op ∷ []) ∷ hops
behind-end [] op hops = refl
behind-end (x ∷ ops) op hops = ap (in_front x) (behind-end ops op hops)

behind-nil : (op : MgmtOp) (ops : List MgmtOp) → behind (op ∷ ops) [] ≡ (op ∷ ops) ∷ []
behind-nil op [] = refl
behind-nil op (x ∷ ops) = ap (in_front op) (behind-nil x ops)

-- the hops so far, the operations of the next, and the words that are left
pub record Cut (b : List ℕ) (n k : ℕ) (hops : List (List MgmtOp)) (hop : List MgmtOp) : Type 0 where
  pub is : hops ++ behind hop (hops_of (words_at b (8 + 8 * k) (n - k))) ≡ hops_of (words_at b 8 n)

pub cut_none : (b : List ℕ) (n : ℕ) → Cut b n 0 [] []
cut_none b n = let e : n - 0 ≡ n = omega arith in record { is = rw e refl }

pub cut_more : (b : List ℕ) (n k : ℕ) (hops : List (List MgmtOp)) (hop : List MgmtOp) → k < n → eqb (pending_of (word_at b (8 + 8 * k))) 0 ≡ false
    → Cut b n k hops hop → Cut b n (k + 1) hops (hop ++ op_of (word_at b (8 + 8 * k)) ∷ [])
cut_more b n k hops hop lt pending c =
    let rest = words_at b (8 + 8 * (k + 1)) (n - (k + 1)) in
    let w = word_at b (8 + 8 * k) in
    let cut : hops_of (words_at b (8 + 8 * k) (n - k)) ≡ in_front (op_of w) (hops_of rest) = ap hops_of (words_next b n k lt) ∙ ap (λ (t : Bool). cond t ((op_of w ∷ []) ∷ hops_of rest) (in_front (op_of w) (hops_of rest))) pending in
    record { is = ap (λ (x : List (List MgmtOp)). hops ++ x) (behind-push hop (op_of w) (hops_of rest) ∙ sym (ap (behind hop) cut)) ∙ c.is }

pub cut_end : (b : List ℕ) (n k : ℕ) (hops : List (List MgmtOp)) (hop : List MgmtOp) → k < n → eqb (pending_of (word_at b (8 + 8 * k))) 0 ≡ true
    → Cut b n k hops hop → Cut b n (k + 1) (hops ++ (hop ++ op_of (word_at b (8 + 8 * k)) ∷ []) ∷ []) []
cut_end b n k hops hop lt pending c =
    let rest = words_at b (8 + 8 * (k + 1)) (n - (k + 1)) in
    let w = word_at b (8 + 8 * k) in
    let cut : hops_of (words_at b (8 + 8 * k) (n - k)) ≡ (op_of w ∷ []) ∷ hops_of rest = ap hops_of (words_next b n k lt) ∙ ap (λ (t : Bool). cond t ((op_of w ∷ []) ∷ hops_of rest) (in_front (op_of w) (hops_of rest))) pending in
    record {
      is = append_assoc hops ((hop ++ op_of w ∷ []) ∷ []) (hops_of rest)
          ∙ ap (λ (x : List (List MgmtOp)). hops ++ x) (sym (ap (behind hop) cut ∙ behind-end hop (op_of w) (hops_of rest))) ∙ c.is;
    }

pub cut_all : (b : List ℕ) (n k : ℕ) (hops : List (List MgmtOp)) → n ≤ k → Cut b n k hops [] → hops ≡ hops_of (words_at b 8 n)
cut_all b n k hops le c =
    let none : n - k ≡ 0 = omega arith in
    let rest : words_at b (8 + 8 * k) (n - k) ≡ [] = rw none (each_at-none word_at 8 b (8 + 8 * k)) in
    sym (append-nil hops) ∙ sym (ap (λ (x : List ℕ). hops ++ hops_of x) rest) ∙ c.is

pub cut_open : (b : List ℕ) (n k : ℕ) (hops : List (List MgmtOp)) (hop : List MgmtOp) → n ≤ k → eqb (length hop) 0 ≡ false → Cut b n k hops hop → hops ++ hop ∷ [] ≡ hops_of (words_at b 8 n)
cut_open b n k hops [] le some c = absurd cc
cut_open b n k hops (op ∷ ops) le some c =
    let none : n - k ≡ 0 = omega arith in
    let rest : words_at b (8 + 8 * k) (n - k) ≡ [] = rw none (each_at-none word_at 8 b (8 + 8 * k)) in
    ap (λ (x : List (List MgmtOp)). hops ++ x) (sym (ap (λ (x : List ℕ). behind (op ∷ ops) (hops_of x)) rest ∙ behind-nil op ops)) ∙ c.is

-- ---- the same steps, over the values that calls gave

pub tested_fails_at : (b : List ℕ) (n k pending hops count word : ℕ) → k < n → word ≡ word_at b (8 + 8 * k) → (eqb pending 0 || eqb pending (word % 256 + 1)) ≡ false
    → Tested b n k pending hops → false ≡ are_hops count (words_at b 8 n)
tested_fails_at b n k pending hops count word lt is follows t =
    let e : pending_of (word_at b (8 + 8 * k)) ≡ word % 256 = rw (← is) (omega arith) in
    tested_fails b n k pending hops count lt (rw e follows) t

pub tested_more_at : (b : List ℕ) (n k pending hops word more : ℕ) → k < n → word ≡ word_at b (8 + 8 * k) → (eqb pending 0 || eqb pending (word % 256 + 1)) ≡ true
    → more ≡ cond (eqb (word % 256) 0) 1 0 → Tested b n k pending hops → Tested b n (k + 1) (word % 256) (hops + more)
tested_more_at b n k pending hops word more lt is follows more_is t =
    let e : pending_of (word_at b (8 + 8 * k)) ≡ word % 256 = rw (← is) (omega arith) in
    let count : hops + more ≡ hops + cond (eqb (pending_of (word_at b (8 + 8 * k))) 0) 1 0 = rw (e, more_is) refl in
    subst (λ (p : ℕ). Tested b n (k + 1) p (hops + more)) e (tested_more b n k pending hops (hops + more) lt (rw e follows) count t)

pub tested_last : (b : List ℕ) (n k pending hops count : ℕ) → n ≤ k → pending ≡ 0 → Tested b n k pending hops → eqb hops count ≡ are_hops count (words_at b 8 n)
tested_last b n k pending hops count le none t = sym (and_true (eqb pending 0) (eqb hops count) (eq-eqb pending 0 none)) ∙ tested_all b n k pending hops count le t

pub tested_open : (b : List ℕ) (n k pending hops count : ℕ) → n ≤ k → pending ≢ 0 → Tested b n k pending hops → eqb pending 0 ≡ are_hops count (words_at b 8 n)
tested_open b n k pending hops count le some t =
    let opened : eqb pending 0 ≡ false = ne_eqb pending 0 some in
    opened ∙ sym (and_false (eqb pending 0) (eqb hops count) opened) ∙ tested_all b n k pending hops count le t

pub cut_more_at : (b : List ℕ) (n k word : ℕ) (hops hops2 : List (List MgmtOp)) (hop hop2 hop3 : List MgmtOp) (op : MgmtOp) → k < n → word ≡ word_at b (8 + 8 * k) → word % 256 ≢ 0
    → op ≡ op_of word → hop2 ≡ hop ++ op ∷ [] → hops2 ≡ hops → hop3 ≡ hop2 → Cut b n k hops hop → Cut b n (k + 1) hops2 hop3
cut_more_at b n k word hops hops2 hop hop2 hop3 op lt is some op_is hop_is hops_is hop3_is c =
    let test : eqb (pending_of (word_at b (8 + 8 * k))) 0 ≡ false = rw (← is) (ne_eqb (pending_of word) 0 (λ h. some (omega (arith, h)))) in
    rw (hops_is, hop3_is, hop_is, op_is, is) (cut_more b n k hops hop lt test c)

pub cut_end_at : (b : List ℕ) (n k word : ℕ) (hops hops2 : List (List MgmtOp)) (hop hop2 hop3 : List MgmtOp) (op : MgmtOp) → k < n → word ≡ word_at b (8 + 8 * k) → word % 256 ≡ 0
    → op ≡ op_of word → hop2 ≡ hop ++ op ∷ [] → hops2 ≡ hops ++ hop2 ∷ [] → hop3 ≡ [] → Cut b n k hops hop → Cut b n (k + 1) hops2 hop3
cut_end_at b n k word hops hops2 hop hop2 hop3 op lt is none op_is hop_is hops_is new c =
    let test : eqb (pending_of (word_at b (8 + 8 * k))) 0 ≡ true = rw (← is) (eq-eqb (pending_of word) 0 (omega (arith, none))) in
    rw (hops_is, new, hop_is, op_is, is) (cut_end b n k hops hop lt test c)

pub cut_all_at : (b : List ℕ) (n k : ℕ) (hops hops2 : List (List MgmtOp)) (hop : List MgmtOp) → n ≤ k → eqb (length hop) 0 ≡ true → hops2 ≡ hops → Cut b n k hops hop → hops2 ≡ hops_of (words_at b 8 n)
cut_all_at b n k hops hops2 [] le none is c = is ∙ cut_all b n k hops le c
cut_all_at b n k hops hops2 (op ∷ ops) le none is c = absurd (omega (arith, eqb-true (suc (length ops)) 0 none))

pub cut_open_at : (b : List ℕ) (n k : ℕ) (hops hops2 : List (List MgmtOp)) (hop : List MgmtOp) → n ≤ k → eqb (length hop) 0 ≡ false → hops2 ≡ hops ++ hop ∷ [] → Cut b n k hops hop → hops2 ≡ hops_of (words_at b 8 n)
cut_open_at b n k hops hops2 hop le some is c = is ∙ cut_open b n k hops hop le some c

pub hop_step_at : (hop : List MgmtOp) (i pending word : ℕ) (op : MgmtOp) (out out2 bytes all : List ℕ) → i < length hop → op ≡ get_or hop i op → pending + (i + 1) ≡ length hop
    → word ≡ op_word op pending → bytes ≡ to_le_bytes w64 word → out2 ≡ out ++ bytes
    → out ++ words_bytes (hop_words (drop i hop)) ≡ all → out2 ++ words_bytes (hop_words (drop (i + 1) hop)) ≡ all
hop_step_at hop i pending word op out out2 bytes all lt is count word_is bytes_are out_is so_far = rw (out_is, bytes_are, word_is) (hop_step hop i pending op out all lt is count so_far)

-- within the list the default doesn't matter
pub same_item : (hop : List MgmtOp) (i : ℕ) (d e : MgmtOp) → i < length hop → get_or hop i d ≡ get_or hop i e
same_item hop i d e lt = cons_head (sym (drop-cons hop i d lt) ∙ drop-cons hop i e lt)
  where
    cons_head : {x y : MgmtOp} {xs : List MgmtOp} → x ∷ xs ≡ y ∷ xs → x ≡ y
    cons_head h = cc
