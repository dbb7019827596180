-- The marks of a search: one edge's step, and what the marks tell at the end.
use Rattle.std.proofs.Common.{length-set, replicate, zero, suc, ◌≡◌, ◌∙◌, ℕ, ◌+◌, ◌<◌, ⊎_elim, refl, sym, ap, subst, List, length, get_or, set, Bool, true, false, Contains, arith, get_or-set_same, get_or-set_other}
use Rattle.std.proofs.lemmas.Bool.{cases_eq}
use Rattle.std.proofs.lemmas.List.{get_or_default, length-replicate}
use Rattle.std.proofs.lemmas.List.Sums.{sum_by-set}
use Rattle.graph_core.specs.declared.place.Edge.{Edge}
use Rattle.graph_core.specs.Edges.{Reaches}
use Rattle.graph_core.specs.Edges.Reaches.{here, along}
use Rattle.graph_core.specs.Reach.{Marked, MarksReached, MarksClosed, missing, unmarked}

-- what a sweep over the first edges has done to the marks
pub record Swept (edges : List Edge) (old new : List Bool) (moved : Bool) (index : ℕ) : Type 0 where
  pub kept : (b : ℕ) → Marked old b → Marked new b
  pub sound : (b : ℕ) → MarksReached edges b old → MarksReached edges b new
  pub still : moved ≡ false → (k : ℕ) (d : Edge) → k < index → Marked new (get_or edges k d).from.block → Marked new (get_or edges k d).to.block
  pub same : moved ≡ false → new ≡ old
  pub fewer : moved ≡ true → unmarked new < unmarked old

marked_set : (marks : List Bool) (j b : ℕ) → j < length marks → Marked marks b → Marked (set marks j true) b
marked_set marks j b in_range h = ⊎_elim
    (λ e. subst (λ k. Marked (set marks j true) k) (sym e) (get_or-set_same marks j true false in_range))
    (λ ne. get_or-set_other marks j b true false ne ∙ h)
    (cases_eq b j)

reached_on : (edges : List Edge) (first : ℕ) (edge : Edge) {block : ℕ} → Contains edges edge → Reaches edges first block → block ≡ edge.from.block → Reaches edges first edge.to.block
reached_on edges first edge has here e = along edge has (sym e) here
reached_on edges first edge has (along next has' at rest) e = along next has' at (reached_on edges next.to.block edge has rest e)

module _ (edges : List Edge) (old new : List Bool) (moved : Bool) (index : ℕ) (d : Edge) (so : Swept edges old new moved index) where
  pub swept_mark : (e : Edge) → Contains edges e → e.to.block < length new → Marked new e.from.block → get_or new e.to.block false ≡ false
      → Swept edges old (set new e.to.block true) true (index + 1)
  swept_mark e has in_range from to = record {
    kept = λ b h. marked_set new e.to.block b in_range (so.kept b h);
    sound = λ b h k m. ⊎_elim
        (λ same. subst (λ x. Reaches edges b x) (sym same) (reached_on edges b e has (so.sound b h e.from.block from) refl))
        (λ other. so.sound b h k (sym (get_or-set_other new e.to.block k true false other) ∙ m))
        (cases_eq k e.to.block);
    still = λ h. let z : true ≡ false = h in cc;
    same = λ h. let z : true ≡ false = h in cc;
    fewer = λ _. less moved so.same so.fewer;
  }
    where
      drops : unmarked (set new e.to.block true) + 1 ≡ unmarked new + 0
      drops = subst (λ b. unmarked (set new e.to.block true) + missing b ≡ unmarked new + 0) to (sum_by-set missing new e.to.block true false in_range)

      less : (m : Bool) → (m ≡ false → new ≡ old) → (m ≡ true → unmarked new < unmarked old) → unmarked (set new e.to.block true) < unmarked old
      less true same fewer = let f = fewer refl in omega (arith, drops)
      less false same fewer = let f : unmarked new ≡ unmarked old = ap unmarked (same refl) in omega (arith, drops)

  pub swept_pass : index < length edges → (Marked new (get_or edges index d).from.block → Marked new (get_or edges index d).to.block) → Swept edges old new moved (index + 1)
  swept_pass lt pass = record {
    kept = so.kept;
    sound = so.sound;
    still = λ h k d' below. ⊎_elim
        (λ same. subst (λ i. Marked new (get_or edges i d').from.block → Marked new (get_or edges i d').to.block) (sym same)
        (subst (λ x. Marked new x.from.block → Marked new x.to.block) (get_or_default edges index d d' lt) pass))
        (λ other. so.still h k d' (omega arith))
        (cases_eq k index);
    same = so.same;
    fewer = so.fewer;
  }

pub closed_marks : (edges : List Edge) (marks : List Bool) {first last : ℕ} → MarksClosed edges marks → Reaches edges first last → Marked marks first → Marked marks last
closed_marks edges marks closed here h = h
closed_marks edges marks closed (along edge has at rest) h = closed_marks edges marks closed rest (closed edge has (subst (Marked marks) (sym at) h))

none_marked : (n b : ℕ) → get_or (replicate n false) b false ≡ false
none_marked zero b = refl
none_marked (suc n) zero = refl
none_marked (suc n) (suc b) = none_marked n b

-- at first, one block is marked
pub one_marked : (edges : List Edge) (n first : ℕ) → first < n
    → (length (set (replicate n false) first true) ≡ n) × Marked (set (replicate n false) first true) first × MarksReached edges first (set (replicate n false) first true)
one_marked edges n first lt = (
  length-set (replicate n false) first true ∙ length-replicate n false,
  get_or-set_same (replicate n false) first true false (rw length-replicate lt),
  λ block m. ⊎_elim
      (λ same. subst (λ b. Reaches edges first b) (sym same) here)
      (λ other. let z : false ≡ true = sym (none_marked n block) ∙ sym (get_or-set_other (replicate n false) first block true false other) ∙ m in absurd cc)
      (cases_eq block first),
)
