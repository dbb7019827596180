use Rattle.std.proofs.Common.{◌≡◌, ◌∙◌, ℕ, true, false, inl, inr, sym, subst, arith}
use Rattle.std.proofs.lemmas.Bool.{cases_lt}
use Rattle.std.proofs.lemmas.Option.{get_or_from_slice_get, slice_get-get_or, slice_get_within}
use Rattle.run_plans.specs.Layouts.{end_at}
use Rattle.run_plans.specs.Refusals.{IsUnused}
use Rattle.run_plans.proofs.layout.Layout.used_among.Goals as goal

pub returns-then-not-is_unused : goal.returns-then-not-is_unused
returns-then-not-is_unused c = record {
  place = c.loop-place.place;
  found = slice_get-get_or c.args.epids.now c.loop-place.place _ c.loop-place-test.true;
  lacks = λ free. let z : true ≡ false = sym (c.is_unused.ensures.1 free) ∙ c.if-not-is_unused.true in absurd cc;
  before = c.loop-place.invariant;
}

pub loop-place-preserved : goal.loop-place-preserved
loop-place-preserved c = λ i e lt at. elim (cases_lt i c.loop-place.place) [
  | inl less ↦ c.loop-place.invariant i e less at
  | inr le ↦
      let here : c.loop-place.place ≡ i = omega arith in
      let free = c.is_unused.ensures.0 c.if-not-is_unused.false in
      subst (λ (p : ℕ). IsUnused (end_at c.args.side c.args.self.now) c.args.epids.now p e) here
      (subst (IsUnused (end_at c.args.side c.args.self.now) c.args.epids.now c.loop-place.place)
      (get_or_from_slice_get c.args.epids.now c.loop-place.place e _ (rw here at)) free)
]

pub returns : goal.returns
returns c = λ i e at. let lt = slice_get_within c.args.epids.now i e at in c.loop-place.invariant i e (omega arith) at
