use Rattle.std.proofs.Common.{◌≡◌, ◌∙◌, ℕ, true, false, Some, inl, inr, refl, sym, ap, subst, arith}
use Rattle.std.proofs.lemmas.Bool.{cases_lt}
use Rattle.std.proofs.lemmas.List.{get_or_read}
use Rattle.net_machine.specs.Plans.{is_among}
use Rattle.run_plans.specs.Layouts.{end_at, ends_of, no_placed, placed_at}
use Rattle.run_plans.proofs.Ends.{among-place, place-among}
use Rattle.run_plans.proofs.layout.Layout.has_end.Goals as goal

pub returns-then-is_among : goal.returns-then-is_among
returns-then-is_among c =
    let layout = c.args.self.now in
    let index = c.loop-block.block-index in
    let lt = rw c.as_slice-block-items.ensures at c.loop-block-test.true in
    let block : c.block-item.result ≡ placed_at layout index = get_or_read layout.blocks index c.block-item.result lt (rw c.as_slice-block-items.ensures at c.block-item.is) no_placed in
    let list : c.as_slice.result.now ≡ ends_of c.args.side (placed_at layout index) = c.as_slice.ensures ∙ c.ends.ensures ∙ ap (ends_of c.args.side) block in
    let yes : is_among c.args.epid (ends_of c.args.side (placed_at layout index)) ≡ true = ap (is_among c.args.epid) (sym list) ∙ sym c.is_among.ensures ∙ c.if-is_among.true in
    let place = among-place c.args.epid (ends_of c.args.side (placed_at layout index)) yes in
    (λ _. (index, place.0, place.1), λ _. refl)

pub loop-block-preserved : goal.loop-block-preserved
loop-block-preserved c = λ b i below at. elim (cases_lt b c.loop-block.block-index) [
  | inl less ↦ c.loop-block.invariant b i less at
  | inr le ↦
      let layout = c.args.self.now in
      let index = c.loop-block.block-index in
      let lt = rw c.as_slice-block-items.ensures at c.loop-block-test.true in
      let block : c.block-item.result ≡ placed_at layout index = get_or_read layout.blocks index c.block-item.result lt (rw c.as_slice-block-items.ensures at c.block-item.is) no_placed in
      let list : c.as_slice.result.now ≡ ends_of c.args.side (placed_at layout index) = c.as_slice.ensures ∙ c.ends.ensures ∙ ap (ends_of c.args.side) block in
      let here : b ≡ index = omega arith in
      let yes = place-among c.args.epid (ends_of c.args.side (placed_at layout index)) i (subst (λ (x : ℕ). end_at c.args.side layout x i ≡ Some c.args.epid) here at) in
      let z : true ≡ false = sym yes ∙ ap (is_among c.args.epid) (sym list) ∙ sym c.is_among.ensures ∙ c.if-is_among.false in
      absurd cc
]
