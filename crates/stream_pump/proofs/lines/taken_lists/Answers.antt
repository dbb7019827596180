use Rattle.std.proofs.Common.{◌≡◌, ◌<◌, ℕ, [], length, arith, sym, ap, subst, ◌∙◌}
use Rattle.std.specs.Prelude.{Some}
use Rattle.std.specs.Option.{option_map_or}
use Rattle.std.proofs.lemmas.List.{get_or_read}
use Rattle.net_machine.specs.Plans.{block_at, is_rx, no_block, stream_into}
use Rattle.net_machine.specs.declared.plan.BlockPlan.{BlockPlan}
use Rattle.stream_pump.specs.Drains.{drain_at}
use Rattle.stream_pump.specs.Telling.{drained_by}
use Rattle.stream_pump.proofs.Rows.{made-with, made-without}
use Rattle.stream_pump.proofs.Taking.{other-drains}
use Rattle.stream_pump.proofs.lines.taken_lists.Goals.{then-is_rx+in_ok-push, else-is_rx}
use Rattle.stream_pump.proofs.lines.taken_lists.Goals as goal

pub loop-b-preserved : goal.loop-b-preserved
loop-b-preserved c =
    let plan = c.args.plan.now in
    let b = c.loop-b.b in
    let first = c.args.drains.now.items in
    let drains = c.loop-b.drains.items in
    let block = c.index-as_slice-b.result in
    let end = c.len-b-end.ensures in
    let there : b < length plan.blocks = let below = c.loop-b-test.true in omega (arith, below, end) in
    let is : block ≡ block_at plan b = get_or_read plan.blocks b block there (rw c.as_slice.ensures at c.index-as_slice-b.is) no_block in
    let kind : c.is_rx.result ≡ is_rx (block_at plan b).kind = c.is_rx.ensures ∙ ap (λ (x : BlockPlan). is_rx x.kind) is in
    let invariant = c.loop-b.invariant in
    elim c.if-is_rx.branch [
      | then-is_rx+in_ok-push w ↦
          let list = w.take_list.ensures.list
          ∙ ap (λ (x : BlockPlan). option_map_or (drain_at drains) (stream_into plan x 0) []) is ∙ invariant.others b (omega arith) in
          let others = subst (λ (x : BlockPlan). (s : ℕ) → (stream_into plan x 0 ≡ Some s → ⊥) → drain_at w.take_list.new.drains.items s ≡ drain_at drains s) is
          w.take_list.ensures.others in
          rw (w.drains-is, w.taken-is) (record {
            many = w.take_list.ensures.many ∙ invariant.many;
            taken = made-with (drained_by plan first) is_rx plan b w.take_list.result c.loop-b.taken w.push.new.self invariant.taken
                (sym kind ∙ w.if-is_rx.true) list w.in_ok-push.ensures.ok;
            others = λ d low. other-drains plan drains w.take_list.new.drains.items b d c.requires.planned (λ same. absurd (omega (arith, low, same))) others
                ∙ invariant.others d (omega (arith, low));
          })
      | else-is_rx w ↦
          rw (w.drains-is, w.taken-is) (record {
            many = invariant.many;
            taken = made-without (drained_by plan first) is_rx plan b c.loop-b.taken invariant.taken (sym kind ∙ w.if-is_rx.false);
            others = λ d low. invariant.others d (omega (arith, low));
          })
    ]
