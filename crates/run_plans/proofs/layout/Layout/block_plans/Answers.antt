use Rattle.std.proofs.Common.{arith}
use Rattle.std.proofs.lemmas.List.{get_or_read}
use Rattle.run_plans.specs.Layouts.{no_placed}
use Rattle.run_plans.proofs.PlanEnds.{blocks-few, plans-more}
use Rattle.run_plans.proofs.layout.Layout.block_plans.Goals as goal

pub overflow_cast-number : goal.overflow_cast-number
overflow_cast-number c =
    let few = blocks-few c.args.graph.now.diagram c.args.self.now c.kinds.ensures.graph.diagram c.requires.layout in
    let same = c.as_slice-block-items.ensures in
    let lt = rw same at c.loop-number-test.true in
    omega arith

pub loop-number-preserved : goal.loop-number-preserved
loop-number-preserved c =
    let lt = rw c.as_slice-block-items.ensures at c.loop-number-test.true in
    plans-more c.args.self.now c.args.graph.now.committed c.loop-number.plans c.push.new.self c.loop-number.number c.block-item.result c.in_ok-planned.field-0
    c.loop-number.invariant c.in_ok-push.ensures.ok c.in_ok-planned.ensures
    (get_or_read c.args.self.now.blocks c.loop-number.number c.block-item.result lt (rw c.as_slice-block-items.ensures at c.block-item.is) no_placed)
