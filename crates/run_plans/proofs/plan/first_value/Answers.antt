use Rattle.std.proofs.Common.{◌∙◌, arith}
use Rattle.run_plans.proofs.Forms.{small_value}
use Rattle.run_plans.proofs.plan.first_value.Goals as goal

pub overflow_cast-result : goal.overflow_cast-result
overflow_cast-result c =
    let small = small_value c.args.graph.now.diagram c.args.graph.now.committed
    (c.is_committed.ensures.settled (c.is_committed.ensures.mark ∙ c.requires.committed)) c.requires.users _ c.requires.form c.value.result c.value.ensures.held in
    omega arith
