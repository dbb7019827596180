use Rattle.std.proofs.Common.{◌∙◌}
use Rattle.run_plans.proofs.LaidOut.{laid_out}
use Rattle.run_plans.proofs.layout.Layout.plan.Goals as goal

pub returns-clause-laid : goal.returns-clause-laid
returns-clause-laid c = λ tree stand.
    rw (c.in_ok-copy.ensures, c.in_ok-copy-2.ensures, c.blocks-2.view_is, c.in_ok-blocks.ensures)
    (laid_out c.args.graph.now.diagram c.args.self.now c.args.graph.now.committed c.args.faults.now
    c.kinds.ensures.graph.diagram c.requires.layout (c.is_committed.ensures.settled (c.is_committed.ensures.mark ∙ c.requires.committed)) tree stand)
