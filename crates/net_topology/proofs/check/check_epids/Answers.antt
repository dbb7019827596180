use Rattle.std.proofs.Common.{arith, below_more}
use Rattle.net_topology.specs.Tree.{IsDuplicate}
use Rattle.net_topology.proofs.check.check_epids.Goals as goal

pub loop-x-preserved : goal.loop-x-preserved
loop-x-preserved c = λ y epid h.
    below_more (λ i. IsDuplicate c.args.plan.now.nodes i epid → ⊥) _ (λ i l. c.loop-x.invariant i epid l) (c.in-None.ensures epid) y h

pub returns-clause-ok : goal.returns-clause-ok
returns-clause-ok c = λ y epid h. c.loop-x.invariant y epid (omega arith)
