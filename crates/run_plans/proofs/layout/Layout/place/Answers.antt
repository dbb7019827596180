use Rattle.run_plans.proofs.Kept.{placed_kept, stands_kept}
use Rattle.run_plans.proofs.layout.Layout.place.Goals as goal

pub returns-clause-kept : goal.returns-clause-kept
returns-clause-kept c =
    rw (c.in_ok-number.ensures.ok, c.in_ok-push.ensures.ok)
    (placed_kept c.args.self.now c.args.block c.args.graph.now.diagram c.requires.layout c.requires.fits c.requires.free)

pub returns-clause-stands : goal.returns-clause-stands
returns-clause-stands c = λ tree stand new. rw c.in_ok-push.ensures.ok (stands_kept c.args.self.now c.args.block tree stand new)
