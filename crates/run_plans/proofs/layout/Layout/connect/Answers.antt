use Rattle.std.proofs.Common.{◌≡◌, rules}
use Rattle.run_plans.specs.Changes.{with_stream}
use Rattle.run_plans.proofs.Kept.{connected_kept}
use Rattle.run_plans.proofs.layout.Layout.connect.Goals as goal

pub returns-in_ok-push-in-Ok-clause-kept : goal.returns-in_ok-push-in-Ok-clause-kept
returns-in_ok-push-in-Ok-clause-kept c =
    let streams : c.push.new.self ≡ (with_stream c.args.self.now c.args.from c.args.to c.args.terms).streams = search rules in
    rw (c.in-Ok.ensures.ok, streams)
    (connected_kept c.args.graph.now.diagram c.args.self.now c.requires.layout c.args.from c.args.to c.requires.can c.args.terms c.requires.start c.requires.flow)
