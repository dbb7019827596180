use Rattle.run_plans.proofs.Users.{set_either}
use Rattle.run_plans.proofs.layout.Layout.set.Goals as goal

pub returns-clause-kept : goal.returns-clause-kept
returns-clause-kept c =
    set_either c.args.self.now c.args.at c.args.value c.args.graph.now c.set.new.self c.set.result c.set.ensures.ok c.set.ensures.err c.requires.layout c.requires.value
