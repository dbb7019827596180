use Rattle.std.proofs.Common.{sym, subst}
use Rattle.run_plans.specs.declared.layout.Layout.{Layout}
use Rattle.script_worlds.specs.WorldView.{StandsOn}
use Rattle.script_worlds.proofs.Standing.{stream_stands}
use Rattle.script_worlds.proofs.world.World.connect.Goals as goal

pub invariant_of-self : goal.invariant_of-self
invariant_of-self c =
    let old = c.self.inside in
    record {
      layout = c.in-Ok.ensures.kept;
      stands = subst (λ (layout : Layout). StandsOn old.topology layout) (sym c.in-Ok.ensures.ok)
          (stream_stands old.topology old.layout c.args.from c.args.to c.args.terms c.self.invariant.stands);
      ready = c.self.invariant.ready;
      found = c.self.invariant.found;
    }
