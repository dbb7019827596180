use Rattle.script_worlds.proofs.Standing.{stand_in, stands_on}
use Rattle.script_worlds.proofs.world.World.block.Goals as goal

pub invariant_of-self : goal.invariant_of-self
invariant_of-self c =
    let old = c.self.inside in
    let tree = c.in-Some.topology in
    record {
      layout = c.in-Ok.ensures.kept;
      stands = stands_on old.topology c.place.new.self tree c.in-Some.is
          (c.in-Ok.ensures.stands tree (stand_in old.topology old.layout tree c.in-Some.is c.self.invariant.stands) c.in_default-block_refusal.ensures.stands);
      ready = c.self.invariant.ready;
      found = c.self.invariant.found;
    }
