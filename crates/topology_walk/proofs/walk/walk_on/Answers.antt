use Rattle.std.proofs.Common.{◌<◌, length, List, ap, arith}
use Rattle.std.specs.Prelude.{filter_map}
use Rattle.std.proofs.lemmas.List.{length-append}
use Rattle.topology_walk.specs.Probes.{finding}
use Rattle.topology_walk.proofs.Adding.{walks-node}
use Rattle.topology_walk.proofs.walk.walk_on.Goals as goal
use Rattle.walk_books.specs.declared.found.FoundNode.{FoundNode}

pub loop-index-preserved : goal.loop-index-preserved
loop-index-preserved g c =
    let lt : c.loop-index.index < length c.loop-index.walk.found.nodes = omega arith in
    let two = c.in_ok-look_around.ensures.walks in
    let few = c.in_ok-look_around.ensures.few in
    let long = ap (λ (ns : List FoundNode). length ns) two.nodes in
    let both = length-append c.loop-index.walk.found.nodes (filter_map (finding c.loop-index.net.present.tree) two.probes) in
    record {
      walks = walks-node c.args.net.now.present.tree c.args.source.epid c.args.source.node
          (record { walk = c.args.walk.now; net = c.args.net.now; banks = g.B.RegisterSlots.slots c.args.banks.now })
          (record { walk = c.loop-index.walk; net = c.loop-index.net; banks = g.B.RegisterSlots.slots c.loop-index.banks })
          (record { walk = c.look_around.new.walk; net = c.look_around.new.net; banks = g.B.RegisterSlots.slots c.look_around.new.banks })
          c.loop-index.index lt c.loop-index.invariant.walks two;
      within = omega (arith, lt, long, both);
      few = omega (arith, few);
    }
