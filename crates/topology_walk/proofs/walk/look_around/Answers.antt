use Rattle.std.proofs.Common.{List, refl, sym, subst, arith}
use Rattle.std.specs.Prelude.{filter_map}
use Rattle.found_nodes.specs.Found.{IsListed, found_at}
use Rattle.topology_walk.specs.Probes.{finding}
use Rattle.topology_walk.proofs.Adding.{still-listed, walks-none, walks-port}
use Rattle.topology_walk.proofs.walk.look_around.Goals as goal
use Rattle.walk_books.specs.declared.found.FoundNode.{FoundNode}

pub loop-port-init : goal.loop-port-init
loop-port-init g c = record {
  walks = walks-none c.args.net.now.present.tree c.args.source.epid c.args.source.node
      (record { walk = c.args.walk.now; net = c.args.net.now; banks = g.B.RegisterSlots.slots c.args.banks.now }) c.requires.known c.requires.settled refl;
  few = omega arith;
}

pub look_behind-requires-clause-listed : goal.look_behind-requires-clause-listed
look_behind-requires-clause-listed g c =
    let walks = c.loop-port.invariant.walks in
    subst (λ (ns : List FoundNode). IsListed c.loop-port.walk.found.nodes (found_at ns c.args.index).instance) (sym c.as_slice.ensures)
    (still-listed c.args.walk.now.found.nodes (filter_map (finding c.args.net.now.present.tree) walks.probes) c.loop-port.walk.found.nodes c.args.index walks.nodes c.requires.there)

pub loop-port-preserved : goal.loop-port-preserved
loop-port-preserved g c = record {
  walks = walks-port c.args.net.now.present.tree c.args.source.epid c.args.source.node
      (record { walk = c.args.walk.now; net = c.args.net.now; banks = g.B.RegisterSlots.slots c.args.banks.now })
      (record { walk = c.loop-port.walk; net = c.loop-port.net; banks = g.B.RegisterSlots.slots c.loop-port.banks })
      (record { walk = c.look_behind.new.walk; net = c.look_behind.new.net; banks = g.B.RegisterSlots.slots c.look_behind.new.banks })
      (found_at c.as_slice.result.now c.args.index) c.loop-port.port c.loop-port.invariant.walks c.in_ok-look_behind.ensures.walks;
  few = let more = c.in_ok-look_behind.ensures.few in omega (arith, more);
}
