use Rattle.std.proofs.Common.{◌≡◌}
use Rattle.net_machine.specs.Begin.{exit_to}
use Rattle.fabric_nodes.specs.Shapes.{shape_at}
use Rattle.fabric_lists.specs.Routed.{routed_first}
use Rattle.fabric_lists.proofs.build.route.Given as goal

-- the first EPIDs have their ports
abbrev pub invariant-loop-epid : goal.invariant-loop-epid
invariant-loop-epid l = record {
  shape : l.node.shape ≡ shape_at l.topology l.x;
  table : l.node.table ≡ routed_first (shape_at l.topology l.x) (exit_to l.topology l.x) l.epids l.epid-index;
}
