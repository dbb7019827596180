use Rattle.std.proofs.Common.{◌≡◌}
use Rattle.std.specs.Prelude.{map}
use Rattle.std.specs.List.{range_with_len}
use Rattle.net_machine.specs.Begin.{built_node}
use Rattle.fabric_nodes.specs.Shapes.{shape_at}
use Rattle.fabric_nodes.specs.Sites.{node_of}
use Rattle.fabric_lists.specs.SitesView.{shape_in}
use Rattle.fabric_lists.proofs.build.built_sites.Given as goal

-- the first nodes are built
abbrev pub invariant-loop-x : goal.invariant-loop-x
invariant-loop-x l = record {
  nodes : map node_of l.sites.items ≡ map (built_node l.topology l.routed) (range_with_len 0 l.x);
  shapes : map shape_in l.sites.items ≡ map (shape_at l.topology) (range_with_len 0 l.x);
}
