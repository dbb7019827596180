-- The look-ups of a tree, read from the fields.
use Rattle.std.specs.Prelude.{◌≡◌}
use Rattle.std.specs.BTreeMap as tree
use Rattle.std.specs.Ordering.{nat_cmp}
use Rattle.net_topology.specs.Tree.{IsChecked}
use Rattle.fabric_nodes.specs.Lookups.{IsHolding, leaving_links}
use Rattle.fabric_nodes.specs.declared.wires.Wires.TheInside.{Inside}

-- the plan is a tree, and each look-up answers as the plan does
pub record IsSound (wires : Inside) : Type 0 where
  pub checked : IsChecked wires.plan
  pub leaving : wires.leaving.items ≡ leaving_links wires.plan
  pub holders : IsHolding wires.plan.nodes (tree.get nat_cmp wires.holders)
