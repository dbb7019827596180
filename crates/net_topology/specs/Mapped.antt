-- What a topology keeps: a checked plan, and the links that lead to node 0.
use Rattle.std.specs.Prelude.{◌≡◌, ℕ, ◌<◌, ◌≤◌, List, length, Option, Some, slice_get}
use Rattle.net_topology.specs.declared.plan.Plan.{Plan}
use Rattle.net_topology.specs.Next.{next_of}
use Rattle.net_topology.specs.Tree.{IsChecked}

-- for each of the first n nodes, the first link of its way to node 0
pub record HasUps (plan : Plan) (n : ℕ) (ups : List (Option ℕ)) : Type 0 where
  pub many : length ups ≡ n
  pub each : (x : ℕ) → x < n → slice_get ups x ≡ Some (next_of plan.links x 0)

-- the plan is checked, and each node's link to node 0 is known
pub record IsMapped (plan : Plan) (ups : List (Option ℕ)) : Type 0 where
  pub checked : IsChecked plan
  pub known : HasUps plan (length plan.nodes) ups
  pub few : length plan.links ≤ 256
