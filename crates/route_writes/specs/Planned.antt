-- When a route may be written, by what was found: the steps along it, and its nodes.
use Rattle.std.specs.Prelude.{◌≡◌, ℕ, List, ◌∷◌, ◌++◌}
use Rattle.net_topology.specs.Links.{IsWay, end_of}
use Rattle.net_topology.specs.declared.plan.Plan.{Plan}
use Rattle.net_writes.specs.Routes.{IsRoute}
use Rattle.walk_books.specs.declared.found.FoundNode.{FoundNode}
use Rattle.route_writes.specs.declared.steps.Step.{Step}
use Rattle.route_writes.specs.declared.writes.Ends.{Ends}
use Rattle.found_nodes.specs.Found.{AreFound, IsListed}
use Rattle.route_writes.specs.Steps.{step_over, way_steps}
use Rattle.route_writes.specs.Writes.{Route}

-- the route of a host at a node
abbrev pub route_at : Plan → Ends → Route
route_at tree ends = record { tree = tree; x = ends.node; src = ends.host; a = ends.a; b = ends.b }

-- the steps are those of the way between nodes y and z, which have its EPIDs, and each node of it was found
pub record IsPlanned (tree : Plan) (nodes : List FoundNode) (ends : Ends) (steps : List Step) : Type 0 where
  pub found : AreFound tree nodes
  pub y : ℕ
  pub z : ℕ
  pub route : IsRoute tree ends.node ends.host y ends.a z ends.b
  pub start : IsListed nodes ends.node
  pub from : IsListed nodes y
  pub to : IsListed nodes z
  pub made : steps ≡ way_steps tree y z

-- two steps over links d and e, one after the other, are steps of it
pub record IsCrossing (tree : Plan) (nodes : List FoundNode) (ends : Ends) (before behind : Step) (d e : ℕ) : Type 0 where
  pub found : AreFound tree nodes
  pub y : ℕ
  pub z : ℕ
  pub route : IsRoute tree ends.node ends.host y ends.a z ends.b
  pub start : IsListed nodes ends.node
  pub target : IsListed nodes (end_of tree.links d)
  pub front : List ℕ
  pub rest : List ℕ
  pub way : IsWay tree.links y z (front ++ d ∷ e ∷ rest)
  pub here : before ≡ step_over tree d
  pub there : behind ≡ step_over tree e
