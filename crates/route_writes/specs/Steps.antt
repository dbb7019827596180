-- Ways as a walker goes them: by which port it leaves each node, and by which it comes to the next.
use Rattle.std.specs.Prelude.{ℕ, List, map}
use Rattle.net_topology.specs.Links.{end_of, end_port, start_port}
use Rattle.net_topology.specs.Parts.{way_of}
use Rattle.net_topology.specs.declared.plan.Plan.{Plan}
use Rattle.walk_books.specs.declared.found.FoundNode.{FoundNode}
use Rattle.route_writes.specs.declared.steps.Step.{Step}

-- over a directed link
abbrev pub step_over : Plan → ℕ → Step
step_over tree d = record { port = start_port tree.links d; node = end_of tree.links d; arrival = end_port tree.links d }

-- from node x to node z
abbrev pub way_steps : Plan → ℕ → ℕ → List Step
way_steps tree x z = map (step_over tree) (way_of tree.links x z)

-- from a found node to its parent
abbrev pub step_up : FoundNode → Step
step_up f = record { port = f.port; node = f.parent; arrival = f.parent_port }

-- and from there to it
abbrev pub step_down : FoundNode → Step
step_down f = record { port = f.parent_port; node = f.instance; arrival = f.port }
