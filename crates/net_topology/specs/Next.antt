-- The first link of a way.
use Rattle.std.specs.Prelude.{ℕ, List, Option, slice_get}
use Rattle.net_topology.specs.declared.plan.LinkPlan.{LinkPlan}
use Rattle.net_topology.specs.Parts.{way_of}

-- the first directed link of the way from a to b: none from a node to itself
abbrev pub next_of : List LinkPlan → ℕ → ℕ → Option ℕ
next_of links a b = slice_get (way_of links a b) 0
