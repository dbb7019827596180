-- Which ports of a node have a link, as bits.
use Rattle.std.specs.Prelude.{ℕ, zero, suc, ◌+◌, ◌^◌, List, is_some, if◌then◌else◌}
use Rattle.net_topology.specs.declared.plan.LinkPlan.{LinkPlan}
use Rattle.net_topology.specs.Links.{link_at}

-- bit p is set for each port p below n of the node that has a link
abbrev pub link_bits : List LinkPlan → ℕ → ℕ → ℕ
link_bits links node zero = 0
link_bits links node (suc port) =
    link_bits links node port + (if is_some (link_at links node port) then 2 ^ port else 0)
