-- What becomes of an entry at the node where its link ends.
use Rattle.std.specs.Prelude.{ℕ}
use Rattle.net_topology.specs.Links.{end_of}
use Rattle.net_machine.specs.Front.{Queued}
use Rattle.net_machine.specs.Passing.{Passing}
use Rattle.net_present.specs.Onward.{Held, on_present, passes_now}

-- an entry that came over d, from a queue of this channel, goes where its node lets it, and the nodes are then as it says
abbrev pub moves_by : ℕ → ℕ → Queued → Passing → Held → Held
moves_by d vc e passed h =
    passes_now (end_of h.present.tree.links d) vc e passed.outcome (on_present (λ p. record p { nodes = passed.nodes }) h)
