-- A directed link and the same link the other way.
use Rattle.std.specs.Prelude.{◌≡◌, ℕ, ◌*◌, ◌<◌, List, length, Some}
use Rattle.net_topology.specs.Links.{back_of, end_of, end_port, link_at, start_of, start_port}
use Rattle.net_topology.specs.Tree.{IsTree}
use Rattle.net_topology.specs.declared.plan.LinkPlan.{LinkPlan}
use Rattle.net_topology.specs.declared.plan.Plan.{Plan}

-- The other way starts at the node and by the port to which the link comes.
abbrev pub BacksStart : Type 0
BacksStart = (links : List LinkPlan) (d : ℕ) → (start_of links (back_of d) ≡ end_of links d) × (start_port links (back_of d) ≡ end_port links d)

-- It ends where the link starts.
abbrev pub BacksEnd : Type 0
BacksEnd = (links : List LinkPlan) (d : ℕ) → (end_of links (back_of d) ≡ start_of links d) × (end_port links (back_of d) ≡ start_port links d)

-- It is there where the link is.
abbrev pub BacksAreThere : Type 0
BacksAreThere = (n d : ℕ) → d < 2 * n → back_of d < 2 * n

-- The port to which a link comes leads back.
abbrev pub PortsLeadBack : Type 0
PortsLeadBack = (tree : Plan) (d : ℕ) → IsTree tree → d < 2 * length tree.links
    → link_at tree.links (end_of tree.links d) (end_port tree.links d) ≡ Some (back_of d)
