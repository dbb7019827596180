-- Where a packet goes at the node at which its link ends.
use Rattle.std.specs.Prelude.{ℕ, ◌==◌, List, [], length, slice_set, nat_lt, false, if◌then◌else◌}
use Rattle.std.specs.Option.{option_map_or}
use Rattle.chdr_packets.specs.declared.packet.Body.{Body}
use Rattle.chdr_packets.specs.declared.packet.Body.TheVariants as body
use Rattle.chdr_packets.specs.declared.packet.Packet.{Packet}
use Rattle.chdr_words.specs.declared.epid.Epid.{Epid}
use Rattle.chdr_words.specs.declared.management.Management.{Management}
use Rattle.net_nodes.specs.Perform.{performed, without_first}
use Rattle.net_nodes.specs.declared.site.Done.{Done}
use Rattle.net_nodes.specs.declared.site.Done.TheVariants.{Forward, Return, NoSuchPort, Dead}
use Rattle.net_nodes.specs.declared.table.Place.{Place}
use Rattle.net_topology.specs.Leads.{sent_on}
use Rattle.net_topology.specs.Links.{end_of, end_port, link_at}
use Rattle.net_topology.specs.declared.plan.Plan.{Plan}
use Rattle.net_machine.specs.Nodes.{exits_of, is_switch, site_at}
use Rattle.net_machine.specs.Queues.{back_vc}
use Rattle.net_machine.specs.State.{Node, node_in}

-- what becomes of a packet at a node
pub data Outcome : Type 0 where
  -- it goes on over this directed link, as this packet
  Passes : ℕ → Packet → Outcome
  -- it is to go back to its source: this packet is an answer of the node
  Returns : Packet → Outcome
  -- it came to the end node
  Arrives : Outcome
  -- it is gone
  Ends : Outcome

-- what becomes of a packet, and the nodes then: a hop's operations may change a table
pub record Passing : Type 0 where
  pub outcome : Outcome
  pub nodes : List Node

-- what this project makes for an EPID on a channel, other than samples
abbrev pub message : ℕ → Epid → Body → Packet
message vc dst b = record { vc = vc; eob = false; eov = false; seq = 0; dst = dst; mdata = []; body = b }

-- node x with another table
abbrev pub with_table : List Node → ℕ → List Place → List Node
with_table nodes x table = slice_set nodes x (record (node_in nodes x) { table = table })

-- a packet with these hops left
abbrev pub walking : Packet → Management → Packet
walking p m = record p { body = body.Management m }

-- a packet as it goes back to its source
abbrev pub returned : Packet → Management → Packet
returned p m = record p { vc = back_vc; dst = m.src; body = body.Management m }

-- a management packet leaves node x by the exit of its hop
abbrev pub leaves_by : Plan → ℕ → Packet → Management → Done → Outcome
leaves_by tree x p m (Forward port) = option_map_or (λ d. Passes d (walking p m)) (link_at tree.links x port) Ends
leaves_by tree x p m Return = Returns (returned p m)
leaves_by tree x p m (NoSuchPort port) = Returns (returned p m)
leaves_by tree x p m Dead = Ends

-- the first hop of a management packet is performed at the node to which it came over d
abbrev pub walked_by : Plan → List Node → ℕ → Packet → Management → Passing
walked_by tree nodes d p m =
    let x = end_of tree.links d in
    let work = performed (site_at tree x (end_port tree.links d)) (node_in nodes x).table m in
    record { outcome = leaves_by tree x p (without_first m work.last) work.exit; nodes = with_table nodes x work.table }

-- a packet that came over d goes on by the node's table
abbrev pub by_table : Plan → List Node → ℕ → Packet → Outcome
by_table tree nodes d p = option_map_or (λ e. Passes e p) (sent_on tree (exits_of nodes) p.dst d) Ends

-- a packet goes by the table of a crossbar or an adapter, and comes to an end node
abbrev pub goes_on : Plan → List Node → ℕ → Packet → Passing
goes_on tree nodes d p = record {
  outcome = if is_switch tree (end_of tree.links d) then by_table tree nodes d p else Arrives;
  nodes = nodes;
}

-- a management packet for no EPID is performed where it has a hop and the last one, and else is gone
abbrev pub walks : Plan → List Node → ℕ → Packet → Management → Passing
walks tree nodes d p m =
    if nat_lt (length m.hops) 2 then record { outcome = Ends; nodes = nodes } else walked_by tree nodes d p m

-- what becomes of a packet with this body that came over d
abbrev pub passing_by : Plan → List Node → ℕ → Packet → Body → Passing
passing_by tree nodes d p (body.Samples time payload) = goes_on tree nodes d p
passing_by tree nodes d p (body.Status status) = goes_on tree nodes d p
passing_by tree nodes d p (body.Command command) = goes_on tree nodes d p
passing_by tree nodes d p (body.Control control) = goes_on tree nodes d p
passing_by tree nodes d p (body.Management m) =
    if p.dst.0 == 0 then walks tree nodes d p m else goes_on tree nodes d p

-- what becomes of a packet that came over d
abbrev pub passing : Plan → List Node → ℕ → Packet → Passing
passing tree nodes d p = passing_by tree nodes d p p.body
