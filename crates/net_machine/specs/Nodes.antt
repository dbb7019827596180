-- The nodes of a network: where packets leave them, and what answers at the ports of an endpoint.
use Rattle.std.specs.Prelude.{ℕ, ◌==◌, Bool, true, false, List, [], Option, None, Some, slice_get, is_some, unwrap_or, if◌then◌else◌}
use Rattle.std.specs.Option.{option_and_then, option_map_or}
use Rattle.block_library.specs.Memory.{block_registers}
use Rattle.block_registers.specs.Operations.{Place as Port, Nowhere, Fixed}
use Rattle.block_registers.specs.Slots.{place_of}
use Rattle.chdr_words.specs.declared.epid.Epid.{Epid}
use Rattle.net_nodes.specs.Switch.{crossbar_site, adapter_site, end_site}
use Rattle.net_nodes.specs.Table.{exit_of}
use Rattle.net_nodes.specs.declared.site.Site.{Site}
use Rattle.net_topology.specs.Leads.{Exits, has_table}
use Rattle.net_topology.specs.Links.{link_at}
use Rattle.net_topology.specs.Ports.{link_bits}
use Rattle.net_topology.specs.Tree.{epid_at, node_with}
use Rattle.net_topology.specs.declared.plan.NodePlan.{NodePlan}
use Rattle.net_topology.specs.declared.plan.NodePlan.TheVariants.{Crossbar, Adapter, Host, Endpoint}
use Rattle.net_topology.specs.declared.plan.Plan.{Plan}
use Rattle.net_machine.specs.Blocks.{kept_at}
use Rattle.net_machine.specs.Plans.{block_at, block_in, block_out, no_epid}
use Rattle.net_machine.specs.State.{Node, State, node_in}

-- node x as it was planned
abbrev pub planned : Plan → ℕ → Option NodePlan
planned tree x = slice_get tree.nodes x

-- the EPID of node x
abbrev pub own_epid : Plan → ℕ → Epid
own_epid tree x = unwrap_or (epid_at tree.nodes x) no_epid

-- node x passes packets on by a table
abbrev pub is_switch : Plan → ℕ → Bool
is_switch tree x = option_map_or has_table (planned tree x) false

-- a node is a host
abbrev pub is_host : NodePlan → Bool
is_host (Crossbar ports) = false
is_host Adapter = false
is_host (Host epid) = true
is_host (Endpoint epid bank) = false

-- a node is an endpoint
abbrev pub is_endpoint : NodePlan → Bool
is_endpoint (Crossbar ports) = false
is_endpoint Adapter = false
is_endpoint (Host epid) = false
is_endpoint (Endpoint epid bank) = true

-- node x is a host
abbrev pub is_host_at : Plan → ℕ → Bool
is_host_at tree x = option_map_or is_host (planned tree x) false

-- what the tables of these nodes tell
abbrev pub exits_of : List Node → Exits
exits_of nodes x epid = exit_of (node_in nodes x).table epid

-- the entry of node x for an EPID, if it has a table and an entry
abbrev pub entry_at : Plan → List Node → ℕ → Epid → Option ℕ
entry_at tree nodes x epid = if is_switch tree x then exits_of nodes x epid else None

-- node x with whether its port has a link, if it is a host
abbrev pub host_at : Plan → ℕ → Option (ℕ × Bool)
host_at tree x = if is_host_at tree x then Some (x, is_some (link_at tree.links x 0)) else None

-- the same of the node with an EPID
abbrev pub host_with : Plan → Epid → Option (ℕ × Bool)
host_with tree epid = option_and_then (host_at tree) (node_with tree.nodes epid)

-- the directed link by which a packet that begins at node x goes to an EPID: by the table, or by the only port
abbrev pub route_from : Plan → List Node → ℕ → Epid → Option ℕ
route_from tree nodes x dst =
    if is_switch tree x
    then option_and_then (link_at tree.links x) (exits_of nodes x dst)
    else link_at tree.links x 0

-- node x as the operations of a hop see it, where the packet came by this port
abbrev pub site_by : Plan → ℕ → ℕ → NodePlan → Site
site_by tree x port (Crossbar ports) =
    crossbar_site (record { instance = x; ports = ports; linked = link_bits tree.links x ports; table = [] }) port
site_by tree x port Adapter =
    adapter_site (record { instance = x; ports = 2; linked = link_bits tree.links x 2; table = [] }) port
site_by tree x port (Host epid) = end_site (record { instance = x; epid = epid })
site_by tree x port (Endpoint epid bank) = end_site (record { instance = x; epid = epid })

-- one that isn't there is an end node without an EPID
abbrev pub site_at : Plan → ℕ → ℕ → Site
site_at tree x port =
    option_map_or (site_by tree x port) (planned tree x) (end_site (record { instance = x; epid = no_epid }))

-- the bank of an endpoint
abbrev pub bank_of : NodePlan → Option ℕ
bank_of (Crossbar ports) = None
bank_of Adapter = None
bank_of (Host epid) = None
bank_of (Endpoint epid bank) = bank

-- an endpoint with this bank serves the port of the bank's number, from the slot of that number
abbrev pub slot_by : ℕ → ℕ → Option ℕ
slot_by port bank = if bank == port then Some bank else None

-- the slot that node x serves at a port
abbrev pub slot_at : Plan → ℕ → ℕ → Option ℕ
slot_at tree x port = option_and_then (slot_by port) (option_and_then bank_of (planned tree x))

-- the port of an endpoint at which its block's registers answer
abbrev pub block_port : ℕ
block_port = 1023

-- the block with an input at an EPID, else the one with an output there
abbrev pub block_on : State → Epid → Option ℕ
block_on w epid = if is_some (block_in w.plan epid) then block_in w.plan epid else block_out w.plan epid

-- what answers at the block's port
abbrev pub block_place : State → Option ℕ → Port
block_place w None = Nowhere
block_place w (Some b) = Fixed (block_registers (kept_at w (block_at w.plan b)))

-- what answers at a port of node x: an endpoint's block, its bank, or nothing; a host has nothing
abbrev pub place_by : State → ℕ → ℕ → NodePlan → Port
place_by w x port (Crossbar ports) = Nowhere
place_by w x port Adapter = Nowhere
place_by w x port (Host epid) = Nowhere
place_by w x port (Endpoint epid bank) =
    if port == block_port then block_place w (block_on w epid) else place_of w.banks (slot_at w.tree x port)

-- of a node that might not be there
abbrev pub place_at : State → ℕ → ℕ → Port
place_at w x port = option_map_or (place_by w x port) (planned w.tree x) Nowhere
