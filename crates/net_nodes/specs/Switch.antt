-- Crossbars, adapters and end nodes as sites.
use Rattle.std.specs.Prelude.{◌≡◌, ℕ, ◌+◌, ◌*◌, ◌^◌, ◌<◌, ◌≤◌}
use Rattle.chdr_words.specs.declared.node_info.NodeKind.{NodeKind}
use Rattle.chdr_words.specs.declared.node_info.NodeKind.TheVariants as kinds
use Rattle.net_nodes.specs.Table.{HasEntries}
use Rattle.net_nodes.specs.declared.end_node.EndNode.{EndNode}
use Rattle.net_nodes.specs.declared.site.Site.{Site}
use Rattle.net_nodes.specs.declared.switch.Switch.{Switch}

-- a crossbar's number is below 1,024, it has 1 to 32 ports, and its links and entries are at these
pub record FitsCrossbar (switch : Switch) : Type 0 where
  pub instance : switch.instance < 1024
  pub some : 1 ≤ switch.ports
  pub many : switch.ports ≤ 32
  pub linked : switch.linked < 2 ^ switch.ports
  pub entries : HasEntries switch.ports switch.table

-- an adapter's number is below 1,024, it has two ports, and its links and entries are at these
pub record FitsAdapter (switch : Switch) : Type 0 where
  pub instance : switch.instance < 1024
  pub two : switch.ports ≡ 2
  pub linked : switch.linked < 2 ^ switch.ports
  pub entries : HasEntries switch.ports switch.table

-- of these a crossbar can be made: its number, its ports and its link bits
pub record MakesCrossbar (instance ports linked : ℕ) : Type 0 where
  pub number : instance < 1024
  pub some : 1 ≤ ports
  pub many : ports ≤ 32
  pub links : linked < 2 ^ ports

-- of these an adapter can be made
pub record MakesAdapter (instance ports linked : ℕ) : Type 0 where
  pub number : instance < 1024
  pub two : ports ≡ 2
  pub links : linked < 2 ^ ports

-- a crossbar or an adapter, by its kind, at which a packet came by a port
abbrev pub switch_site : NodeKind → Switch → ℕ → Site
switch_site kind switch arrival = record {
  info = record { device = 1; kind = kind; instance = switch.instance; extended = switch.ports + 256 * arrival };
  ports = switch.ports;
  linked = switch.linked;
  arrival = arrival;
}

-- a crossbar
abbrev pub crossbar_site : Switch → ℕ → Site
crossbar_site switch arrival = switch_site kinds.Crossbar switch arrival

-- an adapter is a transport
abbrev pub adapter_site : Switch → ℕ → Site
adapter_site switch arrival = switch_site kinds.Transport switch arrival

-- a host or an endpoint is a stream endpoint, which can send a packet on by no port
abbrev pub end_site : EndNode → Site
end_site node = record {
  info = record { device = 1; kind = kinds.Endpoint; instance = node.instance; extended = node.epid.0 };
  ports = 0;
  linked = 0;
  arrival = 0;
}
