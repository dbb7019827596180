-- What the answer to a probe tells.
use Rattle.std.specs.Prelude.{ℕ, ◌==◌, ◌/◌, ◌%◌, List, length, slice_index_or, nat_lt, Option, None, Some, if◌then◌else◌, []}
use Rattle.chdr_packets.specs.declared.packet.Body.{Body}
use Rattle.chdr_packets.specs.declared.packet.Body.TheVariants as body
use Rattle.chdr_packets.specs.declared.packet.Packet.{Packet}
use Rattle.chdr_words.specs.Operation.{operation_of}
use Rattle.chdr_words.specs.declared.management.MgmtOp.{MgmtOp}
use Rattle.chdr_words.specs.declared.node_info.NodeInfo.{NodeInfo}
use Rattle.chdr_words.specs.declared.node_info.NodeKind.{NodeKind}
use Rattle.chdr_words.specs.declared.node_info.NodeKind.TheVariants as kinds
use Rattle.chdr_words.specs.declared.operation.Operation.{Operation}
use Rattle.chdr_words.specs.declared.operation.Operation.TheVariants as op
use Rattle.net_machine.specs.Plans.{no_epid}
use Rattle.walk_books.specs.declared.found.FoundNode.{FoundNode}
use Rattle.topology_walk.specs.declared.probes.Behind.{Behind}
use Rattle.topology_walk.specs.declared.probes.Behind.TheVariants.{Node, Bare, Lost}

-- what a crossbar or an adapter tells besides: its number of ports, and the port of arrival
abbrev pub switch_told : NodeKind → NodeInfo → ℕ → ℕ → FoundNode
switch_told kind info node port = record {
  instance = info.instance;
  kind = kind;
  ports = info.extended % 256;
  epid = no_epid;
  parent = node;
  parent_port = port;
  port = info.extended / 256 % 256;
}

-- the node behind a port of a node, by what it tells of itself; a stream endpoint tells its EPID
abbrev pub node_told : NodeKind → NodeInfo → ℕ → ℕ → FoundNode
node_told kinds.Crossbar info node port = switch_told kinds.Crossbar info node port
node_told kinds.Transport info node port = switch_told kinds.Transport info node port
node_told kinds.Endpoint info node port = record {
  instance = info.instance;
  kind = kinds.Endpoint;
  ports = 1;
  epid = record { 0 = info.extended % 65536 };
  parent = node;
  parent_port = port;
  port = 0;
}
node_told (kinds.Other code) info node port = record {
  instance = info.instance;
  kind = kinds.Other code;
  ports = 0;
  epid = no_epid;
  parent = node;
  parent_port = port;
  port = 0;
}

-- by the operation that answers the inquiry
abbrev pub op_told : Operation → ℕ → ℕ → Behind
op_told op.Nop node port = Bare
op_told op.Advertise node port = Bare
op_told (op.SelectDest exit) node port = Bare
op_told op.Return node port = Bare
op_told op.InfoReq node port = Bare
op_told (op.InfoResp info) node port = Node (node_told info.kind info node port)
op_told (op.CfgWrite cfg) node port = Bare
op_told (op.CfgRead addr) node port = Bare
op_told (op.CfgReadResp cfg) node port = Bare
op_told (op.Other code) node port = Bare

-- what stands for an operation that isn't there
abbrev pub no_op : MgmtOp
no_op = record { code = 0; payload = 0 }

abbrev pub hop_told : List MgmtOp → ℕ → ℕ → Behind
hop_told hop node port = if nat_lt 1 (length hop) then op_told (operation_of (slice_index_or hop 1 no_op)) node port else Bare

-- a probe that comes back with more than one hop found a port without a link
abbrev pub hops_told : List (List MgmtOp) → ℕ → ℕ → Behind
hops_told hops node port = if length hops == 1 then hop_told (slice_index_or hops 0 []) node port else Bare

abbrev pub body_told : Body → ℕ → ℕ → Behind
body_told (body.Samples time payload) node port = Bare
body_told (body.Status status) node port = Bare
body_told (body.Command command) node port = Bare
body_told (body.Control control) node port = Bare
body_told (body.Management m) node port = hops_told m.hops node port

-- what is behind a port of a node, by the answer to its probe
abbrev pub behind_told : Option Packet → ℕ → ℕ → Behind
behind_told None node port = Lost
behind_told (Some p) node port = body_told p.body node port
