-- A host finds a network of a crossbar and an endpoint, writes a route, and reads and writes registers.
use Rattle.std.specs.Prelude.{◌≡◌, ℕ, false, List, [], ◌∷◌, map, replicate, Option, None, Some}
use Rattle.block_registers.specs.Registers.{Registers}
use Rattle.chdr_packets.specs.declared.packet.Body.{Body}
use Rattle.chdr_packets.specs.declared.packet.Body.TheVariants as body
use Rattle.chdr_packets.specs.declared.packet.Packet.{Packet}
use Rattle.chdr_words.specs.Operation.{spelled_op}
use Rattle.chdr_words.specs.declared.control.CtrlOp.{CtrlOp}
use Rattle.chdr_words.specs.declared.control.CtrlOp.TheVariants.{Read, Write}
use Rattle.chdr_words.specs.declared.control.CtrlStatus.{CtrlStatus}
use Rattle.chdr_words.specs.declared.control.CtrlStatus.TheVariants.{CmdErr, Okay}
use Rattle.chdr_words.specs.declared.management.MgmtOp.{MgmtOp}
use Rattle.chdr_words.specs.declared.node_info.NodeKind.{NodeKind}
use Rattle.chdr_words.specs.declared.node_info.NodeKind.TheVariants as kind
use Rattle.chdr_words.specs.declared.operation.Operation.{Operation}
use Rattle.chdr_words.specs.declared.operation.Operation.TheVariants as operation
use Rattle.net_nodes.specs.Table.{exit_of}
use Rattle.net_topology.specs.declared.plan.NodePlan.TheVariants.{Crossbar, Endpoint, Host}
use Rattle.net_topology.specs.declared.plan.Plan.{Plan}
use Rattle.net_faults.specs.declared.fault.Fault.{Fault}
use Rattle.net_faults.specs.declared.fault.Fault.TheVariants.{Answer, Request}
use Rattle.net_machine.specs.Begin.{built}
use Rattle.net_machine.specs.Moves.{answered, asks, marked}
use Rattle.net_machine.specs.Passing.{message}
use Rattle.net_machine.specs.Queues.{forward_vc}
use Rattle.net_machine.specs.State.{State, node_at}
use Rattle.net_rows.specs.Networks.{epid, left_after}

abbrev pub pair : Plan
pair = record {
  nodes = Host (epid 1) ∷ Crossbar 4 ∷ Endpoint (epid 3) (Some 1) ∷ [];
  links = record { a = 0; a_port = 0; b = 1; b_port = 0 } ∷ record { a = 1; a_port = 2; b = 2; b_port = 0 } ∷ [];
  room = 4;
  limit = 64;
}

-- sixteen words, of which the first can't be written
abbrev pub bank : Registers
bank = record { words = 1380319233 ∷ replicate 15 0; masks = 0 ∷ replicate 15 4294967295 }

abbrev pub banks : List (Option Registers)
banks = None ∷ Some bank ∷ []

-- with empty tables
abbrev pub bare : State
bare = built pair false banks

-- what a node of this kind and number tells of itself
abbrev pub told : NodeKind → ℕ → ℕ → Operation
told sort instance extended =
    operation.InfoResp (record { device = 1; kind = sort; instance = instance; extended = extended })

-- the entry for an EPID becomes a port
abbrev pub entry : ℕ → ℕ → Operation
entry addr port = operation.CfgWrite (record { addr = addr; value = port })

-- hops as they are spelled
abbrev pub spelled_hops : List (List Operation) → List (List MgmtOp)
spelled_hops hops = map (map spelled_op) hops

-- at the target of a probe
abbrev pub asking : List Operation
asking = operation.Advertise ∷ operation.InfoReq ∷ operation.Return ∷ []

-- before its target, on to a port
abbrev pub passing_on : ℕ → List Operation
passing_on port = operation.Advertise ∷ operation.SelectDest port ∷ []

-- the last hop, behind which answers are appended
abbrev pub last : List Operation → List Operation
last answers = operation.Nop ∷ answers

-- a management packet from host 1
abbrev pub walk : List (List Operation) → Packet
walk hops = message forward_vc (epid 0) (body.Management (record { version = 256; width = 0; src = epid 1; hops = spelled_hops hops }))

-- a probe of the crossbar, and of what is behind one of its ports
abbrev pub probe : Packet
probe = walk (asking ∷ last [] ∷ [])

abbrev pub probe_behind : ℕ → Packet
probe_behind port = walk (passing_on port ∷ asking ∷ last [] ∷ [])

-- the entries for 3 and for 1 at the crossbar
abbrev pub route : Packet
route = walk ((operation.Advertise ∷ entry 3 2 ∷ entry 1 0 ∷ operation.Return ∷ []) ∷ last [] ∷ [])

-- a control request from host 1 to endpoint 3
abbrev pub request : ℕ → CtrlOp → ℕ → List ℕ → Packet
request port o addr words = message forward_vc (epid 3) (body.Control (record {
  src = epid 1;
  ack = false;
  time = None;
  seq = 0;
  src_port = 0;
  dst_port = port;
  status = Okay;
  op = o;
  enables = 15;
  addr = addr;
  words = words;
}))

-- a request is asked with these faults, and all happens that then may
abbrev pub asked_with : List Fault → Packet → State → State
asked_with faults p w = left_after 40 (asks 0 p (marked faults w))

abbrev pub asked : Packet → State → State
asked p w = asked_with [] p w

-- the answer is taken out
abbrev pub heard : State → State
heard w = answered 0 w

-- what came to the host, by its body
pub data Reply : Type 0 where
  Acknowledged : CtrlStatus → List ℕ → Reply
  Returned : List (List MgmtOp) → Reply
  Else : Reply

abbrev pub reply_by : Body → Reply
reply_by (body.Samples time payload) = Else
reply_by (body.Status status) = Else
reply_by (body.Command command) = Else
reply_by (body.Control control) = Acknowledged control.status control.words
reply_by (body.Management m) = Returned m.hops

-- what came to host x
abbrev pub replies_at : ℕ → State → List Reply
replies_at x w = map (λ (p : Packet). reply_by p.body) (node_at w x).answers

abbrev pub replies : State → List Reply
replies w = replies_at 0 w

-- the state after each probe of a walk
abbrev pub found_crossbar : State
found_crossbar = heard (asked probe bare)

abbrev pub found_all : State
found_all = heard (asked (probe_behind 3) (heard (asked (probe_behind 2) (heard (asked (probe_behind 1) found_crossbar)))))

abbrev pub routed : State
routed = heard (asked route found_all)

abbrev pub written : State
written = heard (asked (request 1 Write 4 (17 ∷ [])) routed)

-- what a management packet brings back
abbrev pub brought : List (List Operation) → Reply
brought hops = Returned (spelled_hops hops)

-- this came back, and nothing else
abbrev pub Brings : State → Reply → Type 0
Brings w reply = replies w ≡ reply ∷ []

pub record AreTransactions : Type 0 where
  -- a walk: four ports, of which two have a link
  pub crossbar : Brings (asked probe bare) (brought (last (told kind.Crossbar 1 4 ∷ []) ∷ []))
  pub first : Brings (asked (probe_behind 1) found_crossbar) (brought (asking ∷ last [] ∷ []))
  pub second : Brings (asked (probe_behind 2) found_crossbar) (brought (last (told kind.Endpoint 2 3 ∷ []) ∷ []))
  pub third : Brings (asked (probe_behind 3) found_crossbar) (brought (asking ∷ last [] ∷ []))
  -- it wrote the host's own entry, and no other
  pub own : exit_of (node_at found_all 1).table (epid 1) ≡ Some 0
  pub other : exit_of (node_at found_all 1).table (epid 3) ≡ None
  -- without a route a request is gone
  pub nowhere : replies (asked (request 1 Read 4 []) found_all) ≡ []
  -- a route, a write and reads
  pub wrote_route : Brings (asked route found_all) (brought (last [] ∷ []))
  pub wrote : Brings (asked (request 1 Write 4 (17 ∷ [])) routed) (Acknowledged Okay [])
  pub read : Brings (asked (request 1 Read 4 []) written) (Acknowledged Okay (17 ∷ []))
  pub read_first : Brings (asked (request 1 Read 0 []) written) (Acknowledged Okay (1380319233 ∷ []))
  -- a write to another port is refused, and changes nothing
  pub elsewhere : Brings (asked (request 2 Write 4 (99 ∷ [])) written) (Acknowledged CmdErr [])
  pub unchanged : Brings (asked (request 1 Read 4 []) (heard (asked (request 2 Write 4 (99 ∷ [])) written)))
      (Acknowledged Okay (17 ∷ []))
  -- the bank is taken out
  pub unloaded : Brings (asked (request 1 Read 4 []) (record written { banks = None ∷ None ∷ [] })) (Acknowledged CmdErr [])
  -- an answer is lost: the write was done
  pub lost : replies (asked_with (Answer 0 ∷ []) (request 1 Write 8 (9 ∷ [])) routed) ≡ []
  pub done : Brings (asked (request 1 Read 8 []) (asked_with (Answer 0 ∷ []) (request 1 Write 8 (9 ∷ [])) routed))
      (Acknowledged Okay (9 ∷ []))
  -- a request is lost: it was not
  pub gone : replies (asked_with (Request 0 ∷ []) (request 1 Write 8 (9 ∷ [])) routed) ≡ []
  pub undone : Brings (asked (request 1 Read 8 []) (asked_with (Request 0 ∷ []) (request 1 Write 8 (9 ∷ [])) routed))
      (Acknowledged Okay (0 ∷ []))
