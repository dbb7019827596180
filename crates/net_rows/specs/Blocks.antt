-- A Tx at host 1 feeds a block at endpoint 3, which feeds an Rx at host 2, over a crossbar of three ports.
use Rattle.std.specs.Prelude.{◌≡◌, ℕ, true, List, [], ◌∷◌, None}
use Rattle.std.specs.List.{flat_map}
use Rattle.block_library.specs.Blocks.{payload_in}
use Rattle.block_library.specs.Samples.{samples_from}
use Rattle.block_library.specs.declared.kind.BlockKind.{BlockKind}
use Rattle.block_library.specs.declared.kind.BlockKind.TheVariants.{Fifo, Keep, Repeat, Replay}
use Rattle.block_library.specs.declared.line.Line.{Line}
use Rattle.chdr_packets.specs.declared.packet.Packet.{Packet}
use Rattle.chdr_words.specs.declared.control.CtrlOp.TheVariants.{Read}
use Rattle.chdr_words.specs.declared.control.CtrlStatus.TheVariants.{Okay}
use Rattle.net_topology.specs.declared.plan.NodePlan.TheVariants.{Crossbar, Endpoint, Host}
use Rattle.net_topology.specs.declared.plan.Plan.{Plan}
use Rattle.stream_endpoint.specs.declared.flow.Policy.TheVariants.{Auto}
use Rattle.net_machine.specs.declared.plan.BlockPlan.{BlockPlan}
use Rattle.net_machine.specs.declared.plan.RunPlan.{RunPlan}
use Rattle.net_machine.specs.declared.plan.StreamPlan.{StreamPlan}
use Rattle.net_machine.specs.declared.tally.StreamEnd.TheVariants.{Drained}
use Rattle.net_machine.specs.Begin.{begun, built}
use Rattle.net_machine.specs.Moves.{asks}
use Rattle.net_machine.specs.Nodes.{block_port}
use Rattle.net_machine.specs.Plain.{plain}
use Rattle.net_machine.specs.State.{State}
use Rattle.net_machine.specs.Tallies.{end_of, line_at, taken_by}
use Rattle.net_rows.specs.Hosts.{Acknowledged, Reply, replies_at, request}
use Rattle.net_rows.specs.Networks.{epid, left_after, line_is, rx, tx, usual}

abbrev pub star : Plan
star = record {
  nodes = Crossbar 3 ∷ Host (epid 1) ∷ Host (epid 2) ∷ Endpoint (epid 3) None ∷ [];
  links = record { a = 0; a_port = 0; b = 1; b_port = 0 } ∷ record { a = 0; a_port = 1; b = 2; b_port = 0 }
      ∷ record { a = 0; a_port = 2; b = 3; b_port = 0 } ∷ [];
  room = 4;
  limit = 64;
}

abbrev pub leg : ℕ → ℕ → StreamPlan
leg from to = record { from = epid from; to = epid to; flow = usual; start = 0; policy = Auto }

-- the block at the endpoint
abbrev pub middle : BlockKind → BlockPlan
middle kind = record { kind = kind; ins = epid 3 ∷ []; outs = epid 3 ∷ []; packets = 0; spp = 2; item = 4; time = None }

-- n packets of two samples through a block of this kind
abbrev pub through : BlockKind → ℕ → RunPlan
through kind packets = record {
  streams = leg 1 3 ∷ leg 3 2 ∷ [];
  blocks = tx packets 2 ∷ middle kind ∷ rx 2 ∷ [];
  faults = [];
}

-- what one thread leaves of that
abbrev pub passed : BlockKind → ℕ → State
passed kind packets = left_after 200 (begun (through kind packets) (built star true []))

-- the samples that the Rx took, as bytes
abbrev pub samples_taken : State → List ℕ
samples_taken w = flat_map (λ (p : Packet). payload_in p.body) (taken_by w 2)

-- the bytes of samples of these numbers
abbrev pub samples_of : List ℕ → List ℕ
samples_of numbers = flat_map (λ number. samples_from 4 number 1) numbers

-- both streams are drained, and the Rx took these packets, as the plan alone tells
pub record Gives (kind : BlockKind) (packets : ℕ) (numbers : List ℕ) (line : Line) : Type 0 where
  pub first : end_of (passed kind packets) 0 ≡ Drained
  pub second : end_of (passed kind packets) 1 ≡ Drained
  pub samples : samples_taken (passed kind packets) ≡ samples_of numbers
  pub has_line : line_at (passed kind packets) 2 ≡ line
  pub plain : taken_by (passed kind packets) 2 ≡ plain (through kind packets) 1

-- what comes to host 1 when it reads this register of the block
abbrev pub reads : State → ℕ → List Reply
reads w addr = replies_at 1 (left_after 40 (asks 1 (request block_port Read addr []) w))

pub record ArePassedOn : Type 0 where
  pub repeat : Gives (Repeat 2) 2 (0 ∷ 0 ∷ 1 ∷ 1 ∷ 2 ∷ 2 ∷ 3 ∷ 3 ∷ []) (line_is 2 4 8 0 3)
  pub replay : Gives (Replay 2) 3 (0 ∷ 1 ∷ 2 ∷ 3 ∷ 4 ∷ 5 ∷ 0 ∷ 1 ∷ 2 ∷ 3 ∷ 4 ∷ 5 ∷ []) (line_is 2 6 12 0 5)
  -- the second packet is empty, with the end of the burst
  pub keep : Gives (Keep 4) 2 (0 ∷ []) (line_is 2 2 1 0 0)
  pub fifo : Gives Fifo 3 (0 ∷ 1 ∷ 2 ∷ 3 ∷ 4 ∷ 5 ∷ []) (line_is 2 3 6 0 5)
  -- the registers of keep: its kind, its number, the packets fed and those given
  pub kind : reads (passed (Keep 4) 2) 0 ≡ Acknowledged Okay (3 ∷ []) ∷ []
  pub number : reads (passed (Keep 4) 2) 4 ≡ Acknowledged Okay (4 ∷ []) ∷ []
  pub fed : reads (passed (Keep 4) 2) 8 ≡ Acknowledged Okay (2 ∷ []) ∷ []
  pub given : reads (passed (Keep 4) 2) 12 ≡ Acknowledged Okay (2 ∷ []) ∷ []
