-- The present: what a net keeps of a state, in place of whole lists and whole counts.
use Rattle.std.specs.Prelude.{ℕ, List, map}
use Rattle.block_library.specs.Memory.{Kept}
use Rattle.block_library.specs.declared.line.Line.{Line}
use Rattle.chdr_packets.specs.declared.packet.Packet.{Packet}
use Rattle.net_topology.specs.declared.plan.Plan.{Plan}
use Rattle.stream_endpoint.specs.Receiver.{Receiver, is_due}
use Rattle.stream_endpoint.specs.Sender.{Sender}
use Rattle.stream_endpoint.specs.declared.count.Count.{Count}
use Rattle.net_faults.specs.declared.fault.Fault.{Fault}
use Rattle.net_machine.specs.declared.plan.RunPlan.{RunPlan}
use Rattle.net_machine.specs.Front.{Front, Queued, StreamFront}
use Rattle.net_machine.specs.State.{Node}

-- what is kept of a stream
pub record StreamNow : Type 0 where
  -- what its producer has for it, made or not
  pub ready : List Packet
  -- how many of these were offered
  pub offered : ℕ
  -- both ends, in spelled counts
  pub sender : Sender
  pub receiver : Receiver
  -- how many packets were sent, given and taken
  pub sent : ℕ
  pub given : ℕ
  pub taken : ℕ
  -- the wire sizes of the given packets that aren't taken
  pub untaken : List ℕ
  -- the given packets that were neither handed out nor fed to a block
  pub waiting : List Packet
  -- how many statuses and commands entered their first queue, and how many RESYNC commands arrived
  pub statuses : ℕ
  pub commands : ℕ
  pub cuts : ℕ
  -- the most that was outstanding
  pub peak : Count

-- what is kept of a block
pub record BlockNow : Type 0 where
  pub kept : Kept
  -- of a sink, what it took
  pub line : Line

pub record Present : Type 0 where
  pub tree : Plan
  pub plan : RunPlan
  -- by the number of the queue, the front entry first
  pub queues : List (List Queued)
  -- by the number of the node
  pub nodes : List Node
  -- by the number of the stream
  pub streams : List StreamNow
  -- by the number of the block
  pub blocks : List BlockNow
  -- the packets to lose
  pub faults : List Fault
  -- how many requests and answers entered their first queue
  pub requests : ℕ
  pub answers : ℕ

-- what conditions read of a stream
abbrev pub front_now_of : StreamNow → StreamFront
front_now_of st = record {
  ready = st.ready;
  state = st.sender.state;
  outstanding = st.sender.outstanding;
  commanded = st.sender.commanded;
  due = is_due st.receiver;
  given = st.given;
  taken = st.taken;
}

-- what conditions read of a present
abbrev pub front_now : Present → Front
front_now p = record {
  tree = p.tree;
  plan = p.plan;
  queues = p.queues;
  nodes = p.nodes;
  streams = map front_now_of p.streams;
}
