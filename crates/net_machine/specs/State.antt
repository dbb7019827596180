-- The state of a network: what is under way, what its nodes hold, and each stream.
use Rattle.std.specs.Prelude.{ℕ, Bool, false, List, [], Option, None, slice_index_or}
use Rattle.block_registers.specs.Registers.{Registers}
use Rattle.chdr_packets.specs.declared.packet.Packet.{Packet}
use Rattle.net_nodes.specs.declared.table.Place.{Place}
use Rattle.net_topology.specs.declared.plan.Plan.{Plan}
use Rattle.stream_endpoint.specs.declared.count.Count.{Count}
use Rattle.net_faults.specs.declared.fault.Fault.{Fault}
use Rattle.stream_endpoint.specs.declared.state.Notice.TheVariants.{Since}
use Rattle.stream_endpoint.specs.declared.state.OutState.TheVariants.{Halted}
use Rattle.stream_endpoint.specs.Counts.{none}
use Rattle.stream_endpoint.specs.Receiver.{Receiver}
use Rattle.stream_endpoint.specs.Sender.{Sender}
use Rattle.stream_endpoint.specs.Epochs.{Cut, Told}
use Rattle.net_machine.specs.declared.plan.RunPlan.{RunPlan}

-- what an entry of a queue tells beside its packet, which spells counts modulo 2^40 and 2^64
pub data Tag : Type 0 where
  -- samples: their place in what their stream sent
  Sample : ℕ → Tag
  -- a command: its whole counts
  Order : Count → Tag
  -- a status: the receiver's gap and its whole counts
  Report : Told → Tag
  -- a request, an answer or a management packet
  Message : Tag

-- a packet in a queue; a marked one is to be lost
pub record Entry : Type 0 where
  pub packet : Packet
  pub marked : Bool
  pub tag : Tag

pub record Stream : Type 0 where
  -- what its producer has made and not sent
  pub ready : List Packet
  -- what entered its first queue, with its numbers
  pub sent : List Packet
  -- what its receiver kept, and how many of these its consumer took
  pub given : List Packet
  pub taken : ℕ
  pub sender : Sender
  pub receiver : Receiver
  -- how much was sent and given as each RESYNC arrived, the latest first
  pub cuts : List Cut
  -- how many statuses and commands entered their first queue
  pub statuses : ℕ
  pub commands : ℕ
  -- the places of the packets that were lost, and how many entries of any sort were
  pub lost : List ℕ
  pub losses : ℕ
  -- the most that was outstanding
  pub peak : Count

-- what a node holds; only a crossbar and an adapter have a table, and only a host requests and answers
pub record Node : Type 0 where
  pub table : List Place
  -- answers that are to leave it
  pub pending : List Packet
  -- requests that are to leave it
  pub requests : List Packet
  -- answers that came to it
  pub answers : List Packet

pub record State : Type 0 where
  pub tree : Plan
  pub plan : RunPlan
  -- by the number of the queue, the front entry first
  pub queues : List (List Entry)
  -- by the number of the node
  pub nodes : List Node
  -- by the number of the stream
  pub streams : List Stream
  -- the registers in each slot
  pub banks : List (Option Registers)
  -- the packets to lose
  pub faults : List Fault
  -- how many requests and answers entered their first queue
  pub requests : ℕ
  pub answers : ℕ
  -- a management packet was asked since the streams began
  pub walked : Bool

-- a sender that sends nothing
abbrev pub still : Sender
still = record { state = Halted; sent = none; outstanding = none; pinging = false; commanded = false }

-- a receiver that reports nothing
abbrev pub deaf : Receiver
deaf = record { broken = None; reached = none; buffered = none; frequency = none; notice = Since none }

-- what stands for a stream that isn't there
abbrev pub idle : Stream
idle = record { ready = []; sent = []; given = []; taken = 0; sender = still; receiver = deaf; cuts = []; statuses = 0; commands = 0; lost = []; losses = 0; peak = none }

-- what stands for a node that isn't there
abbrev pub blank : Node
blank = record { table = []; pending = []; requests = []; answers = [] }

-- stream s
abbrev pub stream_at : State → ℕ → Stream
stream_at w s = slice_index_or w.streams s idle

-- node x, of these
abbrev pub node_in : List Node → ℕ → Node
node_in nodes x = slice_index_or nodes x blank

-- node x
abbrev pub node_at : State → ℕ → Node
node_at w x = node_in w.nodes x

-- the entries of queue q, of these
abbrev pub queue_at : List (List Entry) → ℕ → List Entry
queue_at queues q = slice_index_or queues q []
