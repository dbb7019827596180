-- Which present is kept of a state.
use Rattle.std.specs.Prelude.{◌≡◌, ℕ, ◌≤◌, Bool, false, List, [], length, map, drop, slice_index_or, if◌then◌else◌}
use Rattle.block_library.specs.Lines.{empty_line, line_of}
use Rattle.block_library.specs.Memory.{Kept, kept_of, lists}
use Rattle.block_library.specs.declared.kind.BlockKind.{BlockKind}
use Rattle.block_library.specs.declared.kind.BlockKind.TheVariants.{Tx, Rx, Fifo, Split, Keep, Repeat, Replay, Switch, Sink}
use Rattle.block_library.specs.declared.line.Line.{Line}
use Rattle.chdr_packets.specs.Length.{wire_of}
use Rattle.chdr_packets.specs.declared.packet.Packet.{Packet}
use Rattle.stream_endpoint.specs.InEnd.{kept_receiver}
use Rattle.stream_endpoint.specs.OutEnd.{kept_sender}
use Rattle.net_machine.specs.declared.plan.BlockPlan.{BlockPlan}
use Rattle.net_machine.specs.Blocks.{fed_to, kept_at}
use Rattle.net_machine.specs.Conditions.{ends_at_rx}
use Rattle.net_machine.specs.Front.{queued}
use Rattle.net_machine.specs.Plans.{block_at, is_rx, no_block}
use Rattle.net_machine.specs.State.{State, Stream, idle, stream_at}
use Rattle.net_present.specs.Present.{BlockNow, Present, StreamNow}

-- what is kept of a stream, of which the first given packets were handed out or fed, and for which ready
-- packets were offered
abbrev pub stream_now : ℕ → ℕ → Stream → StreamNow
stream_now handed offered st = record {
  ready = st.ready;
  offered = offered;
  sender = kept_sender st.sender;
  receiver = kept_receiver st.receiver;
  sent = length st.sent;
  given = length st.given;
  taken = st.taken;
  untaken = map wire_of (drop st.taken st.given);
  waiting = drop handed st.given;
  statuses = st.statuses;
  commands = st.commands;
  cuts = length st.cuts;
  peak = st.peak;
}

-- this is kept of a stream; where a block takes its packets, those that were taken were fed
pub record IsStreamNow (at_rx : Bool) (now : StreamNow) (st : Stream) : Type 0 where
  pub handed : ℕ
  pub offered : ℕ
  pub given : handed ≤ length st.given
  pub ready : offered ≤ length st.ready
  pub fed : at_rx ≡ false → handed ≡ st.taken
  pub is : now ≡ stream_now handed offered st

-- what stands for a stream that isn't there
abbrev pub idle_now : StreamNow
idle_now = stream_now 0 0 idle

-- stream s of these
abbrev pub now_at : List StreamNow → ℕ → StreamNow
now_at streams s = slice_index_or streams s idle_now

-- the line of a block that took these packets, kept for a sink alone
abbrev pub line_by : BlockKind → ℕ → ℕ → List Packet → Line
line_by Tx b item fed = empty_line b
line_by Rx b item fed = empty_line b
line_by Fifo b item fed = empty_line b
line_by Split b item fed = empty_line b
line_by (Keep n) b item fed = empty_line b
line_by (Repeat n) b item fed = empty_line b
line_by (Replay n) b item fed = empty_line b
line_by (Switch n) b item fed = empty_line b
line_by Sink b item fed = line_of b item fed

-- what a block keeps of what was fed to it; an Rx takes its packets itself, and nothing is fed to it
abbrev pub fed_kept : State → BlockPlan → Kept
fed_kept w block = if is_rx block.kind then kept_of block.kind block.item (lists [] []) else kept_at w block

-- what is kept of block b
abbrev pub block_now : State → ℕ → BlockPlan → BlockNow
block_now w b block = record {
  kept = fed_kept w block;
  line = line_by block.kind b block.item (fed_to w block 0);
}

-- what stands for block b where it isn't there
abbrev pub idle_block : ℕ → BlockNow
idle_block b = record { kept = kept_of no_block.kind no_block.item (lists [] []); line = empty_line b }

-- block b of these
abbrev pub block_now_at : List BlockNow → ℕ → BlockNow
block_now_at blocks b = slice_index_or blocks b (idle_block b)

-- the present of a state
pub record IsNow (p : Present) (w : State) : Type 0 where
  pub tree : p.tree ≡ w.tree
  pub plan : p.plan ≡ w.plan
  pub queues : p.queues ≡ map (map queued) w.queues
  pub nodes : p.nodes ≡ w.nodes
  pub as_many_streams : length p.streams ≡ length w.streams
  pub streams : (s : ℕ) → IsStreamNow (ends_at_rx w.plan s) (now_at p.streams s) (stream_at w s)
  pub as_many_blocks : length p.blocks ≡ length w.plan.blocks
  pub blocks : (b : ℕ) → block_now_at p.blocks b ≡ block_now w b (block_at w.plan b)
  pub faults : p.faults ≡ w.faults
  pub requests : p.requests ≡ w.requests
  pub answers : p.answers ≡ w.answers
