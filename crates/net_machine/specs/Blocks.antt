-- Blocks: what was fed to them, which producers are finished, and which streams are drained.
use Rattle.std.specs.Prelude.{ℕ, zero, suc, ◌==◌, ◌&&◌, not, Bool, true, false, List, [], ◌∷◌, length, if◌then◌else◌}
use Rattle.std.specs.List.{list_all}
use Rattle.std.specs.Option.{option_map_or}
use Rattle.block_library.specs.Memory.{Kept, kept_of, lists}
use Rattle.chdr_packets.specs.declared.packet.Packet.{Packet}
use Rattle.chdr_words.specs.declared.epid.Epid.{Epid}
use Rattle.stream_endpoint.specs.Counts.{is_none}
use Rattle.stream_endpoint.specs.Sender.{is_running}
use Rattle.net_machine.specs.declared.plan.BlockPlan.{BlockPlan}
use Rattle.net_machine.specs.Front.{Front, StreamFront, front_at}
use Rattle.net_machine.specs.Plans.{block_at, is_tx, producer_of, stream_from, stream_into, stream_to}
use Rattle.net_machine.specs.State.{State, stream_at}
use Rattle.net_machine.specs.Streams.{taken_of}

-- there is a packet
abbrev pub has_packet : List Packet → Bool
has_packet [] = false
has_packet (p ∷ ps) = true

-- what was fed to an input of a block
abbrev pub fed_to : State → BlockPlan → ℕ → List Packet
fed_to w block i = option_map_or (λ s. taken_of (stream_at w s)) (stream_into w.plan block i) []

-- what a block keeps of all that was fed to it
abbrev pub kept_at : State → BlockPlan → Kept
kept_at w block = kept_of block.kind block.item (lists (fed_to w block 0) (fed_to w block 1))

-- nothing is ready on the stream that begins at an EPID
abbrev pub is_clear : Front → Epid → Bool
is_clear f epid = option_map_or (λ s. not (has_packet (front_at f s).ready)) (stream_from f.plan epid) false

-- a stream is drained, whose producer is finished or not
abbrev pub drained_by : Bool → StreamFront → Bool
drained_by finished st = finished && (not (has_packet st.ready)
    && (is_running st.state && (is_none st.outstanding && (st.taken == st.given))))

-- A block makes no more: a Tx has used up its list, every other has all its input streams drained.
-- Up to k blocks upstream are looked at.
abbrev pub is_finished : ℕ → Front → ℕ → Bool
is_finished zero f b = false
is_finished (suc k) f b = let block = block_at f.plan b in
    if is_tx block.kind
    then list_all (is_clear f) block.outs
    else list_all (λ epid. option_map_or
    (λ s. drained_by (option_map_or (is_finished k f) (producer_of f.plan s) false) (front_at f s))
    (stream_to f.plan epid) false) block.ins

-- the producer of a stream is finished
abbrev pub is_closed : Front → ℕ → Bool
is_closed f s = option_map_or (is_finished (length f.plan.blocks) f) (producer_of f.plan s) false

-- a stream is drained
abbrev pub is_drained : Front → ℕ → Bool
is_drained f s = drained_by (is_closed f s) (front_at f s)
