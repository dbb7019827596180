-- A command of a stream is an act of it, and so is what a block takes of it, and what its own block makes for it.
use Rattle.std.specs.Prelude.{ℕ, ◌+◌, ◌<◌, ◌≤◌, false, Bool, IsTrue, List, length}
use Rattle.std.specs.List.{All}
use Rattle.chdr_packets.specs.Length.{wire_of}
use Rattle.chdr_packets.specs.declared.packet.Packet.{Packet}
use Rattle.chdr_words.specs.declared.command.CmdOp.{CmdOp}
use Rattle.stream_laws.specs.Machine.{State as OneStream}
use Rattle.net_machine.specs.declared.event.Event.TheVariants as event
use Rattle.net_machine.specs.Blocks.{is_closed}
use Rattle.net_machine.specs.Conditions.{enabled}
use Rattle.net_machine.specs.Effects.{after, on_stream}
use Rattle.net_machine.specs.Front.{front}
use Rattle.net_machine.specs.Plans.{plan_at}
use Rattle.net_machine.specs.State.{State, stream_at}
use Rattle.net_machine.specs.Streams.{readies, taken_to}
use Rattle.net_ways.specs.Ways.{IsLedTo}
use Rattle.net_streams.specs.Acting.{Acts, IsShown}

-- A Command is an order of its sender: where the network finds the stream quiet, nothing of it is under way.
abbrev pub CommandActs : Type 0
CommandActs = (w : State) (s : ℕ) (op : CmdOp) (st : OneStream Packet)
    → IsShown w s (is_closed (front w) s) st → IsLedTo w (plan_at w.plan s).from (plan_at w.plan s).to
    → IsTrue (enabled w (event.Command s op)) → Acts w (after w (event.Command s op)) s (is_closed (front w) s) st

-- A feed takes one packet of the stream into its block.
abbrev pub TakingActs : Type 0
TakingActs = (w : State) (s : ℕ) (closed : Bool) (st : OneStream Packet)
    → IsShown w s closed st → (stream_at w s).taken < length (stream_at w s).given
    → Acts w (on_stream s (taken_to ((stream_at w s).taken + 1)) w) s closed st

-- What becomes ready on a stream is made for it, as long as its producer isn't finished and each packet is within
-- the capacity.
abbrev pub MakingActs : Type 0
MakingActs = (w : State) (s : ℕ) (st : OneStream Packet) (packets : List Packet)
    → IsShown w s false st → All (λ p. wire_of p ≤ (plan_at w.plan s).flow.cap_bytes) packets
    → Acts w (on_stream s (readies packets) w) s false st
