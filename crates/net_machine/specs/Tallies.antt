-- How streams end, what they did, and the most that was outstanding on the way.
use Rattle.std.specs.Prelude.{ℕ, ◌+◌, ◌-◌, List, [], ◌∷◌, length, Option, None, Some, if◌then◌else◌}
use Rattle.block_library.specs.Lines.{line_of}
use Rattle.block_library.specs.declared.line.Line.{Line}
use Rattle.chdr_packets.specs.declared.packet.Packet.{Packet}
use Rattle.stream_endpoint.specs.Sender.{known}
use Rattle.stream_endpoint.specs.declared.count.Count.{Count}
use Rattle.stream_endpoint.specs.declared.state.Gap.{Gap}
use Rattle.net_machine.specs.declared.plan.StreamPlan.{StreamPlan}
use Rattle.net_machine.specs.declared.tally.StreamEnd.{StreamEnd}
use Rattle.net_machine.specs.declared.tally.StreamEnd.TheVariants.{Drained, Broken, Undrained}
use Rattle.net_machine.specs.declared.tally.Tally.{Tally}
use Rattle.net_machine.specs.Blocks.{fed_to, is_drained}
use Rattle.net_machine.specs.Front.{front}
use Rattle.net_machine.specs.Moves.{Move, after_all, after_move}
use Rattle.net_machine.specs.Plans.{block_at, plan_at}
use Rattle.net_machine.specs.State.{State, Stream, stream_at}
use Rattle.net_machine.specs.Streams.{most}

-- how many packets the sender knows to be taken, from the start on
abbrev pub acked_of : StreamPlan → Stream → ℕ
acked_of plan st = (known st.sender).packets - plan.start

-- the end of a stream that isn't drained: broken where its receiver is
abbrev pub undrained : Option Gap → ℕ → ℕ → StreamEnd
undrained None sent acked = Undrained sent acked
undrained (Some gap) sent acked = Broken gap.expected gap.got

-- how stream s stands
abbrev pub end_of : State → ℕ → StreamEnd
end_of w s = let st = stream_at w s in
    if is_drained (front w) s then Drained
    else undrained st.receiver.broken (length st.sent) (acked_of (plan_at w.plan s) st)

-- what stream s did, with these peaks
abbrev pub tally_with : Count → State → ℕ → Tally
tally_with peak w s = let st = stream_at w s in record {
  sent = length st.sent;
  delivered = st.taken;
  acked = acked_of (plan_at w.plan s) st;
  epochs = length st.cuts + 1;
  peak_bytes = peak.bytes;
  peak_packets = peak.packets;
}

-- what stream s did, with the peaks that the state keeps
abbrev pub tally_of : State → ℕ → Tally
tally_of w s = tally_with (stream_at w s).peak w s

-- what stream s has outstanding
abbrev pub outstanding_at : State → ℕ → Count
outstanding_at w s = (stream_at w s).sender.outstanding

-- the most that stream s had outstanding in any state of a run
abbrev pub peak_over : ℕ → State → List Move → Count
peak_over s w [] = outstanding_at w s
peak_over s w (move ∷ moves) = most (outstanding_at w s) (peak_over s (after_move w move) moves)

-- what stream s did in a run
abbrev pub tally_over : State → List Move → ℕ → Tally
tally_over w moves s = tally_with (peak_over s w moves) (after_all w moves) s

-- the packets that block b took at its first input: all that an Rx or a sink has
abbrev pub taken_by : State → ℕ → List Packet
taken_by w b = fed_to w (block_at w.plan b) 0

-- the line of block b, of what it took at its first input
abbrev pub line_at : State → ℕ → Line
line_at w b = line_of b (block_at w.plan b).item (taken_by w b)
