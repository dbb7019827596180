-- Where nothing was lost a run ends with what the plan alone tells: plain lists, ends, tallies and lines.
use Rattle.std.specs.Prelude.{◌≡◌, ◌<◌, ℕ, List, [], length}
use Rattle.std.specs.Option.{option_map_or}
use Rattle.block_library.specs.Lines.{line_of}
use Rattle.chdr_packets.specs.declared.packet.Packet.{Packet}
use Rattle.stream_endpoint.specs.declared.count.Count.{Count}
use Rattle.net_machine.specs.declared.plan.RunPlan.{RunPlan}
use Rattle.net_machine.specs.declared.tally.StreamEnd.TheVariants.{Drained}
use Rattle.net_machine.specs.declared.tally.Tally.{Tally}
use Rattle.net_machine.specs.Moves.{IsStill}
use Rattle.net_machine.specs.Plain.{plain}
use Rattle.net_machine.specs.Plans.{block_at, stream_into}
use Rattle.net_machine.specs.State.{State, stream_at}
use Rattle.net_machine.specs.Streams.{taken_of}
use Rattle.net_machine.specs.Tallies.{end_of, line_at, tally_with}
use Rattle.net_ways.specs.Standing.{HaveWays}
use Rattle.net_flows.specs.Flows.{IsSteady}
use Rattle.net_ends.specs.Made.{AreMade}
use Rattle.net_ends.specs.Rest.{NoneIsLost}

-- a run came to its end without a loss
pub record IsAtPlainEnd (w : State) : Type 0 where
  pub steady : IsSteady w
  pub ways : HaveWays w
  pub made : AreMade w
  pub still : IsStill w
  pub none_lost : NoneIsLost w

-- the tally of a stream that carries n packets, with these peaks
abbrev pub plain_tally : ℕ → Count → Tally
plain_tally n peak = record {
  sent = n;
  delivered = n;
  acked = n;
  epochs = 1;
  peak_bytes = peak.bytes;
  peak_packets = peak.packets;
}

-- stream s is drained, what was sent and taken on it is its plain list, and so the plan tells all of its tally but the peaks
pub record EndsPlain (w : State) (s : ℕ) : Type 0 where
  pub end : end_of w s ≡ Drained
  pub sent : (stream_at w s).sent ≡ plain w.plan s
  pub taken : taken_of (stream_at w s) ≡ plain w.plan s
  pub tally : (peak : Count) → tally_with peak w s ≡ plain_tally (length (plain w.plan s)) peak

abbrev pub AllEndPlain : Type 0
AllEndPlain = (w : State) → IsAtPlainEnd w → (s : ℕ) → s < length w.streams → EndsPlain w s

-- what block b takes at its first input if nothing is lost
abbrev pub plain_at : RunPlan → ℕ → List Packet
plain_at plan b = option_map_or (plain plan) (stream_into plan (block_at plan b) 0) []

-- And the plan tells each line.
abbrev pub LinesArePlain : Type 0
LinesArePlain = (w : State) → IsAtPlainEnd w → (b : ℕ) → line_at w b ≡ line_of b (block_at w.plan b).item (plain_at w.plan b)
