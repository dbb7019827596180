-- Ten packets of 24 bytes under a capacity of 64 bytes and 4 packets.
use Rattle.std.specs.Prelude.{◌≡◌, []}
use Rattle.stream_endpoint.specs.declared.flow.Flow.{Flow}
use Rattle.stream_endpoint.specs.declared.flow.Policy.TheVariants.{Auto}
use Rattle.net_machine.specs.declared.plan.RunPlan.{RunPlan}
use Rattle.net_machine.specs.declared.tally.StreamEnd.TheVariants.{Drained}
use Rattle.net_machine.specs.Plain.{plain}
use Rattle.net_machine.specs.State.{State}
use Rattle.net_machine.specs.Tallies.{line_at, taken_by, tally_of}
use Rattle.net_rows.specs.Networks.{Ended, begun_on_line, left_after, line_is, one_stream, stream}

abbrev pub small : Flow
small = record { cap_bytes = 64; cap_packets = 4; freq_bytes = 24; freq_packets = 1; max = 24 }

abbrev pub plan : RunPlan
plan = one_stream (stream small 0 Auto) 10 4 []

abbrev pub ending : State
ending = left_after 200 (begun_on_line plan)

-- a third packet would pass 64 bytes
pub record IsWithinCapacity : Type 0 where
  pub ended : Ended ending 0 Drained 10 10 10 1
  pub bytes : (tally_of ending 0).peak_bytes ≡ 48
  pub packets : (tally_of ending 0).peak_packets ≡ 2
  pub taken : taken_by ending 1 ≡ plain plan 0
  pub line : line_at ending 1 ≡ line_is 1 10 40 0 39
