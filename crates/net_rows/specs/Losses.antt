-- Six packets of which something is lost.
use Rattle.std.specs.Prelude.{◌≡◌, ℕ, ◌-◌, ◌^◌, [], ◌∷◌}
use Rattle.net_faults.specs.declared.fault.Fault.{Fault}
use Rattle.net_faults.specs.declared.fault.Fault.TheVariants as fault
use Rattle.stream_endpoint.specs.declared.flow.Policy.{Policy}
use Rattle.stream_endpoint.specs.declared.flow.Policy.TheVariants.{Auto, Off}
use Rattle.net_machine.specs.declared.tally.StreamEnd.TheVariants.{Drained, Broken, Undrained}
use Rattle.net_machine.specs.State.{State}
use Rattle.net_machine.specs.Tallies.{line_at}
use Rattle.net_rows.specs.Networks.{Ended, begun_on_line, left_after, line_is, one_stream, stream, usual}

-- six packets with this policy and start, of which one entry is lost
abbrev pub six : Policy → ℕ → Fault → State
six policy start lost = left_after 100 (begun_on_line (one_stream (stream usual start policy) 6 2 (lost ∷ [])))

pub record AreLosses : Type 0 where
  -- the third packet: the receiver breaks, and the sender halts or resynchronises
  pub off : Ended (six Off 0 (fault.Samples 0 2)) 0 (Broken 2 3) 6 2 2 1
  pub off_line : line_at (six Off 0 (fault.Samples 0 2)) 1 ≡ line_is 1 2 4 0 3
  pub auto : Ended (six Auto 0 (fault.Samples 0 2)) 0 Drained 6 2 6 2
  pub auto_line : line_at (six Auto 0 (fault.Samples 0 2)) 1 ≡ line_is 1 2 4 0 3
  -- the last packet: the answer of a PING doesn't cover what was sent
  pub last : Ended (six Off 0 (fault.Samples 0 5)) 0 (Undrained 6 5) 6 5 5 1
  pub last_line : line_at (six Off 0 (fault.Samples 0 5)) 1 ≡ line_is 1 5 10 0 9
  -- the first INIT: a second one follows
  pub init : Ended (six Auto 0 (fault.Command 0 0)) 0 Drained 6 6 6 1
  -- the second status: that of the last PING covers it
  pub status : Ended (six Auto 0 (fault.Status 0 1)) 0 Drained 6 6 6 1
  -- a RESYNC whose spelled totals pass 2^40
  pub wraps : Ended (six Auto (2 ^ 40 - 1) (fault.Samples 0 2)) 0 Drained 6 2 6 2
