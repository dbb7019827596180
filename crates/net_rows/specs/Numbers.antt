-- Three packets whose numbers pass 2^16, and 2^40.
use Rattle.std.specs.Prelude.{◌≡◌, ℕ, List, [], ◌∷◌, map}
use Rattle.chdr_packets.specs.declared.packet.Packet.{Packet}
use Rattle.stream_endpoint.specs.declared.flow.Policy.TheVariants.{Auto}
use Rattle.net_machine.specs.declared.tally.StreamEnd.TheVariants.{Drained}
use Rattle.net_machine.specs.State.{State, stream_at}
use Rattle.net_rows.specs.Networks.{Ended, begun_on_line, left_after, one_stream, stream, usual}

-- the run from this number on
abbrev pub from : ℕ → State
from start = left_after 100 (begun_on_line (one_stream (stream usual start Auto) 3 2 []))

abbrev pub numbers_in : State → List ℕ
numbers_in w = map (λ (p : Packet). p.seq) (stream_at w 0).sent

pub record AreNumbers : Type 0 where
  pub short : Ended (from 65534) 0 Drained 3 3 3 1
  pub short_numbers : numbers_in (from 65534) ≡ 65534 ∷ 65535 ∷ 0 ∷ []
  pub long : Ended (from 1099511627775) 0 Drained 3 3 3 1
  pub long_numbers : numbers_in (from 1099511627775) ≡ 65535 ∷ 0 ∷ 1 ∷ []
