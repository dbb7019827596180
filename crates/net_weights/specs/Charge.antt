-- What sending, giving a command and losing use up: packets that aren't sent yet, faults that aren't used, and the
-- potentials of streams.
use Rattle.std.specs.Prelude.{ℕ, ◌+◌, ◌-◌, ◌*◌, nat_le, Bool, false, List, [], length}
use Rattle.std.specs.List.{count_by, flat_map}
use Rattle.chdr_packets.specs.declared.packet.Packet.{Packet}
use Rattle.net_faults.specs.declared.fault.Fault.{Fault}
use Rattle.net_faults.specs.declared.fault.Fault.TheVariants.{Samples, Status, Command, Request, Answer}
use Rattle.stream_endpoint.specs.Counts.{minus, plus}
use Rattle.stream_laws.specs.Chains.{flying}
use Rattle.stream_laws.specs.Machine.{State as OneStream}
use Rattle.stream_laws.specs.Potential.{potential}
use Rattle.net_machine.specs.CanBegin.{bound_of}
use Rattle.net_machine.specs.Plans.{plan_at}
use Rattle.net_machine.specs.State.{Entry, State, stream_at}
use Rattle.net_ways.specs.Ways.{ahead, back}
use Rattle.net_streams.specs.Shows.{core_of, flight_of, told_of}
use Rattle.net_weights.specs.Sums.{sum_below, sum_places}
use Rattle.net_weights.specs.Work.{top_of, work}

-- the packet that a fault names hasn't entered yet
abbrev pub is_left : State → Fault → Bool
is_left w (Samples s k) = nat_le (length (stream_at w s).sent) k
is_left w (Status s k) = nat_le (stream_at w s).statuses k
is_left w (Command s k) = nat_le (stream_at w s).commands k
is_left w (Request k) = nat_le w.requests k
is_left w (Answer k) = nat_le w.answers k

-- how many of the faults are left
abbrev pub faults_left : State → ℕ
faults_left w = count_by (is_left w) w.faults

-- how many entries are marked
abbrev pub marks_left : State → ℕ
marks_left w = sum_places (λ q (entries : List Entry). count_by (λ (e : Entry). e.marked) entries) [] w.queues

-- how many packets may still be sent on stream s
abbrev pub room_on : State → ℕ → ℕ
room_on w s = bound_of w.plan s - length (stream_at w s).sent

abbrev pub room_left : State → ℕ
room_left w = sum_below (room_on w) (length w.streams)

-- What the network shows of stream s. What is missing is what was sent and neither came nor is under way.
abbrev pub shown_at : State → ℕ → OneStream Packet
shown_at w s = let st = stream_at w s in let forward = flat_map flight_of (ahead w s) in record {
  core = core_of (plan_at w.plan s) false st;
  forward = forward;
  back = flat_map told_of (back w s);
  next = 0;
  missing = minus st.sender.sent (plus st.receiver.reached (flying forward));
}

-- how far stream s is from its end
unfoldable pub potential_at : State → ℕ → ℕ
potential_at w s = potential (shown_at w s)

abbrev pub potentials : State → ℕ
potentials w = sum_below (potential_at w) (length w.streams)

-- No stream has a potential above 11, so what is sent or lost uses up more than the potential that it may give.
unfoldable pub charge : State → ℕ
charge w = 12 * (faults_left w + marks_left w + room_left w) + potentials w

-- What uses up some charge makes less than this much work new.
abbrev pub factor_of : State → ℕ
factor_of w = 2 * top_of w.tree + 5

unfoldable pub weight : State → ℕ
weight w = factor_of w * charge w + work w
