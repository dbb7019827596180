-- What a network shows of one of its streams: a state of the machine of one stream.
use Rattle.std.specs.Prelude.{◌≡◌, ℕ, Bool, List, [], ◌∷◌, length, map}
use Rattle.std.specs.List.{flat_map}
use Rattle.chdr_packets.specs.Length.{wire_of}
use Rattle.chdr_packets.specs.declared.packet.Body.{Body}
use Rattle.chdr_packets.specs.declared.packet.Body.TheVariants as body
use Rattle.chdr_packets.specs.declared.packet.Packet.{Packet}
use Rattle.chdr_words.specs.declared.command.CmdOp.{CmdOp}
use Rattle.stream_endpoint.specs.Epochs.{Told}
use Rattle.stream_laws.specs.Machine.{Core, Entry as Flight, Data, Command, Load, State as OneStream, Terms}
use Rattle.net_machine.specs.declared.plan.StreamPlan.{StreamPlan}
use Rattle.net_machine.specs.Begin.{start_of}
use Rattle.net_machine.specs.Plain.{numbered_from}
use Rattle.net_machine.specs.Plans.{plan_at}
use Rattle.net_machine.specs.State.{Entry, State, Stream, Tag, Sample, Order, Report, Message, stream_at}
use Rattle.net_ways.specs.Ways.{ahead, back}

-- what a stream was made for
abbrev pub terms_of : StreamPlan → Terms
terms_of plan = record { flow = plan.flow; policy = plan.policy; start = start_of plan }

-- a packet, as a stream looks at it
abbrev pub load_of : Packet → Load Packet
load_of p = record { wire = wire_of p; item = p }

abbrev pub loads_of : List Packet → List (Load Packet)
loads_of packets = map load_of packets

-- the stream without what is under way; its ready packets have the numbers with which they will enter
abbrev pub core_of : StreamPlan → Bool → Stream → Core Packet
core_of plan closed st = record {
  ready = loads_of (numbered_from plan (length st.sent) st.ready);
  closed = closed;
  sent = loads_of st.sent;
  sender = st.sender;
  receiver = st.receiver;
  given = loads_of st.given;
  taken = st.taken;
  cuts = st.cuts;
  lost = st.lost;
  losses = st.losses;
}

-- samples under way, by their tag
abbrev pub data_by : Tag → Packet → List (Flight Packet)
data_by (Sample place) p = Data place (load_of p) ∷ []
data_by (Order counts) p = []
data_by (Report told) p = []
data_by Message p = []

-- a command under way, by its tag
abbrev pub command_by : Tag → CmdOp → List (Flight Packet)
command_by (Sample place) op = []
command_by (Order counts) op = Command op counts ∷ []
command_by (Report told) op = []
command_by Message op = []

-- a status under way, by its tag
abbrev pub status_by : Tag → List Told
status_by (Sample place) = []
status_by (Order counts) = []
status_by (Report told) = told ∷ []
status_by Message = []

-- what an entry under way to the consumer is to its stream
abbrev pub flight_by : Tag → Packet → Body → List (Flight Packet)
flight_by tag p (body.Samples time payload) = data_by tag p
flight_by tag p (body.Command c) = command_by tag c.op
flight_by tag p (body.Status status) = []
flight_by tag p (body.Control control) = []
flight_by tag p (body.Management m) = []

abbrev pub flight_of : Entry → List (Flight Packet)
flight_of e = flight_by e.tag e.packet e.packet.body

-- what an entry under way to the producer is to its stream
abbrev pub told_of : Entry → List Told
told_of e = status_by e.tag

-- the network shows this of stream s, whose producer makes no more or goes on; what is history alone isn't bound
pub record Shows (w : State) (s : ℕ) (closed : Bool) (st : OneStream Packet) : Type 0 where
  pub core : st.core ≡ core_of (plan_at w.plan s) closed (stream_at w s)
  pub forward : st.forward ≡ flat_map flight_of (ahead w s)
  pub back : st.back ≡ flat_map told_of (back w s)
