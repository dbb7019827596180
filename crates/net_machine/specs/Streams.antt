-- What both ends of a stream do with what is sent, comes and is taken.
use Rattle.std.specs.Prelude.{ℕ, ◌+◌, ◌-◌, max, List, [], ◌∷◌, ◌++◌, length, take, drop, None}
use Rattle.std.specs.List.{sum_by}
use Rattle.chdr_packets.specs.Length.{wire_of}
use Rattle.chdr_packets.specs.declared.packet.Packet.{Packet}
use Rattle.chdr_words.specs.declared.command.CmdOp.{CmdOp}
use Rattle.chdr_words.specs.declared.command.CmdOp.TheVariants.{Init, Ping, Resync, Other}
use Rattle.stream_endpoint.specs.declared.count.Count.{Count}
use Rattle.stream_endpoint.specs.declared.state.Arrived.{Arrived}
use Rattle.stream_endpoint.specs.declared.state.Arrived.TheVariants.{Kept, Discarded, Gap}
use Rattle.stream_endpoint.specs.Counts.{none}
use Rattle.stream_endpoint.specs.InEnd.{Receiving, code_by}
use Rattle.stream_endpoint.specs.OutEnd.{Sending}
use Rattle.stream_endpoint.specs.Receiver.{arrival, arrives, expected, obeys, reports, takes}
use Rattle.stream_endpoint.specs.Sender.{Sender, commands, hears, next_number, sends}
use Rattle.stream_endpoint.specs.Epochs.{Cut, Told}
use Rattle.net_machine.specs.declared.plan.StreamPlan.{StreamPlan}
use Rattle.net_machine.specs.Queues.{forward_vc}
use Rattle.net_machine.specs.State.{Entry, Stream, Tag, Sample, Order, Report, Message}

-- how many packets there are, and the sum of their wire sizes
abbrev pub sum_of : List Packet → Count
sum_of packets = record { packets = length packets; bytes = sum_by wire_of packets }

-- the greater of both counts, in packets and in bytes
abbrev pub most : Count → Count → Count
most a b = record { packets = max a.packets b.packets; bytes = max a.bytes b.bytes }

-- a packet of a stream as it is sent: with its channel, its number and its consumer
abbrev pub numbered : StreamPlan → ℕ → Packet → Packet
numbered plan number p = record p { vc = forward_vc; seq = number; dst = plan.to }

-- the packet that enters next, made from the first ready one
abbrev pub entering : StreamPlan → Sender → Packet → Packet
entering plan sender p = numbered plan (next_number sender) p

-- the first ready packet is sent, and the rest stays ready
abbrev pub sends_first : StreamPlan → Packet → List Packet → Stream → Stream
sends_first plan p rest st = let sender = sends (wire_of p) st.sender in record st {
  ready = rest;
  sent = st.sent ++ entering plan st.sender p ∷ [];
  sender = sender;
  peak = most st.peak sender.outstanding;
}

-- the sending end, as its command is made
abbrev pub sending_of : StreamPlan → Stream → Sending
sending_of plan st = record { me = plan.from; flow = plan.flow; policy = plan.policy; sender = st.sender }

-- the receiving end, as its status is made
abbrev pub receiving_of : StreamPlan → Stream → Receiving
receiving_of plan st = record { me = plan.to; flow = plan.flow; receiver = st.receiver }

-- a command is sent
abbrev pub sends_order : CmdOp → Stream → Stream
sends_order op st = record st { sender = commands op st.sender; commands = st.commands + 1 }

-- the status that is due is sent
abbrev pub sends_status : Stream → Stream
sends_status st = record st { receiver = reports st.receiver; statuses = st.statuses + 1 }

-- what was kept, once a packet came
abbrev pub kept_by : Arrived → Packet → List Packet → List Packet
kept_by Kept p given = given ++ p ∷ []
kept_by (Gap expected got) p given = given
kept_by Discarded p given = given

-- a packet comes to the receiver
abbrev pub gets : Packet → Stream → Stream
gets p st = record st {
  given = kept_by (arrival st.receiver.broken (expected st.receiver) p.seq) p st.given;
  receiver = arrives p.seq (wire_of p) st.receiver;
}

-- a RESYNC that comes ends an epoch; no other command does
abbrev pub cut_by : CmdOp → Cut → List Cut → List Cut
cut_by Init here cuts = cuts
cut_by Ping here cuts = cuts
cut_by Resync here cuts = here ∷ cuts
cut_by (Other code) here cuts = cuts

-- a command of these whole counts comes to the receiver
abbrev pub gets_order : CmdOp → Count → Stream → Stream
gets_order op told st = record st {
  receiver = obeys op told st.receiver;
  cuts = cut_by op (record { sent = length st.sent; given = length st.given }) st.cuts;
}

-- a status that tells this comes to the sender
abbrev pub gets_status : StreamPlan → Told → Stream → Stream
gets_status plan told st =
    record st { sender = hears plan.policy (code_by told.gap) told.told st.sender }

-- what of the given packets is taken, until n are
abbrev pub taking : ℕ → Stream → List Packet
taking n st = take (n - st.taken) (drop st.taken st.given)

-- n packets are taken in all
abbrev pub taken_to : ℕ → Stream → Stream
taken_to n st = record st { taken = n; receiver = takes (sum_of (taking n st)) st.receiver }

-- the packets that the consumer took
abbrev pub taken_of : Stream → List Packet
taken_of st = take st.taken st.given

-- packets become ready
abbrev pub readies : List Packet → Stream → Stream
readies packets st = record st { ready = st.ready ++ packets }

-- the places of lost packets, once an entry with this tag is lost
abbrev pub lost_by : Tag → List ℕ → List ℕ
lost_by (Sample place) lost = place ∷ lost
lost_by (Order counts) lost = lost
lost_by (Report told) lost = lost
lost_by Message lost = lost

-- an entry of the stream is lost
abbrev pub loses : Entry → Stream → Stream
loses e st = record st { lost = lost_by e.tag st.lost; losses = st.losses + 1 }

-- the whole counts of a command by its tag
abbrev pub counts_in : Tag → Count
counts_in (Sample place) = none
counts_in (Order counts) = counts
counts_in (Report told) = none
counts_in Message = none

-- what tells nothing
abbrev pub no_report : Told
no_report = record { gap = None; told = none }

-- what a status tells by its tag
abbrev pub told_in : Tag → Told
told_in (Sample place) = no_report
told_in (Order counts) = no_report
told_in (Report told) = told
told_in Message = no_report
