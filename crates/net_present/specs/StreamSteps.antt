-- How what is kept of a stream goes on.
use Rattle.std.specs.Prelude.{ℕ, ◌+◌, ◌-◌, List, [], ◌∷◌, ◌++◌, length, take, drop, sum}
use Rattle.chdr_packets.specs.Length.{wire_of}
use Rattle.chdr_packets.specs.declared.packet.Packet.{Packet}
use Rattle.chdr_words.specs.declared.command.CmdOp.{CmdOp}
use Rattle.chdr_words.specs.declared.command.CmdOp.TheVariants.{Init, Ping, Resync, Other}
use Rattle.chdr_words.specs.declared.command.Command.{Command}
use Rattle.chdr_words.specs.declared.status.Status.{Status}
use Rattle.stream_endpoint.specs.InEnd.{Receiving, counts_of, kept_receiver}
use Rattle.stream_endpoint.specs.OutEnd.{Sending, kept_sender, told_by}
use Rattle.stream_endpoint.specs.Receiver.{arrival, arrives, expected, obeys, reports, takes}
use Rattle.stream_endpoint.specs.Sender.{commands, hears, sends}
use Rattle.stream_endpoint.specs.declared.count.Count.{Count}
use Rattle.stream_endpoint.specs.declared.state.Arrived.{Arrived}
use Rattle.stream_endpoint.specs.declared.state.Arrived.TheVariants.{Kept, Discarded, Gap}
use Rattle.net_machine.specs.declared.plan.StreamPlan.{StreamPlan}
use Rattle.net_machine.specs.Streams.{most}
use Rattle.net_present.specs.Present.{StreamNow}

-- the first ready packet is sent, and the rest stays ready
abbrev pub sends_first_now : Packet → List Packet → StreamNow → StreamNow
sends_first_now p rest st = let sender = sends (wire_of p) st.sender in record st {
  ready = rest;
  offered = st.offered - 1;
  sender = kept_sender sender;
  sent = st.sent + 1;
  peak = most st.peak sender.outstanding;
}

-- the sending end, as its command is made
abbrev pub sending_now : StreamPlan → StreamNow → Sending
sending_now plan st = record { me = plan.from; flow = plan.flow; policy = plan.policy; sender = st.sender }

-- the receiving end, as its status is made
abbrev pub receiving_now : StreamPlan → StreamNow → Receiving
receiving_now plan st = record { me = plan.to; flow = plan.flow; receiver = st.receiver }

-- a command is sent
abbrev pub sends_order_now : CmdOp → StreamNow → StreamNow
sends_order_now op st =
    record st { sender = kept_sender (commands op st.sender); commands = st.commands + 1 }

-- the status that is due is sent
abbrev pub sends_status_now : StreamNow → StreamNow
sends_status_now st =
    record st { receiver = kept_receiver (reports st.receiver); statuses = st.statuses + 1 }

-- of these two the first if a packet was kept
abbrev pub if_kept : {A : Type 0} → Arrived → A → A → A
if_kept Kept now before = now
if_kept (Gap expected got) now before = before
if_kept Discarded now before = before

-- a packet comes to the receiver
abbrev pub gets_now : Packet → StreamNow → StreamNow
gets_now p st = let arrived = arrival st.receiver.broken (expected st.receiver) p.seq in record st {
  receiver = kept_receiver (arrives p.seq (wire_of p) st.receiver);
  given = if_kept arrived (st.given + 1) st.given;
  untaken = if_kept arrived (st.untaken ++ wire_of p ∷ []) st.untaken;
  waiting = if_kept arrived (st.waiting ++ p ∷ []) st.waiting;
}

-- how many RESYNC commands arrived, once one of this operation did
abbrev pub cuts_by : CmdOp → ℕ → ℕ
cuts_by Init cuts = cuts
cuts_by Ping cuts = cuts
cuts_by Resync cuts = cuts + 1
cuts_by (Other code) cuts = cuts

-- a command comes to the receiver
abbrev pub gets_order_now : Command → StreamNow → StreamNow
gets_order_now c st = record st {
  receiver = kept_receiver (obeys c.op (counts_of c) st.receiver);
  cuts = cuts_by c.op st.cuts;
}

-- a status comes to the sender
abbrev pub gets_status_now : StreamPlan → Status → StreamNow → StreamNow
gets_status_now plan status st =
    record st { sender = kept_sender (hears plan.policy status.code (told_by status) st.sender) }

-- packets of these wire sizes
abbrev pub sum_now : List ℕ → Count
sum_now sizes = record { packets = length sizes; bytes = sum sizes }

-- n packets are taken in all
abbrev pub taken_now : ℕ → StreamNow → StreamNow
taken_now n st = record st {
  taken = n;
  receiver = kept_receiver (takes (sum_now (take (n - st.taken) st.untaken)) st.receiver);
  untaken = drop (n - st.taken) st.untaken;
}

-- the first packet that waits is fed to a block, and so taken
abbrev pub fed_now : StreamNow → StreamNow
fed_now st = record (taken_now (st.taken + 1) st) { waiting = drop 1 st.waiting }

-- packets become ready
abbrev pub readies_now : List Packet → StreamNow → StreamNow
readies_now packets st = record st { ready = st.ready ++ packets }
