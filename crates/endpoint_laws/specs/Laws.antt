-- The laws of both ends: what is kept modulo does as the whole end does, for each rule and for any list of
-- calls; what is spelled means what was meant; and each test tells its condition.
use Rattle.std.specs.Prelude.{◌≡◌, ◌↔◌, ◌≤◌, ℕ, Bool, IsTrue, Option, List}
use Rattle.chdr_words.specs.declared.command.CmdOp.{CmdOp}
use Rattle.chdr_words.specs.declared.status.Status.{Status}
use Rattle.chdr_words.specs.declared.status.StatusCode.{StatusCode}
use Rattle.stream_endpoint.specs.declared.count.Count.{Count}
use Rattle.stream_endpoint.specs.declared.flow.Flow.{Flow}
use Rattle.stream_endpoint.specs.declared.flow.Policy.{Policy}
use Rattle.stream_endpoint.specs.Counts.{spelled}
use Rattle.stream_endpoint.specs.Flow.{HasRoom, IsValid, has_room}
use Rattle.stream_endpoint.specs.Receiver.{FindsRoom, Receiver, arrival, arrives, expected, obeys, reports, takes}
use Rattle.stream_endpoint.specs.Sender.{MaySend, Sender, commands, hears, may_send, next_number, sends}
use Rattle.stream_endpoint.specs.InEnd.{Means, MeansBy, Receiving, code_by, kept as kept_in, kept_receiver, status_of}
use Rattle.stream_endpoint.specs.OutEnd.{Sending, command_of, kept as kept_out, kept_sender, told_by as told_in}
use Rattle.stream_endpoint.specs.Epochs.{Told, ordered_by, told_by}
use Rattle.stream_endpoint.specs.Orders.{IsStuckAt, MayOrder, is_stuck_at, may_order}
use Rattle.endpoint_laws.specs.Calls.{AllMay, InCall, MayCallIn, MayCallOut, OutCall, after_calls, after_in, after_out, answer_in, answer_out, answers, kept_after_in, kept_after_out}

-- ---- what is kept of a sender goes on, and tells, as the sender

abbrev pub KeptSends : Type 0
KeptSends = (wire : ℕ) (s : Sender) → kept_sender (sends wire (kept_sender s)) ≡ kept_sender (sends wire s)

-- a status may spell its counts or tell them whole
abbrev pub KeptHears : Type 0
KeptHears = (policy : Policy) (code : StatusCode) (told : Count) (s : Sender)
    → (kept_sender (hears policy code told (kept_sender s)) ≡ kept_sender (hears policy code told s))
    × (kept_sender (hears policy code (spelled told) (kept_sender s)) ≡ kept_sender (hears policy code told s))

abbrev pub KeptCommands : Type 0
KeptCommands = (op : CmdOp) (s : Sender)
    → kept_sender (commands op (kept_sender s)) ≡ kept_sender (commands op s)

abbrev pub KeptNumbers : Type 0
KeptNumbers = (s : Sender) → next_number (kept_sender s) ≡ next_number s

abbrev pub KeptOrders : Type 0
KeptOrders = (op : CmdOp) (end : Sending) → command_of op (kept_out end) ≡ command_of op end

-- ---- what is kept of a receiver goes on, and tells, as the receiver

abbrev pub KeptArrives : Type 0
KeptArrives = (number wire : ℕ) (r : Receiver)
    → kept_receiver (arrives number wire (kept_receiver r)) ≡ kept_receiver (arrives number wire r)

abbrev pub KeptTakes : Type 0
KeptTakes = (taken : Count) (r : Receiver)
    → kept_receiver (takes taken (kept_receiver r)) ≡ kept_receiver (takes taken r)

-- what a command spells may mean these whole counts
abbrev pub KeptObeys : Type 0
KeptObeys = (op : CmdOp) (counts told : Count) (r : Receiver) → MeansBy op counts told
    → kept_receiver (obeys op counts (kept_receiver r)) ≡ kept_receiver (obeys op told r)

abbrev pub KeptReports : Type 0
KeptReports = (r : Receiver) → kept_receiver (reports (kept_receiver r)) ≡ kept_receiver (reports r)

abbrev pub KeptArrival : Type 0
KeptArrival = (number : ℕ) (r : Receiver)
    → arrival (kept_receiver r).broken (expected (kept_receiver r)) number
    ≡ arrival r.broken (expected r) number

abbrev pub KeptStatus : Type 0
KeptStatus = (end : Receiving) → status_of (kept_in end) ≡ status_of end

abbrev pub KeptFindsRoom : Type 0
KeptFindsRoom = (flow : Flow) (r : Receiver) (number wire : ℕ)
    → FindsRoom flow (kept_receiver r) number wire ↔ FindsRoom flow r number wire

-- ---- any list of calls

-- whatever calls a sending end meets, with wrapped counts it leaves and returns what it does with whole ones
pub record SendsAsWhole (calls : List OutCall) (whole : Sending) : Type 0 where
  pub may : AllMay MayCallOut kept_after_out (kept_out whole) calls
      ↔ AllMay MayCallOut after_out whole calls
  pub left : after_calls kept_after_out (kept_out whole) calls
      ≡ kept_out (after_calls after_out whole calls)
  pub told : answers kept_after_out answer_out (kept_out whole) calls
      ≡ answers after_out answer_out whole calls

abbrev pub AnyCallsSend : Type 0
AnyCallsSend = (calls : List OutCall) (whole : Sending) → SendsAsWhole calls whole

-- and so for a receiving end, whose commands mean the whole counts that the calls name
pub record ReceivesAsWhole (calls : List InCall) (whole : Receiving) : Type 0 where
  pub left : after_calls kept_after_in (kept_in whole) calls
      ≡ kept_in (after_calls after_in whole calls)
  pub told : answers kept_after_in answer_in (kept_in whole) calls
      ≡ answers after_in answer_in whole calls

abbrev pub AnyCallsReceive : Type 0
AnyCallsReceive = (calls : List InCall) (whole : Receiving) → AllMay MayCallIn after_in whole calls
    → ReceivesAsWhole calls whole × AllMay MayCallIn kept_after_in (kept_in whole) calls

-- ---- what is spelled means what was meant

-- the status spells these whole counts, with the code of this gap
pub record SpellsTold (status : Status) (told : Told) : Type 0 where
  pub code : status.code ≡ code_by told.gap
  pub counts : told_in status ≡ spelled told.told

-- a status of an end, in which what is buffered is part of what it reached
abbrev pub StatusSpells : Type 0
StatusSpells = (end : Receiving) → end.receiver.buffered.packets ≤ end.receiver.reached.packets
    → end.receiver.buffered.bytes ≤ end.receiver.reached.bytes
    → SpellsTold (status_of end) (told_by end.receiver)

-- hearing a status that spells whole counts is hearing those
abbrev pub SpelledIsHeard : Type 0
SpelledIsHeard = (status : Status) (told : Told) (policy : Policy) (s : Sender) → SpellsTold status told
    → hears policy status.code (told_in status) s ≡ hears policy (code_by told.gap) told.told s

-- a command of an end means the whole counts that were ordered
abbrev pub CommandMeans : Type 0
CommandMeans = (op : CmdOp) (end : Sending) → IsValid end.flow
    → Means (command_of op end) (ordered_by end.flow end.sender op)

-- ---- each test tells its condition

abbrev pub RoomIsTested : Type 0
RoomIsTested = (flow : Flow) (held : Count) (wire : ℕ)
    → IsTrue (has_room flow held wire) ↔ HasRoom flow held wire

abbrev pub CreditIsTested : Type 0
CreditIsTested = (flow : Flow) (s : Sender) (wire : ℕ)
    → IsTrue (may_send flow s wire) ↔ MaySend flow s wire

abbrev pub StuckIsTested : Type 0
StuckIsTested = (flow : Flow) (outstanding : Count) (finished : Bool) (next : Option ℕ)
    → IsTrue (is_stuck_at flow outstanding finished next) ↔ IsStuckAt flow outstanding finished next

abbrev pub OrderIsTested : Type 0
OrderIsTested = (s : Sender) (quiet stuck : Bool) (op : CmdOp)
    → IsTrue (may_order s quiet stuck op) ↔ MayOrder s (IsTrue quiet) (IsTrue stuck) op
