-- A receiving end as contracts see it: what it was made for, and its receiver.
use Rattle.std.specs.Prelude.{◌≡◌, ℕ, ◌+◌, ◌*◌, Option, Some, None}
use Rattle.rf_base.specs.Kept.{Follows}
use Rattle.chdr_words.specs.declared.command.CmdOp.{CmdOp}
use Rattle.chdr_words.specs.declared.command.CmdOp.TheVariants.{Init, Ping, Resync, Other}
use Rattle.chdr_words.specs.declared.command.Command.{Command}
use Rattle.chdr_words.specs.declared.epid.Epid.{Epid}
use Rattle.chdr_words.specs.declared.status.Status.{Status}
use Rattle.chdr_words.specs.declared.status.StatusCode.{StatusCode}
use Rattle.chdr_words.specs.declared.status.StatusCode.TheVariants.{Okay, SeqErr}
use Rattle.stream_endpoint.specs.declared.count.Count.{Count}
use Rattle.stream_endpoint.specs.declared.flow.Flow.{Flow}
use Rattle.stream_endpoint.specs.declared.state.Arrived.{Arrived}
use Rattle.stream_endpoint.specs.declared.state.Gap.{Gap}
use Rattle.stream_endpoint.specs.Counts.{count, spelled, spelled_minus}
use Rattle.stream_endpoint.specs.Receiver.{Receiver, listening, expected, arrival, obeys}

pub record Receiving : Type 0 where
  pub me : Epid
  pub flow : Flow
  pub receiver : Receiver

-- an end that has received nothing; its counts begin at the start
abbrev pub receiving : Epid → Flow → Count → Receiving
receiving me flow start = record { me = me; flow = flow; receiver = listening flow start }

-- a change of the receiver alone
abbrev pub on_receiver : (Receiver → Receiver) → Receiving → Receiving
on_receiver next end = record end { receiver = next end.receiver }

-- what is kept of a receiver
abbrev pub kept_receiver : Receiver → Receiver
kept_receiver r = record r { reached = spelled r.reached }

-- what is kept of an end whose receiver has whole counts
abbrev pub kept : Receiving → Receiving
kept end = on_receiver kept_receiver end

-- what becomes of a packet with this number
abbrev pub arrival_of : ℕ → Receiving → Arrived
arrival_of number end = arrival end.receiver.broken (expected end.receiver) number

-- the counts of a command, as far as they are spelled
abbrev pub counts_of : Command → Count
counts_of c = spelled (count c.packets c.bytes)

-- what a command of this operation with these spelled counts may mean in whole counts
abbrev pub MeansBy : CmdOp → Count → Count → Type 0
MeansBy Init counts told = counts ≡ told
MeansBy Ping counts told = Unit {0}
MeansBy Resync counts told = counts ≡ spelled told
MeansBy (Other code) counts told = Unit {0}

-- what a command may mean in whole counts
abbrev pub Means : Command → Count → Type 0
Means c told = MeansBy c.op (counts_of c) told

-- a command of these counts arrives
abbrev pub after_command : Command → Count → Receiving → Receiving
after_command c told end = on_receiver (obeys c.op told) end

-- an end obeys a command, whatever whole counts it means
abbrev pub Obeys : Command → Receiving → Receiving → Type 0
Obeys c old new = (told : Count) → Means c told → Follows kept old new (after_command c told)

abbrev pub code_by : Option Gap → StatusCode
code_by None = Okay
code_by (Some gap) = SeqErr

abbrev pub info_by : Option Gap → ℕ
info_by None = 0
info_by (Some gap) = gap.expected * 65536 + gap.got

-- the status that reports a receiver
abbrev pub status_of : Receiving → Status
status_of end = let r = end.receiver in let got = spelled_minus r.reached r.buffered in record {
  code = code_by r.broken;
  src = end.me;
  cap_bytes = end.flow.cap_bytes;
  cap_packets = end.flow.cap_packets;
  got_packets = got.packets;
  got_bytes = got.bytes;
  info = info_by r.broken;
  buffer = 0;
}
