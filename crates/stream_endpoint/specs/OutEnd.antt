-- A sending end as contracts see it: what it was made for, and its sender.
use Rattle.std.specs.Prelude.{ℕ, Bool}
use Rattle.chdr_words.specs.declared.command.CmdOp.{CmdOp}
use Rattle.chdr_words.specs.declared.command.CmdOp.TheVariants.{Init, Ping, Resync, Other}
use Rattle.chdr_words.specs.declared.command.Command.{Command}
use Rattle.chdr_words.specs.declared.epid.Epid.{Epid}
use Rattle.chdr_words.specs.declared.status.Status.{Status}
use Rattle.stream_endpoint.specs.declared.count.Count.{Count}
use Rattle.stream_endpoint.specs.declared.flow.Flow.{Flow}
use Rattle.stream_endpoint.specs.declared.flow.Policy.{Policy}
use Rattle.stream_endpoint.specs.Counts.{count, none, spelled}
use Rattle.stream_endpoint.specs.Flow.{frequency}
use Rattle.stream_endpoint.specs.Sender.{Sender, opening, may_send, hears, after_okay, after_gap}

pub record Sending : Type 0 where
  pub me : Epid
  pub flow : Flow
  pub policy : Policy
  pub sender : Sender

-- an end that has sent nothing; its counts begin at the start
abbrev pub sending : Epid → Flow → Policy → Count → Sending
sending me flow policy start = record {
  me = me;
  flow = flow;
  policy = policy;
  sender = opening start;
}

-- a change of the sender alone
abbrev pub on_sender : (Sender → Sender) → Sending → Sending
on_sender next end = record end { sender = next end.sender }

-- what is kept of a sender
abbrev pub kept_sender : Sender → Sender
kept_sender s = record s { sent = spelled s.sent }

-- what is kept of an end whose sender has whole counts
abbrev pub kept : Sending → Sending
kept end = on_sender kept_sender end

-- the test of credit, under the end's flow
abbrev pub may_send_of : ℕ → Sending → Bool
may_send_of wire end = may_send end.flow end.sender wire

-- the counts that a status tells
abbrev pub told_by : Status → Count
told_by status = count status.got_packets status.got_bytes

-- an OKAY, once its counts are taken in
abbrev pub on_okay : Bool → Sending → Sending
on_okay missed end = on_sender (after_okay end.sender.state end.policy missed) end

-- a SEQERR, once its counts are taken in
abbrev pub on_gap : Sending → Sending
on_gap end = on_sender (after_gap end.sender.state end.policy) end

-- a status arrives
abbrev pub after_status : Status → Sending → Sending
after_status status end = on_sender (hears end.policy status.code (told_by status)) end

-- the counts that a command carries: the frequency of INIT, the totals of RESYNC
abbrev pub commanded_counts : Flow → Sender → CmdOp → Count
commanded_counts flow s Init = frequency flow
commanded_counts flow s Ping = none
commanded_counts flow s Resync = spelled s.sent
commanded_counts flow s (Other code) = none

-- the command with this operation
abbrev pub command_of : CmdOp → Sending → Command
command_of op end = let counts = commanded_counts end.flow end.sender op in
    record { op = op; op_data = 0; src = end.me; packets = counts.packets; bytes = counts.bytes }
