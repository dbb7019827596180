-- Lists of calls of either end, each with its condition, what it does and what it returns.
use Rattle.std.specs.Prelude.{◌≡◌, ◌≤◌, ℕ, true, Some, List, [], ◌∷◌}
use Rattle.chdr_words.specs.declared.command.CmdOp.{CmdOp}
use Rattle.chdr_words.specs.declared.command.Command.{Command}
use Rattle.chdr_words.specs.declared.status.Status.{Status}
use Rattle.stream_endpoint.specs.declared.count.Count.{Count}
use Rattle.stream_endpoint.specs.declared.state.Arrived.{Arrived}
use Rattle.stream_endpoint.specs.InEnd.{Receiving, Means, after_command, arrival_of, counts_of, kept as kept_in, on_receiver, status_of}
use Rattle.stream_endpoint.specs.OutEnd.{Sending, after_status, command_of, kept as kept_out, on_sender}
use Rattle.stream_endpoint.specs.Receiver.{FindsRoom, arrives, is_due, reports, takes}
use Rattle.stream_endpoint.specs.Sender.{MaySend, commands, next_number, sends, state_of}

-- a call of a sending end
pub data OutCall : Type 0 where
  -- a packet of this wire size is sent
  Send : ℕ → OutCall
  -- this status arrives
  Hear : Status → OutCall
  -- a command with this operation is sent
  Order : CmdOp → OutCall

-- what such a call returns
pub data OutAnswer : Type 0 where
  Number : ℕ → OutAnswer
  Heard : OutAnswer
  Ordered : Command → OutAnswer

abbrev pub MayCallOut : Sending → OutCall → Type 0
MayCallOut end (Send wire) = MaySend end.flow end.sender wire
MayCallOut end (Hear status) = Unit {0}
MayCallOut end (Order op) = state_of op ≡ Some end.sender.state

abbrev pub after_out : OutCall → Sending → Sending
after_out (Send wire) end = on_sender (sends wire) end
after_out (Hear status) end = after_status status end
after_out (Order op) end = on_sender (commands op) end

abbrev pub answer_out : OutCall → Sending → OutAnswer
answer_out (Send wire) end = Number (next_number end.sender)
answer_out (Hear status) end = Heard
answer_out (Order op) end = Ordered (command_of op end)

-- a call of a receiving end
pub data InCall : Type 0 where
  -- a packet of this number and wire size arrives
  Arrive : ℕ → ℕ → InCall
  -- this much of what is buffered is taken
  Take : Count → InCall
  -- this command arrives, which means these whole counts
  Obey : Command → Count → InCall
  -- the status that is due is sent
  Report : InCall

-- what such a call returns
pub data InAnswer : Type 0 where
  Arrival : Arrived → InAnswer
  Taken : InAnswer
  Obeyed : InAnswer
  Reported : Status → InAnswer

abbrev pub MayCallIn : Receiving → InCall → Type 0
MayCallIn end (Arrive number wire) = FindsRoom end.flow end.receiver number wire
MayCallIn end (Take taken) =
    (taken.packets ≤ end.receiver.buffered.packets) × (taken.bytes ≤ end.receiver.buffered.bytes)
MayCallIn end (Obey c told) = Means c told
MayCallIn end Report = is_due end.receiver ≡ true

abbrev pub after_in : InCall → Receiving → Receiving
after_in (Arrive number wire) end = on_receiver (arrives number wire) end
after_in (Take taken) end = on_receiver (takes taken) end
after_in (Obey c told) end = after_command c told end
after_in Report end = on_receiver reports end

-- the call as an end with wrapped counts sees it: of a command it reads what is spelled
abbrev pub as_spelled : InCall → InCall
as_spelled (Arrive number wire) = Arrive number wire
as_spelled (Take taken) = Take taken
as_spelled (Obey c told) = Obey c (counts_of c)
as_spelled Report = Report

abbrev pub answer_in : InCall → Receiving → InAnswer
answer_in (Arrive number wire) end = Arrival (arrival_of number end)
answer_in (Take taken) end = Taken
answer_in (Obey c told) end = Obeyed
answer_in Report end = Reported (status_of end)

-- Every call meets its condition at the end that the calls before it leave. Here and below `next` is what a
-- call does to an end.
abbrev pub AllMay : {End Call : Type 0} → (End → Call → Type 0) → (Call → End → End) → End → List Call
    → Type 0
AllMay May next end [] = Unit {0}
AllMay May next end (call ∷ calls) = May end call × AllMay May next (next call end) calls

-- what the calls leave
abbrev pub after_calls : {End Call : Type 0} → (Call → End → End) → End → List Call → End
after_calls next end [] = end
after_calls next end (call ∷ calls) = after_calls next (next call end) calls

-- what they return
abbrev pub answers : {End Call Answer : Type 0} → (Call → End → End) → (Call → End → Answer) → End
    → List Call → List Answer
answers next answer end [] = []
answers next answer end (call ∷ calls) = answer call end ∷ answers next answer (next call end) calls

-- what a call leaves of an end that keeps wrapped counts, as the calls' contracts say
abbrev pub kept_after_out : OutCall → Sending → Sending
kept_after_out call end = kept_out (after_out call end)

abbrev pub kept_after_in : InCall → Receiving → Receiving
kept_after_in call end = kept_in (after_in (as_spelled call) end)
