-- What the history of a stream keeps of its two ends: a status and a command in whole counts, which a
-- packet spells modulo, and where a RESYNC ended an epoch.
use Rattle.std.specs.Prelude.{ℕ, Option}
use Rattle.chdr_words.specs.declared.command.CmdOp.{CmdOp}
use Rattle.chdr_words.specs.declared.command.CmdOp.TheVariants.{Init, Ping, Resync, Other}
use Rattle.stream_endpoint.specs.declared.count.Count.{Count}
use Rattle.stream_endpoint.specs.declared.flow.Flow.{Flow}
use Rattle.stream_endpoint.specs.declared.state.Gap.{Gap}
use Rattle.stream_endpoint.specs.Counts.{none}
use Rattle.stream_endpoint.specs.Flow.{frequency}
use Rattle.stream_endpoint.specs.Receiver.{Receiver, transferred}
use Rattle.stream_endpoint.specs.Sender.{Sender}

-- how much was sent and given as a RESYNC arrived: there one epoch ends and the next begins
pub record Cut : Type 0 where
  pub sent : ℕ
  pub given : ℕ

-- a status in whole counts: the receiver's gap, and all that it had transferred
pub record Told : Type 0 where
  pub gap : Option Gap
  pub told : Count

-- what a status that is sent now tells
abbrev pub told_by : Receiver → Told
told_by r = record { gap = r.broken; told = transferred r }

-- the whole counts of a command that is sent now: the frequency of INIT, the totals of RESYNC
abbrev pub ordered_by : Flow → Sender → CmdOp → Count
ordered_by flow s Init = frequency flow
ordered_by flow s Ping = none
ordered_by flow s Resync = s.sent
ordered_by flow s (Other code) = none
