-- A sender, in whole counts from the stream's start on, and its rules.
-- A sender as one end keeps it is one of these too: its sent count is spelled.
use Rattle.std.specs.Prelude.{◌≡◌, ℕ, ◌%◌, ◌^◌, Bool, true, false, cond, not, ◌&&◌, Option, Some, None}
use Rattle.chdr_words.specs.declared.command.CmdOp.{CmdOp}
use Rattle.chdr_words.specs.declared.command.CmdOp.TheVariants.{Init, Ping, Resync, Other}
use Rattle.chdr_words.specs.declared.status.StatusCode.{StatusCode}
use Rattle.chdr_words.specs.declared.status.StatusCode.TheVariants.{Okay, CmdErr, SeqErr, DataErr, RtErr, Other as OtherCode}
use Rattle.stream_endpoint.specs.declared.count.Count.{Count}
use Rattle.stream_endpoint.specs.declared.flow.Flow.{Flow}
use Rattle.stream_endpoint.specs.declared.flow.Policy.{Policy}
use Rattle.stream_endpoint.specs.declared.flow.Policy.TheVariants.{Auto, Off}
use Rattle.stream_endpoint.specs.declared.state.OutState.{OutState}
use Rattle.stream_endpoint.specs.declared.state.OutState.TheVariants.{Opening, Running, Halted, Resyncing}
use Rattle.stream_endpoint.specs.Counts.{none, one_of, plus, minus, is_none, spelled_minus}
use Rattle.stream_endpoint.specs.Flow.{HasCredit, has_room}

-- The known count, of what the receiver said to have transferred, is sent minus outstanding.
pub record Sender : Type 0 where
  pub state : OutState
  pub sent : Count
  pub outstanding : Count
  -- a PING was sent, and no status came since
  pub pinging : Bool
  -- the command of this state was sent since the state began
  pub commanded : Bool

-- exact when outstanding is part of sent; a spelled sent may be below it
abbrev pub known : Sender → Count
known s = minus s.sent s.outstanding

-- the known counts equal the sent ones
abbrev pub is_covered : Sender → Bool
is_covered s = is_none s.outstanding

-- a sender that has sent nothing; its counts begin at the start
abbrev pub opening : Count → Sender
opening start = record {
  state = Opening;
  sent = start;
  outstanding = none;
  pinging = false;
  commanded = false;
}

-- a sender may send a packet of this wire size
abbrev pub MaySend : Flow → Sender → ℕ → Type 0
MaySend flow s wire = (s.state ≡ Running) × HasCredit flow s.outstanding wire

abbrev pub is_running : OutState → Bool
is_running Opening = false
is_running Running = true
is_running Halted = false
is_running Resyncing = false

-- the test of it
abbrev pub may_send : Flow → Sender → ℕ → Bool
may_send flow s wire = is_running s.state && has_room flow s.outstanding wire

-- the number of the next packet
abbrev pub next_number : Sender → ℕ
next_number s = s.sent.packets % 2 ^ 16

-- a packet of this wire size is sent
abbrev pub sends : ℕ → Sender → Sender
sends wire s = record s {
  sent = plus s.sent (one_of wire);
  outstanding = plus s.outstanding (one_of wire);
}

-- the state in which a command is sent; another code is never sent
abbrev pub state_of : CmdOp → Option OutState
state_of Init = Some Opening
state_of Ping = Some Running
state_of Resync = Some Resyncing
state_of (Other code) = None

-- a command is sent
abbrev pub commands : CmdOp → Sender → Sender
commands Init s = record s { commanded = true }
commands Ping s = record s { pinging = true }
commands Resync s = record s { commanded = true }
commands (Other code) s = s

-- a new state begins
abbrev pub enters : OutState → Sender → Sender
enters state s = record s { state = state; commanded = false }

-- the state that a loss leads to
abbrev pub fallen : Policy → OutState
fallen Auto = Resyncing
fallen Off = Halted

-- what every status does: it tells what is left outstanding, and ends pinging
abbrev pub learns : Count → Sender → Sender
learns left s = record s { outstanding = left; pinging = false }

-- this status answers a PING, and doesn't cover what was sent: something was lost
abbrev pub has_missed : Count → Sender → Bool
has_missed left s = s.pinging && not (is_none left)

-- an OKAY, by the state in which it comes
abbrev pub after_okay : OutState → Policy → Bool → Sender → Sender
after_okay Opening policy missed s = enters Running s
after_okay Running policy missed s = cond missed (enters (fallen policy) s) s
after_okay Halted policy missed s = s
after_okay Resyncing policy missed s = enters Running s

-- a SEQERR, by the state in which it comes
abbrev pub after_gap : OutState → Policy → Sender → Sender
after_gap Opening policy s = s
after_gap Running policy s = enters (fallen policy) s
after_gap Halted policy s = s
after_gap Resyncing policy s = s

-- a status of this code, by what else it changes
abbrev pub after_code : StatusCode → Policy → Bool → Sender → Sender
after_code Okay policy missed s = after_okay s.state policy missed s
after_code CmdErr policy missed s = s
after_code SeqErr policy missed s = after_gap s.state policy s
after_code DataErr policy missed s = s
after_code RtErr policy missed s = s
after_code (OtherCode code) policy missed s = s

-- a status arrives that leaves this much outstanding
abbrev pub hears_left : Policy → StatusCode → Count → Sender → Sender
hears_left policy code left s = after_code code policy (has_missed left s) (learns left s)

-- a status arrives, with a transferred count that is whole or spelled
abbrev pub hears : Policy → StatusCode → Count → Sender → Sender
hears policy code told s = hears_left policy code (spelled_minus s.sent told) s
