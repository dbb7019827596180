-- A host asks a request, all that follows happens, and the answer is taken out.
use Rattle.std.specs.Prelude.{◌≡◌, ◌||◌, ℕ, List, Option, None, Some, slice_get, if◌then◌else◌}
use Rattle.chdr_packets.specs.declared.packet.Packet.{Packet}
use Rattle.chdr_words.specs.declared.control.Control.{Control}
use Rattle.net_machine.specs.declared.event.Event.{Event}
use Rattle.net_machine.specs.Moves.{after_journal, answered, asks}
use Rattle.net_machine.specs.State.{State, node_at}
use Rattle.net_lone.specs.Control.{IsLedControl, has_answered, has_asked, loses_answer, loses_request}
use Rattle.net_lone.specs.Lone.{acknowledgement, operated}
use Rattle.net_lone.specs.Runs.{IsFirst, has_loss}
use Rattle.net_lone.specs.Stages.{IsSettled}

-- Node x asks a packet: this is the journal of first events that follow, the answer that came to x then, and the state
-- that is left when that is taken out.
pub record IsTalk (w : State) (x : ℕ) (p : Packet) (journal : List Event) (found : Option Packet) (left : State) : Type 0 where
  pub first : IsFirst (asks x p w) journal
  pub answer : found ≡ slice_get (node_at (after_journal (asks x p w) journal) x).answers 0
  pub leaves : left ≡ answered x (after_journal (asks x p w) journal)

-- what comes back of a control request to node z
abbrev pub control_answer : State → ℕ → Control → Option Packet
control_answer w z c = if loses_request w || loses_answer w then None else Some (acknowledgement w z c)

-- what it leaves: it is operated, unless it is lost
abbrev pub control_left : State → ℕ → Control → State
control_left w z c = if loses_request w then has_asked w else has_answered (operated (has_asked w) z c)

-- a control request was lost or operated, and its answer lost or taken out
pub record IsControlTalk (w : State) (z : ℕ) (c : Control) (journal : List Event) (found : Option Packet) (left : State) : Type 0 where
  pub answer : found ≡ control_answer w z c
  pub leaves : left ≡ control_left w z c
  pub loss : has_loss journal ≡ (loses_request w || loses_answer w)
  pub settled : IsSettled left

-- Where tables lead there and back, so it is with each control request that a host asks in a settled network.
abbrev pub ControlTalks : Type 0
ControlTalks = (w : State) (x z : ℕ) (p : Packet) (c : Control) (journal : List Event) (found : Option Packet) (left : State)
    → IsSettled w → IsLedControl w x z p c → IsTalk w x p journal found left → IsControlTalk w z c journal found left
