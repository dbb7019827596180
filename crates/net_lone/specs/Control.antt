-- A control request from a host, where tables lead there and back.
use Rattle.std.specs.Prelude.{◌≡◌, ◌||◌, ℕ, ◌+◌, Bool, true, false, List, Some, if◌then◌else◌}
use Rattle.chdr_packets.specs.declared.packet.Body.TheVariants as body
use Rattle.chdr_packets.specs.declared.packet.Packet.{Packet}
use Rattle.chdr_words.specs.declared.control.Control.{Control}
use Rattle.net_topology.specs.Tree.{node_with}
use Rattle.net_faults.specs.declared.fault.Fault.TheVariants as fault
use Rattle.net_machine.specs.declared.event.Event.{Event}
use Rattle.net_machine.specs.Faults.{is_named}
use Rattle.net_machine.specs.Nodes.{is_host_at, own_epid}
use Rattle.net_machine.specs.State.{State}
use Rattle.net_ways.specs.Ways.{IsLedTo}
use Rattle.net_lone.specs.Lone.{acknowledgement, operated}
use Rattle.net_lone.specs.Runs.{Ends, has_loss}
use Rattle.net_lone.specs.Stages.{Answered, Asking, Gone, IsSettled, Lone, lone}

-- node x is a host, the packet is a control request of it for node z, and tables lead there and back
pub record IsLedControl (w : State) (x z : ℕ) (p : Packet) (c : Control) : Type 0 where
  pub body : p.body ≡ body.Control c
  pub request : c.ack ≡ false
  pub source : c.src ≡ own_epid w.tree x
  pub host : is_host_at w.tree x ≡ true
  pub target : node_with w.tree.nodes p.dst ≡ Some z
  pub forth : IsLedTo w (own_epid w.tree x) p.dst
  pub back : IsLedTo w p.dst (own_epid w.tree x)

-- the next request is to be lost
abbrev pub loses_request : State → Bool
loses_request w = is_named w.faults (fault.Request w.requests)

-- the next answer is
abbrev pub loses_answer : State → Bool
loses_answer w = is_named w.faults (fault.Answer w.answers)

-- a request entered its first queue
abbrev pub has_asked : State → State
has_asked w = record w { requests = w.requests + 1 }

-- an answer did
abbrev pub has_answered : State → State
has_answered w = record w { answers = w.answers + 1 }

-- What becomes of a control request from host x to node z. It is lost, or it is operated and its acknowledgement is
-- lost, or that comes to the host.
abbrev pub control_end : State → ℕ → ℕ → Control → Lone
control_end w x z c =
    if loses_request w then lone (has_asked w) Gone
    else lone (has_answered (operated (has_asked w) z c)) (if loses_answer w then Gone else Answered x (acknowledgement w z c))

-- a journal of such a request, which has a loss exactly where its request or its answer is lost
pub record ControlEnds (w : State) (x z : ℕ) (p : Packet) (c : Control) : Type 0 where
  pub journal : List Event
  pub ends : Ends (lone w (Asking x p)) journal (control_end w x z c)
  pub loss : has_loss journal ≡ (loses_request w || loses_answer w)

-- A control request goes its way to its end, and back.
abbrev pub ControlComesBack : Type 0
ControlComesBack = (w : State) (x z : ℕ) (p : Packet) (c : Control) → IsSettled w → IsLedControl w x z p c → ControlEnds w x z p c
