-- How messages go from step to step: they enter, are carried by tables, and come back.
use Rattle.std.specs.Prelude.{◌≡◌, ◌||◌, ℕ, ◌<◌, Bool, false, List, Some, if◌then◌else◌}
use Rattle.chdr_packets.specs.declared.packet.Packet.{Packet}
use Rattle.net_topology.specs.Leads.{LeadsOver}
use Rattle.net_topology.specs.Links.{link_at}
use Rattle.net_machine.specs.declared.event.Event.{Event}
use Rattle.net_machine.specs.Nodes.{exits_of, is_switch, route_from}
use Rattle.net_machine.specs.Queues.{forward_vc, queue_of}
use Rattle.net_machine.specs.State.{State}
use Rattle.net_ways.specs.Hops.{GoesByTable}
use Rattle.net_lone.specs.Control.{has_answered, has_asked, loses_answer, loses_request}
use Rattle.net_lone.specs.Lone.{arrived, lone_after}
use Rattle.net_lone.specs.Runs.{Comes, is_loss}
use Rattle.net_lone.specs.Stages.{Answered, Answering, Asking, Gone, Lone, UnderWay, lone, next_event}

-- A message goes on from where its next event, which loses nothing, leaves it.
abbrev pub ComesOn : Type 0
ComesOn = (a b c : Lone) (e : Event) (loss : Bool) → next_event a.stage ≡ Some e → lone_after a ≡ b → is_loss e ≡ false → Comes b c loss → Comes a c loss

-- A request leaves its host over its link, or is lost.
abbrev pub RequestsEnter : Type 0
RequestsEnter = (w : State) (x : ℕ) (p : Packet) (d : ℕ) (b : Lone) (loss : Bool) → link_at w.tree.links x 0 ≡ Some d
    → Comes (lone (has_asked w) (UnderWay (queue_of d forward_vc) false p)) b loss
    → Comes (lone w (Asking x p)) (if loses_request w then lone (has_asked w) Gone else b) (loses_request w || loss)

-- Tables carry a message to the end node to which they lead.
abbrev pub MessagesAreCarried : Type 0
MessagesAreCarried = (w : State) (vc : ℕ) (p : Packet) (d : ℕ) (ds : List ℕ) (z : ℕ) (b : Lone) (loss : Bool) → vc < 2
    → GoesByTable p p.body → LeadsOver w.tree (exits_of w.nodes) p.dst d ds z → is_switch w.tree z ≡ false
    → Comes (arrived w z p p.body) b loss → Comes (lone w (UnderWay (queue_of d vc) false p)) b loss

-- An answer leaves its node and comes to the host to which tables lead, or is lost.
abbrev pub AnswersComeBack : Type 0
AnswersComeBack = (w : State) (x z : ℕ) (p : Packet) (d : ℕ) (ds : List ℕ) → GoesByTable p p.body
    → arrived (has_answered w) x p p.body ≡ lone (has_answered w) (Answered x p)
    → route_from w.tree w.nodes z p.dst ≡ Some d → LeadsOver w.tree (exits_of w.nodes) p.dst d ds x → is_switch w.tree x ≡ false
    → Comes (lone w (Answering z p)) (lone (has_answered w) (if loses_answer w then Gone else Answered x p)) (loses_answer w)
