-- What a control command does in the state of a network.
use Rattle.std.specs.Prelude.{◌≡◌, ◌⊎◌, ℕ, Bool, true, false, List, Option, None, Some, is_none, if◌then◌else◌}
use Rattle.std.specs.Option.{option_map_or}
use Rattle.chdr_packets.specs.declared.packet.Body.TheVariants as body
use Rattle.chdr_words.specs.Control.{FitsControl}
use Rattle.chdr_words.specs.declared.control.Control.{Control}
use Rattle.chdr_words.specs.declared.control.CtrlOp.{CtrlOp}
use Rattle.chdr_words.specs.declared.control.CtrlStatus.TheVariants.{Okay}
use Rattle.chdr_words.specs.declared.epid.Epid.{Epid}
use Rattle.ctrl_transactions.specs.Transactions.{reply}
use Rattle.net_lone.specs.Runs.{has_loss}
use Rattle.net_lone.specs.Talks.{IsTalk, control_answer, control_left}
use Rattle.net_machine.specs.Moves.{marked}
use Rattle.net_machine.specs.Nodes.{exits_of}
use Rattle.net_machine.specs.Passing.{message}
use Rattle.net_machine.specs.Queues.{forward_vc}
use Rattle.net_machine.specs.State.{Node, State}
use Rattle.net_machine.specs.declared.event.Event.{Event}
use Rattle.net_topology.specs.Leads.{Leads}
use Rattle.net_topology.specs.Tree.{node_with}
use Rattle.net_topology.specs.declared.plan.Plan.{Plan}
use Rattle.script_books.specs.declared.book.Book.{Book}
use Rattle.script_books.specs.declared.book.Book.TheVariants as book
use Rattle.script_books.specs.declared.refusal.Refusal.{Refusal}
use Rattle.script_books.specs.declared.refusal.Refusal.TheVariants as refusal
use Rattle.net_faults.specs.declared.fault.Fault.{Fault}
use Rattle.script_runner.specs.Talks.{OnHost}

-- the request of a control command: the host's first, from port 0
abbrev pub control_of : Epid → ℕ → CtrlOp → ℕ → List ℕ → ℕ → Control
control_of host port op addr words enables = record {
  src = host;
  ack = false;
  time = None;
  seq = 0;
  src_port = 0;
  dst_port = port;
  status = Okay;
  op = op;
  enables = enables;
  addr = addr;
  words = words;
}

-- it fits its words, and is a host's first
pub record IsFirstRequest (request : Control) : Type 0 where
  pub fits : FitsControl request
  pub first : request.seq ≡ 0
  pub asks : request.ack ≡ false

-- ---- before it is asked

-- tables lead from the host to the destination, and back; or they don't, first to the destination and then back
abbrev pub IsRouteCause : Plan → List Node → Epid → Epid → Option Refusal → Type 0
IsRouteCause tree nodes host dst None = Leads tree (exits_of nodes) host dst × Leads tree (exits_of nodes) dst host
IsRouteCause tree nodes host dst (Some why) =
    ((Leads tree (exits_of nodes) host dst → ⊥) × (why ≡ refusal.NoRoute dst))
    ⊎ (Leads tree (exits_of nodes) host dst × (Leads tree (exits_of nodes) dst host → ⊥) × (why ≡ refusal.NoRoute host))

abbrev pub IsControlCause : Plan → List Node → Epid → Epid → Option Refusal → Type 0
IsControlCause tree nodes host dst = OnHost tree host (IsRouteCause tree nodes host dst)

-- ---- once it is

-- what a request leaves of the state in which it is asked: it is operated at its destination, unless it is lost
abbrev pub control_past : Epid → Control → State → State
control_past dst request w = option_map_or (λ z. control_left w z request) (node_with w.tree.nodes dst) w

-- Nothing refuses the request, and the host asks it, once the requests and answers to lose are named, and counted from
-- 0. The first event happens, again and again, until none is left, and the answer is taken out. It has the
-- acknowledgement of what stands at the request's port, or the request or the answer was lost.
pub record IsControlAsked (w : State) (dst : Epid) (request : Control) (lose : List Fault) (found : Option Control) : Type 0 where
  pub free : IsControlCause w.tree w.nodes request.src dst None
  pub node : ℕ
  pub host : node_with w.tree.nodes request.src ≡ Some node
  pub target : ℕ
  pub destination : node_with w.tree.nodes dst ≡ Some target
  pub journal : List Event
  pub talk : IsTalk (marked lose w) node (message forward_vc dst (body.Control request)) journal
      (control_answer (marked lose w) target request) (control_past dst request (marked lose w))
  pub ack : found ≡ reply (marked lose w) target dst request
  pub lost : has_loss journal ≡ is_none found

-- it is refused before it is asked, or no acknowledgement came
abbrev pub IsControlRefused : State → Epid → Control → List Fault → Refusal → Type 0
IsControlRefused w dst request lose why =
    IsControlCause w.tree w.nodes request.src dst (Some why)
    ⊎ (IsControlAsked w dst request lose None × (why ≡ refusal.NoAck))

-- the book of a control command
abbrev pub IsControlBook : Epid → Control → List Fault → State → Book → Type 0
IsControlBook dst request lose w (book.Refused why) = IsControlRefused w dst request lose why
IsControlBook dst request lose w (book.Control ack) = IsControlAsked w dst request lose (Some ack)
IsControlBook dst request lose w told = ⊥

-- the request was asked, as the book tells
abbrev pub was_asked : Book → Bool
was_asked (book.Control ack) = true
was_asked (book.Refused refusal.NoAck) = true
was_asked told = false

-- the state that the command leaves; where the request wasn't asked all stays, and what was named before too
abbrev pub after_control : Epid → Control → List Fault → Book → State → State
after_control dst request lose told w = if was_asked told then control_past dst request (marked lose w) else w

-- both
pub record IsControlled (dst : Epid) (request : Control) (lose : List Fault) (w : State) (told : Book) (end : State) : Type 0 where
  pub book : IsControlBook dst request lose w told
  pub left : end ≡ after_control dst request lose told w
