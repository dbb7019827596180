-- What a control request leaves when its answer is taken out.
use Rattle.std.proofs.Common.{◌≡◌, ℕ, ◌<◌, Bool, true, false, List, [], ◌∷◌, ◌++◌, length, refl, sym, ◌∙◌, ap, subst, set, drop, if◌then◌else◌}
use Rattle.std.specs.Prelude.{Option, Some, None, slice_get, ◌||◌}
use Rattle.std.proofs.lemmas.List.{get_or-set_same}
use Rattle.chdr_packets.specs.declared.packet.Body.{Body}
use Rattle.chdr_packets.specs.declared.packet.Body.TheVariants as body
use Rattle.chdr_packets.specs.declared.packet.Packet.{Packet}
use Rattle.chdr_words.specs.declared.control.Control.{Control}
use Rattle.net_machine.specs.Moves.{after_journal, answered, asks, is_management}
use Rattle.net_machine.specs.State.{Node, State, blank, node_at}
use Rattle.net_ways.specs.Standing.{IsMessage}
use Rattle.net_lone.specs.Control.{control_end, has_answered, has_asked, loses_answer, loses_request}
use Rattle.net_lone.specs.Lone.{acknowledgement, operated}
use Rattle.net_lone.specs.Runs.{IsFirst, has_loss}
use Rattle.net_lone.specs.Stages.{Answered, Asking, Gone, IsLone, IsSettled, Lone, lone, state_of, with_message}
use Rattle.net_lone.specs.Talks.{ControlTalks, control_answer, control_left}
use Rattle.net_lone.proofs.Bases.{base-of}
use Rattle.net_lone.proofs.Control.{control-back, first-link}
use Rattle.net_lone.proofs.Ending.{answered-settled, first-goes, one-end}
use Rattle.net_lone.proofs.Happening.{answer-back}
use Rattle.net_lone.proofs.Only.{node-there}

-- a request that is no management packet changes nothing but its host
asks-control : (w : State) (x : ℕ) (p : Packet) (c : Control) → p.body ≡ body.Control c → asks x p w ≡ with_message w (Asking x p)
asks-control w x p c is = ap (λ b. with_message (record w { walked = b }) (Asking x p)) (by_walked w.walked)
  where
    by_walked : (b : Bool) → (b || is_management p.body) ≡ b
    by_walked true = refl
    by_walked false = ap is_management is

-- where none lies at a node none is taken out
none-taken : (w : State) (x : ℕ) → (node_at w x).answers ≡ [] → answered x w ≡ w
none-taken w x none =
    ap (λ (ps : List Packet). record w { nodes = set w.nodes x (record (node_at w x) { answers = drop 1 ps }) }) none
    ∙ ap (λ (nodes : List Node). record w { nodes = nodes }) (answer-back w.nodes x none)

-- the first answer is the one that came
came-first : (w : State) (x : ℕ) (p : Packet) → x < length w.nodes → (node_at w x).answers ≡ [] →
    slice_get (node_at (with_message w (Answered x p)) x).answers 0 ≡ Some p
came-first w x p lt none =
    ap (λ (n : Node). slice_get n.answers 0) (get_or-set_same w.nodes x (record (node_at w x) { answers = (node_at w x).answers ++ p ∷ [] }) blank lt)
    ∙ ap (λ (ps : List Packet). slice_get (ps ++ p ∷ []) 0) none

-- a network with a message that is at its end: the answer at a node, and what is left when that is taken out
record Leaves (x : ℕ) (end : Lone) (found : Option Packet) (left : State) : Type 0 where
  answer : slice_get (node_at (state_of end) x).answers 0 ≡ found
  leaves : answered x (state_of end) ≡ left
  settled : IsSettled left

gone-leaves : (w : State) (x : ℕ) → IsSettled w → Leaves x (lone w Gone) None w
gone-leaves w x settled =
    let none = (base-of w settled).heard x in
    record {
      answer = ap (λ (ps : List Packet). slice_get ps 0) none;
      leaves = none-taken w x none;
      settled = settled;
    }

came-leaves : (w : State) (x : ℕ) (p : Packet) → x < length w.nodes → IsSettled w → Leaves x (lone w (Answered x p)) (Some p) w
came-leaves w x p lt settled = record {
  answer = came-first w x p lt ((base-of w settled).heard x);
  leaves = answered-settled w x p settled;
  settled = settled;
}

control-leaves : (w : State) (x z : ℕ) (c : Control) → x < length w.nodes → IsLone (control_end w x z c) → Leaves x (control_end w x z c) (control_answer w z c) (control_left w z c)
control-leaves w x z c lt is = by_loss (loses_request w) (loses_answer w) is
  where
    u : State
    u = has_answered (operated (has_asked w) z c)

    ack : Packet
    ack = acknowledgement w z c

    by_loss : (m n : Bool) → IsLone (if m then lone (has_asked w) Gone else lone u (if n then Gone else Answered x ack)) →
        Leaves x (if m then lone (has_asked w) Gone else lone u (if n then Gone else Answered x ack)) (if m || n then None else Some ack) (if m then has_asked w else u)
    by_loss true n is = gone-leaves (has_asked w) x is.settled
    by_loss false true is = gone-leaves u x is.settled
    by_loss false false is = came-leaves u x ack lt is.settled

pub control-talks : ControlTalks
control-talks w x z p c journal found left settled led talk =
    let base = base-of w settled in
    let same = asks-control w x p c led.body in
    let first = first-link w x z p c base.queues.tree led in
    let is : IsLone (lone w (Asking x p)) = record {
      settled = settled;
      fits = (subst (λ (b : Body). IsMessage b) (sym led.body) tt, (led.forth.first, first));
    } in
    let came = first-goes (lone w (Asking x p)) journal is (subst (λ (v : State). IsFirst v journal) same talk.first) in
    let it = control-back w x z p c settled led in
    let one = one-end (lone w (Asking x p)) came.end (control_end w x z c) journal it.journal came.ends it.ends in
    let after : after_journal (asks x p w) journal ≡ state_of (control_end w x z c) =
    ap (λ (v : State). after_journal v journal) same ∙ came.leaves ∙ ap state_of one.1 in
    let leaves = control-leaves w x z c (node-there w x 0 led.forth.first base first) (subst IsLone one.1 came.lone) in
    let is_left : left ≡ control_left w z c = talk.leaves ∙ ap (answered x) after ∙ leaves.leaves in
    record {
      answer = talk.answer ∙ ap (λ (v : State). slice_get (node_at v x).answers 0) after ∙ leaves.answer;
      leaves = is_left;
      loss = ap has_loss one.0 ∙ it.loss;
      settled = subst IsSettled (sym is_left) leaves.settled;
    }
