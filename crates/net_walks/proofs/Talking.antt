-- What a walker leaves when its answer is taken out.
use Rattle.std.proofs.Common.{◌≡◌, ℕ, ◌<◌, Bool, true, false, List, [], ◌∷◌, ◌++◌, length, refl, sym, ◌∙◌, ap, subst, set, drop, if◌then◌else◌}
use Rattle.std.specs.Prelude.{Option, Some, None, slice_get, ◌||◌}
use Rattle.std.proofs.lemmas.List.{get_or-set_same, set-get_or}
use Rattle.chdr_packets.specs.declared.packet.Packet.{Packet}
use Rattle.chdr_words.specs.declared.epid.Epid.{Epid}
use Rattle.chdr_words.specs.declared.management.MgmtOp.{MgmtOp}
use Rattle.net_topology.specs.declared.plan.Plan.{Plan}
use Rattle.net_topology.proofs.Laws.{links_join_ports, links_leave_by_ports}
use Rattle.net_machine.specs.Moves.{after_journal, answered, asks}
use Rattle.net_machine.specs.State.{Node, State, blank, node_at}
use Rattle.net_lone.specs.Control.{has_answered, has_asked, loses_answer, loses_request}
use Rattle.net_lone.specs.Runs.{IsFirst, has_loss}
use Rattle.net_lone.specs.Stages.{Answered, Asking, Gone, IsLone, IsSettled, Lone, lone, state_of, with_message}
use Rattle.net_lone.proofs.Laws.{answered_is_settled, first_is_of_the_message, one_end}
use Rattle.net_walks.specs.Probes.{SendsWalkers, return_end}
use Rattle.net_walks.specs.Talks.{WalkersTalk, has_walked, walk_answer, walk_left}
use Rattle.net_walks.specs.Walks.{returner, walker}

-- ---- a management packet is asked

walked-settled : (w : State) → IsSettled w → IsSettled (has_walked w)
walked-settled w settled = record {
  queues = record {
    tree = settled.queues.tree;
    queues = settled.queues.queues;
  };
  nodes = settled.nodes;
  places = settled.places;
  few = settled.few;
  rest = record {
    empty = settled.rest.empty;
    still = settled.rest.still;
    heard = settled.rest.heard;
  };
  clear = settled.clear;
}

walked-sends : (w : State) (x : ℕ) (src : Epid) → SendsWalkers w x src → SendsWalkers (has_walked w) x src
walked-sends w x src sends = record {
  host = sends.host;
  own = sends.own;
  some = sends.some;
  fits = sends.fits;
}

asks-walker : (w : State) (x : ℕ) (src : Epid) (hops : List (List MgmtOp)) → asks x (walker src hops) w ≡ with_message (has_walked w) (Asking x (walker src hops))
asks-walker w x src hops = ap (λ b. with_message (record w { walked = b }) (Asking x (walker src hops))) (by_walked w.walked)
  where
    by_walked : (b : Bool) → (b || true) ≡ true
    by_walked true = refl
    by_walked false = refl

-- ---- what is left

-- where none lies at a node none is taken out
none-taken : (w : State) (x : ℕ) → (node_at w x).answers ≡ [] → answered x w ≡ w
none-taken w x none =
    ap (λ (ps : List Packet). record w { nodes = set w.nodes x (record (node_at w x) { answers = ps }) }) (ap (λ (ps : List Packet). drop 1 ps) none ∙ sym none)
    ∙ ap (λ (nodes : List Node). record w { nodes = nodes }) (set-get_or w.nodes x blank)

-- the first answer is the one that came
came-first : (w : State) (x : ℕ) (p : Packet) → x < length w.nodes → (node_at w x).answers ≡ [] →
    slice_get (node_at (with_message w (Answered x p)) x).answers 0 ≡ Some p
came-first w x p lt none =
    ap (λ (n : Node). slice_get n.answers 0) (get_or-set_same w.nodes x (record (node_at w x) { answers = (node_at w x).answers ++ p ∷ [] }) blank lt)
    ∙ ap (λ (ps : List Packet). slice_get (ps ++ p ∷ []) 0) none

-- a network with a message that is at its end: the answer at a node, and what is left when that is taken out
record Leaves (x : ℕ) (end : Lone) (found : Option Packet) (left : State) : Type 0 where
  answer : slice_get (node_at (state_of end) x).answers 0 ≡ found
  leaves : answered x (state_of end) ≡ left
  settled : IsSettled left

gone-leaves : (w : State) (x : ℕ) → x < length w.nodes → IsSettled w → Leaves x (lone w Gone) None w
gone-leaves w x lt settled =
    let none = settled.rest.heard x blank lt in
    record {
      answer = ap (λ (ps : List Packet). slice_get ps 0) none;
      leaves = none-taken w x none;
      settled = settled;
    }

came-leaves : (w : State) (x : ℕ) (p : Packet) → x < length w.nodes → IsSettled w → Leaves x (lone w (Answered x p)) (Some p) w
came-leaves w x p lt settled = record {
  answer = came-first w x p lt (settled.rest.heard x blank lt);
  leaves = answered_is_settled w x p settled;
  settled = settled;
}

-- a walker at its end: it is gone and was asked, or it left these nodes
walk-leaves : (w : State) (x : ℕ) (src : Epid) (nodes : List Node) (back : List (List MgmtOp)) → x < length w.tree.nodes →
    IsLone (return_end (has_walked w) x nodes src back) → Leaves x (return_end (has_walked w) x nodes src back) (walk_answer w src back) (walk_left w nodes)
walk-leaves w x src nodes back lt is = by_loss (loses_request w) (loses_answer w) is
  where
    u : State
    u = has_answered (record (has_asked (has_walked w)) { nodes = nodes })

    p : Packet
    p = returner src back

    here : (v : State) → v.tree ≡ w.tree → IsSettled v → x < length v.nodes
    here v same settled = subst (λ n. x < n) (sym (settled.nodes ∙ ap (λ (t : Plan). length t.nodes) same)) lt

    by_loss : (m n : Bool) → IsLone (if m then lone (has_asked (has_walked w)) Gone else lone u (if n then Gone else Answered x p)) →
        Leaves x (if m then lone (has_asked (has_walked w)) Gone else lone u (if n then Gone else Answered x p)) (if m || n then None else Some p)
        (if m then has_asked (has_walked w) else u)
    by_loss true n is = gone-leaves (has_asked (has_walked w)) x (here (has_asked (has_walked w)) refl is.settled) is.settled
    by_loss false true is = gone-leaves u x (here u refl is.settled) is.settled
    by_loss false false is = came-leaves u x p (here u refl is.settled) is.settled

pub walkers-talk : WalkersTalk
walkers-talk w x d ds src hops nodes back journal found left settled sends walk returns talk =
    let v = has_walked w in
    let p = walker src hops in
    let end : Lone = return_end v x nodes src back in
    let same : asks x p w ≡ with_message v (Asking x p) = asks-walker w x src hops in
    let is : IsLone (lone v (Asking x p)) = record {
      settled = walked-settled w settled;
      fits = (tt, (d, walk.first));
    } in
    let came = first_is_of_the_message (lone v (Asking x p)) journal is (subst (λ (u : State). IsFirst u journal) same talk.first) in
    let goes = returns (walked-settled w settled) (walked-sends w x src sends) in
    let one = one_end (lone v (Asking x p)) came.end end journal goes.journal came.ends goes.ends in
    let after : after_journal (asks x p w) journal ≡ state_of end = ap (λ (u : State). after_journal u journal) same ∙ came.leaves ∙ ap state_of one.1 in
    let at = links_leave_by_ports w.tree d x 0 walk.first in
    let there : x < length w.tree.nodes = subst (λ n. n < length w.tree.nodes) at.0 (links_join_ports w.tree settled.queues.tree d at.2).0 in
    let leaves = walk-leaves w x src nodes back there (subst IsLone one.1 came.lone) in
    let is_left : left ≡ walk_left w nodes = talk.leaves ∙ ap (answered x) after ∙ leaves.leaves in
    record {
      answer = talk.answer ∙ ap (λ (u : State). slice_get (node_at u x).answers 0) after ∙ leaves.answer;
      leaves = is_left;
      loss = ap has_loss one.0 ∙ goes.loss;
      settled = subst IsSettled (sym is_left) leaves.settled;
    }
