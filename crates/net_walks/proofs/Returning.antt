-- Walkers come back from the ends of their ways.
use Rattle.std.proofs.Common.{◌≡◌, ℕ, Bool, true, false, List, [], ◌∷◌, ◌++◌, refl, sym, ◌∙◌, ap, subst, arith, if◌then◌else◌}
use Rattle.std.specs.Prelude.{Option, Some, None}
use Rattle.std.specs.Option.{option_map_or}
use Rattle.std.proofs.lemmas.Bool.{ne_eqb}
use Rattle.chdr_packets.specs.declared.packet.Packet.{Packet}
use Rattle.chdr_words.specs.declared.epid.Epid.{Epid}
use Rattle.chdr_words.specs.declared.management.MgmtOp.{MgmtOp}
use Rattle.net_topology.specs.Links.{back_of, end_of}
use Rattle.net_topology.proofs.Laws.{links_leave_by_ports}
use Rattle.net_machine.specs.Queues.{forward_vc}
use Rattle.net_machine.specs.State.{Node, State}
use Rattle.net_lone.specs.Control.{has_answered, has_asked, loses_answer, loses_request}
use Rattle.net_lone.specs.Lone.{moved_over}
use Rattle.net_lone.specs.Runs.{Comes}
use Rattle.net_lone.specs.Stages.{Answered, Answering, Gone, IsSettled, Lone, lone, next_event}
use Rattle.net_lone.proofs.Laws.{answers_come_back, requests_enter}
use Rattle.net_walks.specs.Probes.{SendsWalkers, return_end}
use Rattle.net_walks.specs.Returns.{WalkersArrive, WalkersComeBack}
use Rattle.net_walks.specs.Walks.{hops_over, returner, walker}
use Rattle.net_walks.specs.Ways.{last_of, passed_over}
use Rattle.net_walks.proofs.Backs.{backs-end}
use Rattle.net_walks.proofs.Nodes.{hosts-end, hosts-epids}
use Rattle.net_walks.proofs.Walking.{AllHavePlaces, back-from, have-entries, last-there, long-over, places-over, walks-over}

-- each crossbar and adapter has a place for the host's EPID
have-places : (w : State) (x : ℕ) (src : Epid) → IsSettled w → SendsWalkers w x src → AllHavePlaces w.tree src w.nodes
have-places w x src settled sends y switch =
    settled.places y x src switch (hosts-epids w.tree x sends.host ∙ ap (λ (e : Epid). Some e) sends.own)

pub walkers-arrive : WalkersArrive
walkers-arrive w x d ds src settled sends walk = record {
  link = last-there w.tree d (links_leave_by_ports w.tree d x 0 walk.first).2 ds walk.goes;
  long = long-over w.tree src d ds w.nodes ∙ settled.nodes;
  place = places-over w.tree src d ds w.nodes (have-places w x src settled sends) (end_of w.tree.links (last_of d ds));
}

ends-of : (w : State) (x : ℕ) (left : List Node) (src : Epid) (back : List (List MgmtOp)) → next_event (return_end w x left src back).stage ≡ None
ends-of w x left src back = by_loss (loses_request w) (loses_answer w)
  where
    u : State
    u = has_answered (record (has_asked w) { nodes = left })

    by_loss : (m n : Bool) → next_event (if m then lone (has_asked w) Gone else lone u (if n then Gone else Answered x (returner src back))).stage ≡ None
    by_loss true n = refl
    by_loss false true = refl
    by_loss false false = refl

pub walkers-back : WalkersComeBack
walkers-back w x d ds src hop hops left back settled sends walk sent =
    let tree = settled.queues.tree in
    let l = last_of d ds in
    let z = end_of w.tree.links l in
    let v : State = record (has_asked w) { nodes = left } in
    let p : Packet = returner src back in
    let first = links_leave_by_ports w.tree d x 0 walk.first in
    let entries = have-entries w.tree tree src d first.2 ds w.nodes left walk.goes walk.once settled.nodes (have-places w x src settled sends) sent.others in
    let begins : end_of w.tree.links (back_of d) ≡ x = (backs-end w.tree.links d).0 ∙ first.0 in
    let further = back-from w.tree tree left src x d first.2 ds [] begins walk.goes entries in
    let end : Lone = lone (has_answered v) (if loses_answer w then Gone else Answered x p) in
    let comes = answers_come_back v x z p (back_of l) further.0 (ne_eqb src.0 0 (λ none. omega (arith, none, sends.some)))
    (ap (λ b. lone (has_answered v) (if b then Answered x p else Gone)) sends.host) sent.home further.1 (hosts-end w.tree x sends.host) in
    let at_last : moved_over (record (has_asked w) { nodes = passed_over w.tree src d ds w.nodes }) l forward_vc (walker src (hop ∷ hops)) ≡ lone v (Answering z p) =
    sent.moves ∙ ap (λ (o : Option ℕ). lone v (option_map_or (λ (e : ℕ). Answering z p) o Gone)) sent.home in
    let walked = walks-over (has_asked w) tree sends.fits src d first.2 ds walk.goes hop hops end (loses_answer w)
    (subst (λ (m : Lone). Comes m end (loses_answer w)) (sym at_last) comes) in
    let it = requests_enter w x (walker src (hops_over w.tree.links (d ∷ ds) ++ hop ∷ hops)) d end (loses_answer w) walk.first walked in
    record {
      journal = it.journal;
      ends = record {
        goes = it.goes;
        over = ends-of w x left src back;
      };
      loss = it.loss;
    }
