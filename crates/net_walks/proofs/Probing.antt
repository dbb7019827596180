-- Probes come back from the ends of their ways.
use Rattle.std.proofs.Common.{◌≡◌, ℕ, ◌*◌, ◌<◌, Bool, true, false, List, [], ◌∷◌, length, refl, sym, ◌∙◌, ap, subst, if◌then◌else◌}
use Rattle.std.specs.Prelude.{Option, Some}
use Rattle.std.specs.Option.{option_and_then}
use Rattle.chdr_words.specs.declared.epid.Epid.{Epid}
use Rattle.chdr_words.specs.declared.management.MgmtOp.{MgmtOp}
use Rattle.net_topology.specs.Links.{back_of, end_of, end_port, link_at}
use Rattle.net_topology.specs.Tree.{IsTree}
use Rattle.net_topology.specs.declared.plan.Plan.{Plan}
use Rattle.net_topology.proofs.Laws.{links_join_ports}
use Rattle.net_machine.specs.Nodes.{exits_of, is_switch, route_from}
use Rattle.net_machine.specs.Queues.{forward_vc}
use Rattle.net_machine.specs.State.{Node, State, node_in}
use Rattle.net_nodes.specs.Table.{has_place}
use Rattle.net_lone.specs.Control.{has_asked}
use Rattle.net_lone.specs.Lone.{answering_at, moved_over}
use Rattle.net_lone.specs.Stages.{IsSettled, lone}
use Rattle.net_walks.specs.Probes.{BarePortsSendBack, ProbesComeBack}
use Rattle.net_walks.specs.Returns.{HasArrived, SendsBack}
use Rattle.net_walks.specs.Walks.{advertised_at, collector, information, inquiry, onward, returner, walker}
use Rattle.net_walks.specs.Ways.{last_of, left_by, passed_over}
use Rattle.net_walks.proofs.Backs.{ports-back}
use Rattle.net_walks.proofs.Entries.{are-entered}
use Rattle.net_walks.proofs.Hops.{inquiry-returns, onward-returns}
use Rattle.net_walks.proofs.Nodes.{one-port}
use Rattle.net_walks.proofs.Returning.{walkers-arrive, walkers-back}
use Rattle.net_walks.proofs.Walking.{entry-here}

-- the answer's route from the last node, which has the entry or has no table
last-route : (tree : Plan) → IsTree tree → (src : Epid) (l : ℕ) → l < 2 * length tree.links → (nodes : List Node) → length nodes ≡ length tree.nodes →
    (is_switch tree (end_of tree.links l) ≡ true → has_place (node_in nodes (end_of tree.links l)).table src ≡ true) →
    route_from tree (advertised_at tree src l nodes) (end_of tree.links l) src ≡ Some (back_of l)
last-route tree is src l lt nodes long place = by_sort (is_switch tree (end_of tree.links l)) refl
  where
    z : ℕ
    z = end_of tree.links l

    left : List Node
    left = advertised_at tree src l nodes

    by_sort : (b : Bool) → is_switch tree z ≡ b → (if b then option_and_then (link_at tree.links z) (exits_of left z src) else link_at tree.links z 0) ≡ Some (back_of l)
    by_sort true switch =
        ap (λ (o : Option ℕ). option_and_then (link_at tree.links z) o)
        (entry-here tree src l nodes (subst (λ n. z < n) (sym long) (links_join_ports tree is l lt).1) (place switch))
        ∙ ports-back tree l is lt
    by_sort false switch =
        ap (λ (p : ℕ). link_at tree.links z p) (sym (one-port tree z (end_port tree.links l) switch (links_join_ports tree is l lt).3))
        ∙ ports-back tree l is lt

-- the last node sends a probe back, and leaves its entry alone
probe-sent : (w : State) (d : ℕ) (ds : List ℕ) (src : Epid) (hops back : List (List MgmtOp)) → IsSettled w → HasArrived w d ds src →
    let l = last_of d ds in
    let u : State = record (has_asked w) { nodes = passed_over w.tree src d ds w.nodes } in
    let v : State = record (has_asked w) { nodes = left_by w.tree src d ds w.nodes } in
    moved_over u l forward_vc (walker src hops) ≡ lone v (answering_at v (end_of w.tree.links l) (returner src back)) →
    SendsBack w d ds src hops (left_by w.tree src d ds w.nodes) back
probe-sent w d ds src hops back settled arrived moves =
    let l = last_of d ds in
    let passed = passed_over w.tree src d ds w.nodes in
    record {
      moves = moves;
      home = last-route w.tree settled.queues.tree src l arrived.link passed arrived.long arrived.place;
      others = (are-entered (end_of w.tree.links l) src (end_port w.tree.links l) passed).elsewhere;
    }

pub probes-back : ProbesComeBack
probes-back w x d ds src settled sends walk =
    let arrived = walkers-arrive w x d ds src settled sends walk in
    let u : State = record (has_asked w) { nodes = passed_over w.tree src d ds w.nodes } in
    let back = information w.tree (last_of d ds) ∷ [] in
    walkers-back w x d ds src inquiry (collector ∷ []) (left_by w.tree src d ds w.nodes) back settled sends walk
    (probe-sent w d ds src (inquiry ∷ collector ∷ []) back settled arrived (inquiry-returns u settled.queues.tree (last_of d ds) arrived.link src))

pub bare-back : BarePortsSendBack
bare-back w x d ds src port settled sends walk there small other bare =
    let arrived = walkers-arrive w x d ds src settled sends walk in
    let u : State = record (has_asked w) { nodes = passed_over w.tree src d ds w.nodes } in
    let back = inquiry ∷ collector ∷ [] in
    walkers-back w x d ds src (onward port) back (left_by w.tree src d ds w.nodes) back settled sends walk
    (probe-sent w d ds src (onward port ∷ back) back settled arrived
    (onward-returns u settled.queues.tree sends.fits (last_of d ds) arrived.link src port inquiry (collector ∷ []) there small other bare))
