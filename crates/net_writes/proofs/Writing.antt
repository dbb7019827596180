-- Writes come back from the ends of their ways, and what they leave when their answers are taken out.
use Rattle.std.proofs.Common.{◌≡◌, ◌≢◌, ℕ, ◌*◌, ◌<◌, true, List, [], ◌∷◌, ◌++◌, length, sym, ◌∙◌, ap, subst, if◌then◌else◌}
use Rattle.std.specs.Prelude.{Option, Some}
use Rattle.std.specs.Option.{option_and_then}
use Rattle.std.proofs.lemmas.List.{get_or-set_other}
use Rattle.chdr_words.specs.declared.epid.Epid.{Epid}
use Rattle.net_nodes.specs.Table.{has_place}
use Rattle.net_topology.specs.Links.{back_of, end_of, end_port, link_at}
use Rattle.net_topology.specs.Tree.{IsTree}
use Rattle.net_topology.specs.declared.plan.Plan.{Plan}
use Rattle.net_topology.proofs.Laws.{links_join_ports}
use Rattle.net_machine.specs.Nodes.{exits_of, route_from}
use Rattle.net_machine.specs.State.{Node, State, blank, node_in}
use Rattle.net_lone.specs.Control.{has_asked}
use Rattle.net_walks.specs.Entries.{entered}
use Rattle.net_walks.specs.Talks.{has_walked}
use Rattle.net_walks.specs.Walks.{advertised_at, collector, hops_over}
use Rattle.net_walks.specs.Ways.{last_of, passed_over}
use Rattle.net_walks.proofs.Laws.{ports_lead_back, walkers_arrive, walkers_come_back, walkers_talk}
use Rattle.net_writes.specs.Crossings.{Crossing, crossed_at, crossed_by, writing}
use Rattle.net_writes.specs.Talks.{WriteTalks}
use Rattle.net_writes.specs.Writing.{IsEntry, WritesComeBack}
use Rattle.net_writes.proofs.Entries.{crossed-twice, entered-elsewhere, entered-here, entered-long, entry-lasts}
use Rattle.net_writes.proofs.Hops.{write-returns}

-- the host's own entry is the port of arrival, whatever entries are written
home-stays : (tree : Plan) → IsTree tree → (src : Epid) (l : ℕ) → l < 2 * length tree.links → (it : Crossing) (nodes : List Node) → length nodes ≡ length tree.nodes →
    has_place (node_in nodes (end_of tree.links l)).table src ≡ true → IsEntry tree src l it.a it.to_a → IsEntry tree src l it.b it.to_b →
    exits_of (crossed_at (end_of tree.links l) it (advertised_at tree src l nodes)) (end_of tree.links l) src ≡ Some (end_port tree.links l)
home-stays tree is src l lt it nodes long have a b =
    let z = end_of tree.links l in
    let port = end_port tree.links l in
    let here : z < length nodes = subst (λ n. z < n) (sym long) (links_join_ports tree is l lt).1 in
    let one : List Node = advertised_at tree src l nodes in
    let two : List Node = entered z it.b it.to_b one in
    let here_1 : z < length one = subst (λ n. z < n) (sym (entered-long z src port nodes)) here in
    let here_2 : z < length two = subst (λ n. z < n) (sym (entered-long z it.b it.to_b one)) here_1 in
    ap (λ (ns : List Node). exits_of ns z src) (crossed-twice z it one here_1)
    ∙ entry-lasts z it.a it.to_a two here_2 z src port (λ same mine. a.home (sym mine))
    (entry-lasts z it.b it.to_b one here_1 z src port (λ same mine. b.home (sym mine)) (entered-here z src port nodes here have))

-- other nodes have no new entry
crossed-elsewhere : (z : ℕ) (it : Crossing) (nodes : List Node) (y : ℕ) → y ≢ z → node_in (crossed_at z it nodes) y ≡ node_in nodes y
crossed-elsewhere z it nodes y other = get_or-set_other nodes z y _ blank other

pub writes-back : WritesComeBack
writes-back w x d ds src it settled sends walk may =
    let tree = settled.queues.tree in
    let l = last_of d ds in
    let z = end_of w.tree.links l in
    let passed : List Node = passed_over w.tree src d ds w.nodes in
    let left : List Node = crossed_by w.tree src d ds it w.nodes in
    let u : State = record (has_asked w) { nodes = passed } in
    let arrived = walkers_arrive w x d ds src settled sends walk in
    let there : z < length passed = subst (λ n. z < n) (sym arrived.long) (links_join_ports w.tree tree l arrived.link).1 in
    let home = home-stays w.tree tree src l arrived.link it passed arrived.long (arrived.place may.switch) may.a may.b in
    let route : route_from w.tree left z src ≡ Some (back_of l) =
    ap (λ b. if b then option_and_then (link_at w.tree.links z) (exits_of left z src) else link_at w.tree.links z 0) may.switch
    ∙ ap (λ (o : Option ℕ). option_and_then (link_at w.tree.links z) o) home ∙ ports_lead_back w.tree l tree arrived.link in
    walkers_come_back w x d ds src (writing it) (collector ∷ []) left (collector ∷ []) settled sends walk
    (record {
      moves = write-returns u tree sends.fits l arrived.link there src it may;
      home = route;
      others = λ y other. crossed-elsewhere z it (advertised_at w.tree src l passed) y other ∙ entered-elsewhere z src (end_port w.tree.links l) passed y other;
    })

pub write-talks : WriteTalks
write-talks w x d ds src it journal found left settled sends walk may talk =
    walkers_talk w x d ds src (hops_over w.tree.links (d ∷ ds) ++ writing it ∷ collector ∷ []) (crossed_by w.tree src d ds it w.nodes) (collector ∷ []) journal found left settled sends walk
    (λ walked asks. writes-back (has_walked w) x d ds src it walked asks walk may) talk
