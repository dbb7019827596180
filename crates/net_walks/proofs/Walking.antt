-- A walker goes over links to a node, and what comes back goes by the entries that the walker left.
use Rattle.std.proofs.Common.{◌≡◌, ◌≢◌, ◌==◌, ℕ, ◌*◌, ◌<◌, Bool, true, false, List, [], ◌∷◌, ◌++◌, length, map, refl, sym, ◌∙◌, ap, subst, arith, eq-eqb, if◌then◌else◌}
use Rattle.std.specs.Prelude.{Some, None, ◌&&◌}
use Rattle.std.specs.Option.{option_and_then}
use Rattle.std.proofs.lemmas.Bool.{ne_eqb}
use Rattle.chdr_words.specs.declared.epid.Epid.{Epid}
use Rattle.chdr_words.specs.declared.management.MgmtOp.{MgmtOp}
use Rattle.net_nodes.specs.Table.{exit_of, has_place}
use Rattle.net_topology.specs.Leads.{LeadsOver, sent_on}
use Rattle.net_topology.specs.Links.{Avoids, NoneTwice, back_of, end_of, end_port, link_at, start_of, start_port}
use Rattle.net_topology.specs.Tree.{FitsPlan, IsTree}
use Rattle.net_topology.specs.declared.plan.LinkPlan.{LinkPlan}
use Rattle.net_topology.specs.declared.plan.Plan.{Plan}
use Rattle.net_topology.proofs.Laws.{links_join_ports, links_leave_by_ports}
use Rattle.net_machine.specs.declared.event.Event.TheVariants.{Hop}
use Rattle.net_machine.specs.Nodes.{exits_of, is_switch}
use Rattle.net_machine.specs.Queues.{channel_of, forward_vc, link_of_queue, queue_of}
use Rattle.net_machine.specs.State.{Node, State, node_in}
use Rattle.net_machine.proofs.Laws.{queues}
use Rattle.net_lone.specs.Lone.{moved_over}
use Rattle.net_lone.specs.Runs.{Comes}
use Rattle.net_lone.specs.Stages.{Lone, UnderWay, lone}
use Rattle.net_lone.proofs.Laws.{comes_on}
use Rattle.net_walks.specs.Walks.{advertised_at, hops_over, onward, walker}
use Rattle.net_walks.specs.Ways.{GoesOver, IsNextLink, last_of, passed_over}
use Rattle.net_walks.proofs.Backs.{backs-end, ports-back}
use Rattle.net_walks.proofs.Entries.{are-entered}
use Rattle.net_walks.proofs.Hops.{onward-goes}

-- ---- over links

from-queue : (w : State) (d : ℕ) (src : Epid) (hops : List (List MgmtOp)) →
    moved_over w (link_of_queue (queue_of d forward_vc)) (channel_of (queue_of d forward_vc)) (walker src hops) ≡ moved_over w d forward_vc (walker src hops)
from-queue w d src hops =
    let link = queues.link d forward_vc (omega arith) in
    let channel = queues.channel d forward_vc (omega arith) in
    λ i. moved_over w (link i) (channel i) (walker src hops)

-- some hops are behind these
some-hop : (hops : List (List MgmtOp)) (h : List MgmtOp) (rest : List (List MgmtOp)) →
    (first : List MgmtOp) × (others : List (List MgmtOp)) × (hops ++ h ∷ rest ≡ first ∷ others)
some-hop [] h rest = (h, rest, refl)
some-hop (hop ∷ hops) h rest = (hop, hops ++ h ∷ rest, refl)

-- one link further, whatever hops are left
next-goes : (w : State) → IsTree w.tree → FitsPlan w.tree → (d e : ℕ) → d < 2 * length w.tree.links → IsNextLink w.tree d e → (src : Epid)
    (rest : List (List MgmtOp)) (first : List MgmtOp) (others : List (List MgmtOp)) → rest ≡ first ∷ others →
    moved_over w d forward_vc (walker src (onward (start_port w.tree.links e) ∷ rest))
    ≡ lone (record w { nodes = advertised_at w.tree src d w.nodes }) (UnderWay (queue_of e forward_vc) false (walker src rest))
next-goes w tree fits d e lt next src rest first others is =
    subst (λ (hops : List (List MgmtOp)). moved_over w d forward_vc (walker src (onward (start_port w.tree.links e) ∷ hops))
    ≡ lone (record w { nodes = advertised_at w.tree src d w.nodes }) (UnderWay (queue_of e forward_vc) false (walker src hops))) (sym is)
    (onward-goes w tree fits d lt src (start_port w.tree.links e) e first others next.port next.small next.other next.link)

pub walks-over : (w : State) → IsTree w.tree → FitsPlan w.tree → (src : Epid) (d : ℕ) → d < 2 * length w.tree.links → (ds : List ℕ) → GoesOver w.tree d ds →
    (h : List MgmtOp) (rs : List (List MgmtOp)) (b : Lone) (lost : Bool) →
    Comes (moved_over (record w { nodes = passed_over w.tree src d ds w.nodes }) (last_of d ds) forward_vc (walker src (h ∷ rs))) b lost →
    Comes (lone w (UnderWay (queue_of d forward_vc) false (walker src (hops_over w.tree.links (d ∷ ds) ++ h ∷ rs)))) b lost
walks-over w tree fits src d lt [] goes h rs b lost later =
    comes_on (lone w (UnderWay (queue_of d forward_vc) false (walker src (h ∷ rs)))) (moved_over w d forward_vc (walker src (h ∷ rs))) b (Hop (queue_of d forward_vc)) lost
    refl (from-queue w d src (h ∷ rs)) refl later
walks-over w tree fits src d lt (e ∷ ds) goes h rs b lost later =
    let rest = hops_over w.tree.links (e ∷ ds) ++ h ∷ rs in
    let u : State = record w { nodes = advertised_at w.tree src d w.nodes } in
    let some = some-hop (hops_over w.tree.links (e ∷ ds)) h rs in
    comes_on (lone w (UnderWay (queue_of d forward_vc) false (walker src (onward (start_port w.tree.links e) ∷ rest)))) (lone u (UnderWay (queue_of e forward_vc) false (walker src rest))) b
    (Hop (queue_of d forward_vc)) lost refl
    (from-queue w d src (onward (start_port w.tree.links e) ∷ rest) ∙ next-goes w tree fits d e lt goes.0 src rest some.0 some.1 some.2) refl
    (walks-over u tree fits src e goes.0.there ds goes.1 h rs b lost later)

-- ---- the entries of a way

-- the node at the end of a link has the entry
pub entry-here : (tree : Plan) (src : Epid) (d : ℕ) (nodes : List Node) → end_of tree.links d < length nodes →
    has_place (node_in nodes (end_of tree.links d)).table src ≡ true →
    exits_of (advertised_at tree src d nodes) (end_of tree.links d) src ≡ Some (end_port tree.links d)
entry-here tree src d nodes lt has =
    let z = end_of tree.links d in
    let same : (src.0 == src.0) ≡ true = eq-eqb src.0 src.0 refl in
    (are-entered z src (end_port tree.links d) nodes).here lt src
    ∙ (λ i. if same i && has i then Some (end_port tree.links d) else exits_of nodes z src)

-- each node at the end of these links but the last has its port of arrival as the entry
abbrev pub HaveEntries : Plan → Epid → ℕ → List ℕ → List Node → Type 0
HaveEntries tree src d [] nodes = Unit {0}
HaveEntries tree src d (e ∷ ds) nodes =
    (exits_of nodes (end_of tree.links d) src ≡ Some (end_port tree.links d)) × HaveEntries tree src e ds nodes

-- nodes that these links don't end at are as they were
passed-other : (tree : Plan) (src : Epid) (d : ℕ) (ds : List ℕ) (nodes : List Node) (y : ℕ) → Avoids y (map (end_of tree.links) (d ∷ ds)) →
    node_in (passed_over tree src d ds nodes) y ≡ node_in nodes y
passed-other tree src d [] nodes y avoids = refl
passed-other tree src d (e ∷ ds) nodes y avoids =
    passed-other tree src e ds (advertised_at tree src d nodes) y avoids.1 ∙ (are-entered (end_of tree.links d) src (end_port tree.links d) nodes).elsewhere y avoids.0

-- each crossbar and adapter has a place for an EPID
abbrev pub AllHavePlaces : Plan → Epid → List Node → Type 0
AllHavePlaces tree src nodes = (x : ℕ) → is_switch tree x ≡ true → has_place (node_in nodes x).table src ≡ true

places-stay : (tree : Plan) (src : Epid) (d : ℕ) (nodes : List Node) → AllHavePlaces tree src nodes → AllHavePlaces tree src (advertised_at tree src d nodes)
places-stay tree src d nodes have x switch = (are-entered (end_of tree.links d) src (end_port tree.links d) nodes).places x src ∙ have x switch

long-stays : (tree : Plan) (src : Epid) (d : ℕ) (nodes : List Node) → length (advertised_at tree src d nodes) ≡ length nodes
long-stays tree src d nodes = (are-entered (end_of tree.links d) src (end_port tree.links d) nodes).long

pub places-over : (tree : Plan) (src : Epid) (d : ℕ) (ds : List ℕ) (nodes : List Node) → AllHavePlaces tree src nodes → AllHavePlaces tree src (passed_over tree src d ds nodes)
places-over tree src d [] nodes have = have
places-over tree src d (e ∷ ds) nodes have = places-over tree src e ds (advertised_at tree src d nodes) (places-stay tree src d nodes have)

pub long-over : (tree : Plan) (src : Epid) (d : ℕ) (ds : List ℕ) (nodes : List Node) → length (passed_over tree src d ds nodes) ≡ length nodes
long-over tree src d [] nodes = refl
long-over tree src d (e ∷ ds) nodes = long-over tree src e ds (advertised_at tree src d nodes) ∙ long-stays tree src d nodes

pub last-there : (tree : Plan) (d : ℕ) → d < 2 * length tree.links → (ds : List ℕ) → GoesOver tree d ds → last_of d ds < 2 * length tree.links
last-there tree d lt [] goes = lt
last-there tree d lt (e ∷ ds) goes = last-there tree e goes.0.there ds goes.1

entries-passed : (tree : Plan) → IsTree tree → (src : Epid) (d : ℕ) → d < 2 * length tree.links → (ds : List ℕ) (nodes : List Node) → GoesOver tree d ds →
    NoneTwice (map (end_of tree.links) (d ∷ ds)) → length nodes ≡ length tree.nodes → AllHavePlaces tree src nodes →
    HaveEntries tree src d ds (passed_over tree src d ds nodes)
entries-passed tree is src d lt [] nodes goes once long have = tt
entries-passed tree is src d lt (e ∷ ds) nodes goes once long have =
    let at : end_of tree.links d < length nodes = subst (λ n. end_of tree.links d < n) (sym long) (links_join_ports tree is d lt).1 in (
      ap (λ (n : Node). exit_of n.table src) (passed-other tree src e ds (advertised_at tree src d nodes) (end_of tree.links d) once.0)
          ∙ entry-here tree src d nodes at (have (end_of tree.links d) goes.0.switch),
      entries-passed tree is src e goes.0.there ds (advertised_at tree src d nodes) goes.1 once.1 (long-stays tree src d nodes ∙ long) (places-stay tree src d nodes have),
    )

-- none of them is the last one
avoids-last : (links : List LinkPlan) (y d : ℕ) (ds : List ℕ) → Avoids y (map (end_of links) (d ∷ ds)) → y ≢ end_of links (last_of d ds)
avoids-last links y d [] avoids = avoids.0
avoids-last links y d (e ∷ ds) avoids = avoids-last links y e ds avoids.1

-- so they have it whatever becomes of the last one
entries-left : (tree : Plan) (src : Epid) (d : ℕ) (ds : List ℕ) (nodes left : List Node) → NoneTwice (map (end_of tree.links) (d ∷ ds)) →
    ((y : ℕ) → y ≢ end_of tree.links (last_of d ds) → node_in left y ≡ node_in nodes y) → HaveEntries tree src d ds nodes → HaveEntries tree src d ds left
entries-left tree src d [] nodes left once others entries = tt
entries-left tree src d (e ∷ ds) nodes left once others entries = (
  ap (λ (n : Node). exit_of n.table src) (others (end_of tree.links d) (avoids-last tree.links (end_of tree.links d) e ds once.0)) ∙ entries.0,
  entries-left tree src e ds nodes left once.1 others entries.1,
)

pub have-entries : (tree : Plan) → IsTree tree → (src : Epid) (d : ℕ) → d < 2 * length tree.links → (ds : List ℕ) (nodes left : List Node) → GoesOver tree d ds →
    NoneTwice (map (end_of tree.links) (d ∷ ds)) → length nodes ≡ length tree.nodes → AllHavePlaces tree src nodes →
    ((y : ℕ) → y ≢ end_of tree.links (last_of d ds) → node_in left y ≡ node_in (passed_over tree src d ds nodes) y) → HaveEntries tree src d ds left
have-entries tree is src d lt ds nodes left goes once long have others =
    entries-left tree src d ds (passed_over tree src d ds nodes) left once others (entries-passed tree is src d lt ds nodes goes once long have)

-- ---- and back over them

-- at the end of d, coming back from over e, the entry leads on
turns-back : (tree : Plan) → IsTree tree → (nodes : List Node) (src : Epid) (d e : ℕ) → d < 2 * length tree.links → IsNextLink tree d e →
    exits_of nodes (end_of tree.links d) src ≡ Some (end_port tree.links d) →
    sent_on tree (exits_of nodes) src (back_of e) ≡ Some (back_of d)
turns-back tree is nodes src d e lt next entry =
    let links = tree.links in
    let starts : start_of links e ≡ end_of links d = (links_leave_by_ports tree e (end_of links d) (start_port links e) next.link).0 in
    let ends : end_of links (back_of e) ≡ end_of links d = (backs-end links e).0 ∙ starts in
    let other : (end_port links d == end_port links (back_of e)) ≡ false =
    ap (λ (p : ℕ). end_port links d == p) (backs-end links e).1 ∙ ne_eqb (end_port links d) (start_port links e) (λ same. next.other (sym same)) in
    let switch = next.switch in
    (λ i. if is_switch tree (ends i) then option_and_then (λ port. if port == end_port links (back_of e) then None else link_at links (ends i) port) (exits_of nodes (ends i) src) else None)
    ∙ (λ i. if switch i then option_and_then (λ port. if port == end_port links (back_of e) then None else link_at links (end_of links d) port) (entry i) else None)
    ∙ (λ i. if other i then None else link_at links (end_of links d) (end_port links d))
    ∙ ports-back tree d is lt

pub back-from : (tree : Plan) → IsTree tree → (nodes : List Node) (src : Epid) (x d : ℕ) → d < 2 * length tree.links → (ds links : List ℕ) →
    LeadsOver tree (exits_of nodes) src (back_of d) links x → GoesOver tree d ds → HaveEntries tree src d ds nodes →
    (further : List ℕ) × LeadsOver tree (exits_of nodes) src (back_of (last_of d ds)) further x
back-from tree is nodes src x d lt [] links leads goes entries = (links, leads)
back-from tree is nodes src x d lt (e ∷ ds) links leads goes entries =
    back-from tree is nodes src x e goes.0.there ds (back_of d ∷ links) (turns-back tree is nodes src d e lt goes.0 entries.0, leads) goes.1 entries.1
