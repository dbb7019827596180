-- One write: what it leaves of a net.
use Rattle.std.proofs.Common.{◌≡◌, ℕ, ◌<◌, ◌≤◌, Bool, true, false, List, [], ◌∷◌, ◌++◌, length, map, refl, sym, ◌∙◌, ap, subst, arith, if◌then◌else◌}
use Rattle.std.specs.Prelude.{Option, Some, None, IsSome, is_some, not, ◌||◌}
use Rattle.std.proofs.lemmas.List.{append-nil}
use Rattle.block_registers.specs.Registers.{Registers}
use Rattle.chdr_packets.specs.declared.packet.Packet.{Packet}
use Rattle.chdr_words.specs.declared.epid.Epid.{Epid}
use Rattle.chdr_words.specs.declared.management.MgmtOp.{MgmtOp}
use Rattle.net_topology.specs.Links.{end_of, end_port, link_at, start_port}
use Rattle.net_topology.specs.Parts.{way_of}
use Rattle.net_topology.specs.Tree.{FitsPlan, port_count}
use Rattle.net_topology.specs.declared.plan.Plan.{Plan}
use Rattle.net_faults.specs.declared.fault.Fault.TheVariants as fault
use Rattle.net_machine.specs.declared.event.Event.{Event}
use Rattle.net_machine.specs.Faults.{is_named}
use Rattle.net_machine.specs.Nodes.{is_host_at, own_epid}
use Rattle.net_machine.specs.State.{State}
use Rattle.net_present.specs.Present.{Present}
use Rattle.net_lone.specs.Control.{has_answered, has_asked, loses_answer, loses_request}
use Rattle.net_lone.specs.Runs.{has_loss}
use Rattle.net_lone.specs.Stages.{IsSettled}
use Rattle.net_lone.specs.Talks.{IsTalk}
use Rattle.net_walks.specs.Probes.{SendsWalkers}
use Rattle.net_walks.specs.Talks.{has_walked}
use Rattle.net_walks.specs.Walks.{collector, hops_over, onward, returner, walker}
use Rattle.net_walks.specs.Ways.{last_of}
use Rattle.net_writes.specs.Crossings.{Crossing, crossed_by, write_packet, writing}
use Rattle.net_writes.specs.Routes.{MayWrite, crossed_over, crossing_between}
use Rattle.net_writes.specs.Talks.{write_answer, write_left}
use Rattle.net_walks.proofs.Laws.{hops_leave_by_ports, hosts_have_some, ports_are_few}
use Rattle.net_writes.proofs.Laws.{may_be_written, write_talks}
use Rattle.fabric_net.specs.Asking.{CanAskNow}
use Rattle.fabric_net.specs.Standing.{StandsFor}
use Rattle.host_talk.specs.Settled.{IsSettledNow}
use Rattle.host_talk.specs.Talking.{HasTalked}
use Rattle.host_talk.proofs.Laws.{settled_nets, settled_states}
use Rattle.walk_books.specs.declared.found.FoundNode.{FoundNode}
use Rattle.route_writes.specs.declared.steps.Step.{Step}
use Rattle.route_writes.specs.declared.writes.Ends.{Ends}
use Rattle.route_writes.specs.Packets.{crossing_of, onward_by, write_by}
use Rattle.route_writes.specs.Planned.{IsCrossing, route_at}
use Rattle.route_writes.specs.Steps.{step_over, way_steps}
use Rattle.route_writes.specs.Writes.{AreWritten, Desk, HasCrossed, Write, crossed_between, loses_answer_now, loses_request_now, packet_of}
use Rattle.route_writes.proofs.Asking.{FitsCrossing, may-ask}

-- the write between links d and e, with what followed
abbrev write_of : ℕ → ℕ → List Event → Write
write_of d e journal = record { before = d; behind = e; journal = journal }

-- ---- its packet

-- it may be done
may-of : (tree : Plan) (nodes : List FoundNode) (ends : Ends) (before behind : Step) (d e : ℕ) (it : IsCrossing tree nodes ends before behind d e) →
    MayWrite tree ends.node ends.host ends.a ends.b d e
may-of tree nodes ends before behind d e it = may_be_written tree ends.node it.y it.z ends.host ends.a ends.b it.front d e it.rest it.route it.way

-- the entries of a write fit
fits-of : (tree : Plan) (ends : Ends) (d e : ℕ) → FitsPlan tree → (may : MayWrite tree ends.node ends.host ends.a ends.b d e) →
    FitsCrossing (crossing_between tree.links ends.a ends.b d e)
fits-of tree ends d e fits may =
    let z = end_of tree.links (last_of may.first may.behind) in
    let few : port_count tree.nodes z ≤ 32 = ports_are_few tree z fits in
    let to_a : end_port tree.links d < port_count tree.nodes z = may.may.a.there in
    let to_b : start_port tree.links e < port_count tree.nodes z = may.may.b.there in
    record {
      a = may.may.a.fits;
      to_a = omega (arith, to_a, few);
      b = may.may.b.fits;
      to_b = omega (arith, to_b, few);
    }

by-steps : (tree : Plan) (ds : List ℕ) → map onward_by (map (step_over tree) ds) ≡ map onward (map (start_port tree.links) ds)
by-steps tree [] = refl
by-steps tree (d ∷ ds) = ap (λ (hops : List (List MgmtOp)). onward (start_port tree.links d) ∷ hops) (by-steps tree ds)

-- what the call asks is its packet
pub packet-is : (tree : Plan) (nodes : List FoundNode) (ends : Ends) (before behind : Step) (d e : ℕ) (journal : List Event) → IsCrossing tree nodes ends before behind d e →
    (steps : List Step) → steps ≡ way_steps tree ends.node before.node →
    write_by ends.host steps (crossing_of (record { epid = ends.a; port = before.arrival }) (record { epid = ends.b; port = behind.port }))
    ≡ packet_of (route_at tree ends) (write_of d e journal)
packet-is tree nodes ends before behind d e journal it steps is =
    let may = may-of tree nodes ends before behind d e it in
    let links = tree.links in
    let made : steps ≡ map (step_over tree) (may.first ∷ may.behind) =
    is ∙ ap (λ (s : Step). way_steps tree ends.node s.node) it.here ∙ ap (λ (ds : List ℕ). map (step_over tree) ds) may.way in
    let hops : map onward_by (map (step_over tree) may.behind) ≡ hops_over links (may.first ∷ may.behind) = by-steps tree may.behind ∙ sym (hops_leave_by_ports links may.first may.behind) in
    (λ i. write_by ends.host (made i) (crossing_of (record { epid = ends.a; port = (it.here i).arrival }) (record { epid = ends.b; port = (it.there i).port })))
    ∙ ap (λ (hs : List (List MgmtOp)). walker ends.host (hs ++ writing (crossing_between links ends.a ends.b d e) ∷ collector ∷ [])) hops
    ∙ ap (λ (ds : List ℕ). write_packet links ends.host ds (crossing_between links ends.a ends.b d e)) (sym may.way)

-- some step leads to the node
pub some-steps : (tree : Plan) (nodes : List FoundNode) (ends : Ends) (before behind : Step) (d e : ℕ) → IsCrossing tree nodes ends before behind d e →
    (steps : List Step) → steps ≡ way_steps tree ends.node before.node → 1 ≤ length steps
some-steps tree nodes ends before behind d e it steps is =
    let may = may-of tree nodes ends before behind d e it in
    let made : steps ≡ map (step_over tree) (may.first ∷ may.behind) =
    is ∙ ap (λ (s : Step). way_steps tree ends.node s.node) it.here ∙ ap (λ (ds : List ℕ). map (step_over tree) ds) may.way in
    subst (λ (ss : List Step). 1 ≤ length ss) (sym made) (omega arith)

-- it may be asked
pub can-cross : (p : Present) (w : State) (nodes : List FoundNode) (ends : Ends) (before behind : Step) (d e : ℕ) (journal : List Event) → StandsFor p w → IsSettledNow p →
    IsCrossing p.tree nodes ends before behind d e → CanAskNow p ends.node (packet_of (route_at p.tree ends) (write_of d e journal))
can-cross p w nodes ends before behind d e journal stands settled it =
    let may = may-of p.tree nodes ends before behind d e it in
    let crossing = crossing_between p.tree.links ends.a ends.b d e in
    subst (λ (ds : List ℕ). CanAskNow p ends.node (write_packet p.tree.links ends.host ds crossing)) (sym may.way)
    (may-ask p w ends.node may.first may.behind ends.host crossing stands settled it.route.fits it.route.host it.route.own may.walk
    (fits-of p.tree ends d e it.route.fits may))

some-there : (o : Option ℕ) (d : ℕ) → o ≡ Some d → IsSome o
some-there o d is = rw is refl

pub host-linked : (tree : Plan) (nodes : List FoundNode) (ends : Ends) (before behind : Step) (d e : ℕ) → IsCrossing tree nodes ends before behind d e →
    IsSome (link_at tree.links ends.node 0)
host-linked tree nodes ends before behind d e it =
    let may = may-of tree nodes ends before behind d e it in
    some-there (link_at tree.links ends.node 0) may.first may.walk.first

-- ---- in a state

-- what a write with this journal leaves of a state
record Leaves (w : State) (ends : Ends) (d e : ℕ) (journal : List Event) (came : Bool) (left : State) : Type 0 where
  loss : has_loss journal ≡ not came
  back : came ≡ not (loses_request w || loses_answer w)
  settled : IsSettled left
  same : left.tree ≡ w.tree
  banks : left.banks ≡ w.banks
  nodes : left.nodes ≡ (if loses_request w then w.nodes else crossed_between (route_at w.tree ends) d e w.nodes)

leaves-by : (w : State) (ends : Ends) (d e first : ℕ) (rest : List ℕ) (journal : List Event) (found : Option Packet) (left : State) →
    way_of w.tree.links ends.node (end_of w.tree.links d) ≡ first ∷ rest →
    found ≡ write_answer w ends.host → left ≡ write_left w first rest ends.host (crossing_between w.tree.links ends.a ends.b d e) →
    has_loss journal ≡ (loses_request w || loses_answer w) → IsSettled left → Leaves w ends d e journal (is_some found) left
leaves-by w ends d e first rest journal found left goes answer leaves loss settled =
    let came : is_some found ≡ not (loses_request w || loses_answer w) = ap (λ (o : Option Packet). is_some o) answer ∙ some-back (loses_request w || loses_answer w) in
    let done = by_loss (loses_request w) in
    record {
      loss = loss ∙ twice-not (loses_request w || loses_answer w) ∙ ap not (sym came);
      back = came;
      settled = settled;
      same = ap (λ (v : State). v.tree) leaves ∙ done.0;
      banks = ap (λ (v : State). v.banks) leaves ∙ done.1;
      nodes = ap (λ (v : State). v.nodes) leaves ∙ done.2;
    }
  where
    it : Crossing
    it = crossing_between w.tree.links ends.a ends.b d e

    by_way : crossed_by w.tree ends.host first rest it w.nodes ≡ crossed_between (route_at w.tree ends) d e w.nodes
    by_way = ap (λ (ds : List ℕ). crossed_over w.tree ends.host ds it w.nodes) (sym goes)

    u : State
    u = has_answered (record (has_asked (has_walked w)) { nodes = crossed_by w.tree ends.host first rest it w.nodes })

    some-back : (m : Bool) → is_some (if m then None else Some (returner ends.host (collector ∷ []))) ≡ not m
    some-back true = refl
    some-back false = refl

    twice-not : (m : Bool) → m ≡ not (not m)
    twice-not true = refl
    twice-not false = refl

    by_loss : (m : Bool) → ((if m then has_asked (has_walked w) else u).tree ≡ w.tree) × ((if m then has_asked (has_walked w) else u).banks ≡ w.banks)
        × ((if m then has_asked (has_walked w) else u).nodes ≡ (if m then w.nodes else crossed_between (route_at w.tree ends) d e w.nodes))
    by_loss true = (refl, refl, refl)
    by_loss false = (refl, refl, by_way)

sends : (w : State) (x : ℕ) (src : Epid) → FitsPlan w.tree → is_host_at w.tree x ≡ true → own_epid w.tree x ≡ src → SendsWalkers w x src
sends w x src fits host own = record {
  host = host;
  own = own;
  some = subst (λ (epid : Epid). 0 < epid.0) own (hosts_have_some w.tree x fits host);
  fits = fits;
}

state-leaves : (w : State) (nodes : List FoundNode) (ends : Ends) (before behind : Step) (d e : ℕ) (shown journal : List Event) (found : Option Packet) (left : State) →
    IsSettled w → IsCrossing w.tree nodes ends before behind d e → IsTalk w ends.node (packet_of (route_at w.tree ends) (write_of d e shown)) journal found left →
    Leaves w ends d e journal (is_some found) left
state-leaves w nodes ends before behind d e shown journal found left settled it talk =
    let may = may-of w.tree nodes ends before behind d e it in
    let crossing = crossing_between w.tree.links ends.a ends.b d e in
    let asked : IsTalk w ends.node (write_packet w.tree.links ends.host (may.first ∷ may.behind) crossing) journal found left =
    subst (λ (ds : List ℕ). IsTalk w ends.node (write_packet w.tree.links ends.host ds crossing) journal found left) may.way talk in
    let one = write_talks w ends.node may.first may.behind ends.host crossing journal found left settled
    (sends w ends.node ends.host it.route.fits it.route.host it.route.own) may.walk may.may asked in
    leaves-by w ends d e may.first may.behind journal found left may.way one.answer one.leaves one.loss one.settled

-- ---- on a net

-- whether the next request or answer is to be lost
pub request-now : (p : Present) (w : State) → StandsFor p w → loses_request w ≡ loses_request_now p
request-now p w stands = λ i. is_named (sym stands.now.faults i) (fault.Request (sym stands.now.requests i))

pub answer-now : (p : Present) (w : State) → StandsFor p w → loses_answer w ≡ loses_answer_now p
answer-now p w stands = λ i. is_named (sym stands.now.faults i) (fault.Answer (sym stands.now.answers i))

-- from a state for which the net stood
record CrossedIn (old new : Desk) (ends : Ends) (d e : ℕ) (journal : List Event) (came : Bool) (w : State) : Type 0 where
  written : AreWritten (route_at old.net.present.tree ends) (write_of d e journal ∷ []) new.net.present new.banks w
  loss : has_loss journal ≡ not came
  back : came ≡ not (loses_request_now old.net.present || loses_answer_now old.net.present)
  settled : IsSettledNow new.net.present
  same : new.net.present.tree ≡ old.net.present.tree
  kept : new.banks ≡ old.banks
  nodes : new.net.present.nodes
      ≡ (if loses_request_now old.net.present then old.net.present.nodes else crossed_between (route_at old.net.present.tree ends) d e old.net.present.nodes)

crossed-in : (old new : Desk) (nodes : List FoundNode) (ends : Ends) (before behind : Step) (d e : ℕ) (shown : List Event) (found : Option Packet) → IsSettledNow old.net.present →
    IsCrossing old.net.present.tree nodes ends before behind d e →
    (talked : HasTalked old.net old.banks ends.node (packet_of (route_at old.net.present.tree ends) (write_of d e shown)) found new.net new.banks) →
    (w : State) → StandsFor old.net.present w → w.banks ≡ old.banks → CrossedIn old new ends d e talked.journal (is_some found) w
crossed-in old new nodes ends before behind d e shown found settled it talked w stands same =
    let now : old.net.present.tree ≡ w.tree = stands.now.tree in
    let one = talked.each w stands same in
    let left = state-leaves w nodes ends before behind d e shown talked.journal found one.state (settled_states old.net.present w stands settled)
    (subst (λ (t : Plan). IsCrossing t nodes ends before behind d e) now it)
    (subst (λ (t : Plan). IsTalk w ends.node (packet_of (route_at t ends) (write_of d e shown)) talked.journal found one.state) now one.talk) in
    let request = request-now old.net.present w stands in
    record {
      written = record {
        first = (one.talk.first, tt);
        stands = subst (λ (v : State). StandsFor new.net.present v) one.talk.leaves one.stands;
        banks = ap (λ (v : State). v.banks) (sym one.talk.leaves) ∙ one.banks;
      };
      loss = left.loss;
      back = left.back ∙ (λ i. not (request i || answer-now old.net.present w stands i));
      settled = settled_nets new.net.present one.state one.stands left.settled;
      same = one.stands.now.tree ∙ left.same ∙ sym now;
      kept = sym one.banks ∙ left.banks ∙ same;
      nodes = one.stands.now.nodes ∙ left.nodes ∙ (λ i. if request i then sym stands.now.nodes i
          else crossed_between (route_at (sym now i) ends) d e (sym stands.now.nodes i));
    }

pub has-crossed : (old new : Desk) (nodes : List FoundNode) (ends : Ends) (before behind : Step) (d e : ℕ) (packet : Packet) (found : Option Packet) →
    ((slots : List (Option Registers)) → (w : State) × StandsFor old.net.present w × (w.banks ≡ slots)) → IsSettledNow old.net.present →
    IsCrossing old.net.present.tree nodes ends before behind d e → packet ≡ packet_of (route_at old.net.present.tree ends) (write_of d e []) →
    HasTalked old.net old.banks ends.node packet found new.net new.banks → HasCrossed (route_at old.net.present.tree ends) d e (is_some found) old new
has-crossed old new nodes ends before behind d e packet found states settled it packet_is talks =
    let talked = subst (λ (p : Packet). HasTalked old.net old.banks ends.node p found new.net new.banks) packet_is talks in
    let here = λ (w : State) (stands : StandsFor old.net.present w) (same : w.banks ≡ old.banks).
    crossed-in old new nodes ends before behind d e [] found settled it talked w stands same in
    let one = states old.banks in
    let left = here one.0 one.1 one.2 in
    record {
      journal = talked.journal;
      asked = record {
        written = talked.written ∙ ap (λ (j : List Event). old.net.journal ++ j) (sym (append-nil talked.journal));
        each = λ w stands same. (here w stands same).written;
        settled = left.settled;
        same = left.same;
        kept = left.kept;
      };
      lost = left.loss;
      back = left.back;
      nodes = left.nodes;
    }
