-- A probe finds what is behind its port, unless it or its answer is lost.
use Rattle.std.proofs.Common.{◌≡◌, ◌≢◌, ℕ, ◌<◌, Bool, true, false, List, [], ◌∷◌, ◌++◌, length, map, refl, sym, ◌∙◌, ap, subst, if◌then◌else◌}
use Rattle.std.specs.Prelude.{Option, Some, None}
use Rattle.std.specs.Option.{option_map_or}
use Rattle.std.proofs.lemmas.List.{append_assoc, map-append}
use Rattle.block_registers.specs.Registers.{Registers}
use Rattle.chdr_packets.specs.declared.packet.Packet.{Packet}
use Rattle.chdr_words.specs.declared.epid.Epid.{Epid}
use Rattle.chdr_words.specs.declared.management.MgmtOp.{MgmtOp}
use Rattle.net_topology.specs.Links.{IsWay, end_of, end_port, link_at, start_port}
use Rattle.net_topology.specs.declared.plan.Plan.{Plan}
use Rattle.net_topology.proofs.Laws.{links_leave_by_ports}
use Rattle.net_machine.specs.declared.event.Event.{Event}
use Rattle.net_machine.specs.Moves.{after_journal, answered, asks}
use Rattle.net_machine.specs.State.{State}
use Rattle.net_present.specs.Present.{Present}
use Rattle.net_lawful.specs.Messages.{FitsTree}
use Rattle.net_lone.specs.Runs.{IsFirst, has_loss}
use Rattle.net_lone.specs.Stages.{IsSettled}
use Rattle.net_lone.specs.Talks.{IsTalk}
use Rattle.net_walks.specs.Probes.{IsWalk, SendsWalkers}
use Rattle.net_walks.specs.Walks.{collector, hops_over, information, inquiry, onward, returner, walker}
use Rattle.net_walks.specs.Ways.{last_of}
use Rattle.net_walks.specs.Talks.{has_walked}
use Rattle.net_walks.proofs.Laws.{bare_ports_send_back, hops_leave_by_ports, hosts_have_some, probes_come_back, ways_are_walks}
use Rattle.fabric_net.specs.NetView.{NetSeen}
use Rattle.fabric_net.specs.Standing.{StandsFor}
use Rattle.host_talk.specs.Settled.{IsSettledNow}
use Rattle.host_talk.specs.Talking.{HasTalked}
use Rattle.host_talk.proofs.Laws.{settled_nets, settled_states}
use Rattle.walk_books.specs.declared.found.FoundNode.{FoundNode}
use Rattle.topology_walk.specs.declared.probes.Behind.{Behind}
use Rattle.topology_walk.specs.declared.probes.Behind.TheVariants.{Node, Bare, Lost}
use Rattle.topology_walk.specs.Answers.{behind_told}
use Rattle.topology_walk.specs.Nodes.{found_over, is_arrival}
use Rattle.topology_walk.specs.Probes.{Probe, packet_of, probe_over, probed}
use Rattle.topology_walk.specs.Walks.{HasProbed, IsProbed, IsSource, LeadsBehind, behind_port, behind_probe, found_along}
use Rattle.topology_walk.proofs.Asking.{fits-of, held, tree-of}
use Rattle.topology_walk.proofs.Knowing.{LeadsTo, host-port, last-there, leads-to, other-port, ports-same}
use Rattle.topology_walk.proofs.Reading.{bare-behind, node-behind}
use Rattle.topology_walk.proofs.Talking.{IsWalkTalk, walk-talks}

-- ---- the talk of a probe

-- in a state: what the answer tells is what is behind the port, and the network is settled again
pub record IsProbeTalk (w : State) (journal : List Event) (found : Option Packet) (left : State) (node port : ℕ) : Type 0 where
  pub tells : behind_told found node port ≡ (if has_loss journal then Lost else behind_port w.tree node port)
  pub settled : IsSettled left
  pub tree : left.tree ≡ w.tree
  pub banks : left.banks ≡ w.banks

-- the answer that came tells what is there
tells-of : (w : State) (src : Epid) (hops : List (List MgmtOp)) (journal : List Event) (found : Option Packet) (left : State) (node port : ℕ) (behind : Behind) →
    IsWalkTalk w src hops journal found left → behind_told (Some (returner src hops)) node port ≡ behind → behind_port w.tree node port ≡ behind →
    IsProbeTalk w journal found left node port
tells-of w src hops journal found left node port behind talk told is = record {
  tells = ap (λ (o : Option Packet). behind_told o node port) talk.answer ∙ by_loss (has_loss journal);
  settled = talk.settled;
  tree = talk.tree;
  banks = talk.banks;
}
  where
    by_loss : (b : Bool) → behind_told (if b then None else Some (returner src hops)) node port ≡ (if b then Lost else behind_port w.tree node port)
    by_loss true = refl
    by_loss false = told ∙ sym is

-- a host that walks
sends : (w : State) (x : ℕ) (src : Epid) → FitsTree w.tree → 0 < src.0 → IsSource w.tree x src → SendsWalkers w x src
sends w x src fits some source = record {
  host = source.host;
  own = source.own;
  some = some;
  fits = fits.plan;
}

-- behind the port is a node
linked-talk : (w : State) (x : ℕ) (src : Epid) (node port e : ℕ) (ports : List ℕ) (journal : List Event) (found : Option Packet) (left : State) →
    IsSettled w → FitsTree w.tree → 0 < src.0 → IsSource w.tree x src → link_at w.tree.links node port ≡ Some e → LeadsTo w.tree x e ports →
    IsTalk w x (probe_over src ports) journal found left → IsProbeTalk w journal found left node port
linked-talk w x src node port e ports journal found left settled fits some source link to talk =
    let tree = settled.queues.tree in
    let links = w.tree.links in
    let d = to.first in
    let ds = to.rest in
    let walk : IsWalk w.tree x d ds = ways_are_walks w.tree x (end_of links e) d ds tree fits.plan source.host to.way in
    let out : List (List MgmtOp) = hops_over links (d ∷ ds) ++ inquiry ∷ collector ∷ [] in
    let same : probe_over src ports ≡ walker src out =
    ap (probe_over src) to.along ∙ ap (λ (hops : List (List MgmtOp)). walker src (hops ++ inquiry ∷ collector ∷ [])) (sym (hops_leave_by_ports links d ds)) in
    let talked = walk-talks w x d ds src out (information w.tree (last_of d ds) ∷ []) journal found left settled (sends w x src fits some source) walk
    (λ walked asks. probes_come_back (has_walked w) x d ds src walked asks walk) (subst (λ (p : Packet). IsTalk w x p journal found left) same talk) in
    let leaves = links_leave_by_ports w.tree e node port link in
    let told : behind_told (Some (returner src (information w.tree (last_of d ds) ∷ []))) node port ≡ Node (found_over w.tree e) =
    (λ i. behind_told (Some (returner src (information w.tree (to.last i) ∷ []))) (sym leaves.0 i) (sym leaves.1 i)) ∙ node-behind w.tree tree fits src e leaves.2 in
    tells-of w src (information w.tree (last_of d ds) ∷ []) journal found left node port (Node (found_over w.tree e)) talked told
    (ap (λ (o : Option ℕ). option_map_or (λ (l : ℕ). Node (found_over w.tree l)) o Bare) link)

-- behind the port is none
bare-talk : (w : State) (x : ℕ) (src : Epid) (f : FoundNode) (way : List ℕ) (port : ℕ) (journal : List Event) (found : Option Packet) (left : State) →
    IsSettled w → FitsTree w.tree → 0 < src.0 → IsSource w.tree x src → IsWay w.tree.links x f.instance way → f ≡ found_along w.tree x way →
    port < f.ports → is_arrival f port ≡ false → port < 1024 → link_at w.tree.links f.instance port ≡ None →
    IsTalk w x (probe_over src (map (start_port w.tree.links) way ++ port ∷ [])) journal found left → IsProbeTalk w journal found left f.instance port
bare-talk w x src f [] port journal found left settled fits some source way is there further small none talk =
    let link = held (link_at w.tree.links x 0) source.linked in
    let first : port ≡ 0 = host-port w.tree x port source.host (subst (λ (g : FoundNode). port < g.ports) is there) in
    let at : link_at w.tree.links f.instance port ≡ Some link.0 = (λ i. link_at w.tree.links (ap (λ (g : FoundNode). g.instance) is i) (first i)) ∙ link.1 in
    let z : ◌≡◌ {A = Option ℕ} None (Some link.0) = sym none ∙ at in
    absurd cc
bare-talk w x src f (d ∷ ds) port journal found left settled fits some source way is there further small none talk =
    let tree = settled.queues.tree in
    let links = w.tree.links in
    let n = length links in
    let l = last_of d ds in
    let walk : IsWalk w.tree x d ds = ways_are_walks w.tree x f.instance d ds tree fits.plan source.host way in
    let ends : f.instance ≡ end_of links l = ap (λ (g : FoundNode). g.instance) is in
    let out : List (List MgmtOp) = hops_over links (d ∷ ds) ++ onward port ∷ inquiry ∷ collector ∷ [] in
    let hops : map onward (map (start_port links) ds ++ port ∷ []) ++ inquiry ∷ collector ∷ [] ≡ out =
    ap (λ (hs : List (List MgmtOp)). hs ++ inquiry ∷ collector ∷ []) (map-append onward (map (start_port links) ds) (port ∷ []))
    ∙ append_assoc (map onward (map (start_port links) ds)) (onward port ∷ []) (inquiry ∷ collector ∷ [])
    ∙ ap (λ (hs : List (List MgmtOp)). hs ++ onward port ∷ inquiry ∷ collector ∷ []) (sym (hops_leave_by_ports links d ds)) in
    let same : probe_over src (map (start_port links) (d ∷ ds) ++ port ∷ []) ≡ walker src out = ap (walker src) hops in
    let other : port ≢ end_port links l = other-port w.tree tree l port (last-there links n x f.instance d ds way.0) (ap (λ (g : FoundNode). is_arrival g port) (sym is) ∙ further) in
    let talked = walk-talks w x d ds src out (inquiry ∷ collector ∷ []) journal found left settled (sends w x src fits some source) walk
    (λ walked asks. bare_ports_send_back (has_walked w) x d ds src port walked asks walk
    (subst (λ (g : FoundNode). port < g.ports) is there) small other (ap (λ y. link_at links y port) (sym ends) ∙ none))
    (subst (λ (p : Packet). IsTalk w x p journal found left) same talk) in
    tells-of w src (inquiry ∷ collector ∷ []) journal found left f.instance port Bare talked (bare-behind src f.instance port)
    (ap (λ (o : Option ℕ). option_map_or (λ (e : ℕ). Node (found_over w.tree e)) o Bare) none)

probe-talk : (w : State) (x : ℕ) (src : Epid) (f : FoundNode) (port : ℕ) (ports : List ℕ) (journal : List Event) (found : Option Packet) (left : State) →
    IsSettled w → FitsTree w.tree → 0 < src.0 → IsSource w.tree x src → LeadsBehind w.tree x f port ports → port < 1024 →
    IsTalk w x (probe_over src ports) journal found left → IsProbeTalk w journal found left f.instance port
probe-talk w x src f port ports journal found left settled fits some source leads small talk = by_link (link_at w.tree.links f.instance port) refl
  where
    ports-are : ports ≡ map (start_port w.tree.links) leads.known.way ++ port ∷ []
    ports-are = leads.along ∙ ap (λ (t : List ℕ). t ++ port ∷ []) leads.known.made

    by_link : (o : Option ℕ) → link_at w.tree.links f.instance port ≡ o → IsProbeTalk w journal found left f.instance port
    by_link (Some e) link = linked-talk w x src f.instance port e ports journal found left settled fits some source link
        (leads-to w.tree settled.queues.tree x f port e ports leads link) talk
    by_link None none = bare-talk w x src f leads.known.way port journal found left settled fits some source
        leads.known.is leads.known.node leads.there leads.other small none
        (subst (λ (ps : List ℕ). IsTalk w x (probe_over src ps) journal found left) ports-are talk)

-- ---- the net

-- from a state for which the net stood
record ProbedIn (tree : Plan) (src : Epid) (x : ℕ) (probe : Probe) (behind : Behind) (new : NetSeen) (left : List (Option Registers)) (w : State) : Type 0 where
  tells : behind ≡ behind_probe tree probe
  probed : IsProbed tree src x probe new.present left w
  settled : IsSettledNow new.present
  same : new.present.tree ≡ tree
  banks : left ≡ w.banks

probed-in : (old new : NetSeen) (banks left : List (Option Registers)) (x : ℕ) (src : Epid) (f : FoundNode) (port : ℕ) (ports : List ℕ) (found : Option Packet) (behind : Behind) →
    IsSettledNow old.present → 0 < src.0 → IsSource old.present.tree x src → LeadsBehind old.present.tree x f port ports → port < 1024 →
    (talked : HasTalked old banks x (probe_over src ports) found new left) → behind ≡ behind_told found f.instance port →
    (w : State) → StandsFor old.present w → w.banks ≡ banks →
    ProbedIn old.present.tree src x (record { node = f.instance; port = port; journal = talked.journal }) behind new left w
probed-in old new banks left x src f port ports found behind settled some source leads small talked is w stands same =
    let tree = old.present.tree in
    let now : tree ≡ w.tree = stands.now.tree in
    let one = talked.each w stands same in
    let it = probe-talk w x src f port ports talked.journal found one.state (settled_states old.present w stands settled) stands.lawful.tree some
    (subst (λ (t : Plan). IsSource t x src) now source) (subst (λ (t : Plan). LeadsBehind t x f port ports) now leads) small one.talk in
    let probe : Probe = record { node = f.instance; port = port; journal = talked.journal } in
    let packet : probe_over src ports ≡ packet_of tree src x probe = ap (probe_over src) (ports-same tree (tree-of old.present w stands) x f port ports leads) in
    let state : one.state ≡ probed tree src x w probe = one.talk.leaves ∙ ap (λ (p : Packet). answered x (after_journal (asks x p w) talked.journal)) packet in
    record {
      tells = is ∙ it.tells ∙ ap (λ (t : Plan). if◌then◌else◌ {A = Behind} (has_loss talked.journal) Lost (behind_port t f.instance port)) (sym now);
      probed = record {
        first = subst (λ (p : Packet). IsFirst (asks x p w) talked.journal) packet one.talk.first;
        stands = subst (λ (v : State). StandsFor new.present v) state one.stands;
        banks = ap (λ (v : State). v.banks) (sym state) ∙ one.banks;
      };
      settled = settled_nets new.present one.state one.stands it.settled;
      same = one.stands.now.tree ∙ it.tree ∙ sym now;
      banks = sym one.banks ∙ it.banks;
    }

-- a host that walks has an EPID
pub source-some : (p : Present) (w : State) (x : ℕ) (src : Epid) → StandsFor p w → IsSource p.tree x src → 0 < src.0
source-some p w x src stands source = subst (λ (e : Epid). 0 < e.0) source.own (hosts_have_some p.tree x (fits-of p w stands).plan source.host)

pub has-probed : (old new : NetSeen) (banks left : List (Option Registers)) (x : ℕ) (src : Epid) (f : FoundNode) (port : ℕ) (ports : List ℕ) (found : Option Packet) (behind : Behind) →
    ((slots : List (Option Registers)) → (w : State) × StandsFor old.present w × (w.banks ≡ slots)) →
    IsSettledNow old.present → 0 < src.0 → IsSource old.present.tree x src → LeadsBehind old.present.tree x f port ports → port < 1024 →
    HasTalked old banks x (probe_over src ports) found new left → behind ≡ behind_told found f.instance port →
    HasProbed old.present.tree src x old banks f.instance port behind new left
has-probed old new banks left x src f port ports found behind states settled some source leads small talked is =
    let here = λ (w : State) (stands : StandsFor old.present w) (same : w.banks ≡ banks).
    probed-in old new banks left x src f port ports found behind settled some source leads small talked is w stands same in
    let one = states banks in
    let it = here one.0 one.1 one.2 in
    record {
      journal = talked.journal;
      written = talked.written;
      tells = it.tells;
      each = λ w stands same. (here w stands same).probed;
      settled = it.settled;
      same = it.same;
      kept = it.banks ∙ one.2;
    }
