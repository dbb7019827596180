-- Probes one after another add what they find.
use Rattle.std.proofs.Common.{◌≡◌, ℕ, ◌+◌, ◌<◌, ◌≤◌, ◌⊎◌, inl, inr, Bool, true, false, List, [], ◌∷◌, ◌++◌, length, map, refl, sym, ◌∙◌, ap, subst, arith, get_or, take, if◌then◌else◌}
use Rattle.std.specs.Prelude.{Option, Some, None, Result, Ok, Err, OnOk, filter_map, is_none, not, option_map, ◌&&◌}
use Rattle.std.specs.List.{cons_option, filter, flat_map}
use Rattle.std.specs.Option.{option_map_or}
use Rattle.std.proofs.lemmas.Bool.{cases_lt}
use Rattle.std.proofs.lemmas.List.{append-nil, append_assoc, get_or_append_left, get_or_push, length-append, length_push, map-append, take-append-le, take_all, take_more}
use Rattle.std.proofs.lemmas.List.Concat.{flat_map-append}
use Rattle.std.proofs.lemmas.List.Elements.{filter-append, filter_map-append}
use Rattle.std.proofs.lemmas.List.FromFn.{filter_of_map_range_with_len_more}
use Rattle.std.proofs.lemmas.List.Sums.{fold-append, sum_by-append}
use Rattle.block_registers.specs.Registers.{Registers}
use Rattle.chdr_words.specs.declared.epid.Epid.{Epid}
use Rattle.net_topology.specs.Links.{link_at}
use Rattle.net_topology.specs.Tree.{IsTree}
use Rattle.net_topology.specs.declared.plan.Plan.{Plan}
use Rattle.net_topology.proofs.Laws.{links_leave_by_ports}
use Rattle.net_machine.specs.declared.event.Event.{Event}
use Rattle.net_machine.specs.State.{State}
use Rattle.fabric_net.specs.NetView.{NetSeen}
use Rattle.fabric_net.specs.Standing.{StandsFor}
use Rattle.host_talk.specs.Settled.{IsSettledNow}
use Rattle.walk_books.specs.declared.found.FoundNode.{FoundNode}
use Rattle.walk_books.specs.declared.found.LostPort.{LostPort}
use Rattle.found_nodes.specs.Found.{IsListed, no_node}
use Rattle.found_nodes.proofs.Laws.{nodes_are_listed, parents_stay_first, places_stay}
use Rattle.topology_walk.specs.declared.probes.Behind.{Behind}
use Rattle.topology_walk.specs.declared.probes.Behind.TheVariants.{Node, Bare, Lost}
use Rattle.topology_walk.specs.declared.walk.Walk.{Walk}
use Rattle.topology_walk.specs.Nodes.{NodePort, found_over, is_arrival, port_of, ports_behind, ports_below}
use Rattle.topology_walk.specs.Probes.{AreFirst, Probe, finding, finds_bare, is_lost, journal_of, lost_of, place_of, probed, probed_all}
use Rattle.topology_walk.specs.Walks.{AreKnown, Desk, HasProbed, IsKnown, LeadsBehind, WalksOn, added}
use Rattle.topology_walk.proofs.Knowing.{known-behind}

-- ---- none

pub walks-none : (tree : Plan) (src : Epid) (x : ℕ) (desk : Desk) → AreKnown tree x desk.walk.found.nodes desk.walk.trails → IsSettledNow desk.net.present →
    desk.net.present.tree ≡ tree → WalksOn tree src x [] desk desk
walks-none tree src x desk known settled is = record {
  probes = [];
  places = refl;
  nodes = sym (append-nil desk.walk.found.nodes);
  bare = omega arith;
  lost = sym (append-nil desk.walk.found.lost);
  written = sym (append-nil desk.net.journal);
  each = λ w stands same. record {
    first = tt;
    stands = stands;
    banks = same;
  };
  known = known;
  settled = settled;
  same = is;
  kept = refl;
}

-- ---- one after another

first-then : (tree : Plan) (src : Epid) (x : ℕ) (w : State) (ps qs : List Probe) → AreFirst tree src x w ps → AreFirst tree src x (probed_all tree src x w ps) qs → AreFirst tree src x w (ps ++ qs)
first-then tree src x w [] qs a b = b
first-then tree src x w (p ∷ ps) qs a b = (a.0, first-then tree src x (probed tree src x w p) ps qs a.1 b)

probed-then : (tree : Plan) (src : Epid) (x : ℕ) (w : State) (ps qs : List Probe) → probed_all tree src x w (ps ++ qs) ≡ probed_all tree src x (probed_all tree src x w ps) qs
probed-then tree src x w ps qs = fold-append (probed tree src x) w ps qs

pub walks-then : (tree : Plan) (src : Epid) (x : ℕ) (a b : List NodePort) (s t u : Desk) → WalksOn tree src x a s t → WalksOn tree src x b t u → WalksOn tree src x (a ++ b) s u
walks-then tree src x a b s t u one two =
    let ps = one.probes in
    let qs = two.probes in
    record {
      probes = ps ++ qs;
      places = map-append place_of ps qs ∙ (λ i. one.places i ++ two.places i);
      nodes = two.nodes ∙ ap (λ (ns : List FoundNode). ns ++ filter_map (finding tree) qs) one.nodes
          ∙ append_assoc s.walk.found.nodes (filter_map (finding tree) ps) (filter_map (finding tree) qs)
          ∙ ap (λ (ns : List FoundNode). s.walk.found.nodes ++ ns) (sym (filter_map-append (finding tree) ps qs));
      bare = omega (arith, one.bare, two.bare, sum_by-append (λ (p : Probe). if finds_bare tree p then 1 else 0) ps qs);
      lost = two.lost ∙ ap (λ (ls : List LostPort). ls ++ map lost_of (filter is_lost qs)) one.lost
          ∙ append_assoc s.walk.found.lost (map lost_of (filter is_lost ps)) (map lost_of (filter is_lost qs))
          ∙ ap (λ (ls : List LostPort). s.walk.found.lost ++ ls) (sym (map-append lost_of (filter is_lost ps) (filter is_lost qs)))
          ∙ ap (λ (ls : List Probe). s.walk.found.lost ++ map lost_of ls) (sym (filter-append is_lost ps qs));
      written = two.written ∙ ap (λ (j : List Event). j ++ journal_of qs) one.written
          ∙ append_assoc s.net.journal (journal_of ps) (journal_of qs)
          ∙ ap (λ (j : List Event). s.net.journal ++ j) (sym (flat_map-append (λ (p : Probe). p.journal) ps qs));
      each = λ w stands same.
          let here = one.each w stands same in
          let there = two.each (probed_all tree src x w ps) here.stands here.banks in
          let state = sym (probed-then tree src x w ps qs) in
          record {
            first = first-then tree src x w ps qs here.first there.first;
            stands = subst (λ (v : State). StandsFor u.net.present v) state there.stands;
            banks = ap (λ (v : State). v.banks) (sym state) ∙ there.banks;
          };
      known = two.known;
      settled = two.settled;
      same = two.same;
      kept = two.kept ∙ one.kept;
    }

-- ---- one

known-push : (tree : Plan) (x : ℕ) (nodes : List FoundNode) (trails : List (List ℕ)) (f : FoundNode) (trail : List ℕ) → AreKnown tree x nodes trails → IsKnown tree x f trail → IsListed nodes f.parent →
    AreKnown tree x (nodes ++ f ∷ []) (trails ++ trail ∷ [])
known-push tree x nodes trails f trail known one listed = record {
  many = length_push trails trail ∙ ap (λ n. n + 1) known.many ∙ sym (length_push nodes f);
  each = λ k lt. by_order k (omega (arith, lt, length_push nodes f)) (cases_lt k (length nodes));
  parents = parents_stay_first nodes f known.parents listed;
}
  where
    Here : ℕ → Type 0
    Here k = IsKnown tree x (get_or (nodes ++ f ∷ []) k no_node) (get_or (trails ++ trail ∷ []) k [])

    by_order : (k : ℕ) → k ≤ length nodes → (k < length nodes) ⊎ (length nodes ≤ k) → Here k
    by_order k le (inl lt) =
        subst (λ (g : FoundNode). IsKnown tree x g (get_or (trails ++ trail ∷ []) k [])) (sym (get_or_append_left nodes (f ∷ []) no_node k lt))
        (subst (λ (t : List ℕ). IsKnown tree x (get_or nodes k no_node) t) (sym (get_or_append_left trails (trail ∷ []) [] k (omega (arith, lt, known.many)))) (known.each k lt))
    by_order k le (inr ge) =
        subst (λ (g : FoundNode). IsKnown tree x g (get_or (trails ++ trail ∷ []) k [])) (sym (get_or_push nodes f no_node k (omega (arith, le, ge))))
        (subst (λ (t : List ℕ). IsKnown tree x f t) (sym (get_or_push trails trail [] k (omega (arith, le, ge, known.many)))) one)

-- what one probe adds
record Adds (tree : Plan) (x : ℕ) (walk new : Walk) (place : LostPort) (miss : Bool) (link : Option ℕ) : Type 0 where
  nodes : new.found.nodes ≡ walk.found.nodes ++ cons_option (if miss then None else option_map (found_over tree) link) []
  bare : new.found.bare ≡ walk.found.bare + (if not miss && is_none link then 1 else 0)
  lost : new.found.lost ≡ walk.found.lost ++ (if miss then place ∷ [] else [])
  known : AreKnown tree x new.found.nodes new.trails

adds : (tree : Plan) (x : ℕ) (walk : Walk) (node port : ℕ) (trail : List ℕ) (miss : Bool) (link : Option ℕ) → AreKnown tree x walk.found.nodes walk.trails →
    ((e : ℕ) → link ≡ Some e → IsKnown tree x (found_over tree e) trail × IsListed walk.found.nodes (found_over tree e).parent) →
    Adds tree x walk (added walk node port trail (if miss then Lost else option_map_or (λ d. Node (found_over tree d)) link Bare)) (record { node = node; port = port }) miss link
adds tree x walk node port trail true link known behind = record {
  nodes = sym (append-nil walk.found.nodes);
  bare = omega arith;
  lost = refl;
  known = known;
}
adds tree x walk node port trail false None known behind = record {
  nodes = sym (append-nil walk.found.nodes);
  bare = refl;
  lost = sym (append-nil walk.found.lost);
  known = known;
}
adds tree x walk node port trail false (Some e) known behind = record {
  nodes = refl;
  bare = omega arith;
  lost = sym (append-nil walk.found.lost);
  known = known-push tree x walk.found.nodes walk.trails (found_over tree e) trail known (behind e refl).0 (behind e refl).1;
}

-- the ports of lost probes, of one
lost-one : (probe : Probe) → (if is_lost probe then lost_of probe ∷ [] else []) ≡ map lost_of (filter is_lost (probe ∷ []))
lost-one probe = by_loss (is_lost probe)
  where
    by_loss : (b : Bool) → (if b then lost_of probe ∷ [] else []) ≡ map lost_of (if b then probe ∷ [] else [])
    by_loss true = refl
    by_loss false = refl

pub walks-one : (tree : Plan) → IsTree tree → (src : Epid) (x : ℕ) (walk new : Walk) (old now : NetSeen) (banks left : List (Option Registers)) (f : FoundNode) (port : ℕ) (ports : List ℕ) (behind : Behind) →
    AreKnown tree x walk.found.nodes walk.trails → IsListed walk.found.nodes f.instance → LeadsBehind tree x f port ports → HasProbed tree src x old banks f.instance port behind now left →
    new ≡ added walk f.instance port ports behind →
    WalksOn tree src x (port_of f port ∷ []) (record { walk = walk; net = old; banks = banks }) (record { walk = new; net = now; banks = left })
walks-one tree is src x walk new old now banks left f port ports behind known listed leads one made =
    let probe : Probe = record { node = f.instance; port = port; journal = one.journal } in
    let link = link_at tree.links f.instance port in
    let it : Adds tree x walk new (lost_of probe) (is_lost probe) link =
    subst (λ (v : Walk). Adds tree x walk v (lost_of probe) (is_lost probe) link) (ap (added walk f.instance port ports) (sym one.tells) ∙ sym made)
    (adds tree x walk f.instance port ports (is_lost probe) link known
    (λ e at. (known-behind tree is x f port e ports leads at, subst (IsListed walk.found.nodes) (sym (links_leave_by_ports tree e f.instance port at).0) listed))) in
    record {
      probes = probe ∷ [];
      places = refl;
      nodes = it.nodes;
      bare = omega (arith, it.bare);
      lost = it.lost ∙ ap (λ (ls : List LostPort). walk.found.lost ++ ls) (lost-one probe);
      written = one.written ∙ ap (λ (j : List Event). old.journal ++ j) (sym (append-nil one.journal));
      each = λ w stands same.
          let here = one.each w stands same in
          record {
            first = (here.first, tt);
            stands = here.stands;
            banks = here.banks;
          };
      known = it.known;
      settled = one.settled;
      same = one.same;
      kept = one.kept;
    }

-- ---- the ports of a node, and nodes

-- one port more
pub ports-more : (f : FoundNode) (n : ℕ) → ports_below f (n + 1) ≡ ports_below f n ++ (if not (is_arrival f n) then port_of f n ∷ [] else [])
ports-more f n = filter_of_map_range_with_len_more (λ (p : NodePort). not (is_arrival f p.port)) (port_of f) 0 n n (omega arith)

-- one node more, whatever follows it
pub nodes-more : (nodes more : List FoundNode) (n : ℕ) → n < length nodes →
    flat_map ports_behind (take (n + 1) (nodes ++ more)) ≡ flat_map ports_behind (take n nodes) ++ ports_behind (get_or nodes n no_node)
nodes-more nodes more n lt =
    ap (flat_map ports_behind) (take-append-le (n + 1) nodes more (omega (arith, lt)) ∙ take_more nodes n no_node lt)
    ∙ flat_map-append ports_behind (take n nodes) (get_or nodes n no_node ∷ [])
    ∙ ap (λ (ps : List NodePort). flat_map ports_behind (take n nodes) ++ ps) (append-nil (ports_behind (get_or nodes n no_node)))

-- a node that was found is still listed when others follow
pub still-listed : (nodes more all : List FoundNode) (k : ℕ) → all ≡ nodes ++ more → k < length nodes → IsListed all (get_or nodes k no_node).instance
still-listed nodes more all k is lt =
    let y = (get_or nodes k no_node).instance in
    let listed = nodes_are_listed nodes k lt in
    subst (λ (ns : List FoundNode). IsListed ns y) (sym is) (omega (arith, listed, places_stay nodes more y listed, length-append nodes more))

-- ---- steps of a walk

-- nothing is asked behind the port of arrival
pub walks-arrival : (tree : Plan) (src : Epid) (x : ℕ) (desk : Desk) (f : FoundNode) (port : ℕ) → AreKnown tree x desk.walk.found.nodes desk.walk.trails → IsSettledNow desk.net.present →
    desk.net.present.tree ≡ tree → is_arrival f port ≡ true → WalksOn tree src x (if not (is_arrival f port) then port_of f port ∷ [] else []) desk desk
walks-arrival tree src x desk f port known settled same arrival =
    subst (λ b. WalksOn tree src x (if not b then port_of f port ∷ [] else []) desk desk) (sym arrival) (walks-none tree src x desk known settled same)

-- behind any other port a probe looks
pub walks-further : (tree : Plan) (src : Epid) (x : ℕ) (s t : Desk) (f : FoundNode) (port : ℕ) → is_arrival f port ≡ false → WalksOn tree src x (port_of f port ∷ []) s t →
    WalksOn tree src x (if not (is_arrival f port) then port_of f port ∷ [] else []) s t
walks-further tree src x s t f port further walks =
    subst (λ b. WalksOn tree src x (if not b then port_of f port ∷ [] else []) s t) (sym further) walks

-- a port more
pub walks-port : (tree : Plan) (src : Epid) (x : ℕ) (s t u : Desk) (f : FoundNode) (n : ℕ) → WalksOn tree src x (ports_below f n) s t →
    WalksOn t.net.present.tree src x (if not (is_arrival f n) then port_of f n ∷ [] else []) t u → WalksOn tree src x (ports_below f (n + 1)) s u
walks-port tree src x s t u f n one two =
    let more = if not (is_arrival f n) then port_of f n ∷ [] else [] in
    subst (λ (a : List NodePort). WalksOn tree src x a s u) (sym (ports-more f n))
    (walks-then tree src x (ports_below f n) more s t u one (subst (λ (p : Plan). WalksOn p src x more t u) one.same two))

-- a node more
pub walks-node : (tree : Plan) (src : Epid) (x : ℕ) (s t u : Desk) (n : ℕ) → n < length t.walk.found.nodes → WalksOn tree src x (flat_map ports_behind (take n t.walk.found.nodes)) s t →
    WalksOn t.net.present.tree src x (ports_behind (get_or t.walk.found.nodes n no_node)) t u → WalksOn tree src x (flat_map ports_behind (take (n + 1) u.walk.found.nodes)) s u
walks-node tree src x s t u n lt one two =
    let nodes = t.walk.found.nodes in
    let more = ports_behind (get_or nodes n no_node) in
    let added_ = filter_map (finding t.net.present.tree) two.probes in
    subst (λ (a : List NodePort). WalksOn tree src x a s u)
    (sym (ap (λ (ns : List FoundNode). flat_map ports_behind (take (n + 1) ns)) two.nodes ∙ nodes-more nodes added_ n lt))
    (walks-then tree src x (flat_map ports_behind (take n nodes)) more s t u one (subst (λ (p : Plan). WalksOn p src x more t u) one.same two))

-- no node more
pub walks-all : (tree : Plan) (src : Epid) (x : ℕ) (s t : Desk) (n : ℕ) → length t.walk.found.nodes ≤ n → WalksOn tree src x (flat_map ports_behind (take n t.walk.found.nodes)) s t →
    WalksOn tree src x (flat_map ports_behind t.walk.found.nodes) s t
walks-all tree src x s t n le walks =
    subst (λ (ns : List FoundNode). WalksOn tree src x (flat_map ports_behind ns) s t) (take_all n t.walk.found.nodes le) walks

-- what follows of what an Ok promises
pub on-ok : {A E : Type 0} (r : Result A E) (P Q : Type 0) → (P → Q) → OnOk r P → OnOk r Q
on-ok (Ok a) P Q next p = next p
on-ok (Err e) P Q next p = tt
