-- Where each port is probed once, the lost ports are those whose probes are lost.
use Rattle.std.proofs.Common.{◌≡◌, ℕ, ◌<◌, ◌≤◌, Bool, true, false, List, [], ◌∷◌, ◌++◌, length, map, refl, sym, ◌∙◌, ap, subst, arith, eq-eqb, if◌then◌else◌}
use Rattle.std.specs.Prelude.{None, ◌==◌, ◌&&◌, ◌||◌, not, filter_map, is_none, option_map}
use Rattle.std.specs.List.{AllByRecursion, cons_option, count_by, filter}
use Rattle.std.proofs.lemmas.Bool.{and_from, and_parts, eqb-true, false_from_ne_true, or_from, or_parts}
use Rattle.std.proofs.lemmas.List.{append_assoc}
use Rattle.std.proofs.lemmas.List.Sums.{sum_by-cons}
use Rattle.net_topology.specs.Links.{link_at}
use Rattle.net_topology.specs.Tree.{IsTree}
use Rattle.net_topology.specs.declared.plan.Plan.{Plan}
use Rattle.topology_walk.specs.Finding.{IsFoundOf, found_at, is_among, is_bare}
use Rattle.topology_walk.specs.Nodes.{NodePort, first_found, found_over, ports_behind}
use Rattle.topology_walk.specs.Probes.{IsFoundBy, Probe, finding, finds_bare, is_lost, lost_of, place_of}
use Rattle.topology_walk.proofs.Counting.{count-flat, filter_map-flat, one_if, tally}
use Rattle.topology_walk.proofs.Finding.{Known, Walked, is_place, port-once}
use Rattle.walk_books.specs.declared.found.Found.{Found}
use Rattle.walk_books.specs.declared.found.FoundNode.{FoundNode}
use Rattle.walk_books.specs.declared.found.LostPort.{LostPort}

-- the ports of lost probes
abbrev lost_in : List Probe → List LostPort
lost_in probes = map lost_of (filter is_lost probes)

-- the port of a probe, if it is lost
abbrev lost_one : Probe → List LostPort
lost_one probe = if is_lost probe then lost_of probe ∷ [] else []

lost-cons : (probe : Probe) (probes : List Probe) → lost_in (probe ∷ probes) ≡ lost_one probe ++ lost_in probes
lost-cons probe probes = by_loss (is_lost probe)
  where
    by_loss : (b : Bool) → map lost_of (if b then probe ∷ filter is_lost probes else filter is_lost probes) ≡ (if b then lost_of probe ∷ [] else []) ++ lost_in probes
    by_loss true = refl
    by_loss false = refl

among-none : (a b : List LostPort) (p : NodePort) → is_among a p ≡ false → is_among b p ≡ false → is_among (a ++ b) p ≡ false
among-none [] b p none rest = rest
among-none (l ∷ a) b p none rest =
    let parts = or_parts (l.node == p.node && l.port == p.port) (is_among a p) none in
    or_from (l.node == p.node && l.port == p.port) (is_among (a ++ b) p) parts.0 (among-none a b p parts.1 rest)

among-right : (a b : List LostPort) (p : NodePort) → is_among a p ≡ false → is_among (a ++ b) p ≡ is_among b p
among-right [] b p none = refl
among-right (l ∷ a) b p none =
    let parts = or_parts (l.node == p.node && l.port == p.port) (is_among a p) none in
    ap (λ t. t || is_among (a ++ b) p) parts.0 ∙ among-right a b p parts.1

-- where no probe looks behind a port, no lost one does
lost-absent : (u t : ℕ) (probes : List Probe) → tally (is_place u t) (map place_of probes) ≡ 0 → is_among (lost_in probes) (record { node = u; port = t }) ≡ false
lost-absent u t [] none = refl
lost-absent u t (probe ∷ probes) none =
    ap (λ (ls : List LostPort). is_among ls (record { node = u; port = t })) (lost-cons probe probes)
    ∙ among-none (lost_one probe) (lost_in probes) (record { node = u; port = t }) (by_loss (is_lost probe)) (lost-absent u t probes (omega (arith, none)))
  where
    here : (probe.node == u && probe.port == t) ≡ false
    here = false_from_ne_true (probe.node == u && probe.port == t) (λ is. let one : one_if (probe.node == u && probe.port == t) ≡ 1 = ap one_if is in absurd (omega (arith, none, one)))

    by_loss : (b : Bool) → is_among (if b then lost_of probe ∷ [] else []) (record { node = u; port = t }) ≡ false
    by_loss true = or_from (probe.node == u && probe.port == t) false here refl
    by_loss false = refl

-- no other probe looks behind the port of one
others-apart : (probe : Probe) (probes : List Probe) → tally (is_place probe.node probe.port) (map place_of probes) ≡ 0 →
    AllByRecursion (λ (q : Probe). is_among (lost_one probe) (place_of q) ≡ false) probes
others-apart probe [] none = tt
others-apart probe (q ∷ probes) none = (by_loss (is_lost probe), others-apart probe probes (omega (arith, none)))
  where
    here : (probe.node == q.node && probe.port == q.port) ≡ false
    here = false_from_ne_true (probe.node == q.node && probe.port == q.port) (λ is.
        let parts = and_parts (probe.node == q.node) (probe.port == q.port) is in
        let one : one_if (q.node == probe.node && q.port == probe.port) ≡ 1 =
        ap one_if (and_from (q.node == probe.node) (q.port == probe.port) (eq-eqb q.node probe.node (sym (eqb-true probe.node q.node parts.0))) (eq-eqb q.port probe.port (sym (eqb-true probe.port q.port parts.1)))) in
        absurd (omega (arith, none, one)))

    by_loss : (b : Bool) → is_among (if b then lost_of probe ∷ [] else []) (place_of q) ≡ false
    by_loss true = or_from (probe.node == q.node && probe.port == q.port) false here refl
    by_loss false = refl

-- a probe is lost exactly if its port is among these
abbrev Agree : List LostPort → List Probe → Type 0
Agree lost probes = AllByRecursion (λ (q : Probe). is_among lost (place_of q) ≡ is_lost q) probes

-- none of these ports is one of a probe
abbrev Apart : List LostPort → List Probe → Type 0
Apart lost probes = AllByRecursion (λ (q : Probe). is_among lost (place_of q) ≡ false) probes

both-apart : (a b : List LostPort) (probes : List Probe) → Apart a probes → Apart b probes → Apart (a ++ b) probes
both-apart a b [] x y = tt
both-apart a b (q ∷ probes) x y = (among-none a b (place_of q) x.0 y.0, both-apart a b probes x.1 y.1)

itself : (probe : Probe) → one_if (is_place probe.node probe.port (place_of probe)) ≡ 1
itself probe = ap one_if (and_from (probe.node == probe.node) (probe.port == probe.port) (eq-eqb probe.node probe.node refl) (eq-eqb probe.port probe.port refl))

-- no other probe looks behind the port of the first
absent-rest : (probe : Probe) (probes : List Probe) → tally (is_place probe.node probe.port) (map place_of (probe ∷ probes)) ≤ 1 →
    tally (is_place probe.node probe.port) (map place_of probes) ≡ 0
absent-rest probe probes most = let one = itself probe in omega (arith, most, one)

first-agrees : (lost : List LostPort) (probe : Probe) (probes : List Probe) → tally (is_place probe.node probe.port) (map place_of probes) ≡ 0 → is_among lost (place_of probe) ≡ false →
    is_among (lost ++ lost_in (probe ∷ probes)) (place_of probe) ≡ is_lost probe
first-agrees lost probe probes absent apart =
    among-right lost (lost_in (probe ∷ probes)) (place_of probe) apart
    ∙ ap (λ (ls : List LostPort). is_among ls (place_of probe)) (lost-cons probe probes) ∙ here (is_lost probe)
  where
    here : (b : Bool) → is_among ((if b then lost_of probe ∷ [] else []) ++ lost_in probes) (place_of probe) ≡ b
    here true = ap (λ t. t || is_among (lost_in probes) (place_of probe))
        (and_from (probe.node == probe.node) (probe.port == probe.port) (eq-eqb probe.node probe.node refl) (eq-eqb probe.port probe.port refl))
    here false = lost-absent probe.node probe.port probes absent

agree : (lost : List LostPort) (probes : List Probe) → ((u t : ℕ) → tally (is_place u t) (map place_of probes) ≤ 1) → Apart lost probes → Agree (lost ++ lost_in probes) probes
agree lost [] once apart = tt
agree lost (probe ∷ probes) once apart =
    let absent = absent-rest probe probes (once probe.node probe.port) in
    let rest = agree (lost ++ lost_one probe) probes (λ u t. let most = once u t in omega (arith, most))
    (both-apart lost (lost_one probe) probes apart.1 (others-apart probe probes absent)) in
    let same : (lost ++ lost_one probe) ++ lost_in probes ≡ lost ++ lost_in (probe ∷ probes) =
    append_assoc lost (lost_one probe) (lost_in probes) ∙ ap (λ (ls : List LostPort). lost ++ ls) (sym (lost-cons probe probes)) in
    (first-agrees lost probe probes absent apart.0, subst (λ (ls : List LostPort). Agree ls probes) same rest)

none-apart : (probes : List Probe) → Apart [] probes
none-apart [] = tt
none-apart (q ∷ probes) = (refl, none-apart probes)

-- ---- what is found

found-same : (tree : Plan) (lost : List LostPort) (probes : List Probe) → Agree lost probes → filter_map (finding tree) probes ≡ filter_map (found_at tree lost) (map place_of probes)
found-same tree lost [] same = refl
found-same tree lost (q ∷ probes) same =
    (λ i. cons_option (if sym same.0 i then None else option_map (found_over tree) (link_at tree.links q.node q.port)) (found-same tree lost probes same.1 i))

bare-same : (tree : Plan) (lost : List LostPort) (probes : List Probe) → Agree lost probes → count_by (finds_bare tree) probes ≡ count_by (is_bare tree lost) (map place_of probes)
bare-same tree lost [] same = refl
bare-same tree lost (q ∷ probes) same =
    let here : one_if (finds_bare tree q) ≡ one_if (is_bare tree lost (place_of q)) = ap (λ b. one_if (not b && is_none (link_at tree.links q.node q.port))) (sym same.0) in
    let rest = bare-same tree lost probes same.1 in
    let left = sum_by-cons (λ (p : Probe). one_if (finds_bare tree p)) q probes in
    let right = sum_by-cons (λ (p : NodePort). one_if (is_bare tree lost p)) (place_of q) (map place_of probes) in
    omega (arith, here, rest, left, right)

-- What probes find is what the walk finds in the tree.
pub found-of : (tree : Plan) → IsTree tree → (x : ℕ) → x < length tree.nodes → (probes : List Probe) (found : Found) → IsFoundBy tree x probes found →
    AllByRecursion (Known tree x) found.nodes → IsFoundOf tree x found
found-of tree is x there probes found by known =
    let walked : Walked tree x probes found.nodes = record {
      asked = by.asked;
      found = by.nodes;
      known = known;
    } in
    let lost = found.lost in
    let same : Agree lost probes = subst (λ (ls : List LostPort). Agree ls probes) (sym by.lost)
    (agree [] probes (port-once tree is x there probes found.nodes walked) (none-apart probes)) in
    record {
      nodes = by.nodes ∙ ap (λ (fs : List FoundNode). first_found tree x ∷ fs)
          (found-same tree lost probes same ∙ ap (filter_map (found_at tree lost)) by.asked ∙ filter_map-flat (found_at tree lost) ports_behind found.nodes);
      bare = by.bare ∙ bare-same tree lost probes same ∙ ap (count_by (is_bare tree lost)) by.asked ∙ count-flat (is_bare tree lost) ports_behind found.nodes;
    }
