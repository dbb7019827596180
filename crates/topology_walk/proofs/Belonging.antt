-- What was found are nodes of the tree, each but the first behind a link.
use Rattle.std.proofs.Common.{◌≡◌, ℕ, ◌*◌, ◌<◌, Bool, true, false, List, [], ◌∷◌, length, refl, sym, ap, subst, arith, zero, suc, get_or}
use Rattle.std.specs.Prelude.{Option, Some, None, filter_map, unwrap_or}
use Rattle.std.specs.List.{AllByRecursion, cons_option}
use Rattle.std.specs.Option.{option_and_then, option_map_or}
use Rattle.chdr_words.specs.declared.node_info.NodeKind.TheVariants as kinds
use Rattle.net_topology.specs.Links.{end_of}
use Rattle.net_topology.specs.Tree.{epid_at, epid_of}
use Rattle.net_topology.specs.declared.plan.NodePlan.{NodePlan}
use Rattle.net_topology.specs.declared.plan.NodePlan.TheVariants.{Crossbar, Adapter, Host, Endpoint}
use Rattle.net_topology.specs.declared.plan.Plan.{Plan}
use Rattle.net_topology.proofs.Laws.{links_leave_by_ports}
use Rattle.net_machine.specs.Nodes.{planned}
use Rattle.net_machine.specs.Plans.{no_epid}
use Rattle.net_walks.specs.Ways.{last_of}
use Rattle.found_nodes.specs.Found.{AreFound, HaveParents, IsFound, is_end, no_node}
use Rattle.topology_walk.specs.Nodes.{first_found, found_over, kind_of}
use Rattle.topology_walk.specs.Probes.{Probe, finding}
use Rattle.topology_walk.specs.Walks.{found_along}
use Rattle.topology_walk.proofs.Finding.{Known, finds-of}
use Rattle.walk_books.specs.declared.found.FoundNode.{FoundNode}

-- ---- links

over-found : (tree : Plan) (d : ℕ) (f : FoundNode) → d < 2 * length tree.links → f ≡ found_over tree d → IsFound tree f
over-found tree d f lt is = (
  d,
  record {
    there = lt;
    parent = ap (λ (g : FoundNode). g.parent) (sym is);
    parent_port = ap (λ (g : FoundNode). g.parent_port) (sym is);
    node = ap (λ (g : FoundNode). g.instance) (sym is);
    port = ap (λ (g : FoundNode). g.port) (sym is);
  },
)

finds-found : (tree : Plan) (probes : List Probe) → AllByRecursion (IsFound tree) (filter_map (finding tree) probes)
finds-found tree [] = tt
finds-found tree (probe ∷ probes) = by_finding (finding tree probe) refl (finds-found tree probes)
  where
    by_finding : (o : Option FoundNode) → finding tree probe ≡ o → AllByRecursion (IsFound tree) (filter_map (finding tree) probes) →
        AllByRecursion (IsFound tree) (cons_option o (filter_map (finding tree) probes))
    by_finding None is rest = rest
    by_finding (Some f) is rest =
        let it = finds-of tree probe f is in
        (over-found tree it.link f (links_leave_by_ports tree it.link probe.node probe.port it.at).2 it.over, rest)

at-each : (tree : Plan) (fs : List FoundNode) → AllByRecursion (IsFound tree) fs → (k : ℕ) → k < length fs → IsFound tree (get_or fs k no_node)
at-each tree [] all k lt = absurd (omega (arith, lt))
at-each tree (f ∷ fs) all zero lt = all.0
at-each tree (f ∷ fs) all (suc k) lt = at-each tree fs all.1 k (omega (arith, lt))

-- ---- EPIDs

-- a host or an endpoint has an EPID
end-epid : (o : Option NodePlan) → is_end (option_map_or kind_of o (kinds.Other 0)) ≡ true →
    option_and_then epid_of o ≡ Some (unwrap_or (option_and_then epid_of o) no_epid)
end-epid None h = let z : ◌≡◌ {A = Bool} false true = h in absurd cc
end-epid (Some (Crossbar ports)) h = let z : ◌≡◌ {A = Bool} false true = h in absurd cc
end-epid (Some Adapter) h = let z : ◌≡◌ {A = Bool} false true = h in absurd cc
end-epid (Some (Host own)) h = refl
end-epid (Some (Endpoint own bank)) h = refl

known-epid : (tree : Plan) (x : ℕ) (f : FoundNode) → Known tree x f → is_end f.kind ≡ true → epid_at tree.nodes f.instance ≡ Some f.epid
known-epid tree x f known = by_way known.0 known.2
  where
    Has : FoundNode → Type 0
    Has g = is_end g.kind ≡ true → epid_at tree.nodes g.instance ≡ Some g.epid

    by_way : (way : List ℕ) → f ≡ found_along tree x way → Has f
    by_way [] is = subst Has (sym is) (end-epid (planned tree x))
    by_way (d ∷ ds) is = subst Has (sym is) (end-epid (planned tree (end_of tree.links (last_of d ds))))

-- ---- all of them

pub are-found : (tree : Plan) (x : ℕ) (probes : List Probe) (nodes : List FoundNode) → nodes ≡ first_found tree x ∷ filter_map (finding tree) probes → HaveParents nodes →
    ((k : ℕ) → k < length nodes → Known tree x (get_or nodes k no_node)) → AreFound tree nodes
are-found tree x probes nodes is have known = record {
  parents = have;
  links = subst (λ (ns : List FoundNode). (k : ℕ) → 0 < k → k < length ns → IsFound tree (get_or ns k no_node)) (sym is) links;
  epids = λ k lt. known-epid tree x (get_or nodes k no_node) (known k lt);
}
  where
    links : (k : ℕ) → 0 < k → k < length (first_found tree x ∷ filter_map (finding tree) probes) → IsFound tree (get_or (first_found tree x ∷ filter_map (finding tree) probes) k no_node)
    links zero some lt = absurd (omega (arith, some))
    links (suc k) some lt = at-each tree (filter_map (finding tree) probes) (finds-found tree probes) k (omega (arith, lt))

-- the host alone
pub alone-found : (tree : Plan) (x : ℕ) (nodes : List FoundNode) → nodes ≡ first_found tree x ∷ [] → AreFound tree nodes
alone-found tree x nodes is = subst (AreFound tree) (sym is) (record {
  parents = λ k some lt. absurd (omega (arith, some, lt));
  links = λ k some lt. absurd (omega (arith, some, lt));
  epids = λ k lt.
      let none : k ≡ 0 = omega (arith, lt) in
      subst (λ n. is_end (get_or (first_found tree x ∷ []) n no_node).kind ≡ true → epid_at tree.nodes (get_or (first_found tree x ∷ []) n no_node).instance ≡ Some (get_or (first_found tree x ∷ []) n no_node).epid)
      (sym none) (end-epid (planned tree x));
})
