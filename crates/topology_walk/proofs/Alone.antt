-- A host without a link is found alone, as in the tree.
use Rattle.std.proofs.Common.{◌≡◌, ℕ, List, [], ◌∷◌, ◌++◌, refl, sym, ◌∙◌, ap, arith, eq-eqb, if◌then◌else◌}
use Rattle.std.specs.Prelude.{Option, None, ◌==◌, ◌&&◌, not, filter_map, is_none, option_map}
use Rattle.std.specs.List.{cons_option, count_by, flat_map, sum_by}
use Rattle.std.proofs.lemmas.List.Sums.{sum_by-cons}
use Rattle.net_topology.specs.Links.{link_at}
use Rattle.net_topology.specs.Tree.{port_count}
use Rattle.net_topology.specs.declared.plan.Plan.{Plan}
use Rattle.topology_walk.specs.Finding.{IsFoundOf, bare_behind, behind, found_at, is_bare}
use Rattle.topology_walk.specs.Nodes.{NodePort, first_found, found_over, port_of, ports_behind, ports_below}
use Rattle.topology_walk.proofs.Counting.{one_if}
use Rattle.walk_books.specs.declared.found.Found.{Found}
use Rattle.walk_books.specs.declared.found.FoundNode.{FoundNode}

module _ (tree : Plan) (x : ℕ) (one : port_count tree.nodes x ≡ 1) (none : link_at tree.links x 0 ≡ None) where
  abbrev pub first : FoundNode
  first = first_found tree x

  -- its one port was not that of arrival
  one-port : ports_behind first ≡ port_of first 0 ∷ []
  one-port = ap (ports_below first) one ∙ ap (λ b. if not (not b && 0 == 0) then port_of first 0 ∷ [] else []) (eq-eqb x x refl)

  nothing-behind : behind tree [] first ≡ []
  nothing-behind = ap (filter_map (found_at tree [])) one-port ∙ ap (λ (o : Option ℕ). cons_option (option_map (found_over tree) o) []) none

  one-bare : bare_behind tree [] first ≡ 1
  one-bare =
      let same = ap (count_by (is_bare tree [])) one-port in
      let counts = sum_by-cons (λ (p : NodePort). one_if (is_bare tree [] p)) (port_of first 0) [] in
      let here : one_if (is_bare tree [] (port_of first 0)) ≡ 1 = ap (λ (o : Option ℕ). one_if (is_none o)) none in
      omega (arith, same, counts, here)

  pub alone-of : (found : Found) → found.nodes ≡ first ∷ [] → found.bare ≡ 1 → found.lost ≡ [] → IsFoundOf tree x found
  alone-of found nodes bare lost = record {
    nodes = nodes ∙ ap (λ (fs : List FoundNode). first ∷ (fs ++ [])) (sym nothing-behind)
        ∙ (λ i. first ∷ flat_map (behind tree (sym lost i)) (sym nodes i));
    bare =
        let same : sum_by (bare_behind tree found.lost) found.nodes ≡ sum_by (bare_behind tree []) (first ∷ []) = λ i. sum_by (bare_behind tree (lost i)) (nodes i) in
        let adds = sum_by-cons (bare_behind tree []) first [] in
        omega (arith, bare, same, adds, one-bare);
  }
