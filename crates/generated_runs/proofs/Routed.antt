-- The tables of a network that is built routed have the port of the first link of each way.
use Rattle.std.proofs.Common.{◌≡◌, ◌∙◌, ℕ, zero, suc, Bool, true, false, List, [], ◌∷◌, map, length, Option, None, Some, refl, sym, ap, arith, eqb-true, filter_map}
use Rattle.std.proofs.lemmas.Bool.{eqb-false}
use Rattle.std.specs.Prelude.{◌==◌, slice_get, if◌then◌else◌}
use Rattle.std.specs.List.{cons_option}
use Rattle.std.specs.Option.{option_map_or}
use Rattle.std.proofs.lemmas.List.FromFn.{get_or-map-range_with_len}
use Rattle.block_registers.specs.Registers.{Registers}
use Rattle.chdr_words.specs.declared.epid.Epid.{Epid}
use Rattle.net_machine.specs.Begin.{built, built_node, epids_of, exit_over, exit_to, place_for}
use Rattle.net_machine.specs.Nodes.{exits_of}
use Rattle.net_machine.specs.State.{blank, node_in}
use Rattle.net_nodes.specs.Table.{exit_of}
use Rattle.net_topology.specs.Leads.{IsRouted, has_table}
use Rattle.net_topology.specs.Parts.{way_of}
use Rattle.net_topology.specs.Tree.{IsTree, epid_at, epid_of}
use Rattle.net_topology.specs.declared.plan.NodePlan.{NodePlan}
use Rattle.net_topology.specs.declared.plan.Plan.{Plan}
use Rattle.net_topology.proofs.Laws.{epids_name_nodes}
use Rattle.generated_runs.proofs.Tests.{below-length, none-some, passing, some-same}

same-epid : (a b : Epid) → a.0 ≡ b.0 → a ≡ b
same-epid a b e = λ i. record { 0 = e i }

-- the entry of a node's EPID among the places of all EPIDs
module _ (tree : Plan) (x : ℕ) (epid : Epid) where
  entry : (nodes : List NodePlan) (z : ℕ) → epid_at nodes z ≡ Some epid
      → exit_of (map (place_for tree true x) (filter_map epid_of nodes)) epid ≡ exit_to tree x epid
  entry [] z is = none-some is
  entry (node ∷ nodes) z is = by_epid (epid_of node) refl z is (entry nodes)
    where
      Entry : Option Epid → Type 0
      Entry own = exit_of (map (place_for tree true x) (cons_option own (filter_map epid_of nodes))) epid ≡ exit_to tree x epid

      by_test : (own : Epid) (b : Bool) → (own.0 == epid.0) ≡ b
          → (b ≡ false → exit_of (map (place_for tree true x) (filter_map epid_of nodes)) epid ≡ exit_to tree x epid)
          → (if b then exit_to tree x own else exit_of (map (place_for tree true x) (filter_map epid_of nodes)) epid) ≡ exit_to tree x epid
      by_test own true e later = ap (exit_to tree x) (same-epid own epid (eqb-true own.0 epid.0 e))
      by_test own false e later = later refl

      by_epid : (own : Option Epid) → epid_of node ≡ own → (z : ℕ) → epid_at (node ∷ nodes) z ≡ Some epid
          → ((z : ℕ) → epid_at nodes z ≡ Some epid → exit_of (map (place_for tree true x) (filter_map epid_of nodes)) epid ≡ exit_to tree x epid)
          → exit_of (map (place_for tree true x) (cons_option own (filter_map epid_of nodes))) epid ≡ exit_to tree x epid
      by_epid None e zero is later = none-some (sym e ∙ is)
      by_epid None e (suc z) is later = later z is
      by_epid (Some own) e zero is later =
          by_test own (own.0 == epid.0) refl
          (λ differs. absurd (eqb-false own.0 epid.0 differs (ap (λ (p : Epid). p.0) (some-same (sym e ∙ is)))))
      by_epid (Some own) e (suc z) is later = by_test own (own.0 == epid.0) refl (λ _. later z is)

-- so those tables are routed
pub built-IsRouted : (tree : Plan) (banks : List (Option Registers)) → IsTree tree → IsRouted tree (exits_of (built tree true banks).nodes)
built-IsRouted tree banks is_tree x z d ds epid table named way =
    let node = passing has_table (slice_get tree.nodes x) table in
    let below = below-length tree.nodes x node.value node.is in
    let at_node : node_in (built tree true banks).nodes x ≡ built_node tree true x =
    get_or-map-range_with_len (built_node tree true) 0 (length tree.nodes) x x blank below (omega arith) in
    ap (λ n. exit_of (n.table) epid) at_node
    ∙ ap (λ (b : Bool). exit_of (if b then record blank { table = map (place_for tree true x) (epids_of tree) } else blank).table epid) table
    ∙ entry tree x epid tree.nodes z ((epids_name_nodes tree is_tree z epid).0 named)
    ∙ ap (λ (o : Option ℕ). option_map_or (λ y. exit_over tree (way_of tree.links x y)) o None) named
    ∙ ap (exit_over tree) way
