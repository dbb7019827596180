-- A net is settled as it is built, and at rest again with its nodes as they were.
use Rattle.std.proofs.Common.{◌≡◌, ℕ, ◌≤◌, ◌<◌, ◌⊎◌, inl, inr, Bool, true, false, List, [], ◌∷◌, length, map, refl, sym, ◌∙◌, ap, subst, arith, eq-eqb, zero, suc, if◌then◌else◌}
use Rattle.std.specs.Prelude.{Option, Some, None, filter_map, unwrap_or, ◌==◌, ◌||◌}
use Rattle.std.specs.List.{range_with_len}
use Rattle.std.specs.Option.{option_map_or}
use Rattle.std.proofs.lemmas.Bool.{both_ways, cases_lt}
use Rattle.std.proofs.lemmas.List.{get_or_past, length-map}
use Rattle.std.proofs.lemmas.List.FromFn.{get_or-map-range_with_len, length-range_with_len}
use Rattle.std.proofs.lemmas.Option.{slice_get_past}
use Rattle.chdr_words.specs.declared.epid.Epid.{Epid}
use Rattle.net_nodes.specs.Table.{has_place}
use Rattle.net_topology.specs.Leads.{has_table}
use Rattle.net_topology.specs.Tree.{epid_at, epid_of}
use Rattle.net_topology.specs.declared.plan.NodePlan.{NodePlan}
use Rattle.net_topology.specs.declared.plan.NodePlan.TheVariants.{Crossbar, Adapter, Host, Endpoint}
use Rattle.net_topology.specs.declared.plan.Plan.{Plan}
use Rattle.net_machine.specs.Begin.{built_node, epids_of, place_for}
use Rattle.net_machine.specs.Nodes.{is_switch}
use Rattle.net_machine.specs.State.{Node, blank, node_in}
use Rattle.net_lone.specs.Stages.{HavePlaces}
use Rattle.host_talk.specs.Settled.{BuiltNetsAreSettled, RestSettles}

-- ---- the nodes as they are built

-- node x, if it is there
node-is : (tree : Plan) (routed : Bool) (x : ℕ) → x < length tree.nodes →
    node_in (map (built_node tree routed) (range_with_len 0 (length tree.nodes))) x ≡ built_node tree routed x
node-is tree routed x lt = get_or-map-range_with_len (built_node tree routed) 0 (length tree.nodes) x x blank lt (omega arith)

-- and if it isn't
node-past : (tree : Plan) (routed : Bool) (x : ℕ) → length tree.nodes ≤ x →
    node_in (map (built_node tree routed) (range_with_len 0 (length tree.nodes))) x ≡ blank
node-past tree routed x past = get_or_past (map (built_node tree routed) (range_with_len 0 (length tree.nodes))) x blank
    (subst (λ n. n ≤ x) (sym (length-map (range_with_len 0 (length tree.nodes)) (built_node tree routed) ∙ length-range_with_len 0 (length tree.nodes))) past)

none-pending : (tree : Plan) (routed : Bool) (x : ℕ) → (built_node tree routed x).pending ≡ []
none-pending tree routed x = by_sort (is_switch tree x)
  where
    by_sort : (b : Bool) → (if b then record blank { table = map (place_for tree routed x) (epids_of tree) } else blank).pending ≡ []
    by_sort true = refl
    by_sort false = refl

clear-built : (tree : Plan) (routed : Bool) (x : ℕ) → (node_in (map (built_node tree routed) (range_with_len 0 (length tree.nodes))) x).pending ≡ []
clear-built tree routed x = by_order (cases_lt x (length tree.nodes))
  where
    by_order : (x < length tree.nodes) ⊎ (length tree.nodes ≤ x) → (node_in (map (built_node tree routed) (range_with_len 0 (length tree.nodes))) x).pending ≡ []
    by_order (inl lt) = ap (λ (n : Node). n.pending) (node-is tree routed x lt) ∙ none-pending tree routed x
    by_order (inr past) = ap (λ (n : Node). n.pending) (node-past tree routed x past)

-- ---- places

place-epid : (tree : Plan) (routed : Bool) (x : ℕ) (epid : Epid) → (place_for tree routed x epid).epid ≡ epid
place-epid tree true x epid = refl
place-epid tree false x epid = refl

same-epid : (n : ℕ) → (n == n) ≡ true
same-epid n = eq-eqb n n refl

true-or : (a b : Bool) → b ≡ true → (a || b) ≡ true
true-or true b is = refl
true-or false b is = is

first-true : (a b : Bool) → a ≡ true → (a || b) ≡ true
first-true a b is = ap (λ c. c || b) is

-- an EPID that is the first of a list has a place
here-placed : (tree : Plan) (routed : Bool) (x : ℕ) (own : Epid) (rest : List Epid) (epid : Epid) → ◌≡◌ {A = Option Epid} (Some own) (Some epid) →
    has_place (map (place_for tree routed x) (own ∷ rest)) epid ≡ true
here-placed tree routed x own rest epid is =
    let same : own ≡ epid = ap (λ (o : Option Epid). unwrap_or o own) is in
    first-true ((place_for tree routed x own).epid.0 == epid.0) (has_place (map (place_for tree routed x) rest) epid)
    (ap (λ (e : Epid). e.0 == epid.0) (place-epid tree routed x own ∙ same) ∙ same-epid epid.0)

-- an EPID that a node has is among those of the network
placed : (tree : Plan) (routed : Bool) (x : ℕ) (nodes : List NodePlan) (z : ℕ) (epid : Epid) → epid_at nodes z ≡ Some epid →
    has_place (map (place_for tree routed x) (filter_map epid_of nodes)) epid ≡ true
placed tree routed x [] z epid is = let none : ◌≡◌ {A = Option Epid} None (Some epid) = is in absurd cc
placed tree routed x (Crossbar ports ∷ nodes) zero epid is = let none : ◌≡◌ {A = Option Epid} None (Some epid) = is in absurd cc
placed tree routed x (Adapter ∷ nodes) zero epid is = let none : ◌≡◌ {A = Option Epid} None (Some epid) = is in absurd cc
placed tree routed x (Host own ∷ nodes) zero epid is = here-placed tree routed x own (filter_map epid_of nodes) epid is
placed tree routed x (Endpoint own bank ∷ nodes) zero epid is = here-placed tree routed x own (filter_map epid_of nodes) epid is
placed tree routed x (Crossbar ports ∷ nodes) (suc z) epid is = placed tree routed x nodes z epid is
placed tree routed x (Adapter ∷ nodes) (suc z) epid is = placed tree routed x nodes z epid is
placed tree routed x (Host own ∷ nodes) (suc z) epid is =
    true-or ((place_for tree routed x own).epid.0 == epid.0) (has_place (map (place_for tree routed x) (filter_map epid_of nodes)) epid) (placed tree routed x nodes z epid is)
placed tree routed x (Endpoint own bank ∷ nodes) (suc z) epid is =
    true-or ((place_for tree routed x own).epid.0 == epid.0) (has_place (map (place_for tree routed x) (filter_map epid_of nodes)) epid) (placed tree routed x nodes z epid is)

past-switch : (tree : Plan) (x : ℕ) → length tree.nodes ≤ x → is_switch tree x ≡ false
past-switch tree x past = ap (λ (o : Option NodePlan). option_map_or has_table o false) (slice_get_past tree.nodes x past)

places-built : (tree : Plan) (routed : Bool) → HavePlaces tree (map (built_node tree routed) (range_with_len 0 (length tree.nodes)))
places-built tree routed x z epid switch is = by_order (cases_lt x (length tree.nodes))
  where
    by_order : (x < length tree.nodes) ⊎ (length tree.nodes ≤ x) →
        has_place (node_in (map (built_node tree routed) (range_with_len 0 (length tree.nodes))) x).table epid ≡ true
    by_order (inl lt) =
        ap (λ (n : Node). has_place n.table epid) (node-is tree routed x lt)
        ∙ ap (λ b. has_place (if b then record blank { table = map (place_for tree routed x) (epids_of tree) } else blank).table epid) switch
        ∙ placed tree routed x tree.nodes z epid is
    by_order (inr past) = absurd (both_ways (is_switch tree x) (past-switch tree x past) switch)

pub built-settled : BuiltNetsAreSettled
built-settled tree routed rest = record {
  rest = rest;
  nodes = length-map (range_with_len 0 (length tree.nodes)) (built_node tree routed) ∙ length-range_with_len 0 (length tree.nodes);
  places = places-built tree routed;
  clear = clear-built tree routed;
}

pub rest-settles : RestSettles
rest-settles p q settled rest tree nodes = record {
  rest = rest;
  nodes = ap (λ (ns : List Node). length ns) nodes ∙ settled.nodes ∙ ap (λ (t : Plan). length t.nodes) (sym tree);
  places = subst (λ (t : Plan). HavePlaces t q.nodes) (sym tree) (subst (λ (ns : List Node). HavePlaces p.tree ns) (sym nodes) settled.places);
  clear = λ x. ap (λ (ns : List Node). (node_in ns x).pending) nodes ∙ settled.clear x;
}
