-- The place of a node stays when nodes follow.
use Rattle.std.proofs.Common.{◌≡◌, ℕ, ◌<◌, ◌≤◌, ◌⊎◌, inl, inr, false, List, [], ◌∷◌, ◌++◌, length, refl, sym, ◌∙◌, ap, arith, eq-eqb, get_or}
use Rattle.std.proofs.lemmas.Bool.{both_ways, cases_lt}
use Rattle.std.proofs.lemmas.List.{get_or_append_left, get_or_push, length-append, length_push}
use Rattle.std.proofs.lemmas.List.Sums.{fails_before_first, passes_at_first, position_or_len_is}
use Rattle.walk_books.specs.declared.found.FoundNode.{FoundNode}
use Rattle.found_nodes.specs.Found.{IsListed, found_at, is_number, no_node, place_of}
use Rattle.found_nodes.specs.Growing.{NodesAreListed, ParentsStayFirst, PlacesStay}

pub listed-at : NodesAreListed
listed-at nodes k lt = by_order (cases_lt k (place_of nodes x))
  where
    x : ℕ
    x = (found_at nodes k).instance

    by_order : (k < place_of nodes x) ⊎ (place_of nodes x ≤ k) → IsListed nodes x
    by_order (inl before) = absurd (both_ways (is_number x (found_at nodes k)) (fails_before_first (is_number x) nodes k no_node before) (eq-eqb x x refl))
    by_order (inr le) = omega (arith, le, lt)

pub place-stays : PlacesStay
place-stays nodes more x listed =
    position_or_len_is (is_number x) (nodes ++ more) place no_node (omega (arith, listed, length-append nodes more)) before
    (λ lt. ap (is_number x) (get_or_append_left nodes more no_node place listed) ∙ passes_at_first (is_number x) nodes no_node listed)
  where
    place : ℕ
    place = place_of nodes x

    before : (k : ℕ) → k < place → is_number x (get_or (nodes ++ more) k no_node) ≡ false
    before k lt = ap (is_number x) (get_or_append_left nodes more no_node k (omega (arith, lt, listed))) ∙ fails_before_first (is_number x) nodes k no_node lt

pub parents-first : ParentsStayFirst
parents-first nodes f have listed k some lt = by_order (cases_lt k (length nodes))
  where
    all : List FoundNode
    all = nodes ++ f ∷ []

    by_order : (k < length nodes) ⊎ (length nodes ≤ k) → place_of all (found_at all k).parent < k
    by_order (inl there) =
        let before = have k some there in
        let at : found_at all k ≡ found_at nodes k = get_or_append_left nodes (f ∷ []) no_node k there in
        let stays = place-stays nodes (f ∷ []) (found_at nodes k).parent (omega (arith, before, there)) in
        let same : place_of all (found_at all k).parent ≡ place_of all (found_at nodes k).parent = ap (λ (g : FoundNode). place_of all g.parent) at in
        omega (arith, before, stays, same)
    by_order (inr past) =
        let last : k ≡ length nodes = omega (arith, past, lt, length_push nodes f) in
        let at : found_at all k ≡ f = get_or_push nodes f no_node k (sym last) in
        let stays = place-stays nodes (f ∷ []) f.parent listed in
        let same : place_of all (found_at all k).parent ≡ place_of all f.parent = ap (λ (g : FoundNode). place_of all g.parent) at in
        omega (arith, listed, last, stays, same)
