-- A derivation has each property once, so its pairs, and the edges at them, are few.
use Rattle.std.proofs.Common.{◌≡◌, ◌≢◌, ◌∙◌, ℕ, zero, suc, ◌+◌, ◌*◌, ◌<◌, ◌≤◌, ⊎_elim, refl, sym, ap, subst, List, [], ◌∷◌, ◌++◌, length, length-append, Contains, Some, None, Option, sum_by, get_or, arith}
use Rattle.std.proofs.lemmas.Bool.{cases_lt}
use Rattle.std.proofs.lemmas.List.Elements.{Contains-append_left, Contains-append_right, Contains-append_cases, Contains-push}
use Rattle.std.proofs.lemmas.List.Sums.{sum_by-cons, sum_by_push, sum_by-le}
use Rattle.block_library.specs.Blocks.{inputs, outputs}
use Rattle.graph_core.specs.declared.place.Side.TheVariants.{Into, Out}
use Rattle.graph_core.specs.declared.place.Prop.{Prop}
use Rattle.graph_core.specs.declared.place.Prop.TheVariants.{Rate, Item, Spp}
use Rattle.graph_core.specs.declared.place.PropAt.{PropAt}
use Rattle.graph_core.specs.declared.place.Edge.{Edge}
use Rattle.graph_core.specs.Derivation.{Diagram, IsDerivation, across, property_at}
use Rattle.graph_core.specs.Derivation.IsDerivation.{none, set, given}
use Rattle.graph_core.specs.Pairs.{Pair, Lacks}
use Rattle.graph_core.specs.Ports.{properties, port_total}
use Rattle.graph_core.specs.State.{IsDiagram}
use Rattle.graph_core.proofs.Laws.{two_ports}
use Rattle.property_resolver.specs.Work.{one_if_some, edge_work, work, most_work}
use Rattle.property_resolver.proofs.Listed.{listed, listed_length, all_properties, EndsAt, ends_at}
use Rattle.property_resolver.proofs.Listed.EndsAt.{forth, back}

-- a list that contains an item, cut at it
record Cut (xs : List PropAt) (x : PropAt) : Type 0 where
  front : List PropAt
  rest : List PropAt
  whole : xs ≡ front ++ x ∷ rest

cut : (xs : List PropAt) (x : PropAt) → Contains xs x → Cut xs x
cut [] x h = absurd (none_here x h)
  where
    none_here : (x : PropAt) → Contains [] x → ⊥
    none_here x h = omega (arith, h.1)
cut (y ∷ ys) x (zero, lt, e) = record { front = []; rest = ys; whole = ap (λ z. z ∷ ys) e }
cut (y ∷ ys) x (suc k, lt, e) = let r = cut ys x (k, omega arith, e) in record { front = y ∷ r.front; rest = r.rest; whole = ap (λ zs. y ∷ zs) r.whole }

left : (xs : List PropAt) (x q : PropAt) (c : Cut xs x) → Contains xs q → q ≢ x → Contains (c.front ++ c.rest) q
left xs x q c h other = ⊎_elim
    (λ a. Contains-append_left c.front c.rest q a)
    (λ b. ⊎_elim (λ here. absurd (other (sym (one here)))) (λ there. Contains-append_right c.front c.rest q there) (Contains-append_cases (x ∷ []) c.rest q b))
    (Contains-append_cases c.front (x ∷ c.rest) q (subst (λ l. Contains l q) c.whole h))
  where
    one : Contains (x ∷ []) q → x ≡ q
    one (zero, lt, e) = e
    one (suc k, lt, e) = absurd (omega arith)

-- the weights of the pairs' properties, where each one counted is in a list
module _ (weight : PropAt → ℕ) (light : (at : PropAt) → weight at ≤ 1) (diagram : Diagram) where
  abbrev total : List Pair → ℕ
  total pairs = sum_by (λ pair. weight pair.0) pairs

  last : (pairs earlier : List Pair) (at : PropAt) (value : ℕ) → pairs ≡ earlier ++ (at, value) ∷ [] → total pairs ≡ total earlier + weight at
  last pairs earlier at value e = ap total e ∙ sum_by_push (λ pair. weight pair.0) earlier (at, value)

  one_more : (pairs earlier : List Pair) (at : PropAt) (value : ℕ) → Lacks earlier at → pairs ≡ earlier ++ (at, value) ∷ []
      → ((xs : List PropAt) → ((q : PropAt) (u : ℕ) → Contains earlier (q, u) → 0 < weight q → Contains xs q) → total earlier ≤ length xs)
      → (xs : List PropAt) → ((q : PropAt) (u : ℕ) → Contains pairs (q, u) → 0 < weight q → Contains xs q) → total pairs ≤ length xs
  one_more pairs earlier at value lacks e few xs all = ⊎_elim
      (λ counted.
      let c = cut xs at (all at value (subst (λ l. Contains l (at, value)) (sym e) (Contains-push earlier (at, value))) counted) in
      let f = few (c.front ++ c.rest) (λ q u h w. left xs at q c (old q u h w) (λ same. lacks u (subst (λ p. Contains earlier (p, u)) same h))) in
      let l = last pairs earlier at value e in
      let n = light at in
      let a = length-append c.front c.rest in
      let b = length-append c.front (at ∷ c.rest) in
      let w : length xs ≡ length (c.front ++ at ∷ c.rest) = ap length c.whole in
      omega arith)
      (λ free. let f = few xs old in let l = last pairs earlier at value e in omega arith)
      (cases_lt 0 (weight at))
    where
      old : (q : PropAt) (u : ℕ) → Contains earlier (q, u) → 0 < weight q → Contains xs q
      old q u h w = all q u (subst (λ l. Contains l (q, u)) (sym e) (Contains-append_left earlier ((at, value) ∷ []) (q, u) h)) w

  few : (pairs : List Pair) → IsDerivation diagram pairs → (xs : List PropAt) → ((q : PropAt) (u : ℕ) → Contains pairs (q, u) → 0 < weight q → Contains xs q) → total pairs ≤ length xs
  few pairs none xs all = omega arith
  few pairs (set earlier at value sub user lacks e) xs all = one_more pairs earlier at value lacks e (few earlier sub) xs all
  few pairs (given earlier at value by from number sub there gives lacks e) xs all = one_more pairs earlier at value lacks e (few earlier sub) xs all

ends : Edge → List PropAt
ends edge =
    property_at Out edge.from Rate ∷ property_at Out edge.from Item ∷ property_at Out edge.from Spp
    ∷ property_at Into edge.to Rate ∷ property_at Into edge.to Item ∷ property_at Into edge.to Spp ∷ []

in_ends : (edge : Edge) (from to : PropAt) → EndsAt edge from to → Contains (ends edge) from
unfolding ends
in_ends edge from to (forth a b) = subst (Contains (ends edge)) (sym a) (named from.prop)
  where
    named : (prop : Prop) → Contains (ends edge) (property_at Out edge.from prop)
    named Rate = (0, omega arith, refl)
    named Item = (1, omega arith, refl)
    named Spp = (2, omega arith, refl)
in_ends edge from to (back a b) = subst (Contains (ends edge)) (sym a) (named from.prop)
  where
    named : (prop : Prop) → Contains (ends edge) (property_at Into edge.to prop)
    named Rate = (3, omega arith, refl)
    named Item = (4, omega arith, refl)
    named Spp = (5, omega arith, refl)

touched : (edge : Edge) (q : PropAt) → 0 < one_if_some (across edge q) → Contains (ends edge) q
touched edge q h = by (across edge q) refl h
  where
    by : (o : Option PropAt) → across edge q ≡ o → 0 < one_if_some o → Contains (ends edge) q
    by None e w = absurd (omega arith)
    by (Some to) e w = in_ends edge q to (ends_at edge q to e)

light_edge : (o : Option PropAt) → one_if_some o ≤ 1
light_edge None = omega arith
light_edge (Some at) = omega arith

touches : (diagram : Diagram) (edge : Edge) (pairs : List Pair) → IsDerivation diagram pairs → sum_by (λ pair. one_if_some (across edge pair.0)) pairs ≤ 6
unfolding ends
touches diagram edge pairs d = few (λ at. one_if_some (across edge at)) (λ at. light_edge (across edge at)) diagram pairs d (ends edge) (λ q u h w. touched edge q w)

-- each pair has its share of the work
pub at_least : (edges : List Edge) (pairs : List Pair) → length pairs ≤ work edges pairs
at_least edges [] = omega arith
at_least edges (pair ∷ pairs) = let r = at_least edges pairs in let c = sum_by-cons (λ p. 1 + edge_work edges p.0) pair pairs in omega arith

-- the work of one edge more
split : (edge : Edge) (edges : List Edge) (pairs : List Pair) → work (edge ∷ edges) pairs ≡ work edges pairs + sum_by (λ pair. one_if_some (across edge pair.0)) pairs
split edge edges [] = refl
split edge edges (pair ∷ pairs) =
    let r = split edge edges pairs in
    let a = sum_by-cons (λ pair. 1 + edge_work (edge ∷ edges) pair.0) pair pairs in
    let b = sum_by-cons (λ pair. 1 + edge_work edges pair.0) pair pairs in
    let c = sum_by-cons (λ pair. one_if_some (across edge pair.0)) pair pairs in
    let e = sum_by-cons (λ x. one_if_some (across x pair.0)) edge edges in
    omega arith

module _ (diagram : Diagram) (pairs : List Pair) (d : IsDerivation diagram pairs) (ok : IsDiagram diagram) where
  blocks_work : work [] pairs ≤ 3 * port_total diagram.kinds
  blocks_work =
      let f = few (λ at. 1) (λ at. omega arith) diagram pairs d (properties diagram.kinds) (λ q u h w. listed diagram.kinds q (all_properties diagram ok pairs d q u h)) in
      let l = listed_length diagram.kinds in
      omega arith

  pub few_pairs : length pairs ≤ 384
  few_pairs =
      let b = blocks_work in
      let l = at_least [] pairs in
      let p : port_total diagram.kinds ≤ length diagram.kinds * 4 = sum_by-le (λ kind. inputs kind + outputs kind) 4 diagram.kinds
      (λ k d lt. let i = two_ports Into (get_or diagram.kinds k d) in let o = two_ports Out (get_or diagram.kinds k d) in omega arith) in
      let n = ok.few in
      omega arith

  edges_work : (edges : List Edge) → work edges pairs ≤ 3 * port_total diagram.kinds + 6 * length edges
  edges_work [] = let b = blocks_work in omega arith
  edges_work (edge ∷ edges) = let r = edges_work edges in let s = split edge edges pairs in let t = touches diagram edge pairs d in omega arith

  -- so a derivation's work is bounded by its graph
  pub bounded : work diagram.edges pairs ≤ most_work diagram
  bounded = edges_work diagram.edges
