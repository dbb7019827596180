-- A port has one edge, which its number leads to.
use Rattle.std.proofs.Common.{◌≡◌, ◌∙◌, ℕ, zero, suc, ◌+◌, ◌*◌, ◌<◌, ◌≤◌, refl, sym, ap, subst, List, [], ◌∷◌, length, map, get_or, Bool, true, false, cond, ◌&&◌, eqb, Option, Some, None, option_and_then, slice_get, arith, All, Contains, eq-eqb}
use Rattle.std.specs.List.{IsDistinct, AllByRecursion}
use Rattle.std.proofs.lemmas.Bool.{eqb-true, false≢true}
use Rattle.std.proofs.lemmas.List.Sums.{get_or-le-sum_by}
use Rattle.std.proofs.lemmas.Option.{slice_get_within, get_or_from_slice_get}
use Rattle.block_library.specs.declared.kind.BlockKind.{BlockKind}
use Rattle.graph_core.specs.declared.place.Side.{Side}
use Rattle.graph_core.specs.declared.place.Side.TheVariants.{Into, Out}
use Rattle.graph_core.specs.declared.place.PortAt.{PortAt}
use Rattle.graph_core.specs.declared.place.PropAt.{PropAt}
use Rattle.graph_core.specs.declared.place.Edge.{Edge}
use Rattle.graph_core.specs.declared.place.Rule.TheVariants.{Edge as edge_rule}
use Rattle.graph_core.specs.Derivation.{Diagram, Gives, across, is_at, other_end, property_at}
use Rattle.graph_core.specs.Edges.{IsJoined, port_number}
use Rattle.graph_core.specs.Ports.{IsPort, ports_at}
use Rattle.graph_core.specs.Pairs.{Pair}
use Rattle.graph_core.specs.State.{IsDiagram}
use Rattle.graph_core.proofs.Laws.{two_ports}
use Rattle.property_resolver.specs.Joined.{HasEdges, end_on, far_end}
use Rattle.property_resolver.specs.Spreads.{EdgesSpread}
use Rattle.property_resolver.specs.Work.{one_if_some, edge_work}
use Rattle.property_resolver.proofs.Learned.{same_item}

-- ---- the number of a port

port_below : (side : Side) (kinds : List BlockKind) (block port : ℕ) → port < ports_at kinds block side → (block < length kinds) × (port < 2)
port_below side [] block port h = absurd (omega arith)
port_below side (kind ∷ kinds) zero port h = let t = two_ports side kind in (omega arith, omega arith)
port_below side (kind ∷ kinds) (suc block) port h = let b = port_below side kinds block port h in (omega (arith, b.0), b.1)

small_port : (side : Side) (kinds : List BlockKind) (at : PortAt) → length kinds ≤ 32 → IsPort kinds side at → port_number at < 64
small_port side kinds at few h = let b = port_below side kinds at.block at.port h in omega (arith, b.0, b.1)

-- ---- one edge at a port

named : (P : ℕ → Type 0) (f : Edge → ℕ) (edges : List Edge) (i : ℕ) (edge : Edge) → AllByRecursion P (map f edges) → slice_get edges i ≡ Some edge → P (f edge)
named P f [] i edge all e = absurd cc
named P f (x ∷ edges) zero edge all e = subst (λ (y : Edge). P (f y)) (same_item e) all.0
named P f (x ∷ edges) (suc i) edge all e = named P f edges i edge all.1 e

unequal : (a b : ℕ) → eqb a b ≡ false → a ≡ b → ⊥
unequal a b apart same = false≢true (sym apart ∙ eq-eqb a b same)

one_place : (f : Edge → ℕ) (edges : List Edge) → IsDistinct eqb (map f edges) → (i j : ℕ) (edge next : Edge) → slice_get edges i ≡ Some edge → slice_get edges j ≡ Some next → f edge ≡ f next → i ≡ j
unfolding IsDistinct
one_place f [] distinct i j edge next a b e = absurd cc
one_place f (x ∷ edges) distinct zero zero edge next a b e = refl
one_place f (x ∷ edges) distinct zero (suc j) edge next a b e =
    absurd (unequal (f x) (f next) (named (λ y. eqb (f x) y ≡ false) f edges j next distinct.0 b) (ap f (same_item a) ∙ e))
one_place f (x ∷ edges) distinct (suc i) zero edge next a b e =
    absurd (unequal (f x) (f edge) (named (λ y. eqb (f x) y ≡ false) f edges i edge distinct.0 a) (ap f (same_item b) ∙ sym e))
one_place f (x ∷ edges) distinct (suc i) (suc j) edge next a b e = let r = one_place f edges distinct.1 i j edge next a b e in omega (arith, r)

at_item : (P : Edge → Type 0) (edges : List Edge) (i : ℕ) (edge : Edge) → All P edges → slice_get edges i ≡ Some edge → P edge
at_item P edges i edge all e =
    let lt = slice_get_within edges i edge e in
    subst P (get_or_from_slice_get edges i edge edge e) (all i edge lt)

module _ (diagram : Diagram) (ok : IsDiagram diagram) where
  pub ends_within : (side : Side) (number : ℕ) (edge : Edge) → slice_get diagram.edges number ≡ Some edge → port_number (end_on side edge) < 64
  ends_within Into number edge e = small_port Into diagram.kinds edge.to ok.few (at_item (IsJoined diagram.kinds) diagram.edges number edge ok.joined e).to
  ends_within Out number edge e = small_port Out diagram.kinds edge.from ok.few (at_item (IsJoined diagram.kinds) diagram.edges number edge ok.joined e).from

  pub ends_apart : (side : Side) (number other : ℕ) (edge next : Edge) → slice_get diagram.edges number ≡ Some edge → slice_get diagram.edges other ≡ Some next
      → port_number (end_on side edge) ≡ port_number (end_on side next) → number ≡ other
  ends_apart Into number other edge next a b e = one_place (λ (x : Edge). port_number x.to) diagram.edges ok.inputs number other edge next a b e
  ends_apart Out number other edge next a b e = one_place (λ (x : Edge). port_number x.from) diagram.edges ok.outputs number other edge next a b e

-- ---- the edge at a property

meets : (at : PropAt) (port : PortAt) (r : PropAt) (to : PropAt) → cond (is_at at port) (Some r) None ≡ Some to → 2 * at.block + at.port ≡ port_number port
meets at port r to e = parts (eqb at.block port.block) (eqb at.port port.port) refl refl e
  where
    parts : (a b : Bool) → eqb at.block port.block ≡ a → eqb at.port port.port ≡ b → cond (a && b) (Some r) None ≡ Some to → 2 * at.block + at.port ≡ port_number port
    parts true true x y e = let block = eqb-true _ _ x in let port = eqb-true _ _ y in omega arith
    parts true false x y e = absurd cc
    parts false b x y e = absurd cc

meets_on : (side : Side) (edge : Edge) (at to : PropAt) → other_end side edge at ≡ Some to → 2 * at.block + at.port ≡ port_number (end_on side edge)
meets_on Out edge at to e = meets at edge.from (property_at Into edge.to at.prop) to e
meets_on Into edge at to e = meets at edge.to (property_at Out edge.from at.prop) to e

-- an edge that leads on from the property has the number that the table has there
pub number_there : (at : PropAt) (edges : List Edge) (numbers : List (Option ℕ)) (found : Option ℕ) → HasEdges at.side edges (length edges) numbers
    → found ≡ get_or numbers (2 * at.block + at.port) None
    → (number : ℕ) (edge : Edge) (to : PropAt) → slice_get edges number ≡ Some edge → across edge at ≡ Some to → found ≡ Some number
number_there at edges numbers found has is number edge to e over =
    is ∙ ap (λ (k : ℕ). get_or numbers k None) (meets_on at.side edge at to over) ∙ has number edge (slice_get_within edges number edge e) e

-- what stands at the other end is there by the edge of that number
pub at_far_end : (edges : List Edge) (number : ℕ) (at to : PropAt) → far_end edges number at ≡ Some to → (edge : Edge) × (slice_get edges number ≡ Some edge) × (across edge at ≡ Some to)
at_far_end edges number at to e = by (slice_get edges number) refl e
  where
    by : (o : Option Edge) → slice_get edges number ≡ o → option_and_then (λ edge. across edge at) o ≡ Some to → (edge : Edge) × (slice_get edges number ≡ Some edge) × (across edge at ≡ Some to)
    by None is far = let z : ◌≡◌ {A = Option PropAt} None (Some to) = far in absurd cc
    by (Some edge) is far = (edge, is, far)

module _ (edges : List Edge) (at : PropAt) (found : Option ℕ)
    (only : (number : ℕ) (edge : Edge) (to : PropAt) → slice_get edges number ≡ Some edge → across edge at ≡ Some to → found ≡ Some number) where
  -- if the table has no number, no edge leads on
  pub none_spread : (pairs : List Pair) (value : ℕ) → found ≡ None → EdgesSpread edges (length edges) pairs at value
  none_spread pairs value none number edge to below e over = let z : ◌≡◌ {A = Option ℕ} None (Some number) = sym none ∙ only number edge to e over in absurd cc

  -- if nothing stands at the other end of the edge of the number, no edge leads on
  pub past_spread : (pairs : List Pair) (value number : ℕ) → found ≡ Some number → far_end edges number at ≡ None → EdgesSpread edges (length edges) pairs at value
  past_spread pairs value number some none other edge to below e over =
      let same : number ≡ other = same_item (sym some ∙ only other edge to e over) in
      let here : slice_get edges number ≡ Some edge = subst (λ i. slice_get edges i ≡ Some edge) (sym same) e in
      let z : ◌≡◌ {A = Option PropAt} None (Some to) = sym none ∙ ap (λ (o : Option Edge). option_and_then (λ edge. across edge at) o) here ∙ over in absurd cc

  -- the edge of the number is the only one
  pub one_spread : (pairs : List Pair) (value number : ℕ) (to : PropAt) → found ≡ Some number → far_end edges number at ≡ Some to → Contains pairs (to, value) → EdgesSpread edges (length edges) pairs at value
  one_spread pairs value number to some far has other next beyond below e leads =
      let there = at_far_end edges number at to far in
      let same : number ≡ other = same_item (sym some ∙ only other next beyond e leads) in
      let is : there.0 ≡ next = same_item (sym there.1 ∙ subst (λ i. slice_get edges i ≡ Some next) (sym same) e) in
      let ends : to ≡ beyond = same_item (sym there.2 ∙ ap (λ (x : Edge). across x at) is ∙ leads) in
      subst (λ (q : PropAt). Contains pairs (q, value)) ends has

-- an edge that leads on is one of the property's
pub one_at_least : (edges : List Edge) (at : PropAt) (number : ℕ) (to : PropAt) → far_end edges number at ≡ Some to → 1 ≤ edge_work edges at
one_at_least edges at number to far =
    let there = at_far_end edges number at to far in
    let most = get_or-le-sum_by (λ edge. one_if_some (across edge at)) edges number there.0 (slice_get_within edges number there.0 there.1) in
    let is : one_if_some (across (get_or edges number there.0) at) ≡ 1 = ap (λ (x : Edge). one_if_some (across x at)) (get_or_from_slice_get edges number there.0 there.0 there.1) ∙ ap one_if_some there.2 in
    omega (arith, most, is)

-- what the edge of the number gives at its other end
pub far_gives : (diagram : Diagram) (at : PropAt) (value number : ℕ) (to : PropAt) → far_end diagram.edges number at ≡ Some to → Gives diagram (edge_rule number) at value to (Some value)
far_gives diagram at value number to far =
    let there = at_far_end diagram.edges number at to far in
    record { edge = there.0; stands = there.1; joins = there.2; equal = refl }
