-- The forms of packets at the ports of a settled graph: they are in their ranges, and one at both ends of an edge.
use Rattle.std.proofs.Common.{◌≡◌, ◌≢◌, ◌∙◌, ℕ, ◌<◌, ◌≤◌, ⊎_elim, refl, sym, ap, subst, List, true, length, arith, rules, Contains, Option, Some, None, unwrap_or}
use Rattle.std.specs.Prelude.{IfSome}
use Rattle.std.specs.Map.{keys_of, lookup}
use Rattle.std.proofs.lemmas.List.{get_or-map, length-map}
use Rattle.std.proofs.lemmas.Map.Views.{Contains-from_lookup, IsSome-lookup_from_Contains}
use Rattle.block_library.specs.declared.kind.BlockKind.{BlockKind}
use Rattle.block_library.specs.declared.kind.BlockKind.TheVariants.{Tx, Rx, Fifo, Split, Keep, Repeat, Replay, Switch, Sink}
use Rattle.graph_core.specs.Derivation.{Diagram, Settles}
use Rattle.graph_core.specs.Edges.{IsJoined}
use Rattle.graph_core.specs.Pairs.{Pair, is_same, value_of}
use Rattle.graph_core.specs.Ports.{IsProperty, port_count, ports_at}
use Rattle.graph_core.specs.contracts.place.PropAtEq.TheImpl.Laws.{laws-law}
use Rattle.graph_core.specs.declared.place.Edge.{Edge}
use Rattle.graph_core.specs.declared.place.Prop.{Prop}
use Rattle.graph_core.specs.declared.place.Prop.TheVariants.{Rate, Item, Spp}
use Rattle.graph_core.specs.declared.place.PropAt.{PropAt}
use Rattle.graph_core.specs.declared.place.Side.{Side}
use Rattle.graph_core.specs.declared.place.Side.TheVariants.{Into, Out}
use Rattle.graph_core.proofs.Laws.{blocks_agree, edges_show, items_are_set}
use Rattle.run_plans.specs.Layouts.{FitsValue, HasFittingUsers}
use Rattle.run_plans.specs.Planned.{first_property, first_side, first_value}
use Rattle.run_plans.proofs.Lists.{from_some}

same_property : (a b : PropAt) → is_same a b ≡ true → a ≡ b
same_property a b h = search rules

key_there : (pairs : List Pair) (at : PropAt) (v : ℕ) → Contains pairs (at, v) → Contains (keys_of pairs) at
key_there pairs at v has =
    let lt : has.0 < length pairs = has.1 in
    let long = length-map pairs (λ (p : Pair). p.0) in
    (has.0, omega arith, get_or-map (λ (p : Pair). p.0) pairs has.0 (at, v) at lt ∙ ap (λ (p : Pair). p.0) has.2)

-- a property of a pair is found
found : (pairs : List Pair) (at : PropAt) (v : ℕ) → Contains pairs (at, v) → (u : ℕ) × (value_of pairs at ≡ Some u) × Contains pairs (at, u)
unfolding value_of
found pairs at v has =
    let there = from_some (lookup (is_same at) pairs) (IsSome-lookup_from_Contains laws-law at pairs (key_there pairs at v has)) in
    (there.0, there.1, Contains-from_lookup same_property at there.0 pairs there.1)

-- each kind has its first port
pub first_there : (kind : BlockKind) → 0 < port_count (first_side kind) kind
first_there Tx = omega arith
first_there Rx = omega arith
first_there Fifo = omega arith
first_there Split = omega arith
first_there (Keep n) = omega arith
first_there (Repeat n) = omega arith
first_there (Replay n) = omega arith
first_there (Switch n) = omega arith
first_there Sink = omega arith

module _ (diagram : Diagram) (pairs : List Pair) (settles : Settles diagram pairs) where
  value_there : (at : PropAt) → IsProperty diagram.kinds at → (v : ℕ) × (value_of pairs at ≡ Some v) × Contains pairs (at, v)
  value_there at property = let held = settles.full at property in found pairs at held.0 held.1

  -- all ports of a block have one form
  block_value : (b : ℕ) (side side' : Side) (port port' : ℕ) (prop : Prop) → prop ≢ Rate
      → port < ports_at diagram.kinds b side → port' < ports_at diagram.kinds b side'
      → value_of pairs (record { block = b; side = side; port = port; prop = prop }) ≡ value_of pairs (record { block = b; side = side'; port = port'; prop = prop })
  block_value b side side' port port' prop form lt lt' =
      let at : PropAt = record { block = b; side = side; port = port; prop = prop } in
      let at' : PropAt = record { block = b; side = side'; port = port'; prop = prop } in
      let one = value_there at lt in
      let other = value_there at' lt' in
      one.1 ∙ ap Some (blocks_agree diagram pairs settles.closed at at' one.0 other.0 form refl refl lt' one.2 other.2) ∙ sym other.1

  pub edge_value : (edge : Edge) → Contains diagram.edges edge → IsJoined diagram.kinds edge → (from to : BlockKind) (prop : Prop) → prop ≢ Rate
      → 0 < ports_at diagram.kinds edge.from.block (first_side from) → 0 < ports_at diagram.kinds edge.to.block (first_side to)
      → first_value pairs edge.from.block from prop ≡ first_value pairs edge.to.block to prop
  edge_value edge has joined from to prop form first last =
      ap (λ (o : Option ℕ). unwrap_or o 0)
      (block_value edge.from.block (first_side from) Out 0 edge.from.port prop form first joined.from
      ∙ edges_show diagram pairs settles.closed edge has prop
      ∙ block_value edge.to.block Into (first_side to) edge.to.port 0 prop form joined.to last)

  pub fitting_value : HasFittingUsers diagram → (b : ℕ) (kind : BlockKind) (prop : Prop) → prop ≢ Rate → 0 < ports_at diagram.kinds b (first_side kind)
      → FitsValue prop (first_value pairs b kind prop)
  fitting_value users b kind prop form first =
      let at = first_property b kind prop in
      let there = value_there at first in
      let set = items_are_set diagram pairs settles.closed.derivation at there.0 form there.2 in
      let fits : FitsValue prop there.0 = subst (λ (p : Prop). FitsValue p there.0) set.1 (users set.0 there.0 set.2) in
      subst (FitsValue prop) (sym (ap (λ (o : Option ℕ). unwrap_or o 0) there.1)) fits

  -- what is found of an item or an spp is small
  pub small_value : HasFittingUsers diagram → (at : PropAt) → at.prop ≢ Rate → (r : Option ℕ) → IfSome r (λ v. Contains pairs (at, v)) → unwrap_or r 0 ≤ 1022
  small_value users at form None held = omega arith
  small_value users at form (Some v) held =
      let set = items_are_set diagram pairs settles.closed.derivation at v form held in
      by at.prop form (subst (λ (p : Prop). FitsValue p v) set.1 (users set.0 v set.2))
    where
      by : (prop : Prop) → prop ≢ Rate → FitsValue prop v → v ≤ 1022
      by Rate form fits = absurd (form refl)
      by Item form fits = ⊎_elim (λ e. omega arith) (λ e. omega arith) fits
      by Spp form fits = fits.1
