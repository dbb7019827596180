-- The properties of a graph are listed, three for each port, and each pair of a derivation has one of them.
use Rattle.std.proofs.Common.{◌≡◌, ℕ, zero, suc, ◌+◌, ◌*◌, ◌<◌, ⊎_elim, refl, sym, ap, subst, List, [], ◌∷◌, ◌++◌, length, length-append, Contains, Some, None, Option, Bool, true, false, if◌then◌else◌, arith, rules}
use Rattle.std.proofs.lemmas.Bool.{cases_lt}
use Rattle.std.proofs.lemmas.List.Elements.{Contains-append_left, Contains-append_right, Contains-append_cases, All-contains}
use Rattle.std.proofs.lemmas.List.Sums.{sum_by-cons}
use Rattle.block_library.specs.declared.kind.BlockKind.{BlockKind}
use Rattle.block_library.specs.Blocks.{inputs, outputs}
use Rattle.graph_core.specs.declared.place.Side.{Side}
use Rattle.graph_core.specs.declared.place.Side.TheVariants.{Into, Out}
use Rattle.graph_core.specs.declared.place.Prop.{Prop}
use Rattle.graph_core.specs.declared.place.Prop.TheVariants.{Rate, Item, Spp}
use Rattle.graph_core.specs.declared.place.PortAt.{PortAt}
use Rattle.graph_core.specs.declared.place.PropAt.{PropAt}
use Rattle.graph_core.specs.declared.place.Edge.{Edge}
use Rattle.graph_core.specs.declared.place.Rule.{Rule}
use Rattle.graph_core.specs.declared.place.Rule.TheVariants.{Edge as edge_rule, Block as block_rule}
use Rattle.graph_core.specs.Derivation.{Diagram, IsDerivation, Gives, is_at, other_end, across, property_at}
use Rattle.graph_core.specs.Derivation.IsDerivation.{none, set, given}
use Rattle.graph_core.specs.Edges.{IsJoined}
use Rattle.graph_core.specs.Pairs.{Pair}
use Rattle.graph_core.specs.Ports.{port_count, ports_at, port_total, IsProperty, port_properties, side_properties, block_properties, properties_from, properties}
use Rattle.graph_core.specs.State.{IsDiagram}
use Rattle.graph_core.proofs.Laws.{none_in, pushed_pair}
use Rattle.property_resolver.proofs.Learned.{same_item}
use Rattle.property_resolver.proofs.Started.{read_in}

port_listed : (block : ℕ) (side : Side) (port : ℕ) (prop : Prop) → Contains (port_properties block side port) (record { block = block; side = side; port = port; prop = prop })
port_listed block side port Rate = (0, omega arith, refl)
port_listed block side port Item = (1, omega arith, refl)
port_listed block side port Spp = (2, omega arith, refl)

side_listed : (block : ℕ) (side : Side) (n port : ℕ) (prop : Prop) → port < n → Contains (side_properties block side n) (record { block = block; side = side; port = port; prop = prop })
side_listed block side zero port prop lt = absurd (omega arith)
side_listed block side (suc n) port prop lt = ⊎_elim
    (λ below. Contains-append_left (side_properties block side n) (port_properties block side n) _ (side_listed block side n port prop below))
    (λ above. let e : n ≡ port = omega arith in
    subst (λ k. Contains (side_properties block side n ++ port_properties block side n) (record { block = block; side = side; port = k; prop = prop })) e
    (Contains-append_right (side_properties block side n) (port_properties block side n) _ (port_listed block side n prop)))
    (cases_lt port n)

block_listed : (block : ℕ) (kind : BlockKind) (side : Side) (port : ℕ) (prop : Prop) → port < port_count side kind
    → Contains (block_properties block kind) (record { block = block; side = side; port = port; prop = prop })
block_listed block kind Into port prop lt = Contains-append_left (side_properties block Into (inputs kind)) (side_properties block Out (outputs kind)) _
    (side_listed block Into (inputs kind) port prop lt)
block_listed block kind Out port prop lt = Contains-append_right (side_properties block Into (inputs kind)) (side_properties block Out (outputs kind)) _
    (side_listed block Out (outputs kind) port prop lt)

from_listed : (kinds : List BlockKind) (first index : ℕ) (side : Side) (port : ℕ) (prop : Prop) → port < ports_at kinds index side
    → Contains (properties_from first kinds) (record { block = first + index; side = side; port = port; prop = prop })
from_listed [] first index side port prop lt = absurd (omega arith)
from_listed (kind ∷ kinds) first zero side port prop lt =
    let e : first ≡ first + zero = omega arith in
    subst (λ b. Contains (properties_from first (kind ∷ kinds)) (record { block = b; side = side; port = port; prop = prop })) e
    (Contains-append_left (block_properties first kind) (properties_from (first + 1) kinds) _ (block_listed first kind side port prop lt))
from_listed (kind ∷ kinds) first (suc index) side port prop lt =
    let e : first + 1 + index ≡ first + suc index = omega arith in
    subst (λ b. Contains (properties_from first (kind ∷ kinds)) (record { block = b; side = side; port = port; prop = prop })) e
    (Contains-append_right (block_properties first kind) (properties_from (first + 1) kinds) _ (from_listed kinds (first + 1) index side port prop lt))

-- each property of a port is listed
pub listed : (kinds : List BlockKind) (at : PropAt) → IsProperty kinds at → Contains (properties kinds) at
listed kinds at h = let e : 0 + at.block ≡ at.block = omega arith in
    subst (λ b. Contains (properties kinds) (record { block = b; side = at.side; port = at.port; prop = at.prop })) e (from_listed kinds 0 at.block at.side at.port at.prop h)

-- and what is listed is a property of a port
port_of : (block : ℕ) (side : Side) (port : ℕ) (at : PropAt) → Contains (port_properties block side port) at → (block ≡ at.block) × (side ≡ at.side) × (port ≡ at.port)
port_of block side port at (zero, lt, e) = (ap (λ p. p.block) e, ap (λ p. p.side) e, ap (λ p. p.port) e)
port_of block side port at (suc zero, lt, e) = (ap (λ p. p.block) e, ap (λ p. p.side) e, ap (λ p. p.port) e)
port_of block side port at (suc (suc zero), lt, e) = (ap (λ p. p.block) e, ap (λ p. p.side) e, ap (λ p. p.port) e)
port_of block side port at (suc (suc (suc k)), lt, e) = absurd (omega arith)

side_of : (block : ℕ) (side : Side) (n : ℕ) (at : PropAt) → Contains (side_properties block side n) at → (block ≡ at.block) × (side ≡ at.side) × (at.port < n)
side_of block side zero at h = absurd (omega (arith, h.1))
side_of block side (suc n) at h = ⊎_elim
    (λ a. let r = side_of block side n at a in (r.0, r.1, omega (arith, r.2)))
    (λ b. let r = port_of block side n at b in (r.0, r.1, omega (arith, r.2)))
    (Contains-append_cases (side_properties block side n) (port_properties block side n) at h)

block_of : (block : ℕ) (kind : BlockKind) (at : PropAt) → Contains (block_properties block kind) at → (block ≡ at.block) × (at.port < port_count at.side kind)
block_of block kind at h = ⊎_elim
    (λ a. let r = side_of block Into (inputs kind) at a in (r.0, subst (λ s. at.port < port_count s kind) r.1 r.2))
    (λ b. let r = side_of block Out (outputs kind) at b in (r.0, subst (λ s. at.port < port_count s kind) r.1 r.2))
    (Contains-append_cases (side_properties block Into (inputs kind)) (side_properties block Out (outputs kind)) at h)

from_of : (kinds : List BlockKind) (first : ℕ) (at : PropAt) → Contains (properties_from first kinds) at → (index : ℕ) × (first + index ≡ at.block) × (at.port < ports_at kinds index at.side)
from_of [] first at h = absurd (omega (arith, h.1))
from_of (kind ∷ kinds) first at h = ⊎_elim
    (λ a. let r = block_of first kind at a in (0, omega (arith, r.0), r.1))
    (λ b. let r = from_of kinds (first + 1) at b in (suc r.0, omega (arith, r.1), r.2))
    (Contains-append_cases (block_properties first kind) (properties_from (first + 1) kinds) at h)

pub is_listed : (kinds : List BlockKind) (at : PropAt) → Contains (properties kinds) at → IsProperty kinds at
is_listed kinds at h = let r = from_of kinds 0 at h in
    let e : r.0 ≡ at.block = omega (arith, r.1) in
    subst (λ b. at.port < ports_at kinds b at.side) e r.2

side_length : (block : ℕ) (side : Side) (n : ℕ) → length (side_properties block side n) ≡ 3 * n
side_length block side zero = refl
side_length block side (suc n) = let r = side_length block side n in let a = length-append (side_properties block side n) (port_properties block side n) in omega arith

from_length : (kinds : List BlockKind) (first : ℕ) → length (properties_from first kinds) ≡ 3 * port_total kinds
from_length [] first = refl
from_length (kind ∷ kinds) first =
    let r = from_length kinds (first + 1) in
    let a = length-append (block_properties first kind) (properties_from (first + 1) kinds) in
    let b = length-append (side_properties first Into (inputs kind)) (side_properties first Out (outputs kind)) in
    let i = side_length first Into (inputs kind) in
    let o = side_length first Out (outputs kind) in
    let s = sum_by-cons (λ k. inputs k + outputs k) kind kinds in
    omega arith

-- there are three for each port
pub listed_length : (kinds : List BlockKind) → length (properties kinds) ≡ 3 * port_total kinds
listed_length kinds = from_length kinds 0

-- what an edge has at its ends
pub data EndsAt (edge : Edge) (from to : PropAt) : Type 0 where
  forth : from ≡ property_at Out edge.from from.prop → to ≡ property_at Into edge.to from.prop → EndsAt edge from to
  back : from ≡ property_at Into edge.to from.prop → to ≡ property_at Out edge.from from.prop → EndsAt edge from to

same_place : (at : PropAt) (port : PortAt) → is_at at port ≡ true → (at.block ≡ port.block) × (at.port ≡ port.port)
same_place at port h = search rules

pub ends_at : (edge : Edge) (from to : PropAt) → across edge from ≡ Some to → EndsAt edge from to
ends_at edge from to h = by from.side refl h
  where
    by : (side : Side) → from.side ≡ side → other_end side edge from ≡ Some to → EndsAt edge from to
    by Out s e = out (is_at from edge.from) refl e
      where
        out : (b : Bool) → is_at from edge.from ≡ b → (if b then Some (property_at Into edge.to from.prop) else None) ≡ Some to → EndsAt edge from to
        out true t e = let p = same_place from edge.from t in
            forth (λ i. record { block = p.0 i; side = s i; port = p.1 i; prop = from.prop }) (sym (same_item e))
        out false t e = let z : ◌≡◌ {A = Option PropAt} None (Some to) = e in absurd cc
    by Into s e = into (is_at from edge.to) refl e
      where
        into : (b : Bool) → is_at from edge.to ≡ b → (if b then Some (property_at Out edge.from from.prop) else None) ≡ Some to → EndsAt edge from to
        into true t e = let p = same_place from edge.to t in
            back (λ i. record { block = p.0 i; side = s i; port = p.1 i; prop = from.prop }) (sym (same_item e))
        into false t e = let z : ◌≡◌ {A = Option PropAt} None (Some to) = e in absurd cc

module _ (diagram : Diagram) (ok : IsDiagram diagram) where
  edge_property : (edge : Edge) (from to : PropAt) → Contains diagram.edges edge → EndsAt edge from to → IsProperty diagram.kinds to
  edge_property edge from to has (forth a b) = subst (IsProperty diagram.kinds) (sym b) (All-contains (IsJoined diagram.kinds) diagram.edges edge ok.joined has).to
  edge_property edge from to has (back a b) = subst (IsProperty diagram.kinds) (sym b) (All-contains (IsJoined diagram.kinds) diagram.edges edge ok.joined has).from

  gives_property : (by : Rule) (from : PropAt) (number : ℕ) (to : PropAt) (out : Option ℕ) → Gives diagram by from number to out → IsProperty diagram.kinds to
  gives_property (edge_rule n) from number to out g = edge_property g.edge from to (read_in diagram.edges n g.edge g.stands).1 (ends_at g.edge from to g.joins)
  gives_property (block_rule n) from number to out g = g.port

  -- a derivation speaks of properties of the graph alone
  pub all_properties : (pairs : List Pair) → IsDerivation diagram pairs → (at : PropAt) (value : ℕ) → Contains pairs (at, value) → IsProperty diagram.kinds at
  all_properties pairs none at value h = absurd (none_in (at, value) h)
  all_properties pairs (set earlier q u sub user lacks e) at value h = ⊎_elim
      (λ old. all_properties earlier sub at value old)
      (λ new. subst (IsProperty diagram.kinds) new.0 (ok.users q u user))
      (pushed_pair pairs earlier q u e at value h)
  all_properties pairs (given earlier q u by from number sub there gives lacks e) at value h = ⊎_elim
      (λ old. all_properties earlier sub at value old)
      (λ new. subst (IsProperty diagram.kinds) new.0 (gives_property by from number q (Some u) gives))
      (pushed_pair pairs earlier q u e at value h)
