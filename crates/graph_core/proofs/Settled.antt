-- What follows from values that settle a graph.
use Rattle.std.proofs.Common.{◌≡◌, ◌≢◌, ◌∙◌, ℕ, zero, suc, ◌<◌, ⊎_elim, refl, sym, ap, subst, List, [], ◌∷◌, Contains, Option, Some, None, cond, true, false, Bool, eq-eqb, arith, length, get_or, unwrap_or}
use Rattle.std.specs.Prelude.{slice_get}
use Rattle.std.specs.Option.{option_map_or}
use Rattle.std.specs.Map.{lookup}
use Rattle.std.proofs.lemmas.Map.Views.{Contains-from_lookup}
use Rattle.block_library.specs.declared.kind.BlockKind.{BlockKind}
use Rattle.graph_core.specs.declared.place.Side.{Side}
use Rattle.graph_core.specs.declared.place.Side.TheVariants.{Into, Out}
use Rattle.graph_core.specs.declared.place.Prop.{Prop}
use Rattle.graph_core.specs.declared.place.Prop.TheVariants.{Rate, Item, Spp}
use Rattle.graph_core.specs.declared.place.PortAt.{PortAt}
use Rattle.graph_core.specs.declared.place.PropAt.{PropAt}
use Rattle.graph_core.specs.declared.place.Edge.{Edge}
use Rattle.graph_core.specs.declared.place.Rule.{Rule}
use Rattle.graph_core.specs.declared.place.Rule.TheVariants.{Edge as edge_rule, Block as block_rule}
use Rattle.graph_core.specs.Derivation.{Diagram, EdgeGives, BlockGives, Gives, property_at, across, other_end, is_at, carried}
use Rattle.graph_core.specs.Derivation.IsDerivation.{none, set, given}
use Rattle.graph_core.specs.Pairs.{Pair, value_of, is_same}
use Rattle.graph_core.specs.Ports.{port_count, ports_at}
use Rattle.graph_core.specs.Settled.{EdgesAgree, EdgesShowTheSame, BlocksAgree, ItemsAreSet, SettlingIsUnique}
use Rattle.graph_core.proofs.Derived.{included, none_in, one_value, pushed_pair}
use Rattle.graph_core.proofs.Keys.{same_key, key_laws}

-- an item of a list stands at its place
get-place : {X : Type 0} (xs : List X) (k : ℕ) (x : X) → k < length xs → get_or xs k x ≡ x → slice_get xs k ≡ Some x
get-place [] k x h e = absurd (omega arith)
get-place (y ∷ ys) zero x h e = ap (λ z. Some z) e
get-place (y ∷ ys) (suc k) x h e = get-place ys k x (omega arith) e

at-itself : (port : PortAt) (side : Side) (prop : Prop) → is_at (property_at side port prop) port ≡ true
at-itself port side prop = rw (eq-eqb port.block port.block refl, eq-eqb port.port port.port refl) refl

across-out : (edge : Edge) (prop : Prop) → across edge (property_at Out edge.from prop) ≡ Some (property_at Into edge.to prop)
across-out edge prop =
    ap (λ b. cond b (Some (property_at Into edge.to prop)) None) (at-itself edge.from Out prop)

pub edges_agree : EdgesAgree
edges_agree diagram pairs closed edge there prop one other out into =
    let stands = get-place diagram.edges there.0 edge there.1 there.2 in
    let gives : EdgeGives diagram there.0 (property_at Out edge.from prop) one (property_at Into edge.to prop) (Some one) =
    record { edge = edge; stands = stands; joins = across-out edge prop; equal = refl } in
    one_value diagram pairs closed.derivation (property_at Into edge.to prop) one other
    ((closed.spread (property_at Out edge.from prop) one out).given (edge_rule there.0) (property_at Into edge.to prop) one gives) into

-- the kind of a block that has a port
record Kind (kinds : List BlockKind) (block : ℕ) : Type 0 where
  pub kind : BlockKind
  pub stands : slice_get kinds block ≡ Some kind

kind_there : (kinds : List BlockKind) (block port : ℕ) (side : Side) → port < ports_at kinds block side → Kind kinds block
kind_there kinds block port side h = by (slice_get kinds block) refl
  where
    by : (r : Option BlockKind) → slice_get kinds block ≡ r → Kind kinds block
    by (Some kind) e = record { kind = kind; stands = e }
    by None e =
        let none : ports_at kinds block side ≡ 0 = ap (λ r. option_map_or (port_count side) r 0) e in
        absurd (omega arith)

-- item and spp are carried as they are
carried-same : (kind : BlockKind) (prop : Prop) (from to : Side) (value : ℕ) → prop ≢ Rate → carried kind prop from to value ≡ Some value
carried-same kind Rate from to value ne = absurd (ne refl)
carried-same kind Item from to value ne = refl
carried-same kind Spp from to value ne = refl

pub blocks_agree : BlocksAgree
blocks_agree diagram pairs closed at to one other ne block prop port here there =
    let k = kind_there diagram.kinds to.block to.port to.side port in
    let gives : BlockGives diagram to.block at one to (Some one) = record {
      kind = k.kind;
      stands = k.stands;
      near = sym block;
      far = refl;
      prop = prop;
      port = port;
      carries = sym (carried-same k.kind at.prop at.side to.side one ne);
    } in
    one_value diagram pairs closed.derivation to one other
    ((closed.spread at one here).given (block_rule to.block) to one gives) there

same_some : {X : Type 0} (d x y : X) → Some x ≡ Some y → x ≡ y
same_some d x y e = ap (λ o. unwrap_or o d) e

-- an edge passes on a property of the same name
across-prop : (edge : Edge) (side : Side) (at to : PropAt) → other_end side edge at ≡ Some to → to.prop ≡ at.prop
across-prop edge Out at to e = by (is_at at edge.from) e
  where
    by : (b : Bool) → cond b (Some (property_at Into edge.to at.prop)) None ≡ Some to → to.prop ≡ at.prop
    by true e = ap (λ (p : PropAt). p.prop) (sym (same_some at _ to e))
    by false e = cc
across-prop edge Into at to e = by (is_at at edge.to) e
  where
    by : (b : Bool) → cond b (Some (property_at Out edge.from at.prop)) None ≡ Some to → to.prop ≡ at.prop
    by true e = ap (λ (p : PropAt). p.prop) (sym (same_some at _ to e))
    by false e = cc

-- a rule passes on item and spp as they are
record Passes (from to : PropAt) (number value : ℕ) : Type 0 where
  pub prop : to.prop ≡ from.prop
  pub same : from.prop ≢ Rate → value ≡ number

gives-same : (diagram : Diagram) (by : Rule) (from : PropAt) (number : ℕ) (to : PropAt) (value : ℕ) →
    Gives diagram by from number to (Some value) → Passes from to number value
gives-same diagram (edge_rule k) from number to value g = record {
  prop = across-prop g.edge from.side from to g.joins;
  same = λ ne. same_some 0 value number g.equal;
}
gives-same diagram (block_rule k) from number to value g = record {
  prop = g.prop;
  same = λ ne. same_some 0 value number (g.carries ∙ carried-same g.kind from.prop from.side to.side number ne);
}

abbrev IsSet : Diagram → Prop → ℕ → Type 0
IsSet diagram prop value = (from : PropAt) × (from.prop ≡ prop) × Contains diagram.users (from, value)

pub items_are_set : ItemsAreSet
items_are_set diagram pairs none at value ne has = absurd (none_in (at, value) has)
items_are_set diagram pairs (set earlier q u sub user lacks e) at value ne has =
    ⊎_elim
    (λ old. items_are_set diagram earlier sub at value ne old)
    (λ new. (q, ap (λ (p : PropAt). p.prop) new.0, subst (λ n. Contains diagram.users (q, n)) new.1 user))
    (pushed_pair pairs earlier q u e at value has)
items_are_set diagram pairs (given earlier q u by from number sub there gives lacks e) at value ne has =
    ⊎_elim
    (λ old. items_are_set diagram earlier sub at value ne old)
    (λ new.
    let pass = gives-same diagram by from number q u gives in
    let named : from.prop ≡ at.prop = sym pass.prop ∙ ap (λ (p : PropAt). p.prop) new.0 in
    let apart : from.prop ≢ Rate = λ rate. ne (sym named ∙ rate) in
    let same : number ≡ value = sym (pass.same apart) ∙ new.1 in
    let r = items_are_set diagram earlier sub from number apart there in
    (r.0, r.1 ∙ named, subst (λ n. Contains diagram.users (r.0, n)) same r.2))
    (pushed_pair pairs earlier q u e at value has)

there-behind : (p : Pair) (ps : List Pair) (at : PropAt) (v : ℕ) (k : ℕ) → k < length (p ∷ ps) → get_or (p ∷ ps) k (at, v) ≡ (at, v) →
    is_same at p.0 ≡ false → Contains ps (at, v)
there-behind p ps at v zero lt s off =
    let on : is_same at p.0 ≡ true = ap (λ (q : Pair). is_same at q.0) s ∙ key_laws.refl at in
    let z : true ≡ false = sym on ∙ off in
    absurd cc
there-behind p ps at v (suc k) lt s off = (k, omega arith, s)

-- a pair of a list isn't missed
not-missed : (pairs : List Pair) (at : PropAt) (v : ℕ) → Contains pairs (at, v) → lookup (is_same at) pairs ≡ None → ⊥
not-missed [] at v h e = none_in (at, v) h
not-missed (p ∷ ps) at v h e = by (is_same at p.0) refl (λ rest. not-missed ps at v rest)
  where
    by : (b : Bool) → is_same at p.0 ≡ b → (Contains ps (at, v) → lookup (is_same at) ps ≡ None → ⊥) → ⊥
    by true on again =
        let z : cond true (Some p.1) (lookup (is_same at) ps) ≡ None =
        sym (ap (λ b. cond b (Some p.1) (lookup (is_same at) ps)) on) ∙ e in
        cc
    by false off again =
        again (there-behind p ps at v h.0 h.1 h.2 off) (sym (ap (λ b. cond b (Some p.1) (lookup (is_same at) ps)) off) ∙ e)

-- it is found, if no property stands twice
found-is : (pairs : List Pair) (at : PropAt) (v : ℕ) → ((u w : ℕ) → Contains pairs (at, u) → Contains pairs (at, w) → u ≡ w) →
    Contains pairs (at, v) → lookup (is_same at) pairs ≡ Some v
found-is pairs at v one has = by (lookup (is_same at) pairs) refl
  where
    by : (r : Option ℕ) → lookup (is_same at) pairs ≡ r → lookup (is_same at) pairs ≡ Some v
    by None e = absurd (not-missed pairs at v has e)
    by (Some u) e = e ∙ ap (λ n. Some n) (one u v (Contains-from_lookup same_key at u pairs e) has)

values-agree : (one other : List Pair) →
    ((at : PropAt) (u w : ℕ) → Contains one (at, u) → Contains one (at, w) → u ≡ w) →
    ((at : PropAt) (u w : ℕ) → Contains other (at, u) → Contains other (at, w) → u ≡ w) →
    ((at : PropAt) (v : ℕ) → Contains one (at, v) → Contains other (at, v)) →
    ((at : PropAt) (v : ℕ) → Contains other (at, v) → Contains one (at, v)) →
    (at : PropAt) → value_of one at ≡ value_of other at
unfolding value_of
values-agree one other single single' over back at = by (lookup (is_same at) one) (lookup (is_same at) other) refl refl
  where
    by : (r s : Option ℕ) → lookup (is_same at) one ≡ r → lookup (is_same at) other ≡ s → lookup (is_same at) one ≡ lookup (is_same at) other
    by (Some v) s e f = e ∙ sym (found-is other at v (single' at) (over at v (Contains-from_lookup same_key at v one e)))
    by None None e f = e ∙ sym f
    by None (Some v) e f =
        let z : ◌≡◌ {A = Option ℕ} None (Some v) = sym e ∙ found-is one at v (single at) (back at v (Contains-from_lookup same_key at v other f)) in
        cc

pub settling_is_unique : SettlingIsUnique
settling_is_unique diagram one other a b = (
  included diagram one other a.closed.derivation b.closed,
  values-agree one other (one_value diagram one a.closed.derivation) (one_value diagram other b.closed.derivation)
      (included diagram one other a.closed.derivation b.closed)
      (included diagram other one b.closed.derivation a.closed),
)

across-into : (edge : Edge) (prop : Prop) → across edge (property_at Into edge.to prop) ≡ Some (property_at Out edge.from prop)
across-into edge prop =
    ap (λ b. cond b (Some (property_at Out edge.from prop)) None) (at-itself edge.to Into prop)

pub edges_show : EdgesShowTheSame
unfolding value_of
edges_show diagram pairs closed edge there prop =
    by (lookup (is_same (property_at Out edge.from prop)) pairs) (lookup (is_same (property_at Into edge.to prop)) pairs) refl refl
  where
    by : (r s : Option ℕ) → lookup (is_same (property_at Out edge.from prop)) pairs ≡ r → lookup (is_same (property_at Into edge.to prop)) pairs ≡ s →
        lookup (is_same (property_at Out edge.from prop)) pairs ≡ lookup (is_same (property_at Into edge.to prop)) pairs
    by None None e f = e ∙ sym f
    by (Some v) s e f =
        let o : PropAt = property_at Out edge.from prop in
        let i : PropAt = property_at Into edge.to prop in
        let stands = get-place diagram.edges there.0 edge there.1 there.2 in
        let gives : EdgeGives diagram there.0 o v i (Some v) =
        record { edge = edge; stands = stands; joins = across-out edge prop; equal = refl } in
        let has : Contains pairs (i, v) = (closed.spread o v (Contains-from_lookup same_key o v pairs e)).given (edge_rule there.0) i v gives in
        e ∙ sym (found-is pairs i v (one_value diagram pairs closed.derivation i) has)
    by None (Some v) e f =
        let o : PropAt = property_at Out edge.from prop in
        let i : PropAt = property_at Into edge.to prop in
        let stands = get-place diagram.edges there.0 edge there.1 there.2 in
        let gives : EdgeGives diagram there.0 i v o (Some v) =
        record { edge = edge; stands = stands; joins = across-into edge prop; equal = refl } in
        let has : Contains pairs (o, v) = (closed.spread i v (Contains-from_lookup same_key i v pairs f)).given (edge_rule there.0) o v gives in
        absurd (not-missed pairs o v has e)
