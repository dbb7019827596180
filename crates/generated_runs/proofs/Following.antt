-- Tests on the values of a graph: each follows from earlier ones, the rules give nothing more, and none is missing.
use Rattle.std.proofs.Common.{◌≡◌, ◌∙◌, ℕ, ◌<◌, zero, suc, Bool, true, false, ◌&&◌, not, List, [], ◌∷◌, ◌++◌, map, length, Contains, Option, None, Some, refl, sym, ap, subst, arith, rules, append_assoc, append-nil, ltb-true, eqb-true}
use Rattle.std.proofs.lemmas.Bool.{not-true}
use Rattle.std.specs.Prelude.{slice_get, nat_lt, ◌==◌}
use Rattle.std.specs.List.{list_all, list_any, range_with_len}
use Rattle.std.specs.Option.{option_map_or}
use Rattle.block_library.specs.declared.kind.BlockKind.{BlockKind}
use Rattle.graph_core.specs.contracts.place.PropAtEq.TheImpl.Laws.{laws-law}
use Rattle.graph_core.specs.declared.place.Edge.{Edge}
use Rattle.graph_core.specs.declared.place.Prop.{Prop}
use Rattle.graph_core.specs.declared.place.Prop.TheVariants.{Rate, Item, Spp}
use Rattle.graph_core.specs.declared.place.PropAt.{PropAt}
use Rattle.graph_core.specs.declared.place.Rule.{Rule}
use Rattle.graph_core.specs.declared.place.Rule.TheVariants.{Edge as edge_rule, Block as block_rule}
use Rattle.graph_core.specs.declared.place.Side.{Side}
use Rattle.graph_core.specs.declared.place.Side.TheVariants.{Into, Out}
use Rattle.graph_core.specs.Derivation.{Diagram, Gives, IsClosed, IsDerivation, IsSpread, Settles, across, carried}
use Rattle.graph_core.specs.Derivation.IsDerivation.{none as nothing, set as set_by, given as given_by}
use Rattle.graph_core.specs.Pairs.{Pair, Holds, Lacks, is_same}
use Rattle.graph_core.specs.Ports.{IsProperty, port_count, ports_at}
use Rattle.generated_runs.proofs.Tests.{Found, at-passes, below-passes, each-passes, left, never, none-passes, none-some, passed, passing, right, some-passes, some-same}

-- ---- tests of pairs

pub same_key : (a b : PropAt) → is_same a b ≡ true → a ≡ b
same_key a b h = search rules

pub same_itself : (a : PropAt) → is_same a a ≡ true
same_itself a = laws-law.refl a

-- the pair is this one
abbrev pub is_pair : PropAt → ℕ → Pair → Bool
is_pair at value pair = is_same pair.0 at && (pair.1 == value)

abbrev pub has : List Pair → PropAt → ℕ → Bool
has pairs at value = list_any (is_pair at value) pairs

abbrev pub holds : List Pair → PropAt → Bool
holds pairs at = list_any (λ (pair : Pair). is_same pair.0 at) pairs

pair-same : (at : PropAt) (value : ℕ) (pair : Pair) → is_pair at value pair ≡ true → pair ≡ (at, value)
pair-same at value pair h =
    let first : pair.0 ≡ at = same_key pair.0 at (left (is_same pair.0 at) (pair.1 == value) h) in
    let second : pair.1 ≡ value = eqb-true pair.1 value (right (is_same pair.0 at) (pair.1 == value) h) in
    λ i. (first i, second i)

pub has-Contains : (pairs : List Pair) (at : PropAt) (value : ℕ) → has pairs at value ≡ true → Contains pairs (at, value)
has-Contains pairs at value h =
    let p = some-passes (is_pair at value) pairs h in
    subst (Contains pairs) (pair-same at value p.item p.passes) p.has

pub holds-Holds : (pairs : List Pair) (at : PropAt) → holds pairs at ≡ true → Holds pairs at
holds-Holds pairs at h =
    let p = some-passes (λ (pair : Pair). is_same pair.0 at) pairs h in
    (p.item.1, subst (λ q. Contains pairs (q, p.item.1)) (same_key p.item.0 at p.passes) p.has)

pub lacks-Lacks : (pairs : List Pair) (at : PropAt) → holds pairs at ≡ false → Lacks pairs at
lacks-Lacks pairs at h value there =
    never (sym (none-passes (λ (pair : Pair). is_same pair.0 at) pairs h (at, value) there) ∙ same_itself at)

-- ---- a derivation

-- why a pair stands where it does: the user set it, or the rule gives it for that value of that property
pub data Reason : Type 0 where
  user : Reason
  by : Rule → PropAt → ℕ → Reason

pub record Step : Type 0 where
  pub at : PropAt
  pub value : ℕ
  pub reason : Reason

abbrev pub pair_of : Step → Pair
pair_of step = (step.at, step.value)

abbrev pub leads : PropAt → PropAt → ℕ → ℕ → Edge → Bool
leads from at number value edge = option_map_or (λ (to : PropAt). is_same to at && (number == value)) (across edge from) false

abbrev pub carries : PropAt → PropAt → ℕ → ℕ → BlockKind → Bool
carries from at number value kind =
    option_map_or (λ (result : ℕ). result == value) (carried kind from.prop from.side at.side number) false

-- the same property of another port of the block
abbrev pub beside : PropAt → Side → ℕ → PropAt
beside at side port = record { block = at.block; side = side; port = port; prop = at.prop }

-- the rule gives the value for `at` from the number of `from`
abbrev pub gives : Diagram → Rule → PropAt → ℕ → PropAt → ℕ → Bool
gives diagram (edge_rule k) from number at value = option_map_or (leads from at number value) (slice_get diagram.edges k) false
gives diagram (block_rule k) from number at value =
    (from.block == k) && (is_same (beside from at.side at.port) at
    && (nat_lt at.port (ports_at diagram.kinds at.block at.side)
    && option_map_or (carries from at number value) (slice_get diagram.kinds k) false))

abbrev pub is_reason : Diagram → List Pair → PropAt → ℕ → Reason → Bool
is_reason diagram earlier at value user = has diagram.users at value
is_reason diagram earlier at value (by rule from number) = has earlier from number && gives diagram rule from number at value

-- each of the steps follows from those before it, and from these earlier pairs
abbrev pub follow : Diagram → List Pair → List Step → Bool
follow diagram earlier [] = true
follow diagram earlier (step ∷ steps) =
    not (holds earlier step.at) && (is_reason diagram earlier step.at step.value step.reason
    && follow diagram (earlier ++ pair_of step ∷ []) steps)

gives-Gives : (diagram : Diagram) (rule : Rule) (from : PropAt) (number : ℕ) (at : PropAt) (value : ℕ)
    → gives diagram rule from number at value ≡ true → Gives diagram rule from number at (Some value)
gives-Gives diagram (edge_rule k) from number at value h =
    let edge = passing (leads from at number value) (slice_get diagram.edges k) h in
    let to = passing (λ (to : PropAt). is_same to at && (number == value)) (across edge.value from) edge.holds in
    let same = same_key to.value at (left (is_same to.value at) (number == value) to.holds) in
    record {
      edge = edge.value;
      stands = edge.is;
      joins = to.is ∙ ap Some same;
      equal = ap Some (sym (eqb-true number value (right (is_same to.value at) (number == value) to.holds)));
    }
gives-Gives diagram (block_rule k) from number at value h =
    let one = left (from.block == k) _ h in
    let two = left (is_same (beside from at.side at.port) at) _ (right (from.block == k) _ h) in
    let rest = right (is_same (beside from at.side at.port) at) _ (right (from.block == k) _ h) in
    let three = left (nat_lt at.port (ports_at diagram.kinds at.block at.side)) _ rest in
    let kind = passing (carries from at number value) (slice_get diagram.kinds k)
    (right (nat_lt at.port (ports_at diagram.kinds at.block at.side)) _ rest) in
    let last = passing (λ (result : ℕ). result == value) (carried kind.value from.prop from.side at.side number) kind.holds in
    let same : beside from at.side at.port ≡ at = same_key (beside from at.side at.port) at two in
    let near : from.block ≡ k = eqb-true from.block k one in
    record {
      kind = kind.value;
      stands = kind.is;
      near = near;
      far = sym (ap (λ (p : PropAt). p.block) same) ∙ near;
      prop = sym (ap (λ (p : PropAt). p.prop) same);
      port = ltb-true at.port (ports_at diagram.kinds at.block at.side) three;
      carries = sym (last.is ∙ ap Some (eqb-true last.value value last.holds));
    }

-- pairs that follow are a derivation
pub follow-IsDerivation : (diagram : Diagram) (earlier : List Pair) (steps : List Step) → IsDerivation diagram earlier
    → follow diagram earlier steps ≡ true → IsDerivation diagram (earlier ++ map pair_of steps)
follow-IsDerivation diagram earlier [] sub h = subst (IsDerivation diagram) (sym (append-nil earlier)) sub
follow-IsDerivation diagram earlier (step ∷ steps) sub h =
    let lacking = left (not (holds earlier step.at)) _ h in
    let rest = right (not (holds earlier step.at)) _ h in
    let reason = left (is_reason diagram earlier step.at step.value step.reason) _ rest in
    let later = right (is_reason diagram earlier step.at step.value step.reason) _ rest in
    let lacks = lacks-Lacks earlier step.at (not-true (holds earlier step.at) lacking) in
    subst (IsDerivation diagram) (append_assoc earlier (pair_of step ∷ []) (map pair_of steps))
    (follow-IsDerivation diagram (earlier ++ pair_of step ∷ []) steps (one step.reason lacks reason) later)
  where
    one : (reason : Reason) → Lacks earlier step.at → is_reason diagram earlier step.at step.value reason ≡ true
        → IsDerivation diagram (earlier ++ pair_of step ∷ [])
    one user lacks h = set_by earlier step.at step.value sub (has-Contains diagram.users step.at step.value h) lacks refl
    one (by rule from number) lacks h =
        given_by earlier step.at step.value rule from number sub
        (has-Contains earlier from number (left (has earlier from number) _ h))
        (gives-Gives diagram rule from number step.at step.value (right (has earlier from number) _ h)) lacks refl

-- ---- closed

abbrev pub side_test : List Pair → PropAt → Side → ℕ → ℕ → Bool
side_test pairs at side count result = list_all (λ (port : ℕ). has pairs (beside at side port) result) (range_with_len 0 count)

-- the block has given the value on to its ports of a side
abbrev pub side_spread : List Pair → PropAt → ℕ → BlockKind → Side → Bool
side_spread pairs at value kind side =
    option_map_or (side_test pairs at side (port_count side kind)) (carried kind at.prop at.side side value) false

abbrev pub block_spread : List Pair → PropAt → ℕ → BlockKind → Bool
block_spread pairs at value kind = side_spread pairs at value kind Into && side_spread pairs at value kind Out

abbrev pub edge_spread : List Pair → PropAt → ℕ → Edge → Bool
edge_spread pairs at value edge = option_map_or (λ (to : PropAt). has pairs to value) (across edge at) true

-- each rule at the pair gives pairs that are there
abbrev pub is_spread : Diagram → List Pair → Pair → Bool
is_spread diagram pairs pair =
    list_all (edge_spread pairs pair.0 pair.1) diagram.edges
    && option_map_or (block_spread pairs pair.0 pair.1) (slice_get diagram.kinds pair.0.block) true

abbrev pub is_closed : Diagram → List Pair → Bool
is_closed diagram pairs =
    list_all (λ (pair : Pair). has pairs pair.0 pair.1) diagram.users && list_all (is_spread diagram pairs) pairs

-- what a block gives at a side
side-given : (pairs : List Pair) (at : PropAt) (value : ℕ) (kind : BlockKind) (side : Side) → side_spread pairs at value kind side ≡ true
    → (result : Option ℕ) → result ≡ carried kind at.prop at.side side value
    → Found result (λ number. side_test pairs at side (port_count side kind) number ≡ true)
side-given pairs at value kind side h result e =
    passing (side_test pairs at side (port_count side kind)) result
    (subst (λ r. option_map_or (side_test pairs at side (port_count side kind)) r false ≡ true) (sym e) h)

spread-side : (pairs : List Pair) (at : PropAt) (value : ℕ) (kind : BlockKind) (side : Side) → block_spread pairs at value kind ≡ true
    → side_spread pairs at value kind side ≡ true
spread-side pairs at value kind Into h = left (side_spread pairs at value kind Into) _ h
spread-side pairs at value kind Out h = right (side_spread pairs at value kind Into) _ h

module _ (diagram : Diagram) (pairs : List Pair) (at : PropAt) (value : ℕ) (test : is_spread diagram pairs (at, value) ≡ true) where
  edges_part : list_all (edge_spread pairs at value) diagram.edges ≡ true
  edges_part = left (list_all (edge_spread pairs at value) diagram.edges) _ test

  block_part : option_map_or (block_spread pairs at value) (slice_get diagram.kinds at.block) true ≡ true
  block_part = right (list_all (edge_spread pairs at value) diagram.edges) _ test

  -- a rule that applies gives what is there
  applied : (rule : Rule) (to : PropAt) (result : Option ℕ) → Gives diagram rule at value to result
      → Found result (λ number. Contains pairs (to, number))
  applied (edge_rule k) to result g =
      let at_edge = at-passes (edge_spread pairs at value) diagram.edges edges_part k g.edge g.stands in
      record {
        value = value;
        is = g.equal;
        holds = has-Contains pairs to value (passed (λ (p : PropAt). has pairs p value) (across g.edge at) true to at_edge g.joins);
      }
  applied (block_rule k) to result g =
      let stands : slice_get diagram.kinds at.block ≡ Some g.kind = ap (slice_get diagram.kinds) g.near ∙ g.stands in
      let all = passed (block_spread pairs at value) (slice_get diagram.kinds at.block) true g.kind block_part stands in
      let side = side-given pairs at value g.kind to.side (spread-side pairs at value g.kind to.side all) result g.carries in
      let kind_there : slice_get diagram.kinds to.block ≡ Some g.kind = ap (slice_get diagram.kinds) g.far ∙ g.stands in
      let count : ports_at diagram.kinds to.block to.side ≡ port_count to.side g.kind =
      ap (λ (o : Option BlockKind). option_map_or (port_count to.side) o 0) kind_there in
      let tested = below-passes (λ (port : ℕ). has pairs (beside at to.side port) side.value) (port_count to.side g.kind) side.holds to.port
      (subst (λ n. to.port < n) count g.port) in
      let same : beside at to.side to.port ≡ to =
      λ i. record { block = (g.near ∙ sym g.far) i; side = to.side; port = to.port; prop = sym g.prop i } in
      record {
        value = side.value;
        is = side.is;
        holds = subst (λ p. Contains pairs (p, side.value)) same (has-Contains pairs (beside at to.side to.port) side.value tested);
      }

  spreads : IsSpread diagram pairs at value
  spreads = record {
    whole = λ rule to g. let found = applied rule to None g in none-some found.is;
    given = λ rule to number g. let found = applied rule to (Some number) g in
        subst (λ n. Contains pairs (to, n)) (sym (some-same found.is)) found.holds;
  }

-- pairs that pass the test are closed
pub is_closed-IsClosed : (diagram : Diagram) (pairs : List Pair) → IsDerivation diagram pairs → is_closed diagram pairs ≡ true → IsClosed diagram pairs
is_closed-IsClosed diagram pairs derived h = record {
  derivation = derived;
  users = λ at value there. has-Contains pairs at value
      (each-passes (λ (pair : Pair). has pairs pair.0 pair.1) diagram.users (left (list_all (λ (pair : Pair). has pairs pair.0 pair.1) diagram.users) _ h) (at, value) there);
  spread = λ at value there. spreads diagram pairs at value
      (each-passes (is_spread diagram pairs) pairs (right (list_all (λ (pair : Pair). has pairs pair.0 pair.1) diagram.users) _ h) (at, value) there);
}

-- ---- every property

-- the pairs have each property of the ports of a block's side
abbrev pub side_full : List BlockKind → List Pair → ℕ → Side → Prop → Bool
side_full kinds pairs block side prop =
    list_all (λ (port : ℕ). holds pairs (record { block = block; side = side; port = port; prop = prop })) (range_with_len 0 (ports_at kinds block side))

abbrev pub port_full : List BlockKind → List Pair → ℕ → Prop → Bool
port_full kinds pairs block prop = side_full kinds pairs block Into prop && side_full kinds pairs block Out prop

abbrev pub block_full : List BlockKind → List Pair → ℕ → Bool
block_full kinds pairs block =
    port_full kinds pairs block Rate && (port_full kinds pairs block Item && port_full kinds pairs block Spp)

abbrev pub is_full : List BlockKind → List Pair → Bool
is_full kinds pairs = list_all (block_full kinds pairs) (range_with_len 0 (length kinds))

-- a block that isn't there has no ports
no-ports : (kinds : List BlockKind) (block : ℕ) (side : Side) (port : ℕ) → port < ports_at kinds block side → block < length kinds
no-ports [] block side port lt = absurd (omega (arith, lt))
no-ports (kind ∷ kinds) zero side port lt = omega arith
no-ports (kind ∷ kinds) (suc block) side port lt = let later = no-ports kinds block side port lt in omega arith

module _ (kinds : List BlockKind) (pairs : List Pair) where
  prop_part : (block : ℕ) (prop : Prop) → block_full kinds pairs block ≡ true → port_full kinds pairs block prop ≡ true
  prop_part block Rate h = left (port_full kinds pairs block Rate) _ h
  prop_part block Item h = left (port_full kinds pairs block Item) _ (right (port_full kinds pairs block Rate) _ h)
  prop_part block Spp h = right (port_full kinds pairs block Item) _ (right (port_full kinds pairs block Rate) _ h)

  side_part : (block : ℕ) (prop : Prop) (side : Side) → port_full kinds pairs block prop ≡ true → side_full kinds pairs block side prop ≡ true
  side_part block prop Into h = left (side_full kinds pairs block Into prop) _ h
  side_part block prop Out h = right (side_full kinds pairs block Into prop) _ h

  pub is_full-Holds : is_full kinds pairs ≡ true → (at : PropAt) → IsProperty kinds at → Holds pairs at
  is_full-Holds h at there =
      let block = below-passes (block_full kinds pairs) (length kinds) h at.block (no-ports kinds at.block at.side at.port there) in
      holds-Holds pairs at (below-passes
      (λ (port : ℕ). holds pairs (record { block = at.block; side = at.side; port = port; prop = at.prop })) (ports_at kinds at.block at.side)
      (side_part at.block at.prop at.side (prop_part at.block at.prop block)) at.port there)

-- ---- together

abbrev pub settles : Diagram → List Step → Bool
settles diagram steps =
    follow diagram [] steps && (is_closed diagram (map pair_of steps) && is_full diagram.kinds (map pair_of steps))

-- steps that pass the test settle the graph
pub settles-Settles : (diagram : Diagram) (steps : List Step) → settles diagram steps ≡ true → Settles diagram (map pair_of steps)
settles-Settles diagram steps h =
    let rest = right (follow diagram [] steps) _ h in
    record {
      closed = is_closed-IsClosed diagram (map pair_of steps)
          (follow-IsDerivation diagram [] steps nothing (left (follow diagram [] steps) _ h))
          (left (is_closed diagram (map pair_of steps)) _ rest);
      full = is_full-Holds diagram.kinds (map pair_of steps) (right (is_closed diagram (map pair_of steps)) _ rest);
    }
