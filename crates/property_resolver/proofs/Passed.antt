-- A value that its edges and its block have given on is spread.
use Rattle.std.proofs.Common.{◌≡◌, ◌∙◌, ℕ, ◌<◌, sym, ap, subst, List, length, Contains, Some, None, Option, slice_get, arith}
use Rattle.std.specs.Option.{option_map_or}
use Rattle.block_library.specs.declared.kind.BlockKind.{BlockKind}
use Rattle.graph_core.specs.declared.place.Side.{Side}
use Rattle.graph_core.specs.declared.place.Side.TheVariants.{Into, Out}
use Rattle.graph_core.specs.declared.place.PropAt.{PropAt}
use Rattle.graph_core.specs.declared.place.Rule.{Rule}
use Rattle.graph_core.specs.declared.place.Rule.TheVariants.{Edge as edge_rule, Block as block_rule}
use Rattle.graph_core.specs.Derivation.{Diagram, IsSpread, Gives, BlockGives, EdgeGives, carried}
use Rattle.graph_core.specs.Pairs.{Pair}
use Rattle.graph_core.specs.Ports.{port_count}
use Rattle.property_resolver.specs.Spreads.{Grows, EdgesSpread, PortsSpread, beside}
use Rattle.property_resolver.proofs.Learned.{kept, same_item}
use Rattle.property_resolver.proofs.Started.{read_in}

module _ (diagram : Diagram) (old new : List Pair) (more : Grows diagram old new) (at : PropAt) (value : ℕ) where
  pub edges_kept : (count : ℕ) → EdgesSpread diagram.edges count old at value → EdgesSpread diagram.edges count new at value
  edges_kept count so number edge to lt e over = kept diagram old new more to value (so number edge to lt e over)

  pub ports_kept : (kind : BlockKind) (side : Side) (count : ℕ) → PortsSpread kind side count old at value → PortsSpread kind side count new at value
  ports_kept kind side count so = record {
    whole = so.whole;
    given = λ port number lt e. kept diagram old new more (beside at side port) number (so.given port number lt e);
  }

module _ (diagram : Diagram) (pairs : List Pair) (at : PropAt) (value : ℕ) (edges : EdgesSpread diagram.edges (length diagram.edges) pairs at value) where
  by_edge : (number : ℕ) (to : PropAt) (u : ℕ) → EdgeGives diagram number at value to (Some u) → Contains pairs (to, u)
  by_edge number to u g = subst (λ n. Contains pairs (to, n)) (sym (same_item g.equal))
      (edges number g.edge to (read_in diagram.edges number g.edge g.stands).0 g.stands g.joins)

  by_no_edge : (number : ℕ) (to : PropAt) → EdgeGives diagram number at value to None → ⊥
  by_no_edge number to g = let z : ◌≡◌ {A = Option ℕ} None (Some value) = g.equal in cc

  -- where there is no such block, no block gives anything
  pub spread_alone : slice_get diagram.kinds at.block ≡ None → IsSpread diagram pairs at value
  spread_alone none = record { whole = whole; given = given }
    where
      no_block : (number : ℕ) (to : PropAt) (out : Option ℕ) → BlockGives diagram number at value to out → ⊥
      no_block number to out g = let z : ◌≡◌ {A = Option BlockKind} None (Some g.kind) = sym none ∙ ap (slice_get diagram.kinds) g.near ∙ g.stands in cc

      whole : (by : Rule) (to : PropAt) → Gives diagram by at value to None → ⊥
      whole (edge_rule number) to g = by_no_edge number to g
      whole (block_rule number) to g = no_block number to None g

      given : (by : Rule) (to : PropAt) (u : ℕ) → Gives diagram by at value to (Some u) → Contains pairs (to, u)
      given (edge_rule number) to u g = by_edge number to u g
      given (block_rule number) to u g = absurd (no_block number to (Some u) g)

  module _ (kind : BlockKind) (stands : slice_get diagram.kinds at.block ≡ Some kind)
      (ports : (side : Side) → PortsSpread kind side (port_count side kind) pairs at value) where
    module _ (number : ℕ) (to : PropAt) (out : Option ℕ) (g : BlockGives diagram number at value to out) where
      same_kind : g.kind ≡ kind
      same_kind = same_item (sym g.stands ∙ ap (slice_get diagram.kinds) (sym g.near) ∙ stands)

      is_port : to.port < port_count to.side kind
      is_port = subst (λ o. to.port < option_map_or (port_count to.side) o 0) (ap (slice_get diagram.kinds) (g.far ∙ sym g.near) ∙ stands) g.port

      carries : out ≡ carried kind at.prop at.side to.side value
      carries = g.carries ∙ ap (λ k. carried k at.prop at.side to.side value) same_kind

      is_beside : beside at to.side to.port ≡ to
      is_beside = λ i. record { block = (g.near ∙ sym g.far) i; side = to.side; port = to.port; prop = sym g.prop i }

    pub spread_all : IsSpread diagram pairs at value
    spread_all = record { whole = whole; given = given }
      where
        whole : (by : Rule) (to : PropAt) → Gives diagram by at value to None → ⊥
        whole (edge_rule number) to g = by_no_edge number to g
        whole (block_rule number) to g = (ports to.side).whole (let lt = is_port number to None g in omega arith) (sym (carries number to None g))

        given : (by : Rule) (to : PropAt) (u : ℕ) → Gives diagram by at value to (Some u) → Contains pairs (to, u)
        given (edge_rule number) to u g = by_edge number to u g
        given (block_rule number) to u g = subst (λ p. Contains pairs (p, u)) (is_beside number to (Some u) g)
            ((ports to.side).given to.port u (is_port number to (Some u) g) (sym (carries number to (Some u) g)))

pub both_sides : (P : Side → Type 0) → P Into → P Out → (side : Side) → P side
both_sides P a b Into = a
both_sides P a b Out = b
