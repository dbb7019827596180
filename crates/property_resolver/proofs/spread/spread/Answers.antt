use Rattle.std.proofs.Common.{◌≡◌, ◌∙◌, Some, slice_get, sym}
use Rattle.graph_core.specs.Ports.{port_count}
use Rattle.graph_core.specs.declared.place.Side.TheVariants.{Into}
use Rattle.property_resolver.specs.Spreads.{PortsSpread}
use Rattle.property_resolver.proofs.Learned.{grows_more}
use Rattle.property_resolver.proofs.Passed.{spread_all, both_sides, edges_kept, ports_kept}
use Rattle.property_resolver.proofs.spread.spread.Goals as goal

pub returns-clause-spread : goal.returns-clause-spread
returns-clause-spread g c =
    let a = c.args in
    let d = a.graph.now.diagram in
    let v0 = c.spread_edges.new.values in
    let v1 = c.spread_side.new.values in
    let v2 = c.spread_side-2.new.values in
    let k = c.in-Some.kind in
    let g1 = c.in_ok-spread_side.ensures.grows in
    let g2 = c.in_ok-spread_side-2.ensures.grows in
    let stands : slice_get d.kinds a.at.block ≡ Some k = rw (c.as_slice.ensures, c.kinds.ensures.kinds) at (sym c.kind_of.ensures ∙ c.in-Some.is) in
    spread_all d v2 a.at a.value (edges_kept d v0 v2 (grows_more d v0 v1 v2 g1 g2) a.at a.value _ c.in_ok-spread_edges.ensures.spread) k stands
    (both_sides (λ side. PortsSpread k side (port_count side k) v2 a.at a.value)
    (ports_kept d v1 v2 g2 a.at a.value k Into (port_count Into k) c.in_ok-spread_side.ensures.spread) c.in_ok-spread_side-2.ensures.spread)
