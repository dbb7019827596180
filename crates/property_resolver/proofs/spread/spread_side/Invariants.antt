use Rattle.property_resolver.specs.Spreads.{Grows, PortsSpread}
use Rattle.property_resolver.proofs.spread.spread_side.Given as goal

abbrev pub invariant-loop-port : goal.invariant-loop-port
invariant-loop-port l = Grows l.graph.diagram l.initial.values l.values × PortsSpread l.kind l.side l.port l.values l.at l.value
