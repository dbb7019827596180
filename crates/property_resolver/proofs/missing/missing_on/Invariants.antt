use Rattle.graph_core.specs.Ports.{side_properties}
use Rattle.property_resolver.specs.Missing.{AllHeld}
use Rattle.property_resolver.proofs.missing.missing_on.Given as goal

abbrev pub invariant-loop-port : goal.invariant-loop-port
invariant-loop-port l = AllHeld l.values (side_properties l.block l.side l.port)
