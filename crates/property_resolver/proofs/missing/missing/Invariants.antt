use Rattle.std.proofs.Common.{Option, drop}
use Rattle.graph_core.specs.declared.place.PropAt.{PropAt}
use Rattle.graph_core.specs.Ports.{properties, properties_from}
use Rattle.property_resolver.specs.Missing.{Finds}
use Rattle.property_resolver.proofs.missing.missing.Given as goal

-- what a search through the blocks that are left finds, a search through all finds
abbrev pub invariant-loop-block : goal.invariant-loop-block
invariant-loop-block l = (found : Option PropAt) → Finds l.values (properties_from l.block (drop l.block l.kinds)) found → Finds l.values (properties l.kinds) found
