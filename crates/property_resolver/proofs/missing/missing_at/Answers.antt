use Rattle.std.proofs.Common.{rules}
use Rattle.property_resolver.proofs.missing.missing_at.Goals as goal

pub returns-then-is_none : goal.returns-then-is_none
returns-then-is_none c = rw (← c.property-rate.ensures) (search rules)

pub returns-then-is_none-2 : goal.returns-then-is_none-2
returns-then-is_none-2 c = rw (← c.property-rate.ensures, ← c.property-item.ensures) (search rules)

pub returns-then-is_none-3 : goal.returns-then-is_none-3
returns-then-is_none-3 c = rw (← c.property-rate.ensures, ← c.property-item.ensures, ← c.property-spp.ensures) (search rules)
