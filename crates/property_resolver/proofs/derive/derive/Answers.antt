use Rattle.property_resolver.proofs.Decided.{settled_from_held}
use Rattle.property_resolver.proofs.derive.derive.Goals as goal

pub returns-in-None-clause-settles : goal.returns-in-None-clause-settles
returns-in-None-clause-settles g c =
    settled_from_held c.args.graph.now.diagram c.close.new.values c.in_ok-close.ensures.closed (rw (c.as_slice-kinds.ensures, c.kinds.ensures.kinds) at c.in-None.ensures)
