use Rattle.property_resolver.proofs.Found.{port_held, port_first}
use Rattle.property_resolver.proofs.missing.missing_on.Goals as goal

pub returns-in-Some : goal.returns-in-Some
returns-in-Some c = port_first c.args.values.now c.args.block c.args.side c.loop-port.port c.loop-port.invariant c.args.ports c.in-Some.at c.loop-port-test.true c.in-Some.ensures

pub loop-port-preserved : goal.loop-port-preserved
loop-port-preserved c = port_held c.args.values.now c.args.block c.args.side c.loop-port.port c.loop-port.invariant c.in_default.ensures
