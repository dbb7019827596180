use Rattle.std.proofs.Common.{ℕ, ◌<◌, subst}
use Rattle.fabric_events.proofs.fabric.Fabric.first_route.Goals as goal
use Rattle.fabric_events.proofs.FrontLemmas.{node_count}

pub route_from-requires-clause-there : goal.route_from-requires-clause-there
route_from-requires-clause-there c = subst (λ (n : ℕ). c.args.x < n) (node_count c.args.self.now c.requires.sound) c.requires.there
