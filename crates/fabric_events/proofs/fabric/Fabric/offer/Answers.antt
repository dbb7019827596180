use Rattle.std.proofs.Common.{◌∙◌}
use Rattle.fabric_events.proofs.fabric.Fabric.offer.Goals as goal
use Rattle.fabric_events.proofs.EventLemmas.{tx_there}

pub offer-requires-clause-tx : goal.offer-requires-clause-tx
offer-requires-clause-tx c = tx_there c.args.self.now c.args.s c.requires.sound c.requires.there ∙ c.requires.tx
