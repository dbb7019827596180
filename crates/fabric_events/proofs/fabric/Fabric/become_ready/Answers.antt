use Rattle.std.proofs.Common.{◌∙◌}
use Rattle.fabric_events.proofs.fabric.Fabric.become_ready.Goals as goal
use Rattle.fabric_events.proofs.EventLemmas.{Fills, if_some, tx_there}

pub fill-requires-clause-tx : goal.fill-requires-clause-tx
fill-requires-clause-tx c =
    let f = c.args.self.now in
    let fits = if_some (Fills f c.args.packets) c.args.stream c.in-Some.t c.in-Some.is c.requires.fits in
    tx_there f c.in-Some.t c.requires.sound fits.0 ∙ fits.1
