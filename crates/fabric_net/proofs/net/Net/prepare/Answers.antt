use Rattle.std.proofs.Common.{sym}
use Rattle.net_needs.proofs.Laws.{lawful_gives_needs}
use Rattle.fabric_events.specs.Fabrics.{present_of}
use Rattle.fabric_net.proofs.net.Net.prepare.Goals as goal

pub reserve-requires-then-enabled-clause-needs : goal.reserve-requires-then-enabled-clause-needs
reserve-requires-then-enabled-clause-needs c =
    let stands = c.self.invariant.stands in
    lawful_gives_needs (present_of c.self.inside.fabric) c.self.invariant.state c.args.event stands.lawful stands.now (sym c.if-enabled.ensures)
