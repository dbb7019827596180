use Rattle.fabric_events.specs.Fabrics.{present_of}
use Rattle.fabric_events.proofs.DoableLemmas.{enter_offered, seen_handed}
use Rattle.fabric_events.proofs.fabric.Fabric.happen.Goals as goal

pub enter-requires-clause-offered : goal.enter-requires-clause-offered
enter-requires-clause-offered g c = enter_offered (present_of c.args.self.now) c.args.event c.in-Enter.s c.requires.doable c.in-Enter.is

pub see-requires-clause-handed : goal.see-requires-clause-handed
see-requires-clause-handed g c = seen_handed (present_of c.args.self.now) c.args.event c.in-Seen.s c.in-Seen.n c.requires.doable c.in-Seen.is
