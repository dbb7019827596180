use Rattle.std.proofs.Common.{arith}
use Rattle.fabric_events.specs.Fabrics.{present_of}
use Rattle.fabric_events.proofs.StillLemmas.{still_through}
use Rattle.fabric_events.proofs.fabric.Fabric.next_late.Goals as goal

pub returns-in-None-clause-still : goal.returns-in-None-clause-still
returns-in-None-clause-still c =
    still_through (present_of c.args.self.now) c.args.sizes c.args.k c.losses-losses.result c.next_at_queue-in-None.result c.losses-losses.ensures
    (omega arith) c.in-None.ensures.still c.next_at_queue-in-None.ensures.still
