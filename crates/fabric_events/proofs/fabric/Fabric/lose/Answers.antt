use Rattle.fabric_events.proofs.fabric.Fabric.lose.Goals as goal
use Rattle.fabric_events.proofs.EventLemmas.{front_of, sound_queues}
use Rattle.net_present.specs.Onward.{entries_at}

pub returns-clause-sound : goal.returns-clause-sound
returns-clause-sound c =
    let f = c.args.self.now in
    let front = front_of (entries_at f.queues.entries c.args.q) c.requires.some in
    sound_queues f c.pop.new.self c.args.q front.rest c.requires.sound (c.pop.ensures.front front.first front.rest front.is).1 c.pop.ensures.room
