use Rattle.host_talk.proofs.Talked.{talked}
use Rattle.host_talk.proofs.requests.talk.Goals as goal

pub returns : goal.returns
returns g c =
    talked c.args.net.now c.ask.new.self c.settle.new.net c.answer.new.self (g.B.RegisterSlots.slots c.args.banks.now) (g.B.RegisterSlots.slots c.settle.new.banks)
    c.args.node c.args.packet c.answer.result c.requires.settled c.requires.can c.requires.linked c.ask.ensures.journal c.in_ok-ask.ensures.machine
    c.in_ok-settle.ensures c.answer.ensures.journal c.answer.ensures.answer c.answer.ensures.machine
