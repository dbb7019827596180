use Rattle.std.proofs.Common.{refl, ◌∙◌}
use Rattle.stream_rounds.proofs.Hearing.{hearing-first, hearing-more, next-ready}
use Rattle.stream_rounds.proofs.intake.hear.Goals as goal

pub loop-net-init : goal.loop-net-init
loop-net-init c = record {
  hearing = hearing-first c.args.stream c.args.net.now.present c.args.rx.now c.requires.fed c.requires.order;
  machine = λ w stands. stands;
  journal = refl;
}

pub offer-requires-clause-next : goal.offer-requires-clause-next
offer-requires-clause-next c =
    next-ready c.loop-net.net.present c.args.stream c.loop-net.rx c.take-packet.result c.loop-net.invariant.hearing.fed c.take-packet.ensures.plan

pub loop-net-preserved : goal.loop-net-preserved
loop-net-preserved c = record {
  hearing = hearing-more c.args.stream c.args.net.now.present c.loop-net.net.present c.offer.new.self.present c.args.rx.now c.loop-net.rx
      c.take-packet.new.self c.loop-net.moved c.take-packet.result c.requires.fed.there c.loop-net.invariant.hearing
      c.take-packet.ensures.got c.take-packet.ensures.lane c.take-packet.ensures.kept c.take-packet.ensures.planned c.take-packet.ensures.order
      c.offer.ensures.present;
  machine = λ w stands. c.offer.ensures.machine w (c.loop-net.invariant.machine w stands);
  journal = c.offer.ensures.journal ∙ c.loop-net.invariant.journal;
}
