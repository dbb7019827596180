use Rattle.std.proofs.Common.{◌∙◌, ◌<◌, List, ap, length, subst, sym}
use Rattle.net_present.specs.Kept.{now_at}
use Rattle.fabric_parts.specs.Streams.{StreamSeen, undrained_now}
use Rattle.fabric_lists.specs.StreamsView.{streams_of}
use Rattle.fabric_events.specs.Fabrics.{present_of}
use Rattle.fabric_net.specs.NetView.{NetSeen}
use Rattle.fabric_net.proofs.Telling.{drained-by, end-drained, end-left}
use Rattle.fabric_net.proofs.net.Net.end.Goals as goal

pub returns-then-is_drained-clause-machine : goal.returns-then-is_drained-clause-machine
returns-then-is_drained-clause-machine c =
    let f = c.self.inside.fabric in
    let drained = drained-by f c.args.s _ _ _ c.as_slice.ensures.value c.is_closed-closed.ensures c.if-is_drained.ensures in
    rw (← c.self.view_is) (λ w stands. end-drained (present_of f) w c.args.s drained stands)

pub returns-else-is_drained-clause-machine : goal.returns-else-is_drained-clause-machine
returns-else-is_drained-clause-machine c =
    let f = c.self.inside.fabric in
    let drained = drained-by f c.args.s _ _ _ c.as_slice.ensures.value c.is_closed-closed.ensures c.if-is_drained.ensures in
    let there = subst (λ (net : NetSeen). c.args.s < length net.present.streams) (sym c.self.view_is) c.requires in
    rw (← c.self.view_is) (λ w stands. c.undrained.ensures
    ∙ ap (λ (sts : List StreamSeen). undrained_now (now_at (streams_of sts).now c.args.s)) c.as_slice-else-is_drained.ensures.value
    ∙ end-left (present_of f) w c.args.s there drained stands)
