use Rattle.std.proofs.Common.{◌∙◌, ◌<◌, List, ap, length, subst, sym}
use Rattle.net_present.specs.Kept.{now_at}
use Rattle.fabric_parts.specs.Streams.{StreamSeen, tally_now}
use Rattle.fabric_lists.specs.StreamsView.{streams_of}
use Rattle.fabric_events.specs.Fabrics.{present_of}
use Rattle.fabric_net.specs.NetView.{NetSeen}
use Rattle.fabric_net.proofs.Telling.{few-cuts, tally-is}
use Rattle.fabric_net.proofs.net.Net.tally.Goals as goal

pub tally-requires-clause-count : goal.tally-requires-clause-count
tally-requires-clause-count c =
    rw c.as_slice.ensures.value (few-cuts _ c.self.inside.steps (c.self.invariant.counted.streams c.args.s).cuts c.self.invariant.few)

pub returns-clause-machine : goal.returns-clause-machine
returns-clause-machine c =
    let there = subst (λ (net : NetSeen). c.args.s < length net.present.streams) (sym c.self.view_is) c.requires in
    rw (← c.self.view_is) (λ w stands. c.tally.ensures
    ∙ ap (λ (sts : List StreamSeen). tally_now (now_at (streams_of sts).now c.args.s)) c.as_slice.ensures.value
    ∙ tally-is (present_of c.self.inside.fabric) w c.args.s there stands)
