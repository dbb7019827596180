use Rattle.std.proofs.Common.{◌≡◌, ◌∙◌, ◌<◌, arith, length, true, subst, sym}
use Rattle.fabric_events.proofs.Laws.{tx_there}
use Rattle.fabric_lists.specs.Opened.{is_tx_stream}
use Rattle.fabric_lists.specs.StreamsView.{now_in}
use Rattle.fabric_net.specs.NetView.{NetSeen}
use Rattle.std.proofs.lemmas.List.{length-map}
use Rattle.fabric_net.proofs.net.Net.unoffered.Goals as goal

pub unoffered-requires-clause-tx : goal.unoffered-requires-clause-tx
unoffered-requires-clause-tx c =
    let tx = subst (λ (net : NetSeen). is_tx_stream net.present.plan c.args.s ≡ true) (sym c.self.view_is) c.requires.tx in
    let there = subst (λ (net : NetSeen). c.args.s < length net.present.streams) (sym c.self.view_is) c.requires.there in
    let many = length-map c.self.inside.fabric.streams.items now_in in
    rw (c.as_slice.ensures.value) (tx_there c.self.inside.fabric c.args.s c.self.invariant.parts (omega (arith, there, many)) ∙ tx)
