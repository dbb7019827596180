use Rattle.std.proofs.Common.{ap}
use Rattle.fabric_parts.specs.Streams.{hands_now}
use Rattle.fabric_lists.specs.StreamFlags.{is_owing, is_sending, orders_in}
use Rattle.fabric_lists.proofs.streams.hand.Goals as goal
use Rattle.fabric_lists.proofs.FlagLemmas.{flags_kept}
use Rattle.fabric_lists.proofs.StreamLemmas.{written_in}

pub returns-clause-next : goal.returns-clause-next
returns-clause-next c = written_in c.streams.inside.parts.items c.args.streams.now c.args.s c.index_mut-stream.result.now c.hand.new.self (hands_now) c.streams.view_is c.requires.there c.index_mut-stream.ensures.value c.hand.ensures.next

pub invariant_of-streams : goal.invariant_of-streams
invariant_of-streams c =
    let old = c.index_mut-stream.result.now in
    let same = c.hand.ensures.next in
    flags_kept c.streams.inside.parts.items c.streams.inside.flags c.args.s old c.hand.new.self c.streams.invariant c.index_mut-stream.ensures.value
    (ap is_sending same) (ap is_owing same) (ap orders_in same)
