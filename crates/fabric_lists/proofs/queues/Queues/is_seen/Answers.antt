use Rattle.std.proofs.Common.{◌<◌, length, sym, ◌∙◌, arith}
use Rattle.std.proofs.lemmas.Bool.{not-true}
use Rattle.fabric_lists.proofs.HeldLemmas.{one_there}
use Rattle.fabric_lists.proofs.queues.Queues.is_seen.Goals as goal

pub returns-then-q-count : goal.returns-then-q-count
returns-then-q-count c h =
    let count = c.count.ensures in
    let less = c.if-q-count.true in
    let there : c.queue-q.result < length c.args.self.now.entries = omega arith in
    sym (one_there c.args.plan.now c.args.self.now.entries c.queue-q.result there
    (sym c.has_none_at.ensures ∙ not-true c.has_none_at.result h))
