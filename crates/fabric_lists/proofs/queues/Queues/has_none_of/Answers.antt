use Rattle.std.proofs.Common.{sym, ◌∙◌, arith}
use Rattle.fabric_lists.proofs.HeldLemmas.{next_within, none_at_all, none_more, one_there}
use Rattle.fabric_lists.proofs.queues.Queues.has_none_of.Goals as goal

pub returns-then-is_seen : goal.returns-then-is_seen
returns-then-is_seen c = sym (c.is_seen.ensures c.if-is_seen.true)

pub returns-then-is_seen-2 : goal.returns-then-is_seen-2
returns-then-is_seen-2 c = sym (c.is_seen-2.ensures c.if-is_seen-2.true)

pub loop-q-init : goal.loop-q-init
loop-q-init c = (λ j there. absurd (omega arith), omega arith)

pub has_none_at-requires : goal.has_none_at-requires
has_none_at-requires c = next_within c.args.self.now.entries c.loop-q.from c.in-Some.q c.in-Some.ensures

pub overflow_add-from : goal.overflow_add-from
overflow_add-from c =
    let there = next_within c.args.self.now.entries c.loop-q.from c.in-Some.q c.in-Some.ensures in
    let count = c.count.ensures in
    let fits = c.count.type_inv in
    omega arith

pub returns-then-not-has_none_at : goal.returns-then-not-has_none_at
returns-then-not-has_none_at c =
    one_there c.args.plan.now c.args.self.now.entries c.in-Some.q
    (next_within c.args.self.now.entries c.loop-q.from c.in-Some.q c.in-Some.ensures)
    (sym c.has_none_at.ensures ∙ c.if-not-has_none_at.true)

pub loop-q-preserved : goal.loop-q-preserved
loop-q-preserved c =
    let there = next_within c.args.self.now.entries c.loop-q.from c.in-Some.q c.in-Some.ensures in (
      none_more c.args.plan.now c.args.self.now.entries c.loop-q.from c.in-Some.q c.loop-q.invariant.0 c.in-Some.ensures
          (sym c.has_none_at.ensures ∙ c.if-not-has_none_at.false),
      omega arith,
    )

pub loop-q-smaller : goal.loop-q-smaller
loop-q-smaller c =
    let there = next_within c.args.self.now.entries c.loop-q.from c.in-Some.q c.in-Some.ensures in
    let from = c.in-Some.ensures.from in
    omega arith

pub returns : goal.returns
returns c = none_at_all c.args.plan.now c.args.self.now.entries c.loop-q.from c.loop-q.invariant.0 c.in_default.ensures
