use Rattle.std.proofs.Common.{◌∙◌, sym}
use Rattle.chdr_words.proofs.ManagementLemmas.{tested_more_at, tested_fails_at, tested_last, tested_open}
use Rattle.chdr_words.proofs.management.hops_run_down.Goals as goal

pub returns-then-not-follows : goal.returns-then-not-follows
returns-then-not-follows c = tested_fails_at _ _ _ _ _ c.args.count _ c.loop-k-test.true c.word_at-word.ensures (sym c.follows.ensures ∙ c.if-not-follows.true) c.loop-k.invariant

pub loop-k-preserved : goal.loop-k-preserved
loop-k-preserved c = tested_more_at _ _ _ _ _ _ _ c.loop-k-test.true c.word_at-word.ensures (sym c.follows.ensures ∙ c.if-not-follows.false) c.ends-hops.ensures c.loop-k.invariant

pub returns-then-pending-eq0 : goal.returns-then-pending-eq0
returns-then-pending-eq0 c = tested_last c.args.b.now _ _ _ _ c.args.count c.loop-k-test.false c.if-pending-eq0.true c.loop-k.invariant

pub returns-else-pending-eq0 : goal.returns-else-pending-eq0
returns-else-pending-eq0 c = tested_open c.args.b.now _ _ _ _ c.args.count c.loop-k-test.false c.if-pending-eq0.false c.loop-k.invariant
