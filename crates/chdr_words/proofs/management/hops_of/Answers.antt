use Rattle.std.proofs.Common.{sym, ◌∙◌}
use Rattle.chdr_words.proofs.ManagementLemmas.{cut_more_at, cut_end_at, cut_all_at, cut_open_at}
use Rattle.chdr_words.proofs.management.hops_of.Goals as goal
use Rattle.chdr_words.proofs.management.hops_of.Goals.{then-word-eq0+in_ok-push-2, else-word-eq0, then-not-is_empty+in_ok-push-3, else-not-is_empty}

pub loop-k-preserved : goal.loop-k-preserved
loop-k-preserved c =
    elim c.if-word-eq0.branch [
      | then-word-eq0+in_ok-push-2 w ↦ cut_end_at _ _ _ c.word_at-word.result _ _ _ _ _ c.op_of.result c.loop-k-test.true c.word_at-word.ensures w.if-word-eq0.true
          c.op_of.ensures c.in_ok-push.ensures.ok (w.hops-is ∙ w.in_ok-push-2.ensures.ok) (w.hop-is ∙ w.new-hop-then-word-eq0.ensures) c.loop-k.invariant
      | else-word-eq0 w ↦ cut_more_at _ _ _ c.word_at-word.result _ _ _ _ _ c.op_of.result c.loop-k-test.true c.word_at-word.ensures w.if-word-eq0.false
          c.op_of.ensures c.in_ok-push.ensures.ok w.hops-is w.hop-is c.loop-k.invariant
    ]

pub returns : goal.returns
returns c =
    elim c.if-not-is_empty.branch [
      | then-not-is_empty+in_ok-push-3 w ↦ cut_open_at _ _ _ _ _ _ c.loop-k-test.false (sym c.is_empty.ensures ∙ w.if-not-is_empty.true) (w.hops-is ∙ w.in_ok-push-3.ensures.ok) c.loop-k.invariant
      | else-not-is_empty w ↦ cut_all_at _ _ _ _ _ _ c.loop-k-test.false (sym c.is_empty.ensures ∙ w.if-not-is_empty.false) w.hops-is c.loop-k.invariant
    ]
