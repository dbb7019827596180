use Rattle.std.proofs.Common.{◌≡◌, ◌∙◌, ℕ, length, ap, arith}
use Rattle.std.specs.Prelude.{map}
use Rattle.std.specs.List.{range_with_len}
use Rattle.net_machine.specs.Plans.{plan_at}
use Rattle.fabric_lists.specs.Opened.{is_tx_stream, opened_now}
use Rattle.fabric_lists.specs.StreamsView.{now_in, plan_in, tx_in}
use Rattle.fabric_lists.proofs.OpenedLemmas.{all-opened, all-plans}
use Rattle.fabric_lists.proofs.PartLemmas.{one-more}
use Rattle.fabric_lists.proofs.begin.opened_parts.Goals as goal

pub loop-s-preserved : goal.loop-s-preserved
loop-s-preserved c =
    let plan = c.args.plan.now in
    let pushed = c.in_ok-push.ensures.items in
    let made = c.in_ok-opened_stream.ensures in
    record {
      plans = one-more plan_in _ _ _ (plan_at plan) c.loop-s.s pushed c.loop-s.invariant.plans made.plan;
      txs = one-more tx_in _ _ _ (is_tx_stream plan) c.loop-s.s pushed c.loop-s.invariant.txs made.tx;
      now = one-more now_in _ _ _ (λ (s : ℕ). opened_now plan (plan_at plan s)) c.loop-s.s pushed c.loop-s.invariant.now made.now;
    }

pub returns-clause-plans : goal.returns-clause-plans
returns-clause-plans c =
    let plan = c.args.plan.now in
    let e : c.loop-s.s ≡ length plan.streams = omega arith in
    c.loop-s.invariant.plans ∙ ap (λ (n : ℕ). map (plan_at plan) (range_with_len 0 n)) e ∙ all-plans plan

pub returns-clause-now : goal.returns-clause-now
returns-clause-now c =
    let plan = c.args.plan.now in
    let e : c.loop-s.s ≡ length plan.streams = omega arith in
    c.loop-s.invariant.now ∙ ap (λ (n : ℕ). map (λ (s : ℕ). opened_now plan (plan_at plan s)) (range_with_len 0 n)) e ∙ all-opened plan
