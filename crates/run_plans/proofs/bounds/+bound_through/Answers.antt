use Rattle.std.proofs.Common.{◌∙◌, ◌-◌, sym, ap, min, ℕ, Option}
use Rattle.std.specs.Option.{option_map_or}
use Rattle.net_machine.specs.CanBegin.{bound_through}
use Rattle.run_plans.proofs.Passed.{passed_on}
use Rattle.run_plans.proofs.bounds.+bound_through.Goals as goal
use Rattle.run_plans.proofs.bounds.+bound_through.Goals.{in-Some-passed_stream, in-None}

pub returns : goal.returns
returns t c =
    let plan = c.args.plan.now in
    let step = passed_on plan c.args.k c.args.s c.in-Some.block c.block_at-block.result.now c.factor_of.result c.match-passed_stream.passed c.min-2.result c.passed_stream.result
    c.if-k-eq0.false (sym c.producer_of.ensures.value ∙ c.in-Some.is) c.block_at-block.ensures (sym c.is_tx.ensures ∙ c.if-is_tx.false)
    c.factor_of.ensures c.passed_stream.ensures.value in
    let bound = λ (o : Option ℕ). min (option_map_or (bound_through (c.args.k - 1) plan) o 0) 16385 in
    elim c.match-passed_stream.branch [
      | in-Some-passed_stream w ↦ step (w.passed-is ∙ w.bound_through-passed.ensures ∙ ap bound (sym w.in-Some-passed_stream.is)) c.min-2.ensures
      | in-None w ↦ step (w.passed-is ∙ ap bound (sym w.in-None.is)) c.min-2.ensures
    ]
