use Rattle.std.proofs.Common.{◌≡◌, ◌∙◌, ℕ, true, false, sym, ap, subst, List}
use Rattle.std.specs.Prelude.{IsSome}
use Rattle.chdr_words.specs.declared.epid.Epid.{Epid}
use Rattle.net_machine.specs.Plans.{block_at, stream_from, stream_to}
use Rattle.net_machine.specs.declared.plan.BlockPlan.{BlockPlan}
use Rattle.run_plans.specs.Firsts.{EachPlace}
use Rattle.run_plans.proofs.bounds.has_streams.Goals as goal

pub returns-then-all_end : goal.returns-then-all_end
returns-then-all_end c =
    let plan = c.args.plan.now in
    let ins : c.as_slice.result.now ≡ (block_at plan c.args.block).ins = c.as_slice.ensures ∙ ap (λ (x : BlockPlan). x.ins) c.block_at-block.ensures in
    let outs : c.as_slice-then-all_end.result.now ≡ (block_at plan c.args.block).outs = c.as_slice-then-all_end.ensures ∙ ap (λ (x : BlockPlan). x.outs) c.block_at-block.ensures in
    let Ends = λ (es : List Epid). EachPlace (λ (_ : ℕ) (e : Epid). IsSome (stream_to plan e)) es in
    let Begins = λ (es : List Epid). EachPlace (λ (_ : ℕ) (e : Epid). IsSome (stream_from plan e)) es in (
      λ yes. record { ins = subst Ends ins (c.all_end.ensures.0 c.if-all_end.true); outs = subst Begins outs (c.all_begin.ensures.0 yes) },
      λ has. c.all_begin.ensures.1 (subst Begins (sym outs) has.outs),
    )

pub returns-else-all_end : goal.returns-else-all_end
returns-else-all_end c =
    let plan = c.args.plan.now in
    let ins : c.as_slice.result.now ≡ (block_at plan c.args.block).ins = c.as_slice.ensures ∙ ap (λ (x : BlockPlan). x.ins) c.block_at-block.ensures in
    let Ends = λ (es : List Epid). EachPlace (λ (_ : ℕ) (e : Epid). IsSome (stream_to plan e)) es in (
      λ yes. let z : true ≡ false = sym yes ∙ c.if-all_end.false in absurd cc,
      λ has. c.all_end.ensures.1 (subst Ends (sym ins) has.ins),
    )
