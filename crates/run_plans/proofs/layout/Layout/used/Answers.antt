use Rattle.std.proofs.Common.{inl, subst, List}
use Rattle.std.specs.Prelude.{MatchOption}
use Rattle.chdr_words.specs.declared.epid.Epid.{Epid}
use Rattle.run_plans.specs.Firsts.{EachPlace, IsFirstWithout}
use Rattle.run_plans.specs.Layouts.{in_at, out_at}
use Rattle.run_plans.specs.Refusals.{IsUnused}
use Rattle.run_plans.proofs.Ends.{either_side}
use Rattle.run_plans.proofs.layout.Layout.used.Goals as goal

pub returns-in-Some : goal.returns-in-Some
returns-in-Some c = inl (subst (λ (es : List Epid). IsFirstWithout (IsUnused (in_at c.args.self.now) es) es c.in-Some.epid) c.as_slice.ensures c.in-Some.ensures)

pub returns-in-None : goal.returns-in-None
returns-in-None c =
    let layout = c.args.self.now in
    let block = c.args.block.now in
    let found = c.used_among-in-None.result in
    either_side (IsUnused (in_at layout) block.ins) (IsUnused (out_at layout) block.outs) block found
    (subst (λ (es : List Epid). EachPlace (IsUnused (in_at layout) es) es) c.as_slice.ensures c.in-None.ensures)
    (subst (λ (es : List Epid). MatchOption found (EachPlace (IsUnused (out_at layout) es) es) (IsFirstWithout (IsUnused (out_at layout) es) es))
    c.as_slice-in-None.ensures c.used_among-in-None.ensures)
