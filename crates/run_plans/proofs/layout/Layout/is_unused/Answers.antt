use Rattle.std.proofs.Common.{◌≡◌, ◌∙◌, true, false, not, sym, ap}
use Rattle.run_plans.proofs.Ends.{earlier-free, free-earlier}
use Rattle.run_plans.proofs.layout.Layout.is_unused.Goals as goal

pub returns-then-not-has_end : goal.returns-then-not-has_end
returns-then-not-has_end c = (
  λ yes. record {
    blocks = λ b i at. let z : true ≡ false = sym (c.has_end.ensures.1 (b, i, at)) ∙ c.if-not-has_end.true in absurd cc;
    earlier = earlier-free c.args.epid c.args.epids.now c.args.place (ap not (sym c.is_among.ensures) ∙ yes);
  },
  λ free. ap not c.is_among.ensures ∙ free-earlier c.args.epid c.args.epids.now c.args.place free.earlier,
)
