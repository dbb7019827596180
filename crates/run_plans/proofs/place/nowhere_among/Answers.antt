use Rattle.std.proofs.Common.{◌≡◌, ◌∙◌, true, false, sym}
use Rattle.std.proofs.lemmas.Option.{slice_get-get_or}
use Rattle.run_plans.proofs.place.nowhere_among.Goals as goal

pub returns-then-not-stands_at : goal.returns-then-not-stands_at
returns-then-not-stands_at c = record {
  place = c.loop-epid.epid-index;
  found = slice_get-get_or c.args.epids.now c.loop-epid.epid-index _ c.loop-epid-test.true;
  lacks = λ yes. let z : true ≡ false = sym yes ∙ sym c.stands_at.ensures ∙ c.if-not-stands_at.true in absurd cc;
  before = c.loop-epid.invariant;
}
