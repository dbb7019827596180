use Rattle.std.proofs.Common.{◌≡◌, ℕ, ◌<◌, Some}
use Rattle.std.specs.Prelude.{slice_get}
use Rattle.chdr_words.specs.declared.epid.Epid.{Epid}
use Rattle.run_plans.specs.Layouts.{StandsAtNode}
use Rattle.run_plans.proofs.place.nowhere_among.Given as goal

abbrev pub invariant-loop-epid : goal.invariant-loop-epid
invariant-loop-epid l = (i : ℕ) (e : Epid) → i < l.epid-index → slice_get l.epids i ≡ Some e → StandsAtNode l.tree l.kind i e
