use Rattle.std.proofs.Common.{◌≡◌, ℕ, ◌<◌, Some}
use Rattle.std.specs.Prelude.{slice_get}
use Rattle.chdr_words.specs.declared.epid.Epid.{Epid}
use Rattle.run_plans.specs.Layouts.{end_at}
use Rattle.run_plans.specs.Refusals.{IsUnused}
use Rattle.run_plans.proofs.layout.Layout.used_among.Given as goal

abbrev pub invariant-loop-place : goal.invariant-loop-place
invariant-loop-place l = (i : ℕ) (e : Epid) → i < l.place → slice_get l.epids i ≡ Some e → IsUnused (end_at l.side l.self) l.epids i e
