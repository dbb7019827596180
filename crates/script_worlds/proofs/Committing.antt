-- A commit that was refused has its cause, and no values settle the graph.
use Rattle.std.proofs.Common.{◌≡◌, ◌∙◌, sym, ap, inl, inr}
use Rattle.std.specs.Prelude.{◌⊎◌, IsOk, Result, Ok, Err}
use Rattle.graph_core.specs.Derivation.{Diagram}
use Rattle.property_resolver.specs.Causes.{IsCause}
use Rattle.property_resolver.specs.Outcome.{OkWhereSettled, UnsettledWhereMissing}
use Rattle.property_resolver.specs.declared.fault.CommitFault.{CommitFault}
use Rattle.property_resolver.specs.declared.fault.CommitFault.TheVariants.{Memory}
use Rattle.script_books.specs.Refusals.{commit_refusal}
use Rattle.script_books.specs.declared.refusal.Refusal.{Refusal}
use Rattle.script_worlds.specs.Causes.{IsCommitRefusal}

fault_in : CommitFault → Result (Unit {0}) CommitFault → CommitFault
fault_in fault (Ok done) = fault
fault_in fault (Err own) = own

abbrev refused_with : CommitFault → Result (Unit {0}) CommitFault
refused_with fault = Err fault

-- what is refused was not done, and memory did not run out
not_memory : (fault : CommitFault) (why : Refusal) → commit_refusal fault ≡ Ok why
    → IsOk (refused_with fault) ⊎ (refused_with fault ≡ refused_with Memory) → ⊥
unfolding fault_in
not_memory fault why told (inl ok) = absurd cc
not_memory fault why told (inr is) =
    let z : commit_refusal Memory ≡ Ok why = ap commit_refusal (sym (ap (fault_in fault) is)) ∙ told in absurd cc

pub commit_refused : (diagram : Diagram) (fault : CommitFault) (why : Refusal) → commit_refusal fault ≡ Ok why → IsCause diagram fault
    → OkWhereSettled diagram (Err fault) → UnsettledWhereMissing diagram (Err fault) → IsCommitRefusal diagram why
commit_refused diagram fault why told cause settled missing = record {
  fault = fault;
  told = told;
  holds = cause;
  unsettled = λ values settles. not_memory fault why told (settled values settles);
  missing = missing;
}
