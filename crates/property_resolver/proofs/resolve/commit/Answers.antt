use Rattle.std.proofs.Common.{◌≡◌, ◌∙◌, Err, Result, ap, inl, inr, ⊎_elim}
use Rattle.std.proofs.lemmas.Result.{err_from_is_err_and}
use Rattle.property_resolver.specs.declared.fault.CommitFault.{CommitFault}
use Rattle.property_resolver.proofs.Decided.{only_memory, only_unsettled, none_missing}
use Rattle.property_resolver.proofs.resolve.commit.Goals as goal

refused : {a b : CommitFault} → a ≡ b → ◌≡◌ {A = Result (Unit {0}) CommitFault} (Err a) (Err b)
refused e = ap (λ fault. Err fault) e

pub returns-in_err-values-clause-settled : goal.returns-in_err-values-clause-settled
returns-in_err-values-clause-settled g c =
    let p = err_from_is_err_and c.from_residual.result c.from_residual.ensures.1 in
    let d = c.args.graph.now.diagram in
    λ values settles. inr (p.1 ∙ refused (p.2 ∙ only_memory d values settles c.in_err-values.field-0.0 c.in_err-values.ensures.cause))

pub returns-in_err-values-clause-unsettled : goal.returns-in_err-values-clause-unsettled
returns-in_err-values-clause-unsettled g c =
    let p = err_from_is_err_and c.from_residual.result c.from_residual.ensures.1 in
    let d = c.args.graph.now.diagram in
    λ pairs at closed first. ⊎_elim (λ same. inl (p.1 ∙ refused (p.2 ∙ same))) (λ same. inr (p.1 ∙ refused (p.2 ∙ same)))
    (only_unsettled d pairs closed at first c.in_err-values.field-0.0 c.in_err-values.ensures.cause)

pub returns-clause-unsettled : goal.returns-clause-unsettled
returns-clause-unsettled g c = λ pairs at closed first. absurd (none_missing c.args.graph.now.diagram c.in_ok-values.values c.in_ok-values.ensures.settles pairs at closed first)
