use Rattle.std.proofs.Common.{◌≡◌, ◌∙◌, sym, ap, List, Some, None, arith}
use Rattle.std.proofs.lemmas.Result.{err_from_is_err_and}
use Rattle.graph_core.specs.declared.place.Edge.{Edge}
use Rattle.graph_core.specs.declared.place.Rule.TheVariants.{Edge as edge_rule}
use Rattle.property_resolver.specs.Joined.{far_end, numbers_on}
use Rattle.property_resolver.proofs.Joining.{far_gives, none_spread, number_there, one_at_least, one_spread, past_spread}
use Rattle.property_resolver.proofs.Learned.{contradicted, learns_grows, learnt}
use Rattle.property_resolver.proofs.spread.spread_edges.Goals as goal

pub returns-in_default-clause-spread : goal.returns-in_default-clause-spread
returns-in_default-clause-spread g c =
    let a = c.args in
    let es = a.graph.now.diagram.edges in
    none_spread es a.at c.at.result (number_there a.at es (numbers_on a.joins.now a.at.side) c.at.result (c.requires.joins a.at.side) c.at.ensures) a.values.now a.value c.in_default.is

pub returns-in_default-far_end-clause-spread : goal.returns-in_default-far_end-clause-spread
returns-in_default-far_end-clause-spread g c =
    let a = c.args in
    let es = a.graph.now.diagram.edges in
    let n = c.in-Some.number in
    let same : c.as_slice.result.now ≡ es = c.as_slice.ensures ∙ c.edges.ensures.edges in
    let far : far_end es n a.at ≡ None = sym (ap (λ (xs : List Edge). far_end xs n a.at) same) ∙ sym c.far_end.ensures ∙ c.in_default-far_end.is in
    past_spread es a.at c.at.result (number_there a.at es (numbers_on a.joins.now a.at.side) c.at.result (c.requires.joins a.at.side) c.at.ensures) a.values.now a.value n c.in-Some.is far

pub returns-in_err-learn-clause-cause : goal.returns-in_err-learn-clause-cause
returns-in_err-learn-clause-cause g c =
    let p = err_from_is_err_and c.from_residual.result c.from_residual.ensures.1 in
    let a = c.args in
    let d = a.graph.now.diagram in
    let n = c.in-Some.number in
    let to = c.in-Some-far_end.to in
    let same : c.as_slice.result.now ≡ d.edges = c.as_slice.ensures ∙ c.edges.ensures.edges in
    let far : far_end d.edges n a.at ≡ Some to = sym (ap (λ (xs : List Edge). far_end xs n a.at) same) ∙ sym c.far_end.ensures ∙ c.in-Some-far_end.is in
    rw (p.1, p.2) (contradicted d a.values.now to a.value c.requires.derived (edge_rule n) a.at a.value c.requires.held (far_gives d a.at a.value n to far)
    c.in_err-learn.field-0.0 c.in_err-learn.ensures.clash)

pub returns-in_err-learn-clause-cost : goal.returns-in_err-learn-clause-cost
returns-in_err-learn-clause-cost g c =
    let a = c.args in
    let es = a.graph.now.diagram.edges in
    let n = c.in-Some.number in
    let to = c.in-Some-far_end.to in
    let same : c.as_slice.result.now ≡ es = c.as_slice.ensures ∙ c.edges.ensures.edges in
    let far : far_end es n a.at ≡ Some to = sym (ap (λ (xs : List Edge). far_end xs n a.at) same) ∙ sym c.far_end.ensures ∙ c.in-Some-far_end.is in
    omega (arith, one_at_least es a.at n to far, c.tick.ensures.count)

pub returns-clause-grows : goal.returns-clause-grows
returns-clause-grows g c =
    let a = c.args in
    let d = a.graph.now.diagram in
    let n = c.in-Some.number in
    let to = c.in-Some-far_end.to in
    let same : c.as_slice.result.now ≡ d.edges = c.as_slice.ensures ∙ c.edges.ensures.edges in
    let far : far_end d.edges n a.at ≡ Some to = sym (ap (λ (xs : List Edge). far_end xs n a.at) same) ∙ sym c.far_end.ensures ∙ c.in-Some-far_end.is in
    learns_grows d a.values.now c.learn.new.values to a.value c.in_ok-learn.ensures.ok c.requires.derived (edge_rule n) a.at a.value c.requires.held (far_gives d a.at a.value n to far)

pub returns-clause-spread : goal.returns-clause-spread
returns-clause-spread g c =
    let a = c.args in
    let d = a.graph.now.diagram in
    let es = d.edges in
    let n = c.in-Some.number in
    let to = c.in-Some-far_end.to in
    let same : c.as_slice.result.now ≡ es = c.as_slice.ensures ∙ c.edges.ensures.edges in
    let far : far_end es n a.at ≡ Some to = sym (ap (λ (xs : List Edge). far_end xs n a.at) same) ∙ sym c.far_end.ensures ∙ c.in-Some-far_end.is in
    one_spread es a.at c.at.result (number_there a.at es (numbers_on a.joins.now a.at.side) c.at.result (c.requires.joins a.at.side) c.at.ensures) c.learn.new.values a.value n to c.in-Some.is far
    (learnt d a.values.now c.learn.new.values to a.value c.in_ok-learn.ensures.ok)

pub returns-clause-cost : goal.returns-clause-cost
returns-clause-cost g c =
    let a = c.args in
    let es = a.graph.now.diagram.edges in
    let n = c.in-Some.number in
    let to = c.in-Some-far_end.to in
    let same : c.as_slice.result.now ≡ es = c.as_slice.ensures ∙ c.edges.ensures.edges in
    let far : far_end es n a.at ≡ Some to = sym (ap (λ (xs : List Edge). far_end xs n a.at) same) ∙ sym c.far_end.ensures ∙ c.in-Some-far_end.is in
    omega (arith, one_at_least es a.at n to far, c.tick.ensures.count)
