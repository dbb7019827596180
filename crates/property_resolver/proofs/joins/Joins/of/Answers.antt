use Rattle.std.proofs.Common.{◌≡◌, ◌∙◌, ◌≤◌, sym, ap, subst, List, length, slice_get}
use Rattle.graph_core.specs.declared.place.Side.TheVariants.{Into, Out}
use Rattle.graph_core.specs.declared.place.Edge.{Edge}
use Rattle.graph_core.proofs.Laws.{few_edges}
use Rattle.property_resolver.proofs.Joining.{ends_apart, ends_within}
use Rattle.property_resolver.proofs.joins.Joins.of.Goals as goal

pub numbers-requires-clause-few : goal.numbers-requires-clause-few
numbers-requires-clause-few c =
    let g = c.args.graph.now in
    let same : c.as_slice-edges.result.now ≡ g.diagram.edges = c.as_slice-edges.ensures ∙ c.edges.ensures.edges in
    subst (λ (es : List Edge). length es ≤ 64) (sym same) (few_edges g.diagram.kinds g.diagram.edges g.diagram.users g.committed g.is_committed c.edges.ensures.graph)

pub numbers-requires-clause-within : goal.numbers-requires-clause-within
numbers-requires-clause-within c =
    let same : c.as_slice-edges.result.now ≡ c.args.graph.now.diagram.edges = c.as_slice-edges.ensures ∙ c.edges.ensures.edges in
    λ number edge e. ends_within c.args.graph.now.diagram c.edges.ensures.graph.diagram Out number edge (sym (ap (λ (es : List Edge). slice_get es number) same) ∙ e)

pub numbers-requires-clause-apart : goal.numbers-requires-clause-apart
numbers-requires-clause-apart c =
    let same : c.as_slice-edges.result.now ≡ c.args.graph.now.diagram.edges = c.as_slice-edges.ensures ∙ c.edges.ensures.edges in
    λ number other edge next a b. ends_apart c.args.graph.now.diagram c.edges.ensures.graph.diagram Out number other edge next
    (sym (ap (λ (es : List Edge). slice_get es number) same) ∙ a) (sym (ap (λ (es : List Edge). slice_get es other) same) ∙ b)

pub numbers-requires-2-clause-few : goal.numbers-requires-2-clause-few
numbers-requires-2-clause-few c =
    let g = c.args.graph.now in
    let same : c.as_slice-edges.result.now ≡ g.diagram.edges = c.as_slice-edges.ensures ∙ c.edges.ensures.edges in
    subst (λ (es : List Edge). length es ≤ 64) (sym same) (few_edges g.diagram.kinds g.diagram.edges g.diagram.users g.committed g.is_committed c.edges.ensures.graph)

pub numbers-requires-2-clause-within : goal.numbers-requires-2-clause-within
numbers-requires-2-clause-within c =
    let same : c.as_slice-edges.result.now ≡ c.args.graph.now.diagram.edges = c.as_slice-edges.ensures ∙ c.edges.ensures.edges in
    λ number edge e. ends_within c.args.graph.now.diagram c.edges.ensures.graph.diagram Into number edge (sym (ap (λ (es : List Edge). slice_get es number) same) ∙ e)

pub numbers-requires-2-clause-apart : goal.numbers-requires-2-clause-apart
numbers-requires-2-clause-apart c =
    let same : c.as_slice-edges.result.now ≡ c.args.graph.now.diagram.edges = c.as_slice-edges.ensures ∙ c.edges.ensures.edges in
    λ number other edge next a b. ends_apart c.args.graph.now.diagram c.edges.ensures.graph.diagram Into number other edge next
    (sym (ap (λ (es : List Edge). slice_get es number) same) ∙ a) (sym (ap (λ (es : List Edge). slice_get es other) same) ∙ b)
