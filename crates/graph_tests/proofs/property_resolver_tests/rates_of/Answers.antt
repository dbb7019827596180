use Rattle.std.proofs.Common.{◌≡◌, ◌∙◌, ℕ, ap, sym, List, Option, Contains}
use Rattle.graph_core.specs.declared.place.Edge.{Edge}
use Rattle.graph_core.specs.declared.place.Prop.TheVariants.{Rate}
use Rattle.graph_core.specs.declared.place.PropAt.{PropAt}
use Rattle.graph_core.specs.declared.place.Side.TheVariants.{Into, Out}
use Rattle.graph_core.specs.Derivation.{IsClosed, property_at}
use Rattle.graph_core.specs.Pairs.{Pair, value_of}
use Rattle.graph_core.specs.State.{State, with_values}
use Rattle.graph_core.proofs.Laws.{edges_show}
use Rattle.graph_tests.proofs.property_resolver_tests.rates_of.Goals as goal

-- what is read at both ends of an edge, after values were committed that are closed
same_rates : (old new : State) (values : List Pair) (edge : Edge) (out into : PropAt) (near far : Option ℕ) → IsClosed old.diagram values → Contains old.diagram.edges edge → new ≡ with_values old values
    → out ≡ property_at Out edge.from Rate → into ≡ property_at Into edge.to Rate → near ≡ value_of new.committed out → far ≡ value_of new.committed into → near ≡ far
same_rates old new values edge out into near far closed there changed a b e f =
    e
    ∙ ap (λ (at : PropAt). value_of new.committed at) a
    ∙ ap (λ (s : State). value_of s.committed (property_at Out edge.from Rate)) changed
    ∙ edges_show old.diagram values closed edge there Rate
    ∙ sym (ap (λ (s : State). value_of s.committed (property_at Into edge.to Rate)) changed)
    ∙ sym (ap (λ (at : PropAt). value_of new.committed at) b)
    ∙ sym f

pub returns : goal.returns
returns g c =
    let done = c.in_ok-commit.ensures.committed in
    same_rates c.args.graph.now c.commit.new.graph done.values c.args.edge c.property.result c.property-2.result c.value-out.result c.value-into.result done.settles.closed c.requires done.changed
    c.property.ensures c.property-2.ensures c.value-out.ensures.value c.value-into.ensures.value
