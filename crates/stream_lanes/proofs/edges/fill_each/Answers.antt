use Rattle.std.proofs.Common.{subst, slice_index_or, rules}
use Rattle.stream_lanes.specs.Working.{Fills}
use Rattle.stream_lanes.proofs.edges.fill_each.Goals as goal

pub returns : goal.returns
returns g c = record {
  count = search rules;
  each = λ i d lt.
      let at = (c.for_each_mut.ensures i d lt).1 in
      subst (λ x. Fills x (slice_index_or c.for_each_mut.new.s i d)) at.argument_is
      (subst (λ y. Fills at.argument.now y) at.left at.call);
}
