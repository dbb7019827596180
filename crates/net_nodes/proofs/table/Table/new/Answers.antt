use Rattle.std.proofs.Common.{◌∙◌, map, sym, ap, subst}
use Rattle.net_nodes.specs.FirstPlaces.{IsOrderOf}
use Rattle.net_nodes.specs.Table.{no_exit}
use Rattle.net_nodes.proofs.table.Table.new.Goals as goal

pub invariant_of-result : goal.invariant_of-result
invariant_of-result c =
    subst (IsOrderOf c.in_ok-order.order.items) (ap (map no_exit) c.as_slice.ensures ∙ sym c.in_ok-places.ensures) c.in_ok-order.ensures
