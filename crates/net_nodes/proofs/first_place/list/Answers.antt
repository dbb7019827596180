use Rattle.std.proofs.Common.{◌≡◌, List, subst}
use Rattle.net_nodes.specs.FirstPlaces.{IsListedAt, IsGapFor}
use Rattle.net_nodes.specs.declared.first_place.FirstPlace.{FirstPlace}
use Rattle.net_nodes.proofs.FirstPlaceLemmas.{order_kept, order_more}
use Rattle.net_nodes.proofs.first_place.list.Goals as goal

pub returns-in_ok-insert : goal.returns-in_ok-insert
returns-in_ok-insert c = λ places len e.
    let same : c.as_slice.result.now ≡ c.args.order.now.items = cc in
    let gap : IsGapFor c.args.order.now.items c.args.epid c.in-Err.gap = subst (λ (xs : List FirstPlace). IsGapFor xs c.args.epid c.in-Err.gap) same c.in-Err.ensures.gap in
    rw c.in_ok-insert.ensures.items (order_more c.args.order.now.items c.args.epid c.in-Err.gap c.args.at gap places len e)

pub returns-in_default : goal.returns-in_default
returns-in_default c = λ places len e.
    let same : c.as_slice.result.now ≡ c.args.order.now.items = cc in
    let listed : IsListedAt c.args.order.now.items c.args.epid c.in_default.field-0 = subst (λ (xs : List FirstPlace). IsListedAt xs c.args.epid c.in_default.field-0) same c.in_default.ensures.found in
    order_kept c.args.order.now.items c.args.epid c.in_default.field-0 c.args.at listed places len e
