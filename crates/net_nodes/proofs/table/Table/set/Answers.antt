use Rattle.std.proofs.Common.{◌≡◌, ◌<◌, List, length, Some, sym, subst}
use Rattle.net_nodes.specs.declared.table.Place.{Place}
use Rattle.net_nodes.proofs.FirstPlaceLemmas.{order_set}
use Rattle.net_nodes.proofs.TableLemmas.{exit_written, with_exit-none}
use Rattle.net_nodes.proofs.table.Table.set.Goals as goal

pub returns-in-Some : goal.returns-in-Some
returns-in-Some c =
    exit_written c.args.self.now c.self.inside.places.items c.args.epid c.args.port c.in-Some.at c.index_mut.result.now (cc) c.index_mut.ensures.value c.in-Some.ensures

pub returns-in-None : goal.returns-in-None
returns-in-None c = sym (with_exit-none c.args.self.now c.args.epid c.args.port c.in-None.ensures)

pub invariant_of-self : goal.invariant_of-self
invariant_of-self c =
    let same : c.self.inside.places.items ≡ c.args.self.now = cc in
    let here : c.in-Some.at < length c.self.inside.places.items = subst (λ (places : List Place). c.in-Some.at < length places) (sym same) c.in-Some.ensures.0 in
    order_set c.self.inside.order.items c.self.inside.places.items c.in-Some.at c.index_mut.result.now (Some c.args.port) c.index_mut.ensures.value here c.self.invariant
