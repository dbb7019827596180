use Rattle.std.proofs.Common.{◌≡◌, arith}
use Rattle.fabric_events.specs.Sizes.{first_order}
use Rattle.fabric_events.proofs.EarlyLemmas.{order_next, order_within, orders_past}
use Rattle.fabric_events.proofs.fabric.Fabric.next_order.Goals as goal

pub overflow_add-result : goal.overflow_add-result
overflow_add-result c =
    let at : c.orders-orders.result ≡ first_order c.args.sizes = c.orders-orders.ensures in
    let there = order_within c.args.self.now c.args.sizes c.requires.sound c.requires.sizes c.in-Some.c c.in-Some.ensures.here in
    omega arith

pub returns-in-Some-clause-within : goal.returns-in-Some-clause-within
returns-in-Some-clause-within c =
    let at : c.orders-orders.result ≡ first_order c.args.sizes = c.orders-orders.ensures in
    let there = order_within c.args.self.now c.args.sizes c.requires.sound c.requires.sizes c.in-Some.c c.in-Some.ensures.here in
    omega arith

pub returns-in-Some-clause-still : goal.returns-in-Some-clause-still
returns-in-Some-clause-still c =
    let first = c.requires.from in
    let at : c.orders-orders.result ≡ first_order c.args.sizes = c.orders-orders.ensures in
    order_next c.args.self.now c.args.sizes c.requires.sound c.requires.sizes c.orders-orders.result c.args.k c.in-Some.c at (omega arith) c.in-Some.ensures

pub returns-in-None-clause-still : goal.returns-in-None-clause-still
returns-in-None-clause-still c =
    let first = c.requires.from in
    let at : c.orders-orders.result ≡ first_order c.args.sizes = c.orders-orders.ensures in
    orders_past c.args.self.now c.args.sizes c.requires.sound c.requires.sizes c.orders-orders.result c.args.k at (omega arith) c.in-None.ensures
