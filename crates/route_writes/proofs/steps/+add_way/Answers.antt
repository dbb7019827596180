use Rattle.route_writes.proofs.Adding.{AreAdded, added-down, added-none, added-up, on-ok}
use Rattle.route_writes.proofs.steps.+add_way.Goals as goal

pub returns-then-to_place-from_place : goal.returns-then-to_place-from_place
returns-then-to_place-from_place t c =
    let nodes = c.args.nodes.now in
    on-ok c.add_way.result _ (AreAdded nodes c.args.from c.args.to c.place_of-from_place.result c.place_of-to_place.result c.requires.from c.requires.to
    c.place_of-from_place.ensures c.place_of-to_place.ensures c.args.steps.now c.add_way.new.steps)
    (λ each. added-up nodes c.args.from c.args.to c.place_of-from_place.result c.place_of-to_place.result c.requires.from c.requires.to
    c.place_of-from_place.ensures c.place_of-to_place.ensures c.args.steps.now c.if-to_place-from_place.true c.push.new.self c.add_way.new.steps
    c.up.result c.up.ensures c.in_ok-push.ensures.ok each)
    c.add_way.ensures

pub returns-in_ok-push-2 : goal.returns-in_ok-push-2
returns-in_ok-push-2 t c =
    added-down c.args.nodes.now c.args.from c.args.to c.place_of-from_place.result c.place_of-to_place.result c.requires.from c.requires.to
    c.place_of-from_place.ensures c.place_of-to_place.ensures c.args.steps.now c.if-from_place-to_place.true c.add_way-then-from_place-to_place.new.steps
    c.push-then-from_place-to_place.new.self c.down.result c.down.ensures c.in_ok-push-2.ensures.ok c.in_ok-add_way.ensures

pub returns-else-from_place-to_place : goal.returns-else-from_place-to_place
returns-else-from_place-to_place t c =
    added-none c.args.nodes.now c.args.from c.args.to c.place_of-from_place.result c.place_of-to_place.result c.requires.from c.requires.to
    c.place_of-from_place.ensures c.place_of-to_place.ensures c.args.steps.now c.if-from_place-to_place.false c.if-to_place-from_place.false
