use Rattle.std.proofs.Common.{refl, arith}
use Rattle.route_writes.specs.declared.steps.Step.{Step}
use Rattle.route_writes.specs.Writes.{Desk}
use Rattle.route_writes.proofs.Along.{can-go, few, goes-all, goes-first, was-lost, went-on}
use Rattle.route_writes.proofs.writes.write_along.Goals as goal

-- what stands for a step that isn't there
abbrev no-step : Step
no-step = record { port = 0; node = 0; arrival = 0 }

pub loop-index-init : goal.loop-index-init
loop-index-init g c =
    let old : Desk = record { net = c.args.net.now; banks = g.B.RegisterSlots.slots c.args.banks.now } in
    record {
      on = goes-first c.args.net.now.present.tree c.args.nodes.now c.args.ends c.args.steps.now c.requires.planned old refl c.requires.settled;
      number = refl;
    }

pub write_at-requires-clause-settled : goal.write_at-requires-clause-settled
write_at-requires-clause-settled g c = c.loop-index.invariant.on.asked.settled

pub write_at-requires-clause-crossing : goal.write_at-requires-clause-crossing
write_at-requires-clause-crossing g c =
    let old : Desk = record { net = c.args.net.now; banks = g.B.RegisterSlots.slots c.args.banks.now } in
    let now : Desk = record { net = c.loop-index.net; banks = g.B.RegisterSlots.slots c.loop-index.banks } in
    can-go c.args.net.now.present.tree c.args.nodes.now c.args.ends c.args.steps.now c.requires.planned old refl c.requires.settled
    c.loop-index.index c.loop-index.count now (omega arith) (omega arith) no-step c.loop-index.invariant.on

pub returns-then-not-came : goal.returns-then-not-came
returns-then-not-came g c =
    let old : Desk = record { net = c.args.net.now; banks = g.B.RegisterSlots.slots c.args.banks.now } in
    let now : Desk = record { net = c.loop-index.net; banks = g.B.RegisterSlots.slots c.loop-index.banks } in
    let next : Desk = record { net = c.write_at.new.net; banks = g.B.RegisterSlots.slots c.write_at.new.banks } in
    was-lost c.args.net.now.present.tree c.args.nodes.now c.args.ends c.args.steps.now c.requires.planned old refl c.requires.settled
    c.loop-index.index c.loop-index.count no-step c.in_ok-came.came now next (omega arith) (omega arith) c.loop-index.invariant.on c.in_ok-came.ensures c.if-not-came.true

pub overflow_add-count : goal.overflow_add-count
overflow_add-count g c =
    let bound = few c.args.net.now.present.tree c.args.nodes.now c.args.ends c.args.steps.now c.requires.planned in
    let number = c.loop-index.invariant.number in
    omega (arith, bound, number)

pub loop-index-preserved : goal.loop-index-preserved
loop-index-preserved g c =
    let old : Desk = record { net = c.args.net.now; banks = g.B.RegisterSlots.slots c.args.banks.now } in
    let now : Desk = record { net = c.loop-index.net; banks = g.B.RegisterSlots.slots c.loop-index.banks } in
    let next : Desk = record { net = c.write_at.new.net; banks = g.B.RegisterSlots.slots c.write_at.new.banks } in
    let number = c.loop-index.invariant.number in
    record {
      on = went-on c.args.net.now.present.tree c.args.nodes.now c.args.ends c.args.steps.now c.requires.planned old refl c.requires.settled
          c.loop-index.index c.loop-index.count no-step c.in_ok-came.came now next (omega arith) (omega arith) c.loop-index.invariant.on c.in_ok-came.ensures c.if-not-came.false;
      number = omega (arith, number);
    }

pub returns : goal.returns
returns g c =
    let old : Desk = record { net = c.args.net.now; banks = g.B.RegisterSlots.slots c.args.banks.now } in
    let now : Desk = record { net = c.loop-index.net; banks = g.B.RegisterSlots.slots c.loop-index.banks } in
    goes-all c.args.net.now.present.tree c.args.nodes.now c.args.ends c.args.steps.now c.requires.planned old refl c.requires.settled
    c.loop-index.index c.loop-index.count now (omega arith) c.loop-index.invariant.on
