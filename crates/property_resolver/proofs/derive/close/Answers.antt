use Rattle.std.proofs.Common.{◌∙◌, ◌<◌, ◌-◌, ◌+◌, sym, arith}
use Rattle.property_resolver.specs.Work.{most_work}
use Rattle.property_resolver.proofs.Closing.{closing_start, closing_done, closing_cost, closing_cost_more, closing_next, closing_small, closing_more}
use Rattle.property_resolver.proofs.derive.close.Goals as goal

pub loop-at-init : goal.loop-at-init
loop-at-init g c = closing_start c.args.graph.now.diagram c.args.values.now c.args.steps.now c.requires.derived c.requires.users

pub loop-at-preserved : goal.loop-at-preserved
loop-at-preserved g c =
    let e = c.in_ok-spread.ensures in
    closing_more c.args.graph.now.diagram c.loop-at.values c.loop-at.next c.args.steps.now c.loop-at.steps c.loop-at.invariant c.requires.diagram c.in-Some.at c.in-Some.value
    (sym c.pair.ensures ∙ c.in-Some.is) c.spread.new.values c.spread.new.steps e.grows e.spread e.rises e.cost

pub returns-in_err-spread-clause-cost : goal.returns-in_err-spread-clause-cost
returns-in_err-spread-clause-cost g c =
    closing_cost_more c.args.graph.now.diagram c.loop-at.values c.loop-at.next c.args.steps.now c.loop-at.steps c.loop-at.invariant c.requires.diagram c.in-Some.at c.in-Some.value
    (sym c.pair.ensures ∙ c.in-Some.is) c.spread.new.steps c.in_err-spread.ensures.cost

pub overflow_add-next : goal.overflow_add-next
overflow_add-next g c =
    let small = closing_small c.args.graph.now.diagram c.loop-at.values c.loop-at.next c.args.steps.now c.loop-at.steps c.loop-at.invariant c.requires.diagram c.in-Some.at c.in-Some.value
    (sym c.pair.ensures ∙ c.in-Some.is) in
    omega arith

pub loop-at-smaller : goal.loop-at-smaller
loop-at-smaller g c =
    let d = c.args.graph.now.diagram in
    let below = closing_next d c.loop-at.values c.loop-at.next c.args.steps.now c.loop-at.steps c.loop-at.invariant c.requires.diagram c.in-Some.at c.in-Some.value
    (sym c.pair.ensures ∙ c.in-Some.is) in
    let falls : most_work d - (c.loop-at.next + 1) < most_work d - c.loop-at.next = omega arith in
    falls

pub returns-clause-closed : goal.returns-clause-closed
returns-clause-closed g c = closing_done c.args.graph.now.diagram c.loop-at.values c.loop-at.next c.args.steps.now c.loop-at.steps c.loop-at.invariant (sym c.pair.ensures ∙ c.in_default.is)

pub returns-clause-cost : goal.returns-clause-cost
returns-clause-cost g c = closing_cost c.args.graph.now.diagram c.loop-at.values c.loop-at.next c.args.steps.now c.loop-at.steps c.loop-at.invariant c.requires.diagram
