use Rattle.std.proofs.Common.{◌+◌, ◌≤◌, List, length, sym, ◌∙◌, ap, arith}
use Rattle.std.specs.List.{filter}
use Rattle.net_machine.specs.declared.event.Event.{Event}
use Rattle.fabric_events.specs.declared.candidates.Sizes.{Sizes}
use Rattle.fabric_events.specs.Choosing.{doable_now}
use Rattle.fabric_events.specs.Fabrics.{present_of}
use Rattle.fabric_events.specs.Sizes.{candidates_in}
use Rattle.fabric_events.proofs.fabric.Fabric.count_doable.Goals as goal
use Rattle.fabric_events.proofs.fabric.Fabric.count_doable.Goals.{then-doable, else-doable}
use Rattle.fabric_events.proofs.ChoosingLemmas.{counts_more, counts_same, list_is, passes_all, skips}

pub loop-k-init : goal.loop-k-init
loop-k-init c = (
  sym (skips (doable_now (present_of c.args.self.now)) (candidates_in c.args.sizes) 0 c.next_place-k.result (omega arith) c.next_place-k.ensures.still),
  (omega arith, c.next_place-k.ensures.within),
)

pub overflow_add-count : goal.overflow_add-count
overflow_add-count c =
    let few = c.loop-k.invariant.1.0 in
    let there = c.loop-k-test.true in
    let fits = c.count.type_inv in
    omega arith

pub loop-k-preserved : goal.loop-k-preserved
loop-k-preserved c =
    let test = doable_now (present_of c.args.self.now) in
    let events = candidates_in c.args.sizes in
    let few = c.loop-k.invariant.1.0 in
    let next = c.next_place-k-in-loop-k.result in
    let on = skips test events (c.loop-k.k + 1) next c.next_place-k-in-loop-k.ensures.from c.next_place-k-in-loop-k.ensures.still in
    let from = c.next_place-k-in-loop-k.ensures.from in
    elim c.if-doable.branch [
      | then-doable w ↦
          let is = w.count-is in (
            is ∙ counts_more test events c.loop-k.k c.loop-k.count c.event.result c.event.ensures c.loop-k.invariant.0
                (sym w.if-doable.ensures) ∙ sym on,
            (omega arith, c.next_place-k-in-loop-k.ensures.within),
          )
      | else-doable w ↦
          let is = w.count-is in (
            is ∙ counts_same test events c.loop-k.k c.loop-k.count c.event.result c.event.ensures c.loop-k.invariant.0
                (sym w.if-doable.ensures) ∙ sym on,
            (omega arith, c.next_place-k-in-loop-k.ensures.within),
          )
    ]

pub returns : goal.returns
returns c =
    let p = present_of c.args.self.now in
    let all : length (candidates_in c.args.sizes) ≤ c.loop-k.k =
    (let past = c.loop-k-test.false in let count = c.count.ensures.all in omega arith) in
    passes_all (doable_now p) (candidates_in c.args.sizes) c.loop-k.k c.loop-k.count all c.loop-k.invariant.0
    ∙ ap (λ (s : Sizes). length (filter (doable_now p) (candidates_in s))) c.requires.sizes
    ∙ ap (λ (es : List Event). length es) (sym (list_is p))
