use Rattle.std.proofs.Common.{◌+◌, ◌≤◌, List, length, sym, ◌∙◌, ap, arith}
use Rattle.std.specs.Prelude.{slice_get}
use Rattle.std.specs.List.{filter}
use Rattle.net_machine.specs.declared.event.Event.{Event}
use Rattle.fabric_events.specs.declared.candidates.Sizes.{Sizes}
use Rattle.fabric_events.specs.Choosing.{doable_now}
use Rattle.fabric_events.specs.Fabrics.{present_of}
use Rattle.fabric_events.specs.Sizes.{candidates_in}
use Rattle.fabric_events.proofs.fabric.Fabric.nth_doable.Goals as goal
use Rattle.fabric_events.proofs.fabric.Fabric.nth_doable.Goals.{then-doable+else-passed-place, else-doable}
use Rattle.fabric_events.proofs.ChoosingLemmas.{counts_more, counts_same, is_at, list_is, none_left, skips}

pub loop-k-init : goal.loop-k-init
loop-k-init c = (
  sym (skips (doable_now (present_of c.args.self.now)) (candidates_in c.args.sizes) 0 c.next_place-k.result (omega arith) c.next_place-k.ensures.still),
  (omega arith, c.next_place-k.ensures.within),
)

pub returns-then-passed-place : goal.returns-then-passed-place
returns-then-passed-place c =
    let p = present_of c.args.self.now in
    is_at (doable_now p) (candidates_in c.args.sizes) c.loop-k.k c.args.place c.event-event.result c.event-event.ensures
    (sym c.if-doable.ensures) (sym c.if-passed-place.true ∙ c.loop-k.invariant.0)
    ∙ ap (λ (s : Sizes). slice_get (filter (doable_now p) (candidates_in s)) c.args.place) c.requires.sizes
    ∙ ap (λ (es : List Event). slice_get es c.args.place) (sym (list_is p))

pub overflow_add-passed : goal.overflow_add-passed
overflow_add-passed c =
    let few = c.loop-k.invariant.1.0 in
    let place = c.ranges.place in
    omega arith

pub loop-k-preserved : goal.loop-k-preserved
loop-k-preserved c =
    let test = doable_now (present_of c.args.self.now) in
    let events = candidates_in c.args.sizes in
    let few = c.loop-k.invariant.1.0 in
    let on = skips test events (c.loop-k.k + 1) c.next_place-k-in-loop-k.result c.next_place-k-in-loop-k.ensures.from c.next_place-k-in-loop-k.ensures.still in
    elim c.if-doable.branch [
      | then-doable+else-passed-place w ↦
          let other = w.if-passed-place.false in
          let is = w.passed-is in (
            is ∙ counts_more test events c.loop-k.k c.loop-k.passed c.event-event.result c.event-event.ensures c.loop-k.invariant.0
                (sym w.if-doable.ensures) ∙ sym on,
            (omega arith, c.next_place-k-in-loop-k.ensures.within),
          )
      | else-doable w ↦
          let is = w.passed-is in (
            is ∙ counts_same test events c.loop-k.k c.loop-k.passed c.event-event.result c.event-event.ensures c.loop-k.invariant.0
                (sym w.if-doable.ensures) ∙ sym on,
            (omega arith, c.next_place-k-in-loop-k.ensures.within),
          )
    ]

pub returns : goal.returns
returns c =
    let p = present_of c.args.self.now in
    let all : length (candidates_in c.args.sizes) ≤ c.loop-k.k =
    (let past = c.loop-k-test.false in let count = c.count.ensures.all in omega arith) in
    none_left (doable_now p) (candidates_in c.args.sizes) c.loop-k.k c.loop-k.passed c.args.place all c.loop-k.invariant.0 c.loop-k.invariant.1.0
    ∙ ap (λ (s : Sizes). slice_get (filter (doable_now p) (candidates_in s)) c.args.place) c.requires.sizes
    ∙ ap (λ (es : List Event). slice_get es c.args.place) (sym (list_is p))
