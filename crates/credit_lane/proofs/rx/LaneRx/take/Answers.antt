use Rattle.std.proofs.Common.{rules, ap, ap₂, sym, subst, arith, ◌∙◌, ◌<◌, ◌+◌, ◌%◌, [], ℕ, length}
use Rattle.std.proofs.Common.{option_to_list}
use Rattle.atomic_table.specs.Table.{rest}
use Rattle.credit_lane.specs.Plays.{Seated, emptying, emptied, next_of}
use Rattle.credit_lane.specs.Planned.{IsNext}
use Rattle.credit_lane.specs.Sides.{TakeSide}
use Rattle.credit_lane.proofs.Ends.{held, taken_slot, read_value, takes_more, next_in_plan}
use Rattle.credit_lane.proofs.Ends.{beginning_planned}
use Rattle.credit_lane.proofs.Prefixes.{has_next}
use Rattle.credit_lane.proofs.Taking.{empty_keeps, release_keeps}
use Rattle.credit_lane.proofs.rx.LaneRx.take.Goals as goal

pub load-requires : goal.load-requires
load-requires c =
    let e = c.self.invariant.2 in
    let h = c.self.invariant.1 in
    let more = subst (λ (v : TakeSide). length v.got < length v.known)
    (sym c.self.view_is) c.requires.known in (
      c.self.invariant.0,
      omega (arith, h.words),
      empty_keeps _ _ _ _ (ap (λ m. m.0.takes) e.seat)
          (ap (λ m. m.0.empties) e.seat) more,
    )

pub exchange-packet-requires : goal.exchange-packet-requires
exchange-packet-requires c =
    let e = c.self.invariant.2 in
    let h = c.self.invariant.1 in
    let me = c.self.inside.seat.me in (
      search rules,
      (
        next_of me.0,
        taken_slot me _ _ _ _ _ c.load.ensures.2
            (ap₂ (λ (a b : ℕ). a % b) e.taken_is (c.from.ensures ∙ sym h.slots)),
      ),
    )

pub store-requires : goal.store-requires
store-requires c =
    let e = c.self.invariant.2 in
    let h = c.self.invariant.1 in
    let more = subst (λ (v : TakeSide). length v.got < length v.known)
    (sym c.self.view_is) c.requires.known in
    let me = c.self.inside.seat.me in let next = has_next me.0.put (length me.0.got) more in (
      search rules,
      omega (arith, h.words),
      release_keeps _ _ _ _ me.0 next.0 (c.self.inside.taken % c.from.result) _
          (held me _ _ _ _ _ _ _ c.exchange-packet.ensures.3 c.load.ensures.2 (ap (λ m. m.1) e.seat))
          (ap (λ m. m.0.takes) e.seat)
          (ap₂ (λ (a b : ℕ). a % b) e.taken_is (c.from.ensures ∙ sym h.slots))
          (ap (λ (z : ℕ). z + 1) e.taken_is) more next.1,
    )

pub invariant_of-self : goal.invariant_of-self
invariant_of-self c =
    let e = c.self.invariant.2 in
    let h = c.self.invariant.1 in
    let more = subst (λ (v : TakeSide). length v.got < length v.known)
    (sym c.self.view_is) c.requires.known in
    let me = c.self.inside.seat.me in
    let next = has_next me.0.put (length me.0.got) more in
    let empty = held me _ _ _ _ _ _ _ c.exchange-packet.ensures.3 c.load.ensures.2
    (ap (λ m. m.1) e.seat) in (
      search rules,
      h,
      takes_more _ _ _ _ me _ next.0 e
          (c.store.ensures.2 ∙ ap (λ (z : Seated).
          (emptied z.0 (option_to_list (next_of z.0)), rest z.1)) empty ∙ ap
          (λ o. (emptied (emptying me.0) (option_to_list o), [])) next.1)
          next.1 (omega (arith, e.taken_is, e.put_is, more)),
    )

pub returns-clause-plan : goal.returns-clause-plan
returns-clause-plan c =
    let e = c.self.invariant.2 in
    let me = c.self.inside.seat.me in
    let more = subst (λ (v : TakeSide). length v.got < length v.known)
    (sym c.self.view_is) c.requires.known in
    subst (λ (v : TakeSide). IsNext v.lane.plan v.got c.unwrap.result) c.self.view_is
    (next_in_plan _ me.0.put me.0.got c.unwrap.result e.planned
    (sym (read_value me _ _ _ _ _ _ c.exchange-packet.ensures.2 c.load.ensures.2)
    ∙ c.unwrap.ensures) more)

pub returns-clause-order : goal.returns-clause-order
returns-clause-order c = (invariant_of-self c).2.behind

pub returns-clause-planned : goal.returns-clause-planned
returns-clause-planned c = let after = (invariant_of-self c).2 in
    beginning_planned _ _ _ after.planned after.behind
