use Rattle.std.proofs.Common.{rules, ap, ap₂, sym, subst, arith, ◌∙◌, ◌<◌, ◌+◌, ◌%◌, ℕ, length}
use Rattle.atomic_table.specs.Table.{rest}
use Rattle.credit_lane.specs.Planned.{IsNext}
use Rattle.credit_lane.specs.Plays.{Seated, filled, in_hand}
use Rattle.credit_lane.specs.Sides.{PutSide}
use Rattle.credit_lane.proofs.Ends.{held, puts_more}
use Rattle.credit_lane.proofs.Putting.{fill_keeps, publish_keeps}
use Rattle.credit_lane.proofs.tx.LaneTx.put.Goals as goal

pub load-requires : goal.load-requires
load-requires c =
    let e = c.self.invariant.2 in
    let h = c.self.invariant.1 in
    let room = subst (λ (v : PutSide). length v.put < v.lane.room + v.taken)
    (sym c.self.view_is) c.requires.room in (
      c.self.invariant.0,
      omega (arith, h.words),
      fill_keeps _ _ _ _ (ap (λ m. m.0.puts) e.seat)
          (ap (λ m. m.0.fills) e.seat) (omega (arith, e.taken_is, h.slots, room)),
    )

pub store-requires : goal.store-requires
store-requires c =
    let e = c.self.invariant.2 in
    let h = c.self.invariant.1 in
    let room = subst (λ (v : PutSide). length v.put < v.lane.room + v.taken)
    (sym c.self.view_is) c.requires.room in
    let me = c.self.inside.seat.me in (
      search rules,
      omega (arith, h.words),
      publish_keeps _ _ _ _ me.0 c.args.packet (c.self.inside.put % c.from.result) _
          (held me _ _ _ _ _ _ _ c.exchange.ensures.3 c.load.ensures.2 (ap (λ m. m.1) e.seat))
          (ap (λ m. m.0.puts) e.seat)
          (ap₂ (λ (a b : ℕ). a % b) e.put_is (c.from.ensures ∙ sym h.slots))
          (ap (λ (z : ℕ). z + 1) e.put_is) (omega (arith, e.taken_is, h.slots, room))
          (subst (λ (v : PutSide). IsNext v.lane.plan v.put c.args.packet)
          (sym c.self.view_is) c.requires.plan),
    )

pub invariant_of-self : goal.invariant_of-self
invariant_of-self c =
    let e = c.self.invariant.2 in
    let h = c.self.invariant.1 in
    let room = subst (λ (v : PutSide). length v.put < v.lane.room + v.taken)
    (sym c.self.view_is) c.requires.room in
    let me = c.self.inside.seat.me in
    let full = held me _ _ _ _ _ _ _ c.exchange.ensures.3 c.load.ensures.2 (ap (λ m. m.1) e.seat) in (
      search rules,
      h,
      puts_more _ _ _ _ me _ c.args.packet e
          (c.store.ensures.2 ∙ ap (λ (z : Seated). (filled z.0 (in_hand z.1), rest z.1)) full)
          (omega (arith, e.taken_is, e.put_is, room))
          (subst (λ (v : PutSide). IsNext v.lane.plan v.put c.args.packet)
          (sym c.self.view_is) c.requires.plan),
    )

pub returns-clause-plan : goal.returns-clause-plan
returns-clause-plan c = (invariant_of-self c).2.planned
