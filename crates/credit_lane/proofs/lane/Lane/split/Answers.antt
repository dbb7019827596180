use Rattle.std.proofs.Common.{rules, ap, sym, subst, arith, ◌≡◌, ◌∙◌, [], true}
use Rattle.credit_lane.specs.Plays.{Seated}
use Rattle.credit_lane.specs.Rule.{putter_of, taker_of}
use Rattle.credit_lane.specs.Sides.{Unsplit}
use Rattle.credit_lane.proofs.Ends.{puts_first, takes_first}
use Rattle.credit_lane.proofs.Seats.{taker_parts, putter_parts}
use Rattle.credit_lane.proofs.lane.Lane.split.Goals as goal

pub split_seat-taker-requires : goal.split_seat-taker-requires
split_seat-taker-requires c = let whole = subst (λ (v : Unsplit). v.whole ≡ true)
    (sym c.self.view_is) c.requires in let seat = c.self.invariant.2 whole in (
      c.self.invariant.0,
      omega (arith, c.self.invariant.1.words),
      taker_parts _ _ _
          (ap (λ m. m.0.takes) seat),
    )

pub split_seat-putter-requires : goal.split_seat-putter-requires
split_seat-putter-requires c = let whole = subst (λ (v : Unsplit). v.whole ≡ true)
    (sym c.self.view_is) c.requires in (
      search rules,
      omega (arith, c.self.invariant.1.words),
      putter_parts _ _ _
          (ap (λ m. m.0.puts) c.split_seat-taker.ensures.2 ∙ whole),
    )

pub invariant_of-tx : goal.invariant_of-tx
invariant_of-tx c =
    let whole = subst (λ (v : Unsplit). v.whole ≡ true) (sym c.self.view_is) c.requires in
    let seat = c.self.invariant.2 whole in (
      search rules,
      c.self.invariant.1,
      puts_first _ _ _ (c.split_seat-putter.ensures.4 ∙ ap
          (λ (z : Seated). (putter_of z.0, [])) c.split_seat-taker.ensures.2 ∙ ap
          (λ (z : Seated). (putter_of (putter_of z.0), [])) seat),
    )

pub invariant_of-rx : goal.invariant_of-rx
invariant_of-rx c =
    let whole = subst (λ (v : Unsplit). v.whole ≡ true) (sym c.self.view_is) c.requires in
    let seat = c.self.invariant.2 whole in (
      search rules,
      c.self.invariant.1,
      takes_first _ _ _ (c.split_seat-taker.ensures.4 ∙ ap (λ (z : Seated). (taker_of z.0, [])) seat),
    )
