use Rattle.std.proofs.Common.{ap, sym, arith, ◌∙◌}
use Rattle.credit_lane.proofs.Seats.{taker_parts, unite_keeps, take_over_keeps}
use Rattle.credit_lane.proofs.Taking.{compare_keeps}
use Rattle.credit_lane.proofs.both.meet.Goals as goal

pub split_seat-taker-requires : goal.split_seat-taker-requires
split_seat-taker-requires c = let same = ap (λ v. v.lane) c.tx.view_is ∙ c.requires ∙ sym
    (ap (λ v. v.lane) c.rx.view_is) in (
      c.rx.invariant.0 ∙ sym (ap (λ l. l.table) same),
      omega (arith, c.tx.invariant.1.words),
      taker_parts _ _ _ (ap (λ m. m.0.takes) c.rx.invariant.2.seat),
    )

pub join_seat-requires : goal.join_seat-requires
join_seat-requires c =
    let same = ap (λ v. v.lane) c.tx.view_is ∙ c.requires ∙ sym (ap (λ v. v.lane) c.rx.view_is) in
    let part = c.split_seat-taker.ensures in (
      c.tx.invariant.0,
      part.3 ∙ c.rx.invariant.0 ∙ sym (ap (λ l. l.table) same),
      ap (λ m. m.1) part.4,
      omega (arith, c.tx.invariant.1.words),
      unite_keeps _ _ _ _ _ (ap (λ m. m.0.puts) c.tx.invariant.2.seat)
          (ap (λ m. m.0.takes) part.4 ∙ ap (λ m. m.0.takes) c.rx.invariant.2.seat),
    )

pub load-tx-inside-requires : goal.load-tx-inside-requires
load-tx-inside-requires c = let part = c.split_seat-taker.ensures in let both = c.join_seat.ensures in (
  both.0 ∙ c.tx.invariant.0,
  omega (arith, c.tx.invariant.1.words),
  compare_keeps _ _ _ _ (ap (λ m. m.0.puts) both.2 ∙ ap (λ m. m.0.puts) c.tx.invariant.2.seat)
      (ap (λ m. m.0.takes) both.2 ∙ ap (λ m. m.0.takes) part.4 ∙ ap
      (λ m. m.0.takes) c.rx.invariant.2.seat),
)

pub split_seat-taker-requires-2 : goal.split_seat-taker-requires-2
split_seat-taker-requires-2 c =
    let part = c.split_seat-taker.ensures in
    let both = c.join_seat.ensures in
    let told = c.load-tx-inside.ensures in (
      told.0 ∙ both.0 ∙ c.tx.invariant.0,
      omega (arith, c.tx.invariant.1.words),
      taker_parts _ _ _ (ap (λ m. m.0.takes) told.2.0 ∙ ap (λ m. m.0.takes) both.2 ∙ ap
          (λ m. m.0.takes) part.4 ∙ ap (λ m. m.0.takes) c.rx.invariant.2.seat),
    )

pub join_seat-requires-2 : goal.join_seat-requires-2
join_seat-requires-2 c = let same = ap (λ v. v.lane) c.tx.view_is ∙ c.requires ∙ sym
    (ap (λ v. v.lane) c.rx.view_is) in
    let part = c.split_seat-taker.ensures in
    let both = c.join_seat.ensures in
    let told = c.load-tx-inside.ensures in
    let again = c.split_seat-taker-2.ensures in (
      part.0 ∙ c.rx.invariant.0 ∙ sym (ap (λ l. l.table) same),
      again.3 ∙ told.0 ∙ both.0 ∙ c.tx.invariant.0,
      ap (λ m. m.1) again.4,
      omega (arith, c.tx.invariant.1.words),
      take_over_keeps _ _ _ _ _ (ap (λ m. m.0.puts) again.4)
          (ap (λ m. m.0.takes) again.4 ∙ ap (λ m. m.0.takes) told.2.0 ∙ ap (λ m. m.0.takes) both.2 ∙ ap
          (λ m. m.0.takes) part.4 ∙ ap (λ m. m.0.takes) c.rx.invariant.2.seat),
    )
