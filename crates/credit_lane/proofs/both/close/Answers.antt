use Rattle.std.proofs.Common.{ap, sym, arith, ◌∙◌}
use Rattle.credit_lane.proofs.Seats.{unite_keeps}
use Rattle.credit_lane.proofs.Taking.{compare_keeps}
use Rattle.credit_lane.proofs.both.close.Goals as goal

pub join_seat-requires : goal.join_seat-requires
join_seat-requires c = let same = ap (λ v. v.lane) c.tx.view_is ∙ c.requires ∙ sym
    (ap (λ v. v.lane) c.rx.view_is) in (
      c.tx.invariant.0,
      c.rx.invariant.0 ∙ sym (ap (λ l. l.table) same),
      ap (λ m. m.1) c.rx.invariant.2.seat,
      omega (arith, c.tx.invariant.1.words),
      unite_keeps _ _ _ _ _ (ap (λ m. m.0.puts) c.tx.invariant.2.seat)
          (ap (λ m. m.0.takes) c.rx.invariant.2.seat),
    )

pub load-requires : goal.load-requires
load-requires c = let both = c.join_seat.ensures in (
  both.0 ∙ c.tx.invariant.0,
  omega (arith, c.tx.invariant.1.words),
  compare_keeps _ _ _ _ (ap (λ m. m.0.puts) both.2 ∙ ap (λ m. m.0.puts) c.tx.invariant.2.seat)
      (ap (λ m. m.0.takes) both.2 ∙ ap (λ m. m.0.takes) c.rx.invariant.2.seat),
)
