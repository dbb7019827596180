use Rattle.std.proofs.Common.{◌≡◌, ℕ, ◌<◌, List, length, get_or}
use mathlib.Core.List.{IsPrefix}
use Rattle.net_machine.specs.State.{State}
use Rattle.stream_rounds.specs.Between.{IsGoing}
use Rattle.stream_rounds.specs.Presents.{at}
use Rattle.stream_rounds.specs.Sides.{IntakeSide, OutletSide}
use Rattle.stream_rounds.specs.Turns.{Looks}
use Rattle.stream_rounds.proofs.Turning.{UpTo}
use Rattle.stream_rounds.proofs.fabric.look_all.Given as goal

-- the first of the lanes were looked at, and are caught up
abbrev pub invariant-loop-i : goal.invariant-loop-i
invariant-loop-i g l = record {
  looks : UpTo Looks l.i l.initial.outlets.items l.outlets.items;
  journal : IsPrefix l.initial.net.journal l.net.journal;
  going : (opened : State) → (intakes : List IntakeSide)
      → IsGoing opened l.initial.net (g.B.RegisterSlots.slots l.initial.banks) intakes l.initial.outlets.items
      → IsGoing opened l.net (g.B.RegisterSlots.slots l.banks) intakes l.outlets.items;
  caught : (opened : State) → (intakes : List IntakeSide)
      → IsGoing opened l.initial.net (g.B.RegisterSlots.slots l.initial.banks) intakes l.initial.outlets.items
      → (j : ℕ) (d : OutletSide) → j < l.i → j < length l.outlets.items
      → (at l.net.present (get_or l.outlets.items j d).stream).taken ≡ (get_or l.outlets.items j d).tx.taken;
}
