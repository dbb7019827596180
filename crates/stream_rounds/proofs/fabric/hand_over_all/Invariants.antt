use Rattle.std.proofs.Common.{◌≡◌, ℕ, ◌<◌, List, [], length, get_or}
use Rattle.std.specs.Prelude.{Option}
use Rattle.block_registers.specs.Registers.{Registers}
use Rattle.net_machine.specs.State.{State}
use Rattle.fabric_events.specs.Choosing.{doable_list}
use Rattle.stream_rounds.specs.Between.{IsGoing}
use Rattle.stream_rounds.specs.Presents.{at}
use Rattle.stream_rounds.specs.Sides.{IntakeSide, OutletSide}
use Rattle.stream_rounds.specs.Turns.{Hands}
use Rattle.stream_rounds.proofs.Turning.{UpTo}
use Rattle.stream_rounds.proofs.fabric.hand_over_all.Given as goal

-- what waited for the first of the lanes was put
abbrev pub invariant-loop-i : goal.invariant-loop-i
invariant-loop-i l = record {
  hands : UpTo Hands l.i l.initial.outlets.items l.outlets.items;
  journal : l.net.journal ≡ l.initial.net.journal;
  none : (j : ℕ) (d : OutletSide) → j < l.i → j < length l.outlets.items → (at l.net.present (get_or l.outlets.items j d).stream).waiting ≡ [];
  going : (opened : State) → (banks : List (Option Registers)) → (intakes : List IntakeSide)
      → IsGoing opened l.initial.net banks intakes l.initial.outlets.items → IsGoing opened l.net banks intakes l.outlets.items;
  taken : (s : ℕ) → (at l.net.present s).taken ≡ (at l.initial.net.present s).taken;
  settled : doable_list l.net.present ≡ doable_list l.initial.net.present;
}
