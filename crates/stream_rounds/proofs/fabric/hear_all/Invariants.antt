use Rattle.std.proofs.Common.{◌≡◌, ℕ, List}
use Rattle.std.specs.Prelude.{Option}
use Rattle.block_registers.specs.Registers.{Registers}
use Rattle.net_machine.specs.State.{State}
use Rattle.stream_rounds.specs.Between.{IsGoing}
use Rattle.stream_rounds.specs.Presents.{at}
use Rattle.stream_rounds.specs.Sides.{OutletSide}
use Rattle.stream_rounds.specs.Turns.{Hears}
use Rattle.stream_rounds.proofs.Turning.{UpTo}
use Rattle.stream_rounds.proofs.fabric.hear_all.Given as goal

-- the first of the lanes were heard
abbrev pub invariant-loop-i : goal.invariant-loop-i
invariant-loop-i l = record {
  hears : UpTo (Hears l.initial.net.present) l.i l.initial.intakes.items l.intakes.items;
  journal : l.net.journal ≡ l.initial.net.journal;
  sent : (t : ℕ) → (at l.net.present t).sent ≡ (at l.initial.net.present t).sent;
  going : (opened : State) → (banks : List (Option Registers)) → (outlets : List OutletSide)
      → IsGoing opened l.initial.net banks l.initial.intakes.items outlets → IsGoing opened l.net banks l.intakes.items outlets;
}
