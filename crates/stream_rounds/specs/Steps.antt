-- How a net goes on by its events.
use Rattle.std.specs.Prelude.{◌≡◌, ℕ, ◌++◌, [], ◌∷◌, IsTrue, List, Option, MatchBool}
use Rattle.block_registers.specs.Registers.{Registers}
use Rattle.net_machine.specs.declared.event.Event.{Event}
use Rattle.net_machine.specs.declared.event.Event.TheVariants.{Seen}
use Rattle.net_machine.specs.Effects.{after}
use Rattle.net_machine.specs.Laws.{IsTaking}
use Rattle.net_machine.specs.State.{State}
use Rattle.net_present.specs.Onward.{goes_on}
use Rattle.fabric_events.specs.Choosing.{doable_now}
use Rattle.fabric_net.specs.NetView.{NetSeen}
use Rattle.fabric_net.specs.Standing.{StandsFor}

-- event e can happen and happens, with these registers before it and after it
pub record IsStepped (e : Event) (old new : NetSeen) (before banks : List (Option Registers)) : Type 0 where
  pub can : IsTrue (doable_now old.present e)
  pub present : new.present ≡ (goes_on e (record { present = old.present; banks = before })).present
  pub machine : (w : State) → StandsFor old.present w → w.banks ≡ before
      → StandsFor new.present (after w e) × ((after w e).banks ≡ banks)
  pub journal : new.journal ≡ old.journal ++ e ∷ []

-- nothing happens
pub record Stays (old new : NetSeen) (before banks : List (Option Registers)) : Type 0 where
  pub present : new.present ≡ old.present
  pub journal : new.journal ≡ old.journal
  pub slots : banks ≡ before

-- events happen, one after another, and none of them is a taking
pub data Goes (first : NetSeen) (before : List (Option Registers)) : NetSeen → List (Option Registers) → Type 0 where
  none : {new : NetSeen} {banks : List (Option Registers)} → Stays first new before banks → Goes first before new banks
  more : {old new : NetSeen} {mid banks : List (Option Registers)} (e : Event) → Goes first before old mid
      → (IsTaking e → ⊥) → IsStepped e old new mid banks → Goes first before new banks

-- the Rx of stream s takes all up to packet n, if it can, and else nothing happens
abbrev pub Sees : ℕ → ℕ → NetSeen → NetSeen → List (Option Registers) → List (Option Registers) → Type 0
Sees s n old new before banks =
    MatchBool (doable_now old.present (Seen s n)) (IsStepped (Seen s n) old new before banks) (Stays old new before banks)
