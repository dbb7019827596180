-- What was given on a stream to an Rx only grows, and so does what waits for the consumer.
use Rattle.std.specs.Prelude.{◌≡◌, ℕ, true, IsTrue, List, ◌++◌}
use Rattle.chdr_packets.specs.declared.packet.Packet.{Packet}
use Rattle.net_machine.specs.declared.event.Event.{Event}
use Rattle.net_machine.specs.declared.event.Event.TheVariants.{Ask, Command, Enter, Feed, Hop, Lose, Reply, Report, Seen}
use Rattle.net_machine.specs.Conditions.{enabled, ends_at_rx}
use Rattle.net_machine.specs.Effects.{after}
use Rattle.net_machine.specs.State.{State, stream_at}
use Rattle.net_present.specs.Fits.{FitsPresent}
use Rattle.net_present.specs.Kept.{now_at}
use Rattle.net_present.specs.Laws.{IsHeld}
use Rattle.net_present.specs.Onward.{Held, goes_on}

-- an event isn't a consumer's taking of stream s
abbrev pub IsNoTakingOf : Event → ℕ → Type 0
IsNoTakingOf (Enter t) s = Unit {0}
IsNoTakingOf (Command t op) s = Unit {0}
IsNoTakingOf (Report t) s = Unit {0}
IsNoTakingOf (Seen t n) s = t ≡ s → ⊥
IsNoTakingOf (Feed b i) s = Unit {0}
IsNoTakingOf (Ask x) s = Unit {0}
IsNoTakingOf (Reply x) s = Unit {0}
IsNoTakingOf (Lose q) s = Unit {0}
IsNoTakingOf (Hop q) s = Unit {0}

-- After event e stream s has these packets more, in the state and of those that wait in the present. In both as
-- many are taken as before.
pub record Grows (h : Held) (w : State) (e : Event) (s : ℕ) : Type 0 where
  pub more : List Packet
  pub given : (stream_at (after w e) s).given ≡ (stream_at w s).given ++ more
  pub waiting : (now_at (goes_on e h).present.streams s).waiting ≡ (now_at h.present.streams s).waiting ++ more
  pub taken : (stream_at (after w e) s).taken ≡ (stream_at w s).taken
  pub taken_now : (now_at (goes_on e h).present.streams s).taken ≡ (now_at h.present.streams s).taken

-- A stream to an Rx grows so at each enabled event that isn't a taking of it.
abbrev pub GivenGrows : Type 0
GivenGrows = (h : Held) (w : State) (e : Event) (s : ℕ) → IsHeld h w → FitsPresent w → IsTrue (enabled w e)
    → ends_at_rx w.plan s ≡ true → IsNoTakingOf e s → Grows h w e s
