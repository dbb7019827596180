-- What a consumer's taking leaves of each stream.
use Rattle.std.specs.Prelude.{◌≡◌, ℕ, IsTrue}
use Rattle.net_machine.specs.declared.event.Event.TheVariants.{Seen}
use Rattle.net_machine.specs.Conditions.{enabled}
use Rattle.net_machine.specs.Effects.{after}
use Rattle.net_machine.specs.State.{State, stream_at}
use Rattle.net_present.specs.Kept.{now_at}
use Rattle.net_present.specs.Laws.{IsHeld}
use Rattle.net_present.specs.Onward.{Held, goes_on}

-- After a taking of stream s what was given and what waits on each stream is as before. Of s n packets are taken,
-- and of every other stream as many as before, in the state and in the present.
pub record TakesTo (h : Held) (w : State) (s n : ℕ) : Type 0 where
  pub given : (t : ℕ) → (stream_at (after w (Seen s n)) t).given ≡ (stream_at w t).given
  pub waiting : (t : ℕ) → (now_at (goes_on (Seen s n) h).present.streams t).waiting ≡ (now_at h.present.streams t).waiting
  pub taken : (stream_at (after w (Seen s n)) s).taken ≡ n
  pub taken_now : (now_at (goes_on (Seen s n) h).present.streams s).taken ≡ n
  pub others : (t : ℕ) → (t ≡ s → ⊥) → (stream_at (after w (Seen s n)) t).taken ≡ (stream_at w t).taken
  pub others_now : (t : ℕ) → (t ≡ s → ⊥)
      → (now_at (goes_on (Seen s n) h).present.streams t).taken ≡ (now_at h.present.streams t).taken

-- So it is with each enabled taking.
abbrev pub SeenTakes : Type 0
SeenTakes = (h : Held) (w : State) (s n : ℕ) → IsHeld h w → IsTrue (enabled w (Seen s n)) → TakesTo h w s n
