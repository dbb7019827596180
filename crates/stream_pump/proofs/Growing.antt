-- What an event adds to what was given on a stream to an Rx waits for the Rx.
use Rattle.std.proofs.Common.{◌≡◌, ℕ, true, List, [], ◌++◌, length, sym, ap, subst, ◌∙◌, append_assoc}
use Rattle.std.specs.Prelude.{IsTrue}
use Rattle.std.proofs.lemmas.List.{append-nil}
use Rattle.chdr_packets.specs.declared.packet.Packet.{Packet}
use Rattle.net_machine.specs.declared.event.Event.{Event}
use Rattle.net_machine.specs.declared.event.Event.TheVariants.{Ask, Command, Enter, Feed, Hop, Lose, Reply, Report, Seen}
use Rattle.net_machine.specs.declared.plan.RunPlan.{RunPlan}
use Rattle.net_machine.specs.Conditions.{enabled, ends_at_rx}
use Rattle.net_machine.specs.Effects.{after}
use Rattle.net_machine.specs.Laws.{IsTaking}
use Rattle.net_machine.specs.Moves.{Happens}
use Rattle.net_machine.specs.State.{State, stream_at}
use Rattle.net_machine.proofs.Laws.{shape_stays}
use Rattle.net_present.specs.Fits.{FitsPresent}
use Rattle.net_present.specs.Laws.{IsHeld}
use Rattle.net_present.specs.Onward.{Held, goes_on}
use Rattle.net_growth.specs.Growing.{Grows}
use Rattle.net_growth.proofs.Laws.{given_grows, seen_takes}
use Rattle.stream_pump.specs.Drains.{AreTaken, drain_at, waiting_at}

-- event e adds the same packets to what was given and to what waits on stream s
pub record Adds (h : Held) (w : State) (e : Event) (s : ℕ) : Type 0 where
  pub more : List Packet
  pub given : (stream_at (after w e) s).given ≡ (stream_at w s).given ++ more
  pub waiting : waiting_at (goes_on e h).present s ≡ waiting_at h.present s ++ more

from-grows : (h : Held) (w : State) (e : Event) (s : ℕ) → Grows h w e s → Adds h w e s
from-grows h w e s grows = record { more = grows.more; given = grows.given; waiting = grows.waiting }

pub adds : (h : Held) (w : State) (e : Event) (s : ℕ) → IsHeld h w → FitsPresent w → IsTrue (enabled w e) → ends_at_rx w.plan s ≡ true → Adds h w e s
adds h w (Enter t) s held fits can rx = from-grows h w (Enter t) s (given_grows h w (Enter t) s held fits can rx tt)
adds h w (Command t op) s held fits can rx = from-grows h w (Command t op) s (given_grows h w (Command t op) s held fits can rx tt)
adds h w (Report t) s held fits can rx = from-grows h w (Report t) s (given_grows h w (Report t) s held fits can rx tt)
adds h w (Seen t n) s held fits can rx = let takes = seen_takes h w t n held can in
    record { more = []; given = takes.given s ∙ sym (append-nil _); waiting = takes.waiting s ∙ sym (append-nil _) }
adds h w (Feed b i) s held fits can rx = from-grows h w (Feed b i) s (given_grows h w (Feed b i) s held fits can rx tt)
adds h w (Ask x) s held fits can rx = from-grows h w (Ask x) s (given_grows h w (Ask x) s held fits can rx tt)
adds h w (Reply x) s held fits can rx = from-grows h w (Reply x) s (given_grows h w (Reply x) s held fits can rx tt)
adds h w (Lose q) s held fits can rx = from-grows h w (Lose q) s (given_grows h w (Lose q) s held fits can rx tt)
adds h w (Hop q) s held fits can rx = from-grows h w (Hop q) s (given_grows h w (Hop q) s held fits can rx tt)

-- an event other than a taking leaves as many packets taken
pub keeps-taken : (h : Held) (w : State) (e : Event) (s : ℕ) → IsHeld h w → FitsPresent w → IsTrue (enabled w e) → ends_at_rx w.plan s ≡ true
    → (IsTaking e → ⊥) → (stream_at (after w e) s).taken ≡ (stream_at w s).taken
keeps-taken h w (Enter t) s held fits can rx never = (given_grows h w (Enter t) s held fits can rx tt).taken
keeps-taken h w (Command t op) s held fits can rx never = (given_grows h w (Command t op) s held fits can rx tt).taken
keeps-taken h w (Report t) s held fits can rx never = (given_grows h w (Report t) s held fits can rx tt).taken
keeps-taken h w (Seen t n) s held fits can rx never = absurd (never tt)
keeps-taken h w (Feed b i) s held fits can rx never = (given_grows h w (Feed b i) s held fits can rx tt).taken
keeps-taken h w (Ask x) s held fits can rx never = (given_grows h w (Ask x) s held fits can rx tt).taken
keeps-taken h w (Reply x) s held fits can rx never = (given_grows h w (Reply x) s held fits can rx tt).taken
keeps-taken h w (Lose q) s held fits can rx never = (given_grows h w (Lose q) s held fits can rx tt).taken
keeps-taken h w (Hop q) s held fits can rx never = (given_grows h w (Hop q) s held fits can rx tt).taken

-- so what was handed out and waits is all that was given, and the one that was handed out is taken
pub still-taken : (h : Held) (w : State) (e : Event) (drains : List (List Packet)) → IsHeld h w → FitsPresent w → IsTrue (enabled w e)
    → ((s : ℕ) → ends_at_rx w.plan s ≡ true → drain_at drains s ++ waiting_at h.present s ≡ (stream_at w s).given)
    → ((s : ℕ) → ends_at_rx w.plan s ≡ true → (stream_at (after w e) s).taken ≡ length (drain_at drains s))
    → AreTaken (goes_on e h).present (after w e) drains
still-taken h w e drains held fits can given taken s rx = record {
  given = ap (λ (ws : List Packet). drain_at drains s ++ ws) more.waiting
      ∙ sym (append_assoc (drain_at drains s) (waiting_at h.present s) more.more)
      ∙ ap (λ (gs : List Packet). gs ++ more.more) (given s was) ∙ sym more.given;
  count = taken s was;
}
  where
    was : ends_at_rx w.plan s ≡ true
    was = subst (λ (plan : RunPlan). ends_at_rx plan s ≡ true) (shape_stays w (Happens e)).plan rx

    more : Adds h w e s
    more = adds h w e s held fits can was
