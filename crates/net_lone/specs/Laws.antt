-- A network with one message goes as the message does.
use Rattle.std.specs.Prelude.{◌≡◌, ◌↔◌, ℕ, IsTrue, List, [], Some}
use Rattle.chdr_packets.specs.declared.packet.Packet.{Packet}
use Rattle.net_topology.specs.Links.{link_at}
use Rattle.net_machine.specs.declared.event.Event.{Event}
use Rattle.net_machine.specs.Conditions.{enabled}
use Rattle.net_machine.specs.Effects.{after}
use Rattle.net_machine.specs.Moves.{after_journal, answered}
use Rattle.net_machine.specs.State.{State, node_at}
use Rattle.net_lone.specs.Stages.{Answered, IsLone, IsSettled, Lone, next_event, state_of, with_message}
use Rattle.net_lone.specs.Lone.{lone_after}
use Rattle.net_lone.specs.Runs.{Ends, IsFirst}

-- Exactly the message's next event is enabled.
abbrev pub OneIsEnabled : Type 0
OneIsEnabled = (l : Lone) (e : Event) → IsLone l → IsTrue (enabled (state_of l) e) ↔ (next_event l.stage ≡ Some e)

-- that event does what the message does next, and leaves it the only one
pub record GoesOn (l : Lone) (e : Event) : Type 0 where
  pub after : after (state_of l) e ≡ state_of (lone_after l)
  pub lone : IsLone (lone_after l)

abbrev pub OneHappens : Type 0
OneHappens = (l : Lone) (e : Event) → IsLone l → next_event l.stage ≡ Some e → GoesOn l e

-- the journal of a message to its end, and what it leaves
pub record EndsLone (l : Lone) (journal : List Event) : Type 0 where
  pub end : Lone
  pub ends : Ends l journal end
  pub leaves : after_journal (state_of l) journal ≡ state_of end
  pub lone : IsLone end

-- What the choice takes first, again and again, is the journal of the message.
abbrev pub FirstIsOfTheMessage : Type 0
FirstIsOfTheMessage = (l : Lone) (journal : List Event) → IsLone l → IsFirst (state_of l) journal → EndsLone l journal

-- The journal of the message is what the choice takes first.
abbrev pub MessageIsFirst : Type 0
MessageIsFirst = (l end : Lone) (journal : List Event) → IsLone l → Ends l journal end → IsFirst (state_of l) journal

-- A message has one journal to one end.
abbrev pub OneEnd : Type 0
OneEnd = (l a b : Lone) (journal other : List Event) → Ends l journal a → Ends l other b → (journal ≡ other) × (a ≡ b)

-- In a settled network no request waits at a host with a link.
abbrev pub NoRequestWaits : Type 0
NoRequestWaits = (w : State) (x d : ℕ) → IsSettled w → link_at w.tree.links x 0 ≡ Some d → (node_at w x).requests ≡ []

-- Once the answer is taken out, the network is settled.
abbrev pub AnsweredIsSettled : Type 0
AnsweredIsSettled = (w : State) (x : ℕ) (p : Packet) → IsSettled w → answered x (with_message w (Answered x p)) ≡ w
