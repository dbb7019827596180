-- How each stream of a network goes on: by acts of the machine of one stream.
use Rattle.std.specs.Prelude.{◌≡◌, ◌<◌, ℕ, IsTrue, length}
use Rattle.chdr_packets.specs.declared.packet.Packet.{Packet}
use Rattle.stream_laws.specs.Acts.{Leads}
use Rattle.stream_laws.specs.Laws.{IsRun}
use Rattle.stream_laws.specs.Machine.{State as OneStream}
use Rattle.net_machine.specs.declared.event.Event.{Event}
use Rattle.net_machine.specs.Blocks.{is_closed}
use Rattle.net_machine.specs.Conditions.{enabled}
use Rattle.net_machine.specs.Effects.{after}
use Rattle.net_machine.specs.Front.{front}
use Rattle.net_machine.specs.Plans.{plan_at}
use Rattle.net_machine.specs.State.{State}
use Rattle.net_ways.specs.Hops.{IsUnseen}
use Rattle.net_ways.specs.Standing.{ArePlaced, HaveWays}
use Rattle.net_streams.specs.Shows.{Shows, terms_of}
use Rattle.net_flows.specs.Flows.{IsSteady}

-- acts lead from a state of stream s to one that v shows; that its producer became finished comes after them
pub record GoesOn (w v : State) (s : ℕ) (st : OneStream Packet) : Type 0 where
  pub state : OneStream Packet
  pub leads : Leads (terms_of (plan_at w.plan s)) st state
  pub shows : Shows v s (is_closed (front w) s) state

-- so it is with each stream, whatever run leads to what the network shows of it
abbrev pub EachGoesOn : State → State → Type 0
EachGoesOn w v = (s : ℕ) → s < length w.streams → (st : OneStream Packet) → IsRun (terms_of (plan_at w.plan s)) st
    → Shows w s (is_closed (front w) s) st → GoesOn w v s st

-- As long as tables lead and entries stand on their ways, each stream goes on so at an event.
abbrev pub EventsGoOn : Type 0
EventsGoOn = (w : State) (e : Event) → IsSteady w → HaveWays w → ArePlaced w → IsTrue (enabled w e) → EachGoesOn w (after w e)

-- And where no stream sees anything.
abbrev pub UnseenGoesOn : Type 0
UnseenGoesOn = (w v : State) → ((s : ℕ) → IsUnseen w v s) → EachGoesOn w v
