-- Each stream of a network is a run of the machine of one stream, and stays one.
use Rattle.std.specs.Prelude.{◌≡◌, ◌<◌, ℕ, IsTrue, length}
use Rattle.chdr_packets.specs.declared.packet.Packet.{Packet}
use Rattle.stream_laws.specs.Laws.{IsRun}
use Rattle.stream_laws.specs.Machine.{State as OneStream}
use Rattle.net_machine.specs.declared.event.Event.{Event}
use Rattle.net_machine.specs.Blocks.{is_closed}
use Rattle.net_machine.specs.Conditions.{enabled}
use Rattle.net_machine.specs.Effects.{after}
use Rattle.net_machine.specs.Front.{front}
use Rattle.net_machine.specs.Plans.{plan_at}
use Rattle.net_machine.specs.State.{State}
use Rattle.net_ways.specs.Hops.{IsUnseen}
use Rattle.net_ways.specs.Standing.{AreMessages, ArePlaced, HaveWays}
use Rattle.net_ways.specs.Ways.{HasQueues}
use Rattle.net_streams.specs.Shows.{Shows, terms_of}
use Rattle.net_flows.specs.Forms.{AreTelling, HaveForms}
use Rattle.net_flows.specs.Lasting.{IsSound}

-- stream s shows a state to which a legal run of the machine of one stream leads
pub record IsFlow (w : State) (s : ℕ) : Type 0 where
  pub state : OneStream Packet
  pub run : IsRun (terms_of (plan_at w.plan s)) state
  pub shows : Shows w s (is_closed (front w) s) state

-- what holds of a network and its streams, wherever tables lead
pub record IsSteady (w : State) : Type 0 where
  pub queues : HasQueues w
  pub plan : IsSound w.tree w.plan
  pub as_many : length w.streams ≡ length w.plan.streams
  pub messages : AreMessages w
  pub telling : AreTelling w
  pub forms : HaveForms w
  pub flows : (s : ℕ) → s < length w.streams → IsFlow w s

-- As long as tables lead and entries stand on their ways, an event keeps all that.
abbrev pub SteadyStays : Type 0
SteadyStays = (w : State) (e : Event) → IsSteady w → HaveWays w → ArePlaced w → IsTrue (enabled w e) → IsSteady (after w e)

-- What no stream sees keeps each stream a run.
abbrev pub UnseenFlows : Type 0
UnseenFlows = (w v : State) → length v.streams ≡ length w.streams → ((s : ℕ) → IsUnseen w v s)
    → ((s : ℕ) → s < length w.streams → IsFlow w s) → (s : ℕ) → s < length v.streams → IsFlow v s
