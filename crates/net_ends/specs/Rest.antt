-- How a run ends: each stream is drained, or has its cause in a loss.
use Rattle.std.specs.Prelude.{◌≡◌, ◌<◌, ◌≤◌, ℕ, IsTrue, false, [], length}
use Rattle.stream_endpoint.specs.declared.flow.Policy.TheVariants.{Off}
use Rattle.net_machine.specs.Blocks.{is_drained}
use Rattle.net_machine.specs.Front.{front}
use Rattle.net_machine.specs.Moves.{AreEmpty, IsStill}
use Rattle.net_machine.specs.Plans.{plan_at}
use Rattle.net_machine.specs.Promises.{AreJoined}
use Rattle.net_machine.specs.State.{State, stream_at}
use Rattle.net_ways.specs.Standing.{HaveWays}
use Rattle.net_ways.specs.Ways.{HasQueues}
use Rattle.net_flows.specs.Flows.{IsSteady}

-- Where no event is enabled all queues are empty.
abbrev pub StillIsEmpty : Type 0
StillIsEmpty = (w : State) → HasQueues w → IsStill w → AreEmpty w

-- a packet of a stream that is joined to stream s, and doesn't resynchronise, was lost
pub record HasCause (w : State) (s : ℕ) : Type 0 where
  pub stream : ℕ
  pub there : stream < length w.streams
  pub joined : AreJoined w.plan s stream
  pub off : (plan_at w.plan stream).policy ≡ Off
  pub some_lost : 1 ≤ length (stream_at w stream).lost

-- Where no event is enabled, a stream that isn't drained has its cause in such a loss.
abbrev pub EndsHaveCauses : Type 0
EndsHaveCauses = (w : State) → IsSteady w → HaveWays w → IsStill w → (s : ℕ) → s < length w.streams
    → is_drained (front w) s ≡ false → HasCause w s

-- no packet of any stream was lost
abbrev pub NoneIsLost : State → Type 0
NoneIsLost w = (s : ℕ) → s < length w.streams → (stream_at w s).lost ≡ []

-- So where none was lost, all streams are drained.
abbrev pub AllAreDrained : Type 0
AllAreDrained = (w : State) → IsSteady w → HaveWays w → IsStill w → NoneIsLost w → (s : ℕ) → s < length w.streams
    → IsTrue (is_drained (front w) s)
