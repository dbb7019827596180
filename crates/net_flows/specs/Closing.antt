-- What is finished stays finished, and what is drained stays drained.
use Rattle.std.specs.Prelude.{◌≡◌, ℕ, suc, true, IsTrue}
use Rattle.std.specs.List.{list_all}
use Rattle.net_machine.specs.declared.event.Event.{Event}
use Rattle.net_machine.specs.Blocks.{drained_by, is_clear, is_closed, is_drained, is_finished}
use Rattle.net_machine.specs.Conditions.{enabled}
use Rattle.net_machine.specs.Effects.{after}
use Rattle.net_machine.specs.Front.{Front, front, front_at}
use Rattle.net_machine.specs.Plans.{block_at, is_tx}
use Rattle.net_machine.specs.State.{State}
use Rattle.net_ways.specs.Standing.{ArePlaced, HaveWays}
use Rattle.net_flows.specs.Flows.{IsSteady}

-- what a Tx used up stays used up, and each drained stream has nothing more to do
pub record KeepsEnds (f g : Front) : Type 0 where
  pub plan : g.plan ≡ f.plan
  pub used_up : (b : ℕ) → IsTrue (is_tx (block_at f.plan b).kind)
      → IsTrue (list_all (is_clear f) (block_at f.plan b).outs)
      → IsTrue (list_all (is_clear g) (block_at f.plan b).outs)
  pub drained : (s : ℕ) → IsTrue (is_drained f s) → IsTrue (drained_by true (front_at g s))

-- Whoever looks further upstream finds no fewer blocks finished.
abbrev pub FurtherIsFinished : Type 0
FurtherIsFinished = (k : ℕ) (f : Front) (b : ℕ) → IsTrue (is_finished k f b) → IsTrue (is_finished (suc k) f b)

-- Then a stream whose producer is finished stays such a one.
abbrev pub ClosedStays : Type 0
ClosedStays = (f g : Front) (s : ℕ) → KeepsEnds f g → IsTrue (is_closed f s) → IsTrue (is_closed g s)

-- So does a drained stream stay drained.
abbrev pub DrainedStays : Type 0
DrainedStays = (f g : Front) (s : ℕ) → KeepsEnds f g → IsTrue (is_drained f s) → IsTrue (is_drained g s)

-- Each event keeps these.
abbrev pub EventsKeepEnds : Type 0
EventsKeepEnds = (w : State) (e : Event) → IsSteady w → HaveWays w → ArePlaced w → IsTrue (enabled w e)
    → KeepsEnds (front w) (front (after w e))
