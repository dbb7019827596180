-- What holds of a network in each of its states.
use Rattle.std.specs.Prelude.{◌≡◌, true, false}
use Rattle.net_machine.specs.State.{State}
use Rattle.net_flows.specs.Flows.{IsSteady}
use Rattle.net_lawful.specs.Made.{ArePeaksWithin, HaveMade}
use Rattle.net_lawful.specs.Messages.{AreEntriesFit, AreNodesFit, AreSpelled, FitsTree}
use Rattle.net_lawful.specs.Walking.{AreLed, AreStilled}

pub record Lawful (w : State) : Type 0 where
  -- the plan can run, and each stream is a run of the machine of one stream
  pub steady : IsSteady w
  -- nodes fit, tables name ports, and requests, answers and management packets fit wherever they are
  pub tree : FitsTree w.tree
  pub nodes : AreNodesFit w
  pub messages : AreEntriesFit w
  -- what a command or a status in a queue spells is what its tag tells
  pub spelled : AreSpelled w
  -- what a stream sent, and has ready, is what its producer made so far
  pub makes : HaveMade w
  -- no stream ever had more outstanding than its capacity
  pub peaks : ArePeaksWithin w
  -- tables lead the streams until a management packet is asked
  pub led : w.walked ≡ false → AreLed w
  -- and from then on no stream does anything
  pub stilled : w.walked ≡ true → AreStilled w
