-- Nets in which a host may ask a request, and is the only one that does.
use Rattle.std.specs.Prelude.{◌≡◌, ℕ, Bool, [], length}
use Rattle.net_topology.specs.declared.plan.Plan.{Plan}
use Rattle.net_machine.specs.State.{State, node_in}
use Rattle.net_present.specs.Present.{Present}
use Rattle.net_lone.specs.Stages.{HavePlaces, IsSettled}
use Rattle.fabric_events.specs.Begun.{built_now}
use Rattle.fabric_net.specs.Standing.{IsResting, StandsFor}

-- Nothing is under way in a net, nothing happens in it, and no answer is to leave a node. So it is as it is built, and
-- as a run or a request leaves it.
pub record IsSettledNow (p : Present) : Type 0 where
  pub rest : IsResting p
  pub nodes : length p.nodes ≡ length p.tree.nodes
  pub places : HavePlaces p.tree p.nodes
  pub clear : (x : ℕ) → (node_in p.nodes x).pending ≡ []

-- So is each state for which it stands, and the other way round.
abbrev pub SettledStates : Type 0
SettledStates = (p : Present) (w : State) → StandsFor p w → IsSettledNow p → IsSettled w

abbrev pub SettledNets : Type 0
SettledNets = (p : Present) (w : State) → StandsFor p w → IsSettled w → IsSettledNow p

-- A net is settled as it is built, if it is at rest.
abbrev pub BuiltNetsAreSettled : Type 0
BuiltNetsAreSettled = (tree : Plan) (routed : Bool) → IsResting (built_now tree routed) → IsSettledNow (built_now tree routed)

-- It is so again at rest, if its tree and its nodes are as they were: so a run leaves it.
abbrev pub RestSettles : Type 0
RestSettles = (p q : Present) → IsSettledNow p → IsResting q → q.tree ≡ p.tree → q.nodes ≡ p.nodes → IsSettledNow q
