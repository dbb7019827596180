-- A channel with an entry never stands still, whatever stands on the other.
use Rattle.std.specs.Prelude.{◌≡◌, ◌*◌, ◌<◌, ◌⊎◌, ℕ, IsTrue, List, ◌∷◌, length}
use Rattle.chdr_packets.specs.declared.packet.Packet.{Packet}
use Rattle.net_topology.specs.Ranks.{MayFollow}
use Rattle.net_topology.specs.Tree.{IsTree}
use Rattle.net_topology.specs.declared.plan.Plan.{Plan}
use Rattle.net_machine.specs.declared.event.Event.TheVariants.{Hop, Lose}
use Rattle.net_machine.specs.Conditions.{enabled}
use Rattle.net_machine.specs.Passing.{Outcome, Passes, Returns, Arrives, Ends, passing}
use Rattle.net_machine.specs.Queues.{channel_of}
use Rattle.net_machine.specs.State.{Entry, Node, State, queue_at}
use Rattle.net_ways.specs.Ways.{HasQueues}

-- the front entry of some queue of this channel moves on, or is lost
pub record GoesOnAt (w : State) (vc : ℕ) : Type 0 where
  pub queue : ℕ
  pub channel : channel_of queue ≡ vc
  pub enabled : IsTrue (enabled w (Hop queue)) ⊎ IsTrue (enabled w (Lose queue))

-- Where a queue has an entry, some Hop or Lose of a queue of its channel is enabled.
abbrev pub ChannelsGoOn : Type 0
ChannelsGoOn = (w : State) (q : ℕ) (e : Entry) (rest : List Entry) → HasQueues w
    → queue_at w.queues q ≡ e ∷ rest → GoesOnAt w (channel_of q)

-- what goes on from a node may follow the link over which it came
abbrev pub Follows : Plan → ℕ → Outcome → Type 0
Follows tree d (Passes e p) = MayFollow tree.links d e
Follows tree d (Returns p) = Unit {0}
Follows tree d Arrives = Unit {0}
Follows tree d Ends = Unit {0}

-- Where a packet goes on, it never goes back by its port of arrival.
abbrev pub OutcomesFollow : Type 0
OutcomesFollow = (tree : Plan) → IsTree tree → (nodes : List Node) (d : ℕ) → d < 2 * length tree.links → (p : Packet)
    → Follows tree d (passing tree nodes d p).outcome
