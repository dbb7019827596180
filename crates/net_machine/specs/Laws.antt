-- What holds of a network whatever its state: numbers and places, runs, and choices.
use Rattle.std.specs.Prelude.{◌≡◌, ◌↔◌, ℕ, ◌<◌, ◌≤◌, false, IsTrue, List, ◌++◌, length, map, None, Some}
use Rattle.net_topology.specs.declared.plan.Plan.{Plan}
use Rattle.net_machine.specs.declared.event.Event.{Event}
use Rattle.net_machine.specs.declared.event.Event.TheVariants.{Enter, Hop, Seen, Feed, Report, Command, Lose, Reply, Ask}
use Rattle.net_machine.specs.declared.plan.RunPlan.{RunPlan}
use Rattle.net_machine.specs.Choice.{IsChosen, chosen}
use Rattle.net_machine.specs.Conditions.{enabled}
use Rattle.net_machine.specs.Front.{front, front_at, queued, queued_at, stream_front}
use Rattle.net_machine.specs.Moves.{IsLegal, IsWhole, Move, after_all, after_move}
use Rattle.net_machine.specs.Plans.{block_at}
use Rattle.net_machine.specs.Queues.{channel_of, link_count, link_of_queue, queue_count, queue_of}
use Rattle.net_machine.specs.State.{State, queue_at, stream_at}

-- a queue is that of its link and its channel, and no other
pub record AreQueues : Type 0 where
  pub link : (d vc : ℕ) → vc < 2 → link_of_queue (queue_of d vc) ≡ d
  pub channel : (d vc : ℕ) → vc < 2 → channel_of (queue_of d vc) ≡ vc
  pub whole : (q : ℕ) → queue_of (link_of_queue q) (channel_of q) ≡ q
  pub within : (tree : Plan) (d vc : ℕ) → d < link_count tree → vc < 2 → queue_of d vc < queue_count tree
  pub of : (tree : Plan) (q : ℕ) → q < queue_count tree → link_of_queue q < link_count tree

-- runs join: what is legal in two parts is legal as a whole, and leaves what the second part leaves
pub record RunsJoin : Type 0 where
  pub joined : (w : State) (ms ns : List Move) → IsLegal w ms → IsLegal (after_all w ms) ns → IsLegal w (ms ++ ns)
  pub parted : (w : State) (ms ns : List Move) → IsLegal w (ms ++ ns) → IsLegal w ms × IsLegal (after_all w ms) ns
  pub left : (w : State) (ms ns : List Move) → after_all w (ms ++ ns) ≡ after_all (after_all w ms) ns

-- the front of a state has its streams and queues at their places
pub record AreFront : Type 0 where
  pub stream : (w : State) (s : ℕ) → front_at (front w) s ≡ stream_front (stream_at w s)
  pub queue : (w : State) (q : ℕ) → queued_at (front w) q ≡ map queued (queue_at w.queues q)

-- both states have one tree and one plan, and as many queues, nodes and streams
pub record KeepsShape (w v : State) : Type 0 where
  pub tree : v.tree ≡ w.tree
  pub plan : v.plan ≡ w.plan
  pub queues : length v.queues ≡ length w.queues
  pub nodes : length v.nodes ≡ length w.nodes
  pub streams : length v.streams ≡ length w.streams

-- no move changes that
abbrev pub ShapeStays : Type 0
ShapeStays = (w : State) (move : Move) → KeepsShape w (after_move w move)

-- nor do all moves
abbrev pub ShapesStay : Type 0
ShapesStay = (w : State) (moves : List Move) → KeepsShape w (after_all w moves)

-- an event is a consumer's taking
abbrev pub IsTaking : Event → Type 0
IsTaking (Enter s) = ⊥
IsTaking (Hop q) = ⊥
IsTaking (Seen s n) = Unit {0}
IsTaking (Feed b i) = ⊥
IsTaking (Report s) = ⊥
IsTaking (Command s op) = ⊥
IsTaking (Lose q) = ⊥
IsTaking (Reply x) = ⊥
IsTaking (Ask x) = ⊥

-- no event but taking is enabled
abbrev pub OnlyTakes : State → Type 0
OnlyTakes w = (e : Event) → (IsTaking e → ⊥) → enabled w e ≡ false

-- no block has more inputs than two
abbrev pub HasFewInputs : RunPlan → Type 0
HasFewInputs plan = (b : ℕ) → length (block_at plan b).ins ≤ 2

-- what is chosen is enabled
abbrev pub ChosenIsEnabled : Type 0
ChosenIsEnabled = (seed : ℕ) (w : State) (e : Event) → chosen seed w ≡ Some e → IsTrue (enabled w e)

-- nothing is chosen exactly if no event but taking is enabled
abbrev pub NothingIsChosen : Type 0
NothingIsChosen = (seed : ℕ) (w : State) → HasFewInputs w.plan → (chosen seed w ≡ None) ↔ OnlyTakes w

-- the journal of one thread is legal, and leaves no event enabled
abbrev pub ChosenIsWhole : Type 0
ChosenIsWhole = (seed : ℕ) (w : State) (journal : List Event) → HasFewInputs w.plan → IsChosen seed w journal → IsWhole w journal
