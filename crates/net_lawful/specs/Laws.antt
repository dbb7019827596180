-- The states of a network are lawful: as it is built, as a run begins, and after each move.
use Rattle.std.specs.Prelude.{◌≡◌, ◌⊎◌, ◌^◌, ℕ, Bool, false, List, ◌∷◌, Option, Some}
use Rattle.block_registers.specs.Registers.{Registers}
use Rattle.chdr_words.specs.declared.epid.Epid.{Epid}
use Rattle.net_nodes.specs.Budget.{FitsSite}
use Rattle.net_nodes.specs.Table.{HasEntries}
use Rattle.net_topology.specs.Links.{end_of, end_port}
use Rattle.net_topology.specs.Tree.{IsTree}
use Rattle.net_topology.specs.declared.plan.NodePlan.TheVariants.{Endpoint}
use Rattle.net_topology.specs.declared.plan.Plan.{Plan}
use Rattle.net_machine.specs.declared.plan.RunPlan.{RunPlan}
use Rattle.net_machine.specs.Begin.{begun, built}
use Rattle.net_machine.specs.declared.event.Event.{Event}
use Rattle.net_machine.specs.CanBegin.{CanBegin}
use Rattle.net_machine.specs.Effects.{after}
use Rattle.net_machine.specs.Moves.{IsAllowed, IsAtRest, IsLegal, Move, after_all, after_move}
use Rattle.net_machine.specs.Nodes.{planned, site_at}
use Rattle.net_machine.specs.Plans.{block_at, block_in, block_out, consumer_of, is_rx, producer_of, stream_into, stream_out_of}
use Rattle.net_machine.specs.Queues.{link_of_queue}
use Rattle.net_machine.specs.State.{Entry, State, node_at, queue_at, stream_at}
use Rattle.net_machine.specs.Streams.{most}
use Rattle.net_present.specs.Fits.{ArePlanned}
use Rattle.net_flows.specs.Flows.{IsSteady}
use Rattle.net_flows.specs.Lasting.{IsSound}
use Rattle.net_lawful.specs.Lawful.{Lawful}
use Rattle.net_lawful.specs.Messages.{FitsTree}

-- A network over a tree is lawful as it is built.
abbrev pub BuiltIsLawful : Type 0
BuiltIsLawful = (tree : Plan) (routed : Bool) (banks : List (Option Registers)) → IsTree tree → FitsTree tree
    → Lawful (built tree routed banks)

-- At rest it is lawful as a run begins that it can run.
abbrev pub BegunIsLawful : Type 0
BegunIsLawful = (plan : RunPlan) (w : State) → Lawful w → IsAtRest w → CanBegin w.tree w.nodes plan
    → Lawful (begun plan w)

-- Each move that is allowed leaves it lawful.
abbrev pub LawfulStays : Type 0
LawfulStays = (w : State) (move : Move) → Lawful w → IsAllowed w move → Lawful (after_move w move)

-- So do all moves of a legal list.
abbrev pub AllAreLawful : Type 0
AllAreLawful = (w : State) (moves : List Move) → Lawful w → IsLegal w moves → Lawful (after_all w moves)

-- In a plan that can run each input of a block has a stream of its own.
abbrev pub PlansFit : Type 0
PlansFit = (tree : Plan) (plan : RunPlan) → IsSound tree plan → ArePlanned plan

-- The block with a stream's input takes its packets, and the one with its output makes them.
abbrev pub BlocksTake : Type 0
BlocksTake = (tree : Plan) (plan : RunPlan) (b i s : ℕ) → IsSound tree plan → stream_into plan (block_at plan b) i ≡ Some s
    → consumer_of plan s ≡ Some b

abbrev pub BlocksGive : Type 0
BlocksGive = (tree : Plan) (plan : RunPlan) (b j s : ℕ) → IsSound tree plan → stream_out_of plan (block_at plan b) j ≡ Some s
    → producer_of plan s ≡ Some b

-- No Rx stands at an endpoint.
abbrev pub NoRxAtEndpoints : Type 0
NoRxAtEndpoints = (tree : Plan) (plan : RunPlan) (x b : ℕ) (epid : Epid) (bank : Option ℕ) → IsTree tree → IsSound tree plan
    → planned tree x ≡ Some (Endpoint epid bank) → (block_in plan epid ≡ Some b) ⊎ (block_out plan epid ≡ Some b)
    → is_rx (block_at plan b).kind ≡ false

-- the site at the end of directed link d, as a packet comes over it, and its table fit
pub record IsSiteFit (w : State) (d : ℕ) : Type 0 where
  pub site : FitsSite (site_at w.tree (end_of w.tree.links d) (end_port w.tree.links d))
  pub entries : HasEntries (2 ^ 8) (node_at w (end_of w.tree.links d)).table

-- Where a queue has an entry, the node at its end can perform it.
abbrev pub NodesCanPerform : Type 0
NodesCanPerform = (w : State) (q : ℕ) (e : Entry) (rest : List Entry) → Lawful w → queue_at w.queues q ≡ e ∷ rest
    → IsSiteFit w (link_of_queue q)

-- The peak of a stream stays at an event, or follows what is outstanding then.
abbrev pub PeaksFollow : Type 0
PeaksFollow = (w : State) (e : Event) (s : ℕ) → IsSteady w
    → ((stream_at (after w e) s).peak ≡ (stream_at w s).peak)
    ⊎ ((stream_at (after w e) s).peak ≡ most (stream_at w s).peak (stream_at (after w e) s).sender.outstanding)
