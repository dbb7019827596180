-- Which plans a network can run: none of the refusals of blocks, edges and runs holds.
use Rattle.std.specs.Prelude.{◌≡◌, ◌≢◌, ℕ, zero, suc, ◌+◌, ◌*◌, ◌<◌, ◌≤◌, ◌^◌, ◌||◌, Bool, false, IsTrue, IsSome, is_some, List, length, Option, Some, slice_get, if◌then◌else◌}
use Rattle.std.specs.List.{list_any}
use Rattle.std.specs.Option.{option_map_or}
use Rattle.block_library.specs.Blocks.{FitsKind, inputs, outputs}
use Rattle.block_library.specs.Producer.{FitsPlan}
use Rattle.block_library.specs.declared.kind.BlockKind.{BlockKind}
use Rattle.block_library.specs.declared.kind.BlockKind.TheVariants.{Tx, Rx, Fifo, Split, Keep, Repeat, Replay, Switch, Sink}
use Rattle.chdr_words.specs.Wire.{wire_size_of}
use Rattle.chdr_words.specs.declared.epid.Epid.{Epid}
use Rattle.net_topology.specs.Leads.{Leads}
use Rattle.net_topology.specs.Tree.{node_with}
use Rattle.net_topology.specs.declared.plan.Plan.{Plan}
use Rattle.stream_endpoint.specs.Flow.{IsValid}
use Rattle.net_machine.specs.declared.plan.BlockPlan.{BlockPlan}
use Rattle.net_machine.specs.declared.plan.RunPlan.{RunPlan}
use Rattle.net_machine.specs.Begin.{source_of}
use Rattle.net_machine.specs.Nodes.{exits_of, is_endpoint, is_host, planned}
use Rattle.net_machine.specs.Plans.{block_at, consumer_of, is_rx, is_tx, no_epid, plan_at, producer_of, stream_from, stream_into, stream_to}
use Rattle.net_machine.specs.State.{Node}

-- each stream has the property, by its number
abbrev pub EachStream : RunPlan → (ℕ → Type 0) → Type 0
EachStream plan P = (s : ℕ) → s < length plan.streams → P s

-- each block has the property, by its number
abbrev pub EachBlock : RunPlan → (ℕ → Type 0) → Type 0
EachBlock plan P = (b : ℕ) → b < length plan.blocks → P b

-- the EPID of input i of block b
abbrev pub input_at : RunPlan → ℕ → ℕ → Option Epid
input_at plan b i = slice_get (block_at plan b).ins i

-- the EPID of output j of block b
abbrev pub output_at : RunPlan → ℕ → ℕ → Option Epid
output_at plan b j = slice_get (block_at plan b).outs j

-- the numbers of a block are in their ranges, and it has an EPID for each port
pub record FitsBlock (block : BlockPlan) : Type 0 where
  pub kind : FitsKind block.kind
  pub inputs : length block.ins ≡ inputs block.kind
  pub outputs : length block.outs ≡ outputs block.kind
  pub source : FitsPlan (source_of block no_epid)

-- blocks a and b have packets of one form
pub record HaveOneForm (plan : RunPlan) (a b : ℕ) : Type 0 where
  pub item : (block_at plan a).item ≡ (block_at plan b).item
  pub spp : (block_at plan a).spp ≡ (block_at plan b).spp

-- both ends of stream s have packets of one form
abbrev pub KeepsForm : RunPlan → ℕ → Type 0
KeepsForm plan s = (a b : ℕ) → producer_of plan s ≡ Some a → consumer_of plan s ≡ Some b → HaveOneForm plan a b

-- the numbers of a plan are in their ranges, and both ends of each stream have packets of one form
pub record FitsRun (plan : RunPlan) : Type 0 where
  pub blocks : EachBlock plan (λ b. FitsBlock (block_at plan b))
  pub starts : EachStream plan (λ s. (plan_at plan s).start < 2 ^ 40)
  pub flows : EachStream plan (λ s. IsValid (plan_at plan s).flow)
  pub forms : EachStream plan (KeepsForm plan)

-- a node of the sort on which a kind of block stands has this EPID: a host for Tx and Rx, else an endpoint
abbrev pub stands_at : Plan → BlockKind → Epid → Bool
stands_at tree kind epid = option_map_or
    (λ x. option_map_or (if is_tx kind || is_rx kind then is_host else is_endpoint) (planned tree x) false)
    (node_with tree.nodes epid) false

-- the ports of block b stand at such nodes
pub record StandsAt (tree : Plan) (plan : RunPlan) (b : ℕ) : Type 0 where
  pub ins : (i : ℕ) (epid : Epid) → input_at plan b i ≡ Some epid → IsTrue (stands_at tree (block_at plan b).kind epid)
  pub outs : (j : ℕ) (epid : Epid) → output_at plan b j ≡ Some epid → IsTrue (stands_at tree (block_at plan b).kind epid)

-- on this side of blocks no EPID stands at two ports
abbrev pub AreApart : (ℕ → ℕ → Option Epid) → Type 0
AreApart epid_at = (a b i j : ℕ) (epid : Epid) → epid_at a i ≡ Some epid → epid_at b j ≡ Some epid → (a ≡ b) × (i ≡ j)

-- each port of block b has a stream
pub record HasStreams (plan : RunPlan) (b : ℕ) : Type 0 where
  pub ins : (i : ℕ) (epid : Epid) → input_at plan b i ≡ Some epid → IsSome (stream_to plan epid)
  pub outs : (j : ℕ) (epid : Epid) → output_at plan b j ≡ Some epid → IsSome (stream_from plan epid)

-- streams lead from one block to another, one after another
pub data Reaches (plan : RunPlan) : ℕ → ℕ → Type 0 where
  here : {b : ℕ} → Reaches plan b b
  along : {a c : ℕ} (s b : ℕ) → producer_of plan s ≡ Some a → consumer_of plan s ≡ Some b → Reaches plan b c → Reaches plan a c

-- no streams lead back to the block where stream s begins
abbrev pub NeverReturns : RunPlan → ℕ → Type 0
NeverReturns plan s = (a b : ℕ) → producer_of plan s ≡ Some a → consumer_of plan s ≡ Some b → Reaches plan b a → ⊥

-- the tables lead from the producer of stream s to its consumer, and back
pub record IsLed (tree : Plan) (nodes : List Node) (plan : RunPlan) (s : ℕ) : Type 0 where
  pub forth : Leads tree (exits_of nodes) (plan_at plan s).from (plan_at plan s).to
  pub back : Leads tree (exits_of nodes) (plan_at plan s).to (plan_at plan s).from

-- a block is a Tx whose packets tell times
abbrev pub is_timed : BlockPlan → Bool
is_timed block = if is_tx block.kind then is_some block.time else false

-- the packets of a stream from this block may tell times: those of a Tx by itself, others where any Tx does
abbrev pub may_tell_time : RunPlan → BlockPlan → Bool
may_tell_time plan block = if is_tx block.kind then is_some block.time else list_any is_timed plan.blocks

-- the wire size of a packet of spp samples from this block
abbrev pub size_from : RunPlan → BlockPlan → ℕ
size_from plan block =
    wire_size_of (8 + (if may_tell_time plan block then 8 else 0) + block.spp * block.item)

-- the greatest wire size of a packet of stream s
abbrev pub size_of : RunPlan → ℕ → ℕ
size_of plan s = option_map_or (λ b. size_from plan (block_at plan b)) (producer_of plan s) 0

-- how often a kind gives what it takes
abbrev pub factor_of : BlockKind → ℕ
factor_of Tx = 1
factor_of Rx = 1
factor_of Fifo = 1
factor_of Split = 1
factor_of (Keep n) = 1
factor_of (Repeat n) = n
factor_of (Replay n) = n
factor_of (Switch n) = 1
factor_of Sink = 1

-- the input whose packets a kind gives
abbrev pub passed_input : BlockKind → ℕ
passed_input Tx = 0
passed_input Rx = 0
passed_input Fifo = 0
passed_input Split = 0
passed_input (Keep n) = 0
passed_input (Repeat n) = 0
passed_input (Replay n) = 0
passed_input (Switch n) = n
passed_input Sink = 0

-- how many packets stream s has at most, through up to k blocks
abbrev pub bound_through : ℕ → RunPlan → ℕ → ℕ
bound_through zero plan s = 0
bound_through (suc k) plan s = option_map_or (λ b. let block = block_at plan b in
    if is_tx block.kind then block.packets
    else factor_of block.kind
    * option_map_or (bound_through k plan) (stream_into plan block (passed_input block.kind)) 0)
    (producer_of plan s) 0

-- how many packets stream s has at most
abbrev pub bound_of : RunPlan → ℕ → ℕ
bound_of plan s = bound_through (length plan.blocks) plan s

-- no two streams of the plan have an end at one EPID, on the side that tells it
abbrev pub HaveOwnEnds : RunPlan → (ℕ → Epid) → Type 0
HaveOwnEnds plan end_at = (s t : ℕ) → s < length plan.streams → t < length plan.streams → end_at s ≡ end_at t → s ≡ t

-- the EPID at which stream s begins, and the one at which it ends
abbrev pub from_of : RunPlan → ℕ → Epid
from_of plan s = (plan_at plan s).from

abbrev pub to_of : RunPlan → ℕ → Epid
to_of plan s = (plan_at plan s).to

-- A network with these tables can run the plan. The first part has the ranges of numbers, and each other one is
-- the contrary of one refusal.
pub record CanBegin (tree : Plan) (nodes : List Node) (plan : RunPlan) : Type 0 where
  pub fits : FitsRun plan
  -- TooManyBlocks
  pub few_blocks : length plan.blocks ≤ 32
  -- NoEndpoint
  pub endpoints : EachBlock plan (StandsAt tree plan)
  -- EndpointTaken
  pub endpoints_free : AreApart (input_at plan) × AreApart (output_at plan)
  -- TooManyStreams
  pub few_streams : length plan.streams ≤ 16
  -- BadPort
  pub ports : EachStream plan (λ s. IsSome (producer_of plan s) × IsSome (consumer_of plan s))
  -- PortTaken
  pub ports_free : HaveOwnEnds plan (from_of plan) × HaveOwnEnds plan (to_of plan)
  -- Cycle
  pub acyclic : EachStream plan (NeverReturns plan)
  -- Loop
  pub no_loops : EachStream plan (λ s. from_of plan s ≢ to_of plan s)
  -- OpenPort
  pub no_open_ports : EachBlock plan (HasStreams plan)
  -- Unrouted
  pub routed : EachStream plan (IsLed tree nodes plan)
  -- TooBig
  pub small : EachStream plan (λ s. size_of plan s ≤ (plan_at plan s).flow.max)
  -- TooMuch
  pub few_packets : EachStream plan (λ s. bound_of plan s ≤ 16384)
