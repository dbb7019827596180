-- A run's plan: which stream and which block stands at an EPID.
use Rattle.std.specs.Prelude.{ℕ, ◌==◌, Bool, true, false, List, [], Option, None, position, slice_get, slice_index_or}
use Rattle.std.specs.List.{list_any}
use Rattle.std.specs.Option.{option_and_then}
use Rattle.block_library.specs.declared.kind.BlockKind.{BlockKind}
use Rattle.block_library.specs.declared.kind.BlockKind.TheVariants.{Tx, Rx, Fifo, Split, Keep, Repeat, Replay, Switch, Sink}
use Rattle.chdr_words.specs.declared.epid.Epid.{Epid}
use Rattle.net_topology.specs.declared.plan.Plan.{Plan}
use Rattle.net_topology.specs.Links.{link_at}
use Rattle.net_topology.specs.Tree.{node_with}
use Rattle.stream_endpoint.specs.declared.flow.Flow.{Flow}
use Rattle.stream_endpoint.specs.declared.flow.Policy.TheVariants.{Off}
use Rattle.net_machine.specs.declared.plan.BlockPlan.{BlockPlan}
use Rattle.net_machine.specs.declared.plan.RunPlan.{RunPlan}
use Rattle.net_machine.specs.declared.plan.StreamPlan.{StreamPlan}

-- no node has this EPID
abbrev pub no_epid : Epid
no_epid = record { 0 = 0 }

abbrev pub no_flow : Flow
no_flow = record { cap_bytes = 0; cap_packets = 0; freq_bytes = 0; freq_packets = 0; max = 0 }

-- what stands for a stream that isn't there
abbrev pub no_stream : StreamPlan
no_stream = record { from = no_epid; to = no_epid; flow = no_flow; start = 0; policy = Off }

-- what stands for a block that isn't there
abbrev pub no_block : BlockPlan
no_block = record { kind = Rx; ins = []; outs = []; packets = 0; spp = 0; item = 0; time = None }

-- stream s of a plan
abbrev pub plan_at : RunPlan → ℕ → StreamPlan
plan_at plan s = slice_index_or plan.streams s no_stream

-- block b of a plan
abbrev pub block_at : RunPlan → ℕ → BlockPlan
block_at plan b = slice_index_or plan.blocks b no_block

-- a stream begins at this EPID
abbrev pub is_from : Epid → StreamPlan → Bool
is_from epid s = s.from.0 == epid.0

-- a stream ends at this EPID
abbrev pub is_to : Epid → StreamPlan → Bool
is_to epid s = s.to.0 == epid.0

-- the stream that begins at an EPID
abbrev pub stream_from : RunPlan → Epid → Option ℕ
stream_from plan epid = position (is_from epid) plan.streams

-- the stream that ends at an EPID
abbrev pub stream_to : RunPlan → Epid → Option ℕ
stream_to plan epid = position (is_to epid) plan.streams

-- an EPID is one of these
abbrev pub is_among : Epid → List Epid → Bool
is_among epid epids = list_any (λ (e : Epid). e.0 == epid.0) epids

-- the block with an input at an EPID
abbrev pub block_in : RunPlan → Epid → Option ℕ
block_in plan epid = position (λ (b : BlockPlan). is_among epid b.ins) plan.blocks

-- the block with an output at an EPID
abbrev pub block_out : RunPlan → Epid → Option ℕ
block_out plan epid = position (λ (b : BlockPlan). is_among epid b.outs) plan.blocks

-- the block that makes a stream's packets
abbrev pub producer_of : RunPlan → ℕ → Option ℕ
producer_of plan s = block_out plan (plan_at plan s).from

-- the block that takes a stream's packets
abbrev pub consumer_of : RunPlan → ℕ → Option ℕ
consumer_of plan s = block_in plan (plan_at plan s).to

-- the stream that ends at input i of a block
abbrev pub stream_into : RunPlan → BlockPlan → ℕ → Option ℕ
stream_into plan block i = option_and_then (stream_to plan) (slice_get block.ins i)

-- the stream that begins at output j of a block
abbrev pub stream_out_of : RunPlan → BlockPlan → ℕ → Option ℕ
stream_out_of plan block j = option_and_then (stream_from plan) (slice_get block.outs j)

-- the directed link by which packets of an end node leave it
abbrev pub first_link : Plan → Epid → Option ℕ
first_link tree epid = option_and_then (λ x. link_at tree.links x 0) (node_with tree.nodes epid)

-- a Tx makes packets by itself
abbrev pub is_tx : BlockKind → Bool
is_tx Tx = true
is_tx Rx = false
is_tx Fifo = false
is_tx Split = false
is_tx (Keep n) = false
is_tx (Repeat n) = false
is_tx (Replay n) = false
is_tx (Switch n) = false
is_tx Sink = false

-- the packets that come to an Rx are taken by a consumer outside the network
abbrev pub is_rx : BlockKind → Bool
is_rx Tx = false
is_rx Rx = true
is_rx Fifo = false
is_rx Split = false
is_rx (Keep n) = false
is_rx (Repeat n) = false
is_rx (Replay n) = false
is_rx (Switch n) = false
is_rx Sink = false
