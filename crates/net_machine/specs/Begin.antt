-- A network as it is built, and a run of it as it begins.
use Rattle.std.specs.Prelude.{ℕ, Bool, true, false, List, [], ◌∷◌, length, map, replicate, Option, None, Some, if◌then◌else◌}
use Rattle.std.specs.List.{filter_map, range_with_len}
use Rattle.std.specs.Option.{option_map_or}
use Rattle.block_library.specs.Producer.{produced}
use Rattle.block_library.specs.declared.plan.TxPlan.{TxPlan}
use Rattle.block_registers.specs.Registers.{Registers}
use Rattle.chdr_packets.specs.declared.packet.Packet.{Packet}
use Rattle.chdr_words.specs.declared.epid.Epid.{Epid}
use Rattle.net_nodes.specs.Table.{no_exit}
use Rattle.net_nodes.specs.declared.table.Place.{Place}
use Rattle.net_topology.specs.Links.{start_port}
use Rattle.net_topology.specs.Parts.{way_of}
use Rattle.net_topology.specs.Tree.{epid_of, node_with}
use Rattle.net_topology.specs.declared.plan.Plan.{Plan}
use Rattle.stream_endpoint.specs.Counts.{count}
use Rattle.stream_endpoint.specs.Receiver.{listening}
use Rattle.stream_endpoint.specs.Sender.{opening}
use Rattle.stream_endpoint.specs.declared.count.Count.{Count}
use Rattle.net_machine.specs.declared.plan.BlockPlan.{BlockPlan}
use Rattle.net_machine.specs.declared.plan.RunPlan.{RunPlan}
use Rattle.net_machine.specs.declared.plan.StreamPlan.{StreamPlan}
use Rattle.net_machine.specs.Nodes.{is_switch}
use Rattle.net_machine.specs.Plans.{block_at, block_out, is_tx}
use Rattle.net_machine.specs.Queues.{queue_count}
use Rattle.net_machine.specs.State.{Node, State, Stream, blank, idle}

-- the EPIDs of a network, in the order of its nodes
abbrev pub epids_of : Plan → List Epid
epids_of tree = filter_map epid_of tree.nodes

-- the port of the first link of a way
abbrev pub exit_over : Plan → List ℕ → Option ℕ
exit_over tree [] = None
exit_over tree (d ∷ ds) = Some (start_port tree.links d)

-- the port of node x by which the way to the node of an EPID begins
abbrev pub exit_to : Plan → ℕ → Epid → Option ℕ
exit_to tree x epid = option_map_or (λ z. exit_over tree (way_of tree.links x z)) (node_with tree.nodes epid) None

-- the place of an EPID in the table of node x, with its entry or without one
abbrev pub place_for : Plan → Bool → ℕ → Epid → Place
place_for tree true x epid = record { epid = epid; exit = exit_to tree x epid }
place_for tree false x epid = no_exit epid

-- node x as it is built; a crossbar and an adapter have a place for each EPID
abbrev pub built_node : Plan → Bool → ℕ → Node
built_node tree routed x =
    if is_switch tree x then record blank { table = map (place_for tree routed x) (epids_of tree) } else blank

-- a plan of nothing
abbrev pub no_plan : RunPlan
no_plan = record { streams = []; blocks = []; faults = [] }

-- a network as it is built, with routed or empty tables, over these banks
abbrev pub built : Plan → Bool → List (Option Registers) → State
built tree routed banks = record {
  tree = tree;
  plan = no_plan;
  queues = replicate (queue_count tree) [];
  nodes = map (built_node tree routed) (range_with_len 0 (length tree.nodes));
  streams = [];
  banks = banks;
  faults = [];
  requests = 0;
  answers = 0;
  walked = false;
}

-- what a Tx makes for a consumer
abbrev pub source_of : BlockPlan → Epid → TxPlan
source_of block dst =
    record { packets = block.packets; spp = block.spp; item = block.item; time = block.time; dst = dst }

-- the packets that a Tx has for its stream; every other block has none yet
abbrev pub ready_by : BlockPlan → Epid → List Packet
ready_by block dst = if is_tx block.kind then produced (source_of block dst) else []

-- what is ready as a stream begins
abbrev pub ready_at_first : RunPlan → StreamPlan → List Packet
ready_at_first plan stream = option_map_or (λ b. ready_by (block_at plan b) stream.to) (block_out plan stream.from) []

-- where the counts of a stream begin
abbrev pub start_of : StreamPlan → Count
start_of stream = count stream.start 0

-- a stream as it begins
abbrev pub opened : RunPlan → StreamPlan → Stream
opened plan stream = record idle {
  ready = ready_at_first plan stream;
  sender = opening (start_of stream);
  receiver = listening stream.flow (start_of stream);
}

-- a run of a plan begins: its streams and blocks are new, and packets are counted anew; tables, requests
-- and banks stay
abbrev pub begun : RunPlan → State → State
begun plan w = record w {
  plan = plan;
  streams = map (opened plan) plan.streams;
  faults = plan.faults;
  requests = 0;
  answers = 0;
  walked = false;
}
