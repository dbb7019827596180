-- The generated script: chain c has nodes 4c + 1 to 4c + 4 and blocks 4c to 4c + 3.
use Rattle.std.specs.Prelude.{ℕ, ◌+◌, ◌*◌, List, [], ◌∷◌, ◌++◌, map, None, true, false}
use Rattle.chdr_words.specs.declared.epid.Epid.{Epid}
use Rattle.block_library.specs.declared.kind.BlockKind.{BlockKind}
use Rattle.block_library.specs.declared.kind.BlockKind.TheVariants.{Tx, Rx, Fifo, Keep}
use Rattle.graph_core.specs.declared.place.Prop.{Prop}
use Rattle.graph_core.specs.declared.place.Prop.TheVariants.{Rate, Item, Spp}
use Rattle.graph_core.specs.declared.place.Side.TheVariants.{Out}
use Rattle.net_topology.specs.declared.plan.NodePlan.{NodePlan}
use Rattle.net_topology.specs.declared.plan.NodePlan.TheVariants.{Crossbar, Host, Endpoint}
use Rattle.net_topology.specs.declared.plan.LinkPlan.{LinkPlan}
use Rattle.stream_endpoint.specs.declared.flow.Flow.{Flow}
use Rattle.stream_endpoint.specs.declared.flow.Policy.TheVariants.{Auto}
use Rattle.rf_script_types.specs.declared.command.Script.{Script}
use Rattle.rf_script_types.specs.declared.command.ScriptCommand.{ScriptCommand}
use Rattle.rf_script_types.specs.declared.command.ScriptCommand.TheVariants.{Net, Block, Connect, Set, Commit, Run}

abbrev pub epid : ℕ → Epid
epid n = record { 0 = n }

abbrev pub one_end : ℕ → List Epid
one_end n = epid n ∷ []

abbrev pub tx : ℕ → ℕ → ScriptCommand
tx n packets = Block Tx [] (one_end n) packets None

abbrev pub rx : ℕ → ScriptCommand
rx n = Block Rx (one_end n) [] 0 None

-- a block with one input and one output at one endpoint
abbrev pub through : BlockKind → ℕ → ScriptCommand
through kind n = Block kind (one_end n) (one_end n) 0 None

abbrev pub default_flow : Flow
default_flow = record { cap_bytes = 65536; cap_packets = 32; freq_bytes = 8192; freq_packets = 4; max = 8192 }

-- a stream with the default flow from port 0 of a block to port 0 of another
abbrev pub join : ℕ → ℕ → ScriptCommand
join from to = Connect (record { block = from; port = 0 }) (record { block = to; port = 0 }) default_flow 0 Auto

-- a value at output 0 of a block
abbrev pub setting : ℕ → Prop → ℕ → ScriptCommand
setting block prop value = Set (record { block = block; side = Out; port = 0; prop = prop }) value

abbrev pub host : ℕ → NodePlan
host n = Host (epid n)

abbrev pub endpoint : ℕ → NodePlan
endpoint n = Endpoint (epid n) None

-- the link from a port of the crossbar to a node
abbrev pub link : ℕ → ℕ → LinkPlan
link port node = record { a = 0; a_port = port; b = node; b_port = 0 }

abbrev pub chain_nodes : ℕ → List NodePlan
chain_nodes c = host (4 * c + 1) ∷ host (4 * c + 2) ∷ endpoint (4 * c + 3) ∷ endpoint (4 * c + 4) ∷ []

-- port k of the crossbar has node k + 1
abbrev pub net : ScriptCommand
net = Net (Crossbar 8 ∷ (chain_nodes 0 ++ chain_nodes 1)) (map (λ k. link k (k + 1)) (0 ∷ 1 ∷ 2 ∷ 3 ∷ 4 ∷ 5 ∷ 6 ∷ 7 ∷ [])) 4 true 64

abbrev pub run : ScriptCommand
run = Run 0 false false []

-- a tx of n packets, a fifo, a keep of every second sample, an rx
abbrev pub chain_blocks : ℕ → ℕ → List ScriptCommand
chain_blocks c n = tx (4 * c + 1) n ∷ through Fifo (4 * c + 3) ∷ through (Keep 2) (4 * c + 4) ∷ rx (4 * c + 2) ∷ []

abbrev pub chain_streams : ℕ → List ScriptCommand
chain_streams c = join (4 * c) (4 * c + 1) ∷ join (4 * c + 1) (4 * c + 2) ∷ join (4 * c + 2) (4 * c + 3) ∷ []

abbrev pub chain_settings : ℕ → List ScriptCommand
chain_settings c = setting (4 * c) Rate 2000000 ∷ setting (4 * c) Item 4 ∷ setting (4 * c) Spp 364 ∷ []

-- the script of two chains
abbrev pub generated : ℕ → Script
generated n = record {
  version = 1;
  commands = net ∷ (chain_blocks 0 n ++ chain_blocks 1 n ++ chain_streams 0 ++ chain_streams 1
      ++ chain_settings 0 ++ chain_settings 1 ++ Commit ∷ run ∷ []);
}
