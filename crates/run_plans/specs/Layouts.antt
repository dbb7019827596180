-- The blocks of a graph on their endpoints, and the streams along its edges.
use Rattle.std.specs.Prelude.{◌≡◌, ◌≢◌, ◌⊎◌, ℕ, ◌<◌, ◌≤◌, ◌^◌, true, List, [], length, map, Contains, Option, None, Some, slice_get, slice_index_or}
use Rattle.block_library.specs.Blocks.{FitsKind, inputs, outputs}
use Rattle.block_library.specs.declared.kind.BlockKind.{BlockKind}
use Rattle.block_library.specs.declared.kind.BlockKind.TheVariants.{Rx}
use Rattle.chdr_words.specs.declared.epid.Epid.{Epid}
use Rattle.graph_core.specs.Derivation.{Diagram}
use Rattle.graph_core.specs.declared.place.Edge.{Edge}
use Rattle.graph_core.specs.declared.place.Prop.{Prop}
use Rattle.graph_core.specs.declared.place.Prop.TheVariants.{Rate, Item, Spp}
use Rattle.graph_core.specs.declared.place.PropAt.{PropAt}
use Rattle.graph_core.specs.declared.place.Side.{Side}
use Rattle.graph_core.specs.declared.place.Side.TheVariants.{Into, Out}
use Rattle.net_machine.specs.CanBegin.{AreApart, stands_at}
use Rattle.net_machine.specs.Plans.{no_stream}
use Rattle.net_machine.specs.declared.plan.StreamPlan.{StreamPlan}
use Rattle.net_topology.specs.declared.plan.Plan.{Plan}
use Rattle.stream_endpoint.specs.Flow.{IsValid}
use Rattle.run_plans.specs.Firsts.{EachPlace}
use Rattle.run_plans.specs.declared.layout.Layout.{Layout}
use Rattle.run_plans.specs.declared.layout.PlacedBlock.{PlacedBlock}

-- what stands for a block that isn't there
abbrev pub no_placed : PlacedBlock
no_placed = record { kind = Rx; ins = []; outs = []; packets = 0; time = None }

-- block b
abbrev pub placed_at : Layout → ℕ → PlacedBlock
placed_at layout b = slice_index_or layout.blocks b no_placed

-- stream s
abbrev pub laid_at : Layout → ℕ → StreamPlan
laid_at layout s = slice_index_or layout.streams s no_stream

-- the EPIDs of a block's ports on one side
abbrev pub ends_of : Side → PlacedBlock → List Epid
ends_of Into block = block.ins
ends_of Out block = block.outs

-- the EPID of port i of block b on one side
abbrev pub end_at : Side → Layout → ℕ → ℕ → Option Epid
end_at side layout b i = slice_get (ends_of side (placed_at layout b)) i

-- the EPID of input i of block b
abbrev pub in_at : Layout → ℕ → ℕ → Option Epid
in_at layout b i = end_at Into layout b i

-- the EPID of output j of block b
abbrev pub out_at : Layout → ℕ → ℕ → Option Epid
out_at layout b j = end_at Out layout b j

-- the EPID can be a node's
abbrev pub IsName : Epid → Type 0
IsName epid = 0 < epid.0

-- the numbers of a block are in their ranges, and it has an EPID for each port
pub record FitsPlaced (block : PlacedBlock) : Type 0 where
  pub kind : FitsKind block.kind
  pub inputs : length block.ins ≡ inputs block.kind
  pub outputs : length block.outs ≡ outputs block.kind
  pub ins : EachPlace (λ _ epid. IsName epid) block.ins
  pub outs : EachPlace (λ _ epid. IsName epid) block.outs
  pub packets : block.packets ≤ 16384

-- the numbers of a stream are in their ranges
pub record FitsTerms (stream : StreamPlan) : Type 0 where
  pub start : stream.start < 2 ^ 40
  pub flow : IsValid stream.flow

-- a value that a property may have
abbrev pub FitsValue : Prop → ℕ → Type 0
FitsValue Rate value = 1 ≤ value
FitsValue Item value = (value ≡ 4) ⊎ (value ≡ 8)
FitsValue Spp value = (1 ≤ value) × (value ≤ 1022)

-- a block of the kind stands at a node with the EPID, whichever port it is
abbrev pub StandsAtNode : Plan → BlockKind → ℕ → Epid → Type 0
StandsAtNode tree kind _ epid = stands_at tree kind epid ≡ true

-- what both sides of a block have at each place
pub record OnBothSides (P Q : ℕ → Epid → Type 0) (block : PlacedBlock) : Type 0 where
  pub ins : EachPlace P block.ins
  pub outs : EachPlace Q block.outs

-- the ports of the block stand at nodes of the sort that its kind stands on
abbrev pub StandsIn : Plan → PlacedBlock → Type 0
StandsIn tree block = OnBothSides (StandsAtNode tree block.kind) (StandsAtNode tree block.kind) block

-- so do those of all blocks
abbrev pub StandIn : Plan → Layout → Type 0
StandIn tree layout = (b : ℕ) → b < length layout.blocks → StandsIn tree (placed_at layout b)

-- what stands for an edge that isn't there
abbrev pub no_edge : Edge
no_edge = record { from = record { block = 0; port = 0 }; to = record { block = 0; port = 0 } }

-- edge k
abbrev pub edge_at : List Edge → ℕ → Edge
edge_at edges k = slice_index_or edges k no_edge

-- the stream goes from the EPID of the edge's output to that of its input, which is another
pub record GoesAlong (layout : Layout) (edge : Edge) (stream : StreamPlan) : Type 0 where
  pub from : out_at layout edge.from.block edge.from.port ≡ Some stream.from
  pub to : in_at layout edge.to.block edge.to.port ≡ Some stream.to
  pub differ : stream.from ≢ stream.to

-- the user's values are ones that their properties may have
abbrev pub HasFittingUsers : Diagram → Type 0
HasFittingUsers diagram = (at : PropAt) (value : ℕ) → Contains diagram.users (at, value) → FitsValue at.prop value

-- the layout is one of the graph: its blocks are those of the graph, and it has a stream along each edge
pub record IsLayout (diagram : Diagram) (layout : Layout) : Type 0 where
  pub kinds : map (λ (block : PlacedBlock). block.kind) layout.blocks ≡ diagram.kinds
  pub blocks : (b : ℕ) → b < length layout.blocks → FitsPlaced (placed_at layout b)
  pub inputs : AreApart (in_at layout)
  pub outputs : AreApart (out_at layout)
  pub few : length layout.streams ≤ 16
  pub edges : length layout.streams ≡ length diagram.edges
  pub along : (s : ℕ) → s < length layout.streams → GoesAlong layout (edge_at diagram.edges s) (laid_at layout s)
  pub terms : (s : ℕ) → s < length layout.streams → FitsTerms (laid_at layout s)
  pub users : HasFittingUsers diagram
