-- Why a block isn't placed and why two ports aren't connected, in the order in which the causes are looked at.
use Rattle.std.specs.Prelude.{◌≡◌, ◌⊎◌, ℕ, ◌<◌, ◌≤◌, List, length, Option, None, Some, slice_get}
use Rattle.chdr_words.specs.declared.epid.Epid.{Epid}
use Rattle.graph_core.specs.Derivation.{Diagram}
use Rattle.graph_core.specs.Edges.{IsBadPort}
use Rattle.graph_core.specs.Refusals.{IsFree as CanJoin, IsRefusedTaken, IsRefusedCycle}
use Rattle.graph_core.specs.declared.place.PortAt.{PortAt}
use Rattle.net_topology.specs.declared.plan.Plan.{Plan}
use Rattle.run_plans.specs.Firsts.{EachPlace, IsFirstWithout}
use Rattle.run_plans.specs.Layouts.{OnBothSides, StandsAtNode, StandsIn, in_at, out_at}
use Rattle.run_plans.specs.declared.fault.BlockRefusal.{BlockRefusal}
use Rattle.run_plans.specs.declared.fault.BlockRefusal.TheVariants.{TooManyBlocks, NoEndpoint, EndpointTaken}
use Rattle.run_plans.specs.declared.fault.ConnectRefusal.{ConnectRefusal}
use Rattle.run_plans.specs.declared.fault.ConnectRefusal.TheVariants.{TooManyStreams, BadPort, PortTaken, Cycle, Loop}
use Rattle.run_plans.specs.declared.layout.Layout.{Layout}
use Rattle.run_plans.specs.declared.layout.PlacedBlock.{PlacedBlock}

-- no port of a block has the EPID, nor an earlier place of the list
pub record IsUnused (epid_at : ℕ → ℕ → Option Epid) (epids : List Epid) (place : ℕ) (epid : Epid) : Type 0 where
  pub blocks : (b i : ℕ) → epid_at b i ≡ Some epid → ⊥
  pub earlier : (i : ℕ) → i < place → slice_get epids i ≡ Some epid → ⊥

-- the EPIDs of the block are free on their sides
abbrev pub IsFree : Layout → PlacedBlock → Type 0
IsFree layout block = OnBothSides (IsUnused (in_at layout) block.ins) (IsUnused (out_at layout) block.outs) block

-- the first EPID of the block, inputs before outputs, without the property of its side
abbrev pub IsFirstOf : (ℕ → Epid → Type 0) → (ℕ → Epid → Type 0) → PlacedBlock → Epid → Type 0
IsFirstOf P Q block epid =
    IsFirstWithout P block.ins epid ⊎ (EachPlace P block.ins × IsFirstWithout Q block.outs epid)

-- the block can be placed
pub record CanPlace (tree : Plan) (layout : Layout) (block : PlacedBlock) : Type 0 where
  pub room : length layout.blocks < 32
  pub stands : StandsIn tree block
  pub free : IsFree layout block

-- there is room, and the EPID is the first that no node has for the block
pub record IsRefusedNowhere (tree : Plan) (layout : Layout) (block : PlacedBlock) (epid : Epid) : Type 0 where
  pub room : length layout.blocks < 32
  pub first : IsFirstOf (StandsAtNode tree block.kind) (StandsAtNode tree block.kind) block epid

-- there is room and the block stands at nodes, and the EPID is the first that isn't free
pub record IsRefusedUsed (tree : Plan) (layout : Layout) (block : PlacedBlock) (epid : Epid) : Type 0 where
  pub room : length layout.blocks < 32
  pub stands : StandsIn tree block
  pub first : IsFirstOf (IsUnused (in_at layout) block.ins) (IsUnused (out_at layout) block.outs) block epid

-- the cause of a refusal, or none if the block can be placed
abbrev pub IsBlockRefusal : Plan → Layout → PlacedBlock → Option BlockRefusal → Type 0
IsBlockRefusal tree layout block None = CanPlace tree layout block
IsBlockRefusal tree layout block (Some TooManyBlocks) = 32 ≤ length layout.blocks
IsBlockRefusal tree layout block (Some (NoEndpoint epid)) = IsRefusedNowhere tree layout block epid
IsBlockRefusal tree layout block (Some (EndpointTaken epid)) = IsRefusedUsed tree layout block epid

-- the two ports have one EPID
pub record IsLoop (layout : Layout) (from to : PortAt) (epid : Epid) : Type 0 where
  pub begins : out_at layout from.block from.port ≡ Some epid
  pub ends : in_at layout to.block to.port ≡ Some epid

-- a stream can go from one port to the other
pub record CanConnect (diagram : Diagram) (layout : Layout) (from to : PortAt) : Type 0 where
  pub room : length layout.streams < 16
  pub joins : CanJoin diagram.kinds diagram.edges from to
  pub no_loop : (epid : Epid) → IsLoop layout from to epid → ⊥

-- the edge can be added, and its ends have one EPID
pub record IsRefusedLoop (diagram : Diagram) (layout : Layout) (from to : PortAt) (epid : Epid) : Type 0 where
  pub joins : CanJoin diagram.kinds diagram.edges from to
  pub loops : IsLoop layout from to epid

-- the cause of a refusal, or none if a stream can go there
abbrev pub IsConnectRefusal : Diagram → Layout → PortAt → PortAt → Option ConnectRefusal → Type 0
IsConnectRefusal diagram layout from to None = CanConnect diagram layout from to
IsConnectRefusal diagram layout from to (Some TooManyStreams) = 16 ≤ length layout.streams
IsConnectRefusal diagram layout from to (Some BadPort) =
    (length layout.streams < 16) × IsBadPort diagram.kinds from to
IsConnectRefusal diagram layout from to (Some PortTaken) =
    (length layout.streams < 16) × IsRefusedTaken diagram.kinds diagram.edges from to
IsConnectRefusal diagram layout from to (Some Cycle) =
    (length layout.streams < 16) × IsRefusedCycle diagram.kinds diagram.edges from to
IsConnectRefusal diagram layout from to (Some (Loop epid)) =
    (length layout.streams < 16) × IsRefusedLoop diagram layout from to epid
