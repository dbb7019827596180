-- What is refused would leave a plan that can't begin, and what isn't refused can.
use Rattle.std.specs.Prelude.{List, None, Some}
use Rattle.graph_core.specs.Derivation.{Diagram, Settles}
use Rattle.graph_core.specs.Pairs.{Pair}
use Rattle.graph_core.specs.State.{IsDiagram}
use Rattle.graph_core.specs.declared.place.PortAt.{PortAt}
use Rattle.net_machine.specs.CanBegin.{CanBegin}
use Rattle.net_machine.specs.State.{Node}
use Rattle.net_machine.specs.declared.plan.RunPlan.{RunPlan}
use Rattle.net_topology.specs.declared.plan.Plan.{Plan}
use Rattle.net_faults.specs.declared.fault.Fault.{Fault}
use Rattle.run_plans.specs.Changes.{with_block, with_stream}
use Rattle.run_plans.specs.Layouts.{IsLayout, StandIn}
use Rattle.run_plans.specs.Planned.{plan_of}
use Rattle.run_plans.specs.Refusals.{IsBlockRefusal, IsConnectRefusal}
use Rattle.run_plans.specs.RunRefusals.{IsRunRefusal}
use Rattle.run_plans.specs.declared.connect.Terms.{Terms}
use Rattle.run_plans.specs.declared.fault.BlockRefusal.{BlockRefusal}
use Rattle.run_plans.specs.declared.fault.ConnectRefusal.{ConnectRefusal}
use Rattle.run_plans.specs.declared.fault.RunRefusal.{RunRefusal}
use Rattle.run_plans.specs.declared.layout.Layout.{Layout}
use Rattle.run_plans.specs.declared.layout.PlacedBlock.{PlacedBlock}

-- if nothing is refused of the plan of a layout on a network, that network can begin it
abbrev pub UnrefusedPlansBegin : Type 0
UnrefusedPlansBegin = (tree : Plan) (nodes : List Node) (diagram : Diagram) (layout : Layout) (committed : List Pair) (faults : List Fault)
    → IsDiagram diagram → IsLayout diagram layout → StandIn tree layout → Settles diagram committed
    → IsRunRefusal tree nodes (plan_of layout committed faults) None
    → CanBegin tree nodes (plan_of layout committed faults)

-- no plan begins of which something is refused
abbrev pub RefusedPlansDoNot : Type 0
RefusedPlansDoNot = (tree : Plan) (nodes : List Node) (plan : RunPlan) (refusal : RunRefusal)
    → IsRunRefusal tree nodes plan (Some refusal) → CanBegin tree nodes plan → ⊥

-- nor does one with a block that is refused
abbrev pub RefusedBlocksDoNot : Type 0
RefusedBlocksDoNot = (tree : Plan) (nodes : List Node) (layout : Layout) (block : PlacedBlock) (committed : List Pair) (faults : List Fault) (refusal : BlockRefusal)
    → IsBlockRefusal tree layout block (Some refusal)
    → CanBegin tree nodes (plan_of (with_block layout block) committed faults) → ⊥

-- nor one with a stream between ports that are refused
abbrev pub RefusedStreamsDoNot : Type 0
RefusedStreamsDoNot = (tree : Plan) (nodes : List Node) (diagram : Diagram) (layout : Layout) (from to : PortAt) (terms : Terms) (committed : List Pair) (faults : List Fault) (refusal : ConnectRefusal)
    → IsLayout diagram layout → IsConnectRefusal diagram layout from to (Some refusal)
    → CanBegin tree nodes (plan_of (with_stream layout from to terms) committed faults) → ⊥
