-- The present of a net as it is built, and as a run begins in it.
use Rattle.std.specs.Prelude.{Bool, List, [], length, map, replicate, Option}
use Rattle.std.specs.List.{range_with_len}
use Rattle.block_registers.specs.Registers.{Registers}
use Rattle.net_topology.specs.declared.plan.Plan.{Plan}
use Rattle.net_machine.specs.Begin.{begun, built, built_node, no_plan}
use Rattle.net_machine.specs.Queues.{queue_count}
use Rattle.net_machine.specs.State.{State}
use Rattle.net_machine.specs.declared.plan.RunPlan.{RunPlan}
use Rattle.net_present.specs.Kept.{IsNow}
use Rattle.net_present.specs.Present.{Present}
use Rattle.fabric_lists.specs.Opened.{opened_now, unfed}

-- a net as it is built, with routed or empty tables
abbrev pub built_now : Plan → Bool → Present
built_now tree routed = record {
  tree = tree;
  plan = no_plan;
  queues = replicate (queue_count tree) [];
  nodes = map (built_node tree routed) (range_with_len 0 (length tree.nodes));
  streams = [];
  blocks = [];
  faults = [];
  requests = 0;
  answers = 0;
}

-- a run of a plan begins: its streams and blocks are new, and packets are counted anew; the rest stays
abbrev pub begun_now : RunPlan → Present → Present
begun_now plan p = record p {
  plan = plan;
  streams = map (opened_now plan) plan.streams;
  blocks = map (unfed plan) (range_with_len 0 (length plan.blocks));
  faults = plan.faults;
  requests = 0;
  answers = 0;
}

-- what a law says of a net that is built: it is the present of the machine's, whatever the banks
abbrev pub BuiltIsNow : Type 0
BuiltIsNow = (tree : Plan) (routed : Bool) (banks : List (Option Registers)) → IsNow (built_now tree routed) (built tree routed banks)

-- and of one in which a run begins
abbrev pub BegunIsNow : Type 0
BegunIsNow = (plan : RunPlan) (p : Present) (w : State) → IsNow p w → IsNow (begun_now plan p) (begun plan w)
