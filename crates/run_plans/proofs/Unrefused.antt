-- If nothing is refused of a plan that was laid out, the network can begin it.
use Rattle.net_machine.specs.CanBegin.{CanBegin}
use Rattle.net_machine.specs.State.{Node}
use Rattle.net_machine.specs.declared.plan.RunPlan.{RunPlan}
use Rattle.net_topology.specs.declared.plan.Plan.{Plan}
use Rattle.run_plans.specs.Laws.{UnrefusedPlansBegin}
use Rattle.run_plans.specs.Planned.{plan_of}
use Rattle.run_plans.specs.RunRefusals.{HasNoCause, IsLaidOut}
use Rattle.run_plans.proofs.LaidOut.{laid_out}
use Rattle.std.proofs.Common.{List}

pub can_begin : (tree : Plan) (nodes : List Node) (plan : RunPlan) → IsLaidOut tree plan → HasNoCause tree nodes plan → CanBegin tree nodes plan
can_begin tree nodes plan laid free = record {
  fits = laid.fits;
  few_blocks = laid.few_blocks;
  endpoints = laid.endpoints;
  endpoints_free = laid.endpoints_free;
  few_streams = laid.few_streams;
  ports = laid.ports;
  ports_free = laid.ports_free;
  acyclic = laid.acyclic;
  no_loops = laid.no_loops;
  no_open_ports = free.no_open_ports;
  routed = free.routed;
  small = free.small;
  few_packets = free.short;
}

pub unrefused_plans : UnrefusedPlansBegin
unrefused_plans tree nodes diagram layout committed faults graph ok stand settles free =
    can_begin tree nodes (plan_of layout committed faults) (laid_out diagram layout committed faults graph ok settles tree stand) free
