-- What a world answers before a run: its plan, or why it doesn't begin.
use Rattle.std.specs.Prelude.{◌≡◌, List, None, Some}
use Rattle.fabric_net.specs.NetView.{NetSeen}
use Rattle.fabric_net.specs.Standing.{IsResting}
use Rattle.net_machine.specs.CanBegin.{CanBegin}
use Rattle.net_machine.specs.declared.plan.RunPlan.{RunPlan}
use Rattle.run_plans.specs.Planned.{plan_of}
use Rattle.net_faults.specs.declared.fault.Fault.{Fault}
use Rattle.script_worlds.specs.Causes.{IsRunCause}
use Rattle.script_worlds.specs.WorldView.{WorldSeen, nodes_in}
use Rattle.script_worlds.specs.declared.runs.RunFault.{RunFault}
use Rattle.script_worlds.specs.declared.runs.RunFault.TheVariants.{Refused, Memory}

-- The plan of a run that loses these packets. Nothing is refused of it, and the world's net, which is at rest, can
-- begin it.
pub record IsRunPlan (world : WorldSeen) (faults : List Fault) (plan : RunPlan) : Type 0 where
  pub value : plan ≡ plan_of world.setup.layout world.setup.graph.committed faults
  pub free : IsRunCause world.setup (nodes_in world.net) faults None
  pub net : NetSeen
  pub here : world.net ≡ Some net
  pub rest : IsResting net.present
  pub can : CanBegin net.present.tree net.present.nodes plan

-- a refusal has its cause; running out of memory has none
abbrev pub IsRunFault : WorldSeen → List Fault → RunFault → Type 0
IsRunFault world faults (Refused refusal) = IsRunCause world.setup (nodes_in world.net) faults (Some refusal)
IsRunFault world faults Memory = Unit {0}
