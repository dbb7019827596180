-- Which refusal a part's fault is, unless memory ran out.
use Rattle.std.specs.Prelude.{Result, Ok, Err}
use Rattle.rf_base.specs.declared.memory.Memory.{Memory}
use Rattle.graph_core.specs.declared.fault.ConnectFault.{ConnectFault}
use Rattle.graph_core.specs.declared.fault.ConnectFault.TheVariants as connects
use Rattle.graph_core.specs.declared.fault.SetFault.{SetFault}
use Rattle.graph_core.specs.declared.fault.SetFault.TheVariants as sets
use Rattle.net_topology.specs.declared.check.PlanFault.{PlanFault}
use Rattle.net_topology.specs.declared.check.PlanFault.TheVariants as plans
use Rattle.property_resolver.specs.declared.fault.CommitFault.{CommitFault}
use Rattle.property_resolver.specs.declared.fault.CommitFault.TheVariants as commits
use Rattle.script_books.specs.declared.refusal.Refusal.{Refusal}
use Rattle.script_books.specs.declared.refusal.Refusal.TheVariants as refusals

abbrev pub plan_refusal : PlanFault → Result Refusal Memory
plan_refusal (plans.TooManyNodes count) = Ok (refusals.TooManyNodes count)
plan_refusal (plans.DuplicateEpid epid) = Ok (refusals.DuplicateEpid epid)
plan_refusal (plans.BadPort link) = Ok (refusals.NetBadPort link)
plan_refusal (plans.PortTwice link) = Ok (refusals.PortTwice link)
plan_refusal (plans.Cycle link) = Ok (refusals.NetCycle link)
plan_refusal (plans.Apart node) = Ok (refusals.Apart node)
plan_refusal (plans.BadLinkRoom room) = Ok (refusals.BadLinkRoom room)
plan_refusal plans.Memory = Err (record {})

abbrev pub connect_refusal : ConnectFault → Result Refusal Memory
connect_refusal connects.BadPort = Ok refusals.BadPort
connect_refusal connects.PortTaken = Ok refusals.PortTaken
connect_refusal connects.Cycle = Ok refusals.Cycle
connect_refusal connects.Memory = Err (record {})

abbrev pub set_refusal : SetFault → Result Refusal Memory
set_refusal sets.NoProperty = Ok refusals.NoProperty
set_refusal sets.Memory = Err (record {})

abbrev pub commit_refusal : CommitFault → Result Refusal Memory
commit_refusal (commits.Clash by prop held derived) = Ok (refusals.Clash by prop held derived)
commit_refusal (commits.NotWhole block value) = Ok (refusals.NotWhole block value)
commit_refusal (commits.Unsettled at) = Ok (refusals.Unsettled at)
commit_refusal commits.Memory = Err (record {})
