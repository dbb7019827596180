-- Why the commands that let no event happen, and the runs, are refused: of several causes the first in order.
use Rattle.std.specs.Prelude.{◌≡◌, ℕ, Bool, true, false, List, Option, None, Some, Ok, Err, option_map}
use Rattle.block_registers.specs.Registers.{Registers}
use Rattle.block_registers.specs.Slots.{bank_at}
use Rattle.graph_core.specs.Derivation.{Diagram, Settles}
use Rattle.graph_core.specs.Pairs.{Pair}
use Rattle.graph_core.specs.State.{HasNoPort}
use Rattle.graph_core.specs.declared.place.PortAt.{PortAt}
use Rattle.graph_core.specs.declared.place.PropAt.{PropAt}
use Rattle.net_machine.specs.State.{Node}
use Rattle.net_topology.specs.Tree.{IsFault, IsTree}
use Rattle.net_topology.specs.declared.check.PlanFault.{PlanFault}
use Rattle.net_topology.specs.declared.plan.Plan.{Plan}
use Rattle.property_resolver.specs.Causes.{IsCause}
use Rattle.property_resolver.specs.Outcome.{UnsettledWhereMissing}
use Rattle.property_resolver.specs.declared.fault.CommitFault.{CommitFault}
use Rattle.run_plans.specs.Planned.{plan_of}
use Rattle.run_plans.specs.Refusals.{IsBlockRefusal, IsConnectRefusal}
use Rattle.run_plans.specs.RunRefusals.{IsRunRefusal}
use Rattle.run_plans.specs.declared.fault.BlockRefusal.{BlockRefusal}
use Rattle.run_plans.specs.declared.fault.BlockRefusal.TheVariants as blocks
use Rattle.run_plans.specs.declared.fault.ConnectRefusal.{ConnectRefusal}
use Rattle.run_plans.specs.declared.fault.ConnectRefusal.TheVariants as connects
use Rattle.run_plans.specs.declared.fault.RunRefusal.{RunRefusal}
use Rattle.run_plans.specs.declared.fault.RunRefusal.TheVariants as runs
use Rattle.run_plans.specs.declared.layout.PlacedBlock.{PlacedBlock}
use Rattle.script_books.specs.Refusals.{commit_refusal, plan_refusal}
use Rattle.script_books.specs.declared.refusal.Refusal.{Refusal}
use Rattle.script_books.specs.declared.refusal.Refusal.TheVariants as refusal
use Rattle.net_faults.specs.declared.fault.Fault.{Fault}
use Rattle.script_worlds.specs.Worlds.{Setup}

-- ---- a part's refusals as those of a script

abbrev pub block_refusal : BlockRefusal → Refusal
block_refusal blocks.TooManyBlocks = refusal.TooManyBlocks
block_refusal (blocks.NoEndpoint epid) = refusal.NoEndpoint epid
block_refusal (blocks.EndpointTaken epid) = refusal.EndpointTaken epid

abbrev pub connect_refusal : ConnectRefusal → Refusal
connect_refusal connects.TooManyStreams = refusal.TooManyStreams
connect_refusal connects.BadPort = refusal.BadPort
connect_refusal connects.PortTaken = refusal.PortTaken
connect_refusal connects.Cycle = refusal.Cycle
connect_refusal (connects.Loop epid) = refusal.Loop epid

abbrev pub run_refusal : RunRefusal → Refusal
run_refusal (runs.OpenPort block) = refusal.OpenPort block
run_refusal (runs.Unrouted stream) = refusal.Unrouted stream
run_refusal (runs.TooBig stream) = refusal.TooBig stream
run_refusal (runs.TooMuch stream) = refusal.TooMuch stream

-- a part's cause, or that it has none, as that of a command
pub record IsTold {A : Type 0} (tell : A → Refusal) (IsOwn : Option A → Type 0) (cause : Option Refusal) : Type 0 where
  pub own : Option A
  pub told : cause ≡ option_map tell own
  pub holds : IsOwn own

-- ---- the cause of a command's refusal, or that it has none

-- a command that needs a network is refused without one; else the rest decides
abbrev pub OnNetwork : Option Plan → (Plan → Option Refusal → Type 0) → Option Refusal → Type 0
OnNetwork None rest cause = cause ≡ Some refusal.NoNet
OnNetwork (Some tree) rest cause = rest tree cause

-- a plan has this fault
pub record IsPlanRefusal (tree : Plan) (refusal : Refusal) : Type 0 where
  pub fault : PlanFault
  pub told : plan_refusal fault ≡ Ok refusal
  pub holds : IsFault tree fault

abbrev pub IsNetCause : Plan → Option Refusal → Type 0
IsNetCause tree None = IsTree tree
IsNetCause tree (Some refusal) = IsPlanRefusal tree refusal

abbrev pub IsBlockCause : Setup → PlacedBlock → Option Refusal → Type 0
IsBlockCause setup block =
    OnNetwork setup.tree (λ tree. IsTold block_refusal (IsBlockRefusal tree setup.layout block))

abbrev pub IsConnectCause : Setup → PortAt → PortAt → Option Refusal → Type 0
IsConnectCause setup from to =
    OnNetwork setup.tree (λ _. IsTold connect_refusal (IsConnectRefusal setup.graph.diagram setup.layout from to))

abbrev pub IsPortCause : Setup → PropAt → Option Refusal → Type 0
IsPortCause setup at None = HasNoPort setup.graph at → ⊥
IsPortCause setup at (Some why) = (why ≡ refusal.NoProperty) × HasNoPort setup.graph at

abbrev pub IsSetCause : Setup → PropAt → Option Refusal → Type 0
IsSetCause setup at = OnNetwork setup.tree (λ _. IsPortCause setup at)

-- no values settle the graph, and the refusal has its cause; where a property alone is missing it names the first
pub record IsCommitRefusal (diagram : Diagram) (refusal : Refusal) : Type 0 where
  pub fault : CommitFault
  pub told : commit_refusal fault ≡ Ok refusal
  pub holds : IsCause diagram fault
  pub unsettled : (values : List Pair) → Settles diagram values → ⊥
  pub missing : UnsettledWhereMissing diagram (Err fault)

abbrev pub IsSettleCause : Diagram → Option Refusal → Type 0
IsSettleCause diagram None = (values : List Pair) × Settles diagram values
IsSettleCause diagram (Some refusal) = IsCommitRefusal diagram refusal

abbrev pub IsCommitCause : Setup → Option Refusal → Type 0
IsCommitCause setup = OnNetwork setup.tree (λ _. IsSettleCause setup.graph.diagram)

-- the slot of a port has no bank
abbrev pub IsBankCause : ℕ → Option Registers → Option Refusal → Type 0
IsBankCause port None cause = cause ≡ Some (refusal.NotLoaded port)
IsBankCause port (Some bank) cause = cause ≡ None

abbrev pub IsUnloadCause : List (Option Registers) → ℕ → Option Refusal → Type 0
IsUnloadCause slots port = IsBankCause port (bank_at slots port)

-- a graph that isn't committed has no run; else the run's own causes decide
abbrev pub OnCommitted : Bool → (Option Refusal → Type 0) → Option Refusal → Type 0
OnCommitted false rest cause = cause ≡ Some refusal.NotCommitted
OnCommitted true rest cause = rest cause

-- of a run that loses these packets, on a network whose nodes have these tables
abbrev pub IsRunCause : Setup → List Node → List Fault → Option Refusal → Type 0
IsRunCause setup nodes faults = OnNetwork setup.tree (λ tree. OnCommitted setup.graph.is_committed
    (IsTold run_refusal (IsRunRefusal tree nodes (plan_of setup.layout setup.graph.committed faults))))
