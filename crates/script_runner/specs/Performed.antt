-- What one thread does of a script: the book of each command, and the world that it leaves.
use Rattle.std.specs.Prelude.{◌≡◌, ℕ, Bool, List, [], ◌∷◌, ◌++◌, Option, None, Some, option_map, slice_set}
use Rattle.block_registers.specs.Registers.{Registers}
use Rattle.net_machine.specs.Begin.{begun, built}
use Rattle.net_machine.specs.Moves.{after_journal}
use Rattle.net_machine.specs.State.{State}
use Rattle.net_machine.specs.declared.plan.RunPlan.{RunPlan}
use Rattle.net_topology.specs.declared.plan.Plan.{Plan}
use Rattle.rf_script_types.specs.declared.command.ScriptCommand.{ScriptCommand}
use Rattle.rf_script_types.specs.declared.command.ScriptCommand.TheVariants as command
use Rattle.run_books.specs.Books.{IsChosenBook}
use Rattle.run_books.specs.declared.book.RunBook.{RunBook}
use Rattle.run_plans.specs.Planned.{plan_of as run_plan_of}
use Rattle.script_books.specs.declared.book.Book.{Book}
use Rattle.script_books.specs.declared.book.Book.TheVariants as book
use Rattle.script_books.specs.declared.refusal.Refusal.TheVariants as refusal
use Rattle.script_worlds.specs.Books.{IsNetBook, IsQuietBook}
use Rattle.script_worlds.specs.Causes.{IsRunCause}
use Rattle.script_worlds.specs.Worlds.{IsNext, plan_of, unless_refused}
use Rattle.net_faults.specs.declared.fault.Fault.{Fault}
use Rattle.stream_pump.specs.Running.{CanRun}
use Rattle.script_runner.specs.Controls.{IsControlled, control_of}
use Rattle.script_runner.specs.Discoveries.{IsWalked}
use Rattle.script_runner.specs.Routes.{IsRouting, nodes_of}
use Rattle.script_runner.specs.ScriptWorlds.{ScriptWorld, banks_in, first_world, nodes_in, state_in}
use Rattle.script_runner.specs.Talks.{TalksOn}

-- ---- runs

-- the plan of a run that loses these packets
abbrev pub plan_in : ScriptWorld → List Fault → RunPlan
plan_in world lose = run_plan_of world.setup.layout world.setup.graph.committed lose

-- the state in which a run begins
abbrev pub opened : ScriptWorld → List Fault → Option State
opened world lose = option_map (begun (plan_in world lose)) (state_in world)

-- the state in which it ends
abbrev pub closed : ScriptWorld → List Fault → RunBook → Option State
closed world lose run = option_map (λ w. after_journal w run.journal) (opened world lose)

-- Nothing refused the run, and its plan can run in the state of the machine; the book is that of the run that one
-- thread takes with a seed.
pub record IsRunDone (world : ScriptWorld) (seed : ℕ) (lose : List Fault) (run : RunBook) : Type 0 where
  pub free : IsRunCause world.setup (nodes_in world.machine) lose None
  pub state : State
  pub here : state_in world ≡ Some state
  pub can : CanRun (plan_in world lose) state
  pub chosen : IsChosenBook seed (begun (plan_in world lose) state) run

abbrev pub IsRunBook : ScriptWorld → ℕ → List Fault → Book → Type 0
IsRunBook world seed lose (book.Refused why) = IsRunCause world.setup (nodes_in world.machine) lose (Some why)
IsRunBook world seed lose (book.Run run) = IsRunDone world seed lose run
IsRunBook world seed lose told = ⊥

-- ---- one command: its book, and the state of the machine that it leaves, but for its banks

-- this program doesn't perform the command
abbrev pub IsLeft : ScriptWorld → Book → Option State → Type 0
IsLeft world told left = (told ≡ book.Refused refusal.NotBuilt) × (left ≡ world.machine)

-- no event happens
abbrev pub IsQuiet : ScriptWorld → ScriptCommand → Book → Option State → Type 0
IsQuiet world c told left = IsQuietBook world.setup world.banks c told × (left ≡ world.machine)

-- a network is built
abbrev pub IsBuilt : ScriptWorld → Plan → Bool → Book → Option State → Type 0
IsBuilt world tree routed told left =
    IsNetBook tree told × (left ≡ unless_refused told world.machine (Some (built tree routed world.banks)))

-- a run leaves the machine in its last state
abbrev pub machine_past : ScriptWorld → List Fault → Book → Option State
machine_past world lose (book.Run run) = closed world lose run
machine_past world lose told = world.machine

abbrev pub IsRun : ScriptWorld → ℕ → List Fault → Book → Option State → Type 0
IsRun world seed lose told left = IsRunBook world seed lose told × (left ≡ machine_past world lose told)

-- a command by which a host talks tells and leaves what it does in the machine's state, with the banks as they are
abbrev pub IsTalk : ScriptWorld → (State → Book → State → Type 0) → Book → Option State → Type 0
IsTalk world Tells told left = TalksOn Tells (state_in world) told left

abbrev pub IsDone : ScriptWorld → ScriptCommand → Book → Option State → Type 0
IsDone world (command.Net nodes links room routed limit) told left = IsBuilt world (plan_of nodes links room limit) routed told left
IsDone world (command.Discover host lose) told left = IsTalk world (IsWalked host lose) told left
IsDone world (command.Route host from to lose) told left =
    IsTalk world (IsRouting (nodes_of world.setup.found) host from to lose) told left
IsDone world (command.Control host to port op addr words enables lose) told left =
    IsTalk world (IsControlled to (control_of host port op addr words enables) lose) told left
IsDone world (command.Unload port) told left = IsQuiet world (command.Unload port) told left
IsDone world (command.Block kind ins outs packets time) told left = IsQuiet world (command.Block kind ins outs packets time) told left
IsDone world (command.Connect from to flow start policy) told left =
    IsQuiet world (command.Connect from to flow start policy) told left
IsDone world (command.Set at value) told left = IsQuiet world (command.Set at value) told left
IsDone world command.Commit told left = IsQuiet world command.Commit told left
IsDone world (command.Run seed trace peak lose) told left = IsRun world seed lose told left
IsDone world (command.Twin cut peak lose) told left = IsLeft world told left
IsDone world (command.Duplex host acts seed peak lose) told left = IsLeft world told left

-- a run leaves the banks of its last state
abbrev pub banks_past : ScriptWorld → List Fault → Book → List (Option Registers)
banks_past world lose (book.Run run) = banks_in world.banks (closed world lose run)
banks_past world lose told = world.banks

-- the banks after a command that leaves this state: those of that state if a host talked
abbrev pub banks_after : ScriptWorld → ScriptCommand → Book → Option State → List (Option Registers)
banks_after world (command.Unload port) told left = unless_refused told world.banks (slice_set world.banks port None)
banks_after world (command.Discover host lose) told left = banks_in world.banks left
banks_after world (command.Route host from to lose) told left = banks_in world.banks left
banks_after world (command.Control host to port op addr words enables lose) told left = banks_in world.banks left
banks_after world (command.Run seed trace peak lose) told left = banks_past world lose told
banks_after world c told left = world.banks

-- the command has this book, and leaves this world
pub record IsPerformed (world : ScriptWorld) (c : ScriptCommand) (told : Book) (next : ScriptWorld) : Type 0 where
  pub done : IsDone world c told next.machine
  pub setup : IsNext world.setup c told next.setup
  pub banks : next.banks ≡ banks_after world c told next.machine

-- ---- a script

-- the commands, one after another, have these books, and leave this world
unfoldable pub ArePerformed : ScriptWorld → List ScriptCommand → List Book → ScriptWorld → Type 0
ArePerformed world [] [] last = last ≡ world
ArePerformed world (c ∷ cs) (b ∷ bs) last = (next : ScriptWorld) × (IsPerformed world c b next × ArePerformed next cs bs last)
ArePerformed world [] (b ∷ bs) last = ⊥
ArePerformed world (c ∷ cs) [] last = ⊥

-- one thread performs the commands over these banks, with these books, and leaves these banks
pub record IsOneThread (commands : List ScriptCommand) (books : List Book) (old new : List (Option Registers)) : Type 0 where
  pub last : ScriptWorld
  pub performed : ArePerformed (first_world old) commands books last
  pub banks : last.banks ≡ new

-- it performed some first commands
pub record IsOneThreadSoFar (commands : List ScriptCommand) (books : List Book) : Type 0 where
  pub done : List ScriptCommand
  pub rest : List ScriptCommand
  pub are : done ++ rest ≡ commands
  pub old : List (Option Registers)
  pub last : ScriptWorld
  pub performed : ArePerformed (first_world old) done books last
