-- The book of each command that lets no event happen.
use Rattle.std.specs.Prelude.{◌≡◌, ℕ, List, length, Option, None, Some}
use Rattle.block_registers.specs.Registers.{Registers}
use Rattle.graph_core.specs.declared.place.PortAt.{PortAt}
use Rattle.graph_core.specs.declared.place.PropAt.{PropAt}
use Rattle.net_topology.specs.declared.plan.Plan.{Plan}
use Rattle.rf_script_types.specs.declared.command.ScriptCommand.{ScriptCommand}
use Rattle.rf_script_types.specs.declared.command.ScriptCommand.TheVariants as command
use Rattle.run_plans.specs.declared.layout.PlacedBlock.{PlacedBlock}
use Rattle.script_books.specs.declared.book.Book.{Book}
use Rattle.script_books.specs.declared.book.Book.TheVariants as book
use Rattle.script_books.specs.declared.refusal.Refusal.{Refusal}
use Rattle.script_worlds.specs.Causes.{IsBlockCause, IsCommitCause, IsConnectCause, IsNetCause, IsSetCause, IsUnloadCause}
use Rattle.script_worlds.specs.Worlds.{Setup, block_of, plan_of}

-- the book tells of the refusal that has a cause, or, where none has, of what was done
abbrev pub IsBook : (Option Refusal → Type 0) → Book → Book → Type 0
IsBook cause done (book.Refused refusal) = cause (Some refusal)
IsBook cause done told = cause None × (told ≡ done)

abbrev pub IsNetBook : Plan → Book → Type 0
IsNetBook tree = IsBook (IsNetCause tree) book.Net

-- blocks are numbered in the order in which they were placed, and streams likewise
abbrev pub IsBlockBook : Setup → PlacedBlock → Book → Type 0
IsBlockBook setup block = IsBook (IsBlockCause setup block) (book.Block (length setup.layout.blocks))

abbrev pub IsConnectBook : Setup → PortAt → PortAt → Book → Type 0
IsConnectBook setup from to = IsBook (IsConnectCause setup from to) (book.Connect (length setup.layout.streams))

abbrev pub IsSetBook : Setup → PropAt → Book → Type 0
IsSetBook setup at = IsBook (IsSetCause setup at) book.Set

abbrev pub IsCommitBook : Setup → Book → Type 0
IsCommitBook setup = IsBook (IsCommitCause setup) book.Commit

abbrev pub IsUnloadBook : List (Option Registers) → ℕ → Book → Type 0
IsUnloadBook slots port = IsBook (IsUnloadCause slots port) book.Unload

-- the book of a command that lets no event happen, over the registers in the slots
abbrev pub IsQuietBook : Setup → List (Option Registers) → ScriptCommand → Book → Type 0
IsQuietBook setup slots (command.Net nodes links room routed limit) told = IsNetBook (plan_of nodes links room limit) told
IsQuietBook setup slots (command.Discover host lose) told = ⊥
IsQuietBook setup slots (command.Route host from to lose) told = ⊥
IsQuietBook setup slots (command.Control host to port op addr words enables lose) told = ⊥
IsQuietBook setup slots (command.Unload port) told = IsUnloadBook slots port told
IsQuietBook setup slots (command.Block kind ins outs packets time) told =
    IsBlockBook setup (block_of kind ins outs packets time) told
IsQuietBook setup slots (command.Connect from to flow start policy) told = IsConnectBook setup from to told
IsQuietBook setup slots (command.Set at value) told = IsSetBook setup at told
IsQuietBook setup slots command.Commit told = IsCommitBook setup told
IsQuietBook setup slots (command.Run seed trace peak lose) told = ⊥
IsQuietBook setup slots (command.Twin cut peak lose) told = ⊥
IsQuietBook setup slots (command.Duplex host acts seed peak lose) told = ⊥
