-- The commands by which a host talks: they are performed in the state of the network, and leave it in another.
use Rattle.std.specs.Prelude.{◌≡◌, ℕ, Bool, Option, None, Some}
use Rattle.chdr_words.specs.declared.epid.Epid.{Epid}
use Rattle.net_machine.specs.Nodes.{host_with}
use Rattle.net_machine.specs.State.{State}
use Rattle.net_topology.specs.declared.plan.Plan.{Plan}
use Rattle.script_books.specs.declared.book.Book.{Book}
use Rattle.script_books.specs.declared.book.Book.TheVariants as book
use Rattle.script_books.specs.declared.refusal.Refusal.{Refusal}
use Rattle.script_books.specs.declared.refusal.Refusal.TheVariants as refusal

-- what a command has to meet in its network, if there is one
abbrev pub FitsIn : Option Plan → (Plan → Type 0) → Type 0
FitsIn None Fits = Unit {0}
FitsIn (Some tree) Fits = Fits tree

-- without a network a command is refused; else it has a book in the network's state, and leaves a state
abbrev pub TalksOn : (State → Book → State → Type 0) → Option State → Book → Option State → Type 0
TalksOn Tells None told left = (told ≡ book.Refused refusal.NoNet) × (left ≡ None)
TalksOn Tells (Some w) told left = (end : State) × (Tells w told end × (left ≡ Some end))

-- a command of a host is refused where no host has the EPID; else the rest decides
abbrev pub OnHostNode : Option (ℕ × Bool) → Epid → (Option Refusal → Type 0) → Option Refusal → Type 0
OnHostNode None host rest cause = cause ≡ Some (refusal.NoHost host)
OnHostNode (Some node) host rest cause = rest cause

abbrev pub OnHost : Plan → Epid → (Option Refusal → Type 0) → Option Refusal → Type 0
OnHost tree host = OnHostNode (host_with tree host) host
