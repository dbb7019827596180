-- What a discover command does in the state of a network.
use Rattle.std.specs.Prelude.{◌≡◌, ℕ, Bool, true, false, List, [], ◌∷◌, Option, None, Some}
use Rattle.chdr_words.specs.declared.epid.Epid.{Epid}
use Rattle.net_machine.specs.Moves.{marked}
use Rattle.net_machine.specs.Nodes.{host_with}
use Rattle.net_machine.specs.State.{State}
use Rattle.net_topology.specs.declared.plan.Plan.{Plan}
use Rattle.script_books.specs.declared.book.Book.{Book}
use Rattle.script_books.specs.declared.book.Book.TheVariants as book
use Rattle.script_books.specs.declared.refusal.Refusal.{Refusal}
use Rattle.net_faults.specs.declared.fault.Fault.{Fault}
use Rattle.topology_walk.specs.Finding.{IsFoundOf}
use Rattle.topology_walk.specs.Nodes.{first_found}
use Rattle.topology_walk.specs.Probes.{AreFirst, IsFoundBy, Probe, probed_all}
use Rattle.walk_books.specs.declared.found.Found.{Found}
use Rattle.script_runner.specs.Talks.{OnHost}

-- nothing else refuses a walk
abbrev pub IsFree : Option Refusal → Type 0
IsFree cause = cause ≡ None

abbrev pub IsWalkCause : Plan → Epid → Option Refusal → Type 0
IsWalkCause tree host = OnHost tree host IsFree

-- Host x, which has a link, asks these probes, one after another, each in the state that the one before left: the first
-- event happens, again and again, until none is left, and the answer is taken out. This is what they find.
pub record IsWalk (w : State) (src : Epid) (x : ℕ) (found : Found) (end : State) : Type 0 where
  pub probes : List Probe
  pub first : AreFirst w.tree src x w probes
  pub finds : IsFoundBy w.tree x probes found
  pub of : IsFoundOf w.tree x found
  pub left : end ≡ probed_all w.tree src x w probes

-- Host x has no link: its own port is bare, and nothing is asked.
pub record IsAlone (w : State) (x : ℕ) (found : Found) (end : State) : Type 0 where
  pub nodes : found.nodes ≡ first_found w.tree x ∷ []
  pub bare : found.bare ≡ 1
  pub lost : found.lost ≡ []
  pub left : end ≡ w

-- by the node of the host, and whether it has a link
abbrev pub IsWalkFrom : Option (ℕ × Bool) → Epid → Found → State → State → Type 0
IsWalkFrom None src found w end = ⊥
IsWalkFrom (Some (x, true)) src found w end = IsWalk w src x found end
IsWalkFrom (Some (x, false)) src found w end = IsAlone w x found end

-- the book of a discover command, and the state that it leaves: refused it leaves all, and else the host walks, once the
-- requests and answers to lose are named, and counted from 0
abbrev pub IsWalked : Epid → List Fault → State → Book → State → Type 0
IsWalked host lose w (book.Refused why) end = IsWalkCause w.tree host (Some why) × (end ≡ w)
IsWalked host lose w (book.Discover found) end = IsWalkFrom (host_with w.tree host) host found (marked lose w) end
IsWalked host lose w told end = ⊥
