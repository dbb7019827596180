-- What a walk gives, and what it does to the net.
use Rattle.std.specs.Prelude.{◌≡◌, ℕ, Bool, true, false, List, [], ◌∷◌, ◌++◌, Option, None, Some}
use Rattle.block_registers.specs.Registers.{Registers}
use Rattle.chdr_words.specs.declared.epid.Epid.{Epid}
use Rattle.net_machine.specs.Nodes.{host_with}
use Rattle.net_machine.specs.State.{State}
use Rattle.fabric_net.specs.NetView.{NetSeen}
use Rattle.fabric_net.specs.Standing.{StandsFor}
use Rattle.host_talk.specs.Settled.{IsSettledNow}
use Rattle.topology_walk.specs.Finding.{IsFoundOf}
use Rattle.topology_walk.specs.Nodes.{first_found}
use Rattle.topology_walk.specs.Probes.{IsFoundBy, Probe, journal_of}
use Rattle.topology_walk.specs.Walks.{AreProbed}
use Rattle.walk_books.specs.declared.found.Found.{Found}

-- Host x, which has a link, walked: it asked these probes, one after another, each in the state that the one before
-- left, and this is what they found. So it is from each state for which the net stood.
pub record HasWalked (old : NetSeen) (banks : List (Option Registers)) (src : Epid) (x : ℕ) (found : Found) (new : NetSeen) (left : List (Option Registers)) : Type 0 where
  pub probes : List Probe
  pub finds : IsFoundBy old.present.tree x probes found
  pub of : IsFoundOf old.present.tree x found
  pub written : new.journal ≡ old.journal ++ journal_of probes
  pub each : (w : State) → StandsFor old.present w → w.banks ≡ banks → AreProbed old.present.tree src x probes new.present left w
  pub settled : IsSettledNow new.present
  pub same : new.present.tree ≡ old.present.tree
  pub kept : left ≡ banks

-- Host x has no link: its own port is bare, and nothing is asked.
pub record StandsAlone (old : NetSeen) (banks : List (Option Registers)) (x : ℕ) (found : Found) (new : NetSeen) (left : List (Option Registers)) : Type 0 where
  pub nodes : found.nodes ≡ first_found old.present.tree x ∷ []
  pub bare : found.bare ≡ 1
  pub lost : found.lost ≡ []
  pub net : new ≡ old
  pub kept : left ≡ banks

-- the node of a host, and whether it has a link
abbrev pub IsDiscoveredFrom : Option (ℕ × Bool) → NetSeen → List (Option Registers) → Epid → Found → NetSeen → List (Option Registers) → Type 0
IsDiscoveredFrom None old banks src found new left = ⊥
IsDiscoveredFrom (Some (x, true)) old banks src found new left = HasWalked old banks src x found new left
IsDiscoveredFrom (Some (x, false)) old banks src found new left = StandsAlone old banks x found new left

-- What a walk from the host of an EPID gives, and leaves.
abbrev pub IsDiscovered : NetSeen → List (Option Registers) → Epid → Found → NetSeen → List (Option Registers) → Type 0
IsDiscovered old banks src found new left = IsDiscoveredFrom (host_with old.present.tree src) old banks src found new left
