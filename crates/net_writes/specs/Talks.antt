-- A host asks a write, all that follows happens, and what came back is taken out.
use Rattle.std.specs.Prelude.{ℕ, List, [], ◌∷◌, Option}
use Rattle.chdr_packets.specs.declared.packet.Packet.{Packet}
use Rattle.chdr_words.specs.declared.epid.Epid.{Epid}
use Rattle.net_machine.specs.declared.event.Event.{Event}
use Rattle.net_machine.specs.State.{State}
use Rattle.net_lone.specs.Stages.{IsSettled}
use Rattle.net_lone.specs.Talks.{IsTalk}
use Rattle.net_walks.specs.Probes.{IsWalk, SendsWalkers}
use Rattle.net_walks.specs.Talks.{IsWalkTalk, walk_answer, walk_left}
use Rattle.net_walks.specs.Walks.{collector}
use Rattle.net_walks.specs.Ways.{last_of}
use Rattle.net_writes.specs.Crossings.{Crossing, crossed_by, write_packet}
use Rattle.net_writes.specs.Writing.{MayCross}

-- what comes back of a write
abbrev pub write_answer : State → Epid → Option Packet
write_answer w src = walk_answer w src (collector ∷ [])

-- what a write leaves: the entries, unless it is lost
abbrev pub write_left : State → ℕ → List ℕ → Epid → Crossing → State
write_left w d ds src it = walk_left w (crossed_by w.tree src d ds it w.nodes)

-- a write was lost or done, and what comes back lost or taken out
abbrev pub IsWriteTalk : State → ℕ → List ℕ → Epid → Crossing → List Event → Option Packet → State → Type 0
IsWriteTalk w d ds src it journal found left = IsWalkTalk w (crossed_by w.tree src d ds it w.nodes) src (collector ∷ []) journal found left

-- So it is with each write that a host asks in a settled network.
abbrev pub WriteTalks : Type 0
WriteTalks = (w : State) (x d : ℕ) (ds : List ℕ) (src : Epid) (it : Crossing) (journal : List Event) (found : Option Packet) (left : State)
    → IsSettled w → SendsWalkers w x src → IsWalk w.tree x d ds → MayCross w.tree src (last_of d ds) it
    → IsTalk w x (write_packet w.tree.links src (d ∷ ds) it) journal found left → IsWriteTalk w d ds src it journal found left
