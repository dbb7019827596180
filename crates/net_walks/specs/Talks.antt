-- A host asks a walker, all that follows happens, and what came back is taken out.
use Rattle.std.specs.Prelude.{◌≡◌, ◌||◌, ℕ, true, List, Option, None, Some, if◌then◌else◌}
use Rattle.chdr_packets.specs.declared.packet.Packet.{Packet}
use Rattle.chdr_words.specs.declared.epid.Epid.{Epid}
use Rattle.chdr_words.specs.declared.management.MgmtOp.{MgmtOp}
use Rattle.net_machine.specs.declared.event.Event.{Event}
use Rattle.net_machine.specs.State.{Node, State}
use Rattle.net_lone.specs.Control.{has_answered, has_asked, loses_answer, loses_request}
use Rattle.net_lone.specs.Runs.{has_loss}
use Rattle.net_lone.specs.Stages.{IsSettled}
use Rattle.net_lone.specs.Talks.{IsTalk}
use Rattle.net_walks.specs.Probes.{IsWalk, SendsWalkers, WalkEnds, return_end}
use Rattle.net_walks.specs.Walks.{returner, walker}

-- a management packet was asked
abbrev pub has_walked : State → State
has_walked w = record w { walked = true }

-- what comes back of a walker that is sent back with these hops
abbrev pub walk_answer : State → Epid → List (List MgmtOp) → Option Packet
walk_answer w src back = if loses_request w || loses_answer w then None else Some (returner src back)

-- what is left of one that leaves these nodes, unless it is lost
abbrev pub walk_left : State → List Node → State
walk_left w nodes = if loses_request w then has_asked (has_walked w) else has_answered (record (has_asked (has_walked w)) { nodes = nodes })

-- a walker was lost or sent back, and what comes back lost or taken out
pub record IsWalkTalk (w : State) (nodes : List Node) (src : Epid) (back : List (List MgmtOp)) (journal : List Event) (found : Option Packet) (left : State) : Type 0 where
  pub answer : found ≡ walk_answer w src back
  pub leaves : left ≡ walk_left w nodes
  pub loss : has_loss journal ≡ (loses_request w || loses_answer w)
  pub settled : IsSettled left

-- So it is with each walker that comes back, where the network is settled before.
abbrev pub WalkersTalk : Type 0
WalkersTalk = (w : State) (x d : ℕ) (ds : List ℕ) (src : Epid) (hops : List (List MgmtOp)) (nodes : List Node) (back : List (List MgmtOp))
    (journal : List Event) (found : Option Packet) (left : State) → IsSettled w → SendsWalkers w x src → IsWalk w.tree x d ds
    → (IsSettled (has_walked w) → SendsWalkers (has_walked w) x src → WalkEnds (has_walked w) x (walker src hops) (return_end (has_walked w) x nodes src back))
    → IsTalk w x (walker src hops) journal found left → IsWalkTalk w nodes src back journal found left
