-- What comes back of a probe, and what it leaves.
use Rattle.std.proofs.Common.{◌≡◌, ℕ, Bool, true, false, List, refl, sym, ◌∙◌, ap, if◌then◌else◌}
use Rattle.std.specs.Prelude.{Option, Some, None}
use Rattle.chdr_packets.specs.declared.packet.Packet.{Packet}
use Rattle.chdr_words.specs.declared.epid.Epid.{Epid}
use Rattle.chdr_words.specs.declared.management.MgmtOp.{MgmtOp}
use Rattle.net_machine.specs.declared.event.Event.{Event}
use Rattle.net_machine.specs.State.{State}
use Rattle.net_lone.specs.Control.{has_answered, has_asked, loses_request}
use Rattle.net_lone.specs.Runs.{has_loss}
use Rattle.net_lone.specs.Stages.{IsSettled}
use Rattle.net_lone.specs.Talks.{IsTalk}
use Rattle.net_walks.specs.Probes.{IsWalk, SendsWalkers, WalkEnds, walk_end}
use Rattle.net_walks.specs.Talks.{has_walked}
use Rattle.net_walks.specs.Walks.{returner, walker}
use Rattle.net_walks.specs.Ways.{left_by}
use Rattle.net_walks.proofs.Laws.{walkers_talk}

-- it was lost, or what came back of it was, or this came to the host
pub record IsWalkTalk (w : State) (src : Epid) (hops : List (List MgmtOp)) (journal : List Event) (found : Option Packet) (left : State) : Type 0 where
  pub answer : found ≡ (if has_loss journal then None else Some (returner src hops))
  pub settled : IsSettled left
  pub tree : left.tree ≡ w.tree
  pub banks : left.banks ≡ w.banks

pub walk-talks : (w : State) (x d : ℕ) (ds : List ℕ) (src : Epid) (out hops : List (List MgmtOp)) (journal : List Event) (found : Option Packet) (left : State) →
    IsSettled w → SendsWalkers w x src → IsWalk w.tree x d ds →
    (IsSettled (has_walked w) → SendsWalkers (has_walked w) x src → WalkEnds (has_walked w) x (walker src out) (walk_end (has_walked w) x d ds src hops)) →
    IsTalk w x (walker src out) journal found left → IsWalkTalk w src hops journal found left
walk-talks w x d ds src out hops journal found left settled sends walk returns talk =
    let it = walkers_talk w x d ds src out (left_by w.tree src d ds w.nodes) hops journal found left settled sends walk returns talk in
    record {
      answer = it.answer ∙ ap (λ b. if◌then◌else◌ {A = Option Packet} b None (Some (returner src hops))) (sym it.loss);
      settled = it.settled;
      tree = ap (λ (u : State). u.tree) it.leaves ∙ tree_by (loses_request w);
      banks = ap (λ (u : State). u.banks) it.leaves ∙ banks_by (loses_request w);
    }
  where
    left_so : Bool → State
    left_so b = if b then has_asked (has_walked w) else has_answered (record (has_asked (has_walked w)) { nodes = left_by w.tree src d ds w.nodes })

    tree_by : (b : Bool) → (left_so b).tree ≡ w.tree
    tree_by true = refl
    tree_by false = refl

    banks_by : (b : Bool) → (left_so b).banks ≡ w.banks
    banks_by true = refl
    banks_by false = refl
