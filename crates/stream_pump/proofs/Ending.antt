-- A net is at rest where the state is for which it stands.
use Rattle.std.proofs.Common.{◌≡◌, List, [], length, get_or, map, sym, ap, subst, ◌∙◌}
use Rattle.std.specs.List.{All}
use Rattle.std.proofs.Math.ListN.{get_or-map}
use Rattle.std.proofs.lemmas.List.{length-map, nil_from_length}
use Rattle.std.proofs.lemmas.List.Elements.{All-map, All-weaker}
use Rattle.net_machine.specs.declared.plan.RunPlan.{RunPlan}
use Rattle.net_machine.specs.CanBegin.{CanBegin}
use Rattle.net_machine.specs.Front.{Queued, queued}
use Rattle.net_machine.specs.Moves.{AreEmpty, IsAtRest}
use Rattle.net_machine.specs.State.{Entry, Node, State}
use Rattle.net_topology.specs.declared.plan.Plan.{Plan}
use Rattle.net_present.specs.Kept.{IsNow}
use Rattle.net_present.specs.Present.{Present}
use Rattle.net_present.proofs.Laws.{present_tells}
use Rattle.fabric_net.specs.Standing.{HasNoEntries, IsResting, StandsFor}
use Rattle.stream_pump.specs.Running.{CanRun}

none-of : (queue : List Entry) → map queued queue ≡ [] → queue ≡ []
none-of queue e = nil_from_length queue (sym (length-map queue queued) ∙ ap (λ (es : List Queued). length es) e)

no-entries : (queues : List (List Entry)) → All (λ (queue : List Queued). queue ≡ []) (map (map queued) queues)
    → All (λ (queue : List Entry). queue ≡ []) queues
no-entries queues empty k d lt =
    none-of (get_or queues k d) (sym (get_or-map (map queued) queues k d) ∙ empty k (map queued d) (rw (length-map queues (map queued)) lt))

empty-state : (p : Present) (w : State) → IsNow p w → HasNoEntries p → AreEmpty w
empty-state p w now empty =
    no-entries w.queues (subst (λ (queues : List (List Queued)). All (λ (queue : List Queued). queue ≡ []) queues) now.queues empty)

at-rest : (p : Present) (w : State) → IsNow p w → IsResting p → IsAtRest w
at-rest p w now rest = record {
  empty = empty-state p w now rest.empty;
  still = λ e. sym (present_tells p w e now) ∙ rest.still e;
  heard = subst (λ (nodes : List Node). All (λ (n : Node). n.answers ≡ []) nodes) now.nodes rest.heard;
}

empty-present : (p : Present) (w : State) → IsNow p w → AreEmpty w → HasNoEntries p
empty-present p w now empty =
    subst (λ (queues : List (List Queued)). All (λ (queue : List Queued). queue ≡ []) queues) (sym now.queues)
    (All-map (λ (queue : List Queued). queue ≡ []) (map queued) w.queues
    (All-weaker (λ (queue : List Entry). queue ≡ []) (λ (queue : List Entry). map queued queue ≡ []) (λ queue none. ap (map queued) none) w.queues empty))

pub rests : (p : Present) (w : State) → StandsFor p w → IsAtRest w → IsResting p
rests p w stands rest = record {
  empty = empty-present p w stands.now rest.empty;
  still = λ e. present_tells p w e stands.now ∙ rest.still e;
  heard = subst (λ (nodes : List Node). All (λ (n : Node). n.answers ≡ []) nodes) (sym stands.now.nodes) rest.heard;
}

pub can-run : (plan : RunPlan) (p : Present) (w : State) → StandsFor p w → IsResting p → CanBegin p.tree p.nodes plan → CanRun plan w
can-run plan p w stands rest can = record {
  lawful = stands.lawful;
  rest = at-rest p w stands.now rest;
  can = subst (λ (nodes : List Node). CanBegin w.tree nodes plan) stands.now.nodes
      (subst (λ (tree : Plan). CanBegin tree p.nodes plan) stands.now.tree can);
}
