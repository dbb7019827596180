-- A network at rest has no messages, and a whole run leaves it at rest.
use Rattle.std.proofs.Common.{◌≡◌, ℕ, inl, inr, true, false, List, [], ◌∷◌, length, map, refl, sym, ◌∙◌, ap, subst}
use Rattle.std.specs.Prelude.{Option, Some, None, nat_lt}
use Rattle.std.specs.List.{All, AllByRecursion}
use Rattle.std.proofs.lemmas.Bool.{and_from, both_ways, lt-ltb}
use Rattle.std.proofs.lemmas.List.{get_or_default}
use Rattle.chdr_packets.specs.declared.packet.Packet.{Packet}
use Rattle.net_topology.specs.Links.{link_at}
use Rattle.net_machine.specs.declared.event.Event.TheVariants.{Ask, Hop, Lose, Reply}
use Rattle.net_machine.specs.Begin.{begun}
use Rattle.net_machine.specs.Blocks.{has_packet}
use Rattle.net_machine.specs.Conditions.{can_reply, enabled, has_place, has_place_over, may}
use Rattle.net_machine.specs.Effects.{after}
use Rattle.net_machine.specs.Front.{Queued, front, queued, queued_at}
use Rattle.net_machine.specs.Moves.{AreEmpty, Happens, IsLegal, IsStill, after_all, moves_of}
use Rattle.net_machine.specs.Nodes.{route_from}
use Rattle.net_machine.specs.Queues.{back_vc, forward_vc, queue_of}
use Rattle.net_machine.specs.State.{Entry, Node, State, node_at, queue_at}
use Rattle.net_machine.proofs.Laws.{fronts}
use Rattle.net_ways.specs.Ways.{HasQueues}
use Rattle.net_ways.proofs.Laws.{channels_go_on}
use Rattle.net_lawful.proofs.Laws.{all_are_lawful, begun_is_lawful, empty-at, lawful_stays}
use Rattle.net_rest.specs.Laws.{BegunHasNoMessages, NoMessagesComeInJournals, RestHasNoMessages, RunsRest}
use Rattle.net_rest.specs.Messages.{NoneLeaves, IsOfStream}
use Rattle.net_rest.proofs.Keeping.{none-come}

-- ---- at rest

-- where all queues are empty there is room
has-room : (w : State) → HasQueues w → AreEmpty w → (q : ℕ) → has_place (front w) q ≡ true
has-room w has empty q =
    let none : queued_at (front w) q ≡ [] = fronts.queue w q ∙ ap (map queued) (empty-at w empty q) in
    ap (λ (es : List Queued). nat_lt (length es) w.tree.room) none ∙ lt-ltb 0 w.tree.room has.tree.room.0

none-asks : (w : State) (x d : ℕ) → HasQueues w → AreEmpty w → IsStill w → link_at w.tree.links x 0 ≡ Some d → (node_at w x).requests ≡ []
unfolding may
none-asks w x d has empty still is = by_requests (node_at w x).requests refl
  where
    by_requests : (ps : List Packet) → (node_at w x).requests ≡ ps → ps ≡ []
    by_requests [] at = refl
    by_requests (p ∷ ps) at = absurd (both_ways (enabled w (Ask x)) (still (Ask x))
        (and_from (has_packet (node_at w x).requests) (has_place_over (front w) forward_vc (link_at w.tree.links x 0)) (ap has_packet at)
        (ap (has_place_over (front w) forward_vc) is ∙ has-room w has empty (queue_of d forward_vc))))

none-replies : (w : State) (x : ℕ) → HasQueues w → AreEmpty w → IsStill w → NoneLeaves w x (node_at w x).pending
unfolding may
none-replies w x has empty still = by_pending (node_at w x).pending (still (Reply x))
  where
    by_pending : (ps : List Packet) → can_reply (front w) x ps ≡ false → NoneLeaves w x ps
    by_pending [] stands = tt
    by_pending (p ∷ ps) stands = by_route (route_from w.tree w.nodes x p.dst) stands
      where
        by_route : (o : Option ℕ) → has_place_over (front w) back_vc o ≡ false → o ≡ None
        by_route None full = refl
        by_route (Some d) full = absurd (both_ways (has_place (front w) (queue_of d back_vc)) full (has-room w has empty (queue_of d back_vc)))

no-entries : (es : List Entry) → es ≡ [] → AllByRecursion (λ (e : Entry). IsOfStream e.packet.body) es
no-entries es is = rw is tt

pub rest-has_none : RestHasNoMessages
rest-has_none w lawful rest = record {
  queued = λ q. no-entries (queue_at w.queues q) (empty-at w rest.empty q);
  asks = λ x d is. none-asks w x d lawful.steady.queues rest.empty rest.still is;
  replies = λ x. none-replies w x lawful.steady.queues rest.empty rest.still;
}

pub begun-has_none : BegunHasNoMessages
begun-has_none plan w none = record {
  queued = none.queued;
  asks = none.asks;
  replies = λ x. same x (node_at w x).pending (none.replies x);
}
  where
    same : (x : ℕ) (ps : List Packet) → NoneLeaves w x ps → NoneLeaves (begun plan w) x ps
    same x [] held = tt
    same x (p ∷ ps) held = held

-- ---- journals

pub none-in_journals : NoMessagesComeInJournals
unfolding IsLegal after_all
none-in_journals w [] lawful none legal = record {
  none = none;
  nodes = refl;
}
none-in_journals w (e ∷ journal) lawful none legal =
    let first = none-come w e lawful none legal.0 in
    let then_ = none-in_journals (after w e) journal (lawful_stays w (Happens e) lawful legal.0) first.none legal.1 in
    record {
      none = then_.none;
      nodes = then_.nodes ∙ first.nodes;
    }

-- ---- whole runs

-- where no event is enabled queues are empty, since something could go on
still-empty : (w : State) → HasQueues w → IsStill w → AreEmpty w
still-empty w has still = λ q d lt. get_or_default w.queues q d [] lt ∙ by_queue q (queue_at w.queues q) refl
  where
    goes : (q : ℕ) (e : Entry) (rest : List Entry) → queue_at w.queues q ≡ e ∷ rest → ⊥
    goes q e rest is = let on = channels_go_on w q e rest has is in
        elim on.enabled [
          | inl hops ↦ both_ways (enabled w (Hop on.queue)) (still (Hop on.queue)) hops
          | inr loses ↦ both_ways (enabled w (Lose on.queue)) (still (Lose on.queue)) loses
        ]

    by_queue : (q : ℕ) (es : List Entry) → queue_at w.queues q ≡ es → es ≡ []
    by_queue q [] is = refl
    by_queue q (e ∷ rest) is = absurd (goes q e rest is)

pub runs-rest : RunsRest
runs-rest plan w journal lawful rest can whole =
    let begins = begun_is_lawful plan w lawful rest can in
    let ends = all_are_lawful (begun plan w) (moves_of journal) begins whole.legal in
    let kept = none-in_journals (begun plan w) journal begins (begun-has_none plan w (rest-has_none w lawful rest)) whole.legal in
    record {
      rest = record {
        empty = still-empty _ ends.steady.queues whole.still;
        still = whole.still;
        heard = subst (λ (nodes : List Node). All (λ (n : Node). n.answers ≡ []) nodes) (sym kept.nodes) rest.heard;
      };
      nodes = kept.nodes;
    }
