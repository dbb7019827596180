-- What a settled network is, place by place.
use Rattle.std.proofs.Common.{◌≡◌, ℕ, ◌≤◌, ◌<◌, ◌⊎◌, inl, inr, Bool, true, false, IsTrue, List, [], ◌∷◌, length, map, refl, ◌∙◌, ap}
use Rattle.std.specs.Prelude.{Option, Some, None, nat_lt, unwrap_or}
use Rattle.std.specs.List.{All}
use Rattle.std.proofs.lemmas.Bool.{and_from, and_parts, both_ways, cases_lt, false_from_ne_true, lt-ltb}
use Rattle.std.proofs.lemmas.List.{get_or_default, get_or_past}
use Rattle.chdr_packets.specs.declared.packet.Packet.{Packet}
use Rattle.net_topology.specs.Links.{link_at}
use Rattle.net_topology.specs.Tree.{IsTree}
use Rattle.net_machine.specs.declared.event.Event.{Event}
use Rattle.net_machine.specs.declared.event.Event.TheVariants.{Enter, Hop, Seen, Feed, Report, Command, Lose, Reply, Ask}
use Rattle.net_machine.specs.Blocks.{has_packet}
use Rattle.net_machine.specs.Conditions.{can_hop, can_lose, can_reply, enabled, has_place, has_place_over, may}
use Rattle.net_machine.specs.Front.{Queued, front, queued, queued_at}
use Rattle.net_machine.specs.Laws.{HasFewInputs}
use Rattle.net_machine.specs.Moves.{AreEmpty, IsStill}
use Rattle.net_machine.specs.Queues.{forward_vc, queue_of}
use Rattle.net_machine.specs.State.{Node, State, blank, node_at, queue_at}
use Rattle.net_machine.proofs.Laws.{fronts}
use Rattle.net_ways.specs.Ways.{HasQueues}
use Rattle.net_lone.specs.Stages.{HavePlaces, IsSettled}

-- an event of a stream or a block
abbrev pub IsStreams : Event → Type 0
IsStreams (Enter s) = Unit {0}
IsStreams (Hop q) = ⊥
IsStreams (Seen s n) = Unit {0}
IsStreams (Feed b i) = Unit {0}
IsStreams (Report s) = Unit {0}
IsStreams (Command s op) = Unit {0}
IsStreams (Lose q) = ⊥
IsStreams (Reply x) = ⊥
IsStreams (Ask x) = ⊥

pub record Base (w : State) : Type 0 where
  pub queues : HasQueues w
  pub nodes : length w.nodes ≡ length w.tree.nodes
  pub places : HavePlaces w.tree w.nodes
  pub few : HasFewInputs w.plan
  pub empty : (q : ℕ) → queue_at w.queues q ≡ []
  pub streams : (e : Event) → IsStreams e → enabled w e ≡ false
  pub asks : (x d : ℕ) → link_at w.tree.links x 0 ≡ Some d → (node_at w x).requests ≡ []
  pub clear : (x : ℕ) → (node_at w x).pending ≡ []
  pub heard : (x : ℕ) → (node_at w x).answers ≡ []

-- ---- options

pub some-same : {A : Type 0} (x y : A) → ◌≡◌ {A = Option A} (Some x) (Some y) → x ≡ y
some-same x y is = ap (λ o. unwrap_or o x) is

-- ---- what isn't there can't happen

pub no-ask : (v : State) (y : ℕ) → ((d : ℕ) → link_at v.tree.links y 0 ≡ Some d → (node_at v y).requests ≡ []) → IsTrue (enabled v (Ask y)) → ⊥
unfolding may
no-ask v y none may_it = by_link (link_at v.tree.links y 0) refl
  where
    has : Bool
    has = has_packet (node_at v y).requests

    room : Bool
    room = has_place_over (front v) forward_vc (link_at v.tree.links y 0)

    by_link : (o : Option ℕ) → link_at v.tree.links y 0 ≡ o → ⊥
    by_link None is = both_ways room (ap (has_place_over (front v) forward_vc) is) (and_parts has room may_it).1
    by_link (Some d) is = both_ways has (ap has_packet (none d is)) (and_parts has room may_it).0

pub no-reply : (v : State) (y : ℕ) → (node_at v y).pending ≡ [] → IsTrue (enabled v (Reply y)) → ⊥
unfolding may
no-reply v y none may_it = both_ways (can_reply (front v) y (node_at v y).pending) (ap (can_reply (front v) y) none) may_it

pub no-lose : (v : State) (q : ℕ) → queue_at v.queues q ≡ [] → IsTrue (enabled v (Lose q)) → ⊥
unfolding may
no-lose v q none may_it = both_ways (can_lose (queued_at (front v) q)) (ap can_lose (fronts.queue v q ∙ ap (map queued) none)) may_it

pub no-hop : (v : State) (q : ℕ) → queue_at v.queues q ≡ [] → IsTrue (enabled v (Hop q)) → ⊥
unfolding may
no-hop v q none may_it = both_ways (can_hop (front v) q (queued_at (front v) q)) (ap (can_hop (front v) q) (fronts.queue v q ∙ ap (map queued) none)) may_it

-- ---- where a queue is empty there is room

pub room-at : (v : State) (q : ℕ) → IsTree v.tree → queue_at v.queues q ≡ [] → has_place (front v) q ≡ true
room-at v q tree is =
    let none : queued_at (front v) q ≡ [] = fronts.queue v q ∙ ap (map queued) is in
    ap (λ (es : List Queued). nat_lt (length es) v.tree.room) none ∙ lt-ltb 0 v.tree.room tree.room.0

-- ---- from a settled network

empty-at : (w : State) → AreEmpty w → (q : ℕ) → queue_at w.queues q ≡ []
empty-at w empty q = by_order (cases_lt q (length w.queues))
  where
    by_order : (q < length w.queues) ⊎ (length w.queues ≤ q) → queue_at w.queues q ≡ []
    by_order (inl lt) = empty q [] lt
    by_order (inr past) = get_or_past w.queues q [] past

none-asks : (w : State) (x d : ℕ) → HasQueues w → AreEmpty w → IsStill w → link_at w.tree.links x 0 ≡ Some d → (node_at w x).requests ≡ []
unfolding may
none-asks w x d has empty still is = by_requests (node_at w x).requests refl
  where
    by_requests : (ps : List Packet) → (node_at w x).requests ≡ ps → ps ≡ []
    by_requests [] at = refl
    by_requests (p ∷ ps) at = absurd (both_ways (enabled w (Ask x)) (still (Ask x))
        (and_from (has_packet (node_at w x).requests) (has_place_over (front w) forward_vc (link_at w.tree.links x 0)) (ap has_packet at)
        (ap (has_place_over (front w) forward_vc) is ∙ room-at w (queue_of d forward_vc) has.tree (empty-at w empty (queue_of d forward_vc)))))

heard-at : (w : State) → All (λ (n : Node). n.answers ≡ []) w.nodes → (x : ℕ) → (node_at w x).answers ≡ []
heard-at w heard x = by_order (cases_lt x (length w.nodes))
  where
    by_order : (x < length w.nodes) ⊎ (length w.nodes ≤ x) → (node_at w x).answers ≡ []
    by_order (inl lt) = heard x blank lt
    by_order (inr past) = ap (λ (n : Node). n.answers) (get_or_past w.nodes x blank past)

pub base-of : (w : State) → IsSettled w → Base w
base-of w settled = record {
  queues = settled.queues;
  nodes = settled.nodes;
  places = settled.places;
  few = settled.few;
  empty = empty-at w settled.rest.empty;
  streams = λ e is. settled.rest.still e;
  asks = λ x d is. none-asks w x d settled.queues settled.rest.empty settled.rest.still is;
  clear = settled.clear;
  heard = heard-at w settled.rest.heard;
}

-- ---- and back

pub still-of : (w : State) → Base w → IsStill w
still-of w base (Enter s) = base.streams (Enter s) tt
still-of w base (Hop q) = false_from_ne_true (enabled w (Hop q)) (no-hop w q (base.empty q))
still-of w base (Seen s n) = base.streams (Seen s n) tt
still-of w base (Feed b i) = base.streams (Feed b i) tt
still-of w base (Report s) = base.streams (Report s) tt
still-of w base (Command s op) = base.streams (Command s op) tt
still-of w base (Lose q) = false_from_ne_true (enabled w (Lose q)) (no-lose w q (base.empty q))
still-of w base (Reply x) = false_from_ne_true (enabled w (Reply x)) (no-reply w x (base.clear x))
still-of w base (Ask x) = false_from_ne_true (enabled w (Ask x)) (no-ask w x (base.asks x))

pub settled-of : (w : State) → Base w → IsSettled w
settled-of w base = record {
  queues = base.queues;
  nodes = base.nodes;
  places = base.places;
  few = base.few;
  rest = record {
    empty = λ q d lt. get_or_default w.queues q d [] lt ∙ base.empty q;
    still = still-of w base;
    heard = λ x d lt. ap (λ (n : Node). n.answers) (get_or_default w.nodes x d blank lt) ∙ base.heard x;
  };
  clear = base.clear;
}
