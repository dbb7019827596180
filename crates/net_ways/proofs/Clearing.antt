-- A channel with an entry never stands still: of the links with entries one leads to none, and its front entry goes.
use Rattle.std.proofs.Common.{◌≡◌, ℕ, ◌*◌, ◌≤◌, ◌<◌, ◌⊎◌, inl, inr, Bool, true, false, List, [], ◌∷◌, length, map, refl, sym, ◌∙◌, ap, subst, arith}
use Rattle.std.specs.Prelude.{IsTrue, not, ◌&&◌, nat_lt}
use Rattle.std.proofs.lemmas.Bool.{cases_lt, false≢true, lt-ltb}
use Rattle.std.proofs.lemmas.List.{get_or_past}
use Rattle.net_topology.specs.Ranks.{MayFollow}
use Rattle.net_topology.proofs.Laws.{some_link_is_clear}
use Rattle.net_machine.specs.declared.event.Event.TheVariants.{Hop, Lose}
use Rattle.net_machine.specs.Conditions.{can_hop, can_lose, enabled, has_place, has_way, may}
use Rattle.net_machine.specs.Front.{Queued, front, queued, queued_at}
use Rattle.net_machine.specs.Passing.{Outcome, Passes, Returns, Arrives, Ends, passing}
use Rattle.net_machine.specs.Queues.{channel_of, link_of_queue, queue_of}
use Rattle.net_machine.specs.State.{Entry, State, queue_at}
use Rattle.net_machine.proofs.Laws.{fronts, queues}
use Rattle.net_ways.specs.Clear.{ChannelsGoOn, Follows, GoesOnAt}
use Rattle.net_ways.specs.Ways.{HasQueues}
use Rattle.net_ways.proofs.Following.{passing-follows}

-- a queue isn't empty
abbrev has_entry : List Entry → Bool
has_entry [] = false
has_entry (e ∷ es) = true

empty : (es : List Entry) → has_entry es ≡ false → es ≡ []
empty [] h = refl
empty (e ∷ es) h = absurd (false≢true (sym h))

-- an empty queue has room
has_room : (w : State) (q : ℕ) → HasQueues w → has_entry (queue_at w.queues q) ≡ false → has_place (front w) q ≡ true
has_room w q has none =
    let shown : queued_at (front w) q ≡ [] = fronts.queue w q ∙ ap (map queued) (empty (queue_at w.queues q) none) in
    ap (λ (es : List Queued). nat_lt (length es) w.tree.room) shown ∙ (let low = has.tree.room.0 in lt-ltb 0 w.tree.room (omega (arith, low)))

-- where what follows has room, an outcome has its way
way-open : (w : State) (d vc : ℕ) (o : Outcome) → Follows w.tree d o →
    ((e : ℕ) → MayFollow w.tree.links d e → has_place (front w) (queue_of e vc) ≡ true) → has_way (front w) vc o ≡ true
way-open w d vc (Passes e p) follows open_ = open_ e follows
way-open w d vc (Returns p) follows open_ = refl
way-open w d vc Arrives follows open_ = refl
way-open w d vc Ends follows open_ = refl

hop-enabled : (w : State) (q : ℕ) → enabled w (Hop q) ≡ can_hop (front w) q (queued_at (front w) q)
unfolding may
hop-enabled w q = refl

lose-enabled : (w : State) (q : ℕ) → enabled w (Lose q) ≡ can_lose (queued_at (front w) q)
unfolding may
lose-enabled w q = refl

-- the front entry of a queue whose links ahead are empty goes on, or is lost
front-goes : (w : State) (q : ℕ) (e : Entry) (rest : List Entry) → HasQueues w → queue_at w.queues q ≡ e ∷ rest → link_of_queue q < 2 * length w.tree.links →
    ((d : ℕ) → MayFollow w.tree.links (link_of_queue q) d → has_entry (queue_at w.queues (queue_of d (channel_of q))) ≡ false) →
    IsTrue (enabled w (Hop q)) ⊎ IsTrue (enabled w (Lose q))
front-goes w q e rest has is there clear = by_mark e.marked refl
  where
    shown : queued_at (front w) q ≡ queued e ∷ map queued rest
    shown = fronts.queue w q ∙ ap (map queued) is

    open_ : has_way (front w) (channel_of q) (passing w.tree w.nodes (link_of_queue q) e.packet).outcome ≡ true
    open_ = way-open w (link_of_queue q) (channel_of q) (passing w.tree w.nodes (link_of_queue q) e.packet).outcome
        (passing-follows w.tree has.tree w.nodes (link_of_queue q) there e.packet)
        (λ d follows. has_room w (queue_of d (channel_of q)) has (clear d follows))

    by_mark : (b : Bool) → e.marked ≡ b → IsTrue (enabled w (Hop q)) ⊎ IsTrue (enabled w (Lose q))
    by_mark true marked = inr (lose-enabled w q ∙ ap can_lose shown ∙ marked)
    by_mark false unmarked = inl (hop-enabled w q ∙ ap (can_hop (front w) q) shown
        ∙ ap (λ (b : Bool). not b && has_way (front w) (channel_of q) (passing w.tree w.nodes (link_of_queue q) e.packet).outcome) unmarked ∙ open_)

-- a queue with an entry is there
in_range : (w : State) (q : ℕ) (e : Entry) (rest : List Entry) → queue_at w.queues q ≡ e ∷ rest → q < length w.queues
in_range w q e rest is = by_order (cases_lt q (length w.queues))
  where
    no_entry : [] ≡ e ∷ rest → ⊥
    no_entry same = false≢true (ap has_entry same)

    by_order : (q < length w.queues) ⊎ (length w.queues ≤ q) → q < length w.queues
    by_order (inl lt) = lt
    by_order (inr past) = absurd (no_entry (sym (get_or_past w.queues q [] past) ∙ is))

-- the queue of a link with an entry whose links ahead have none
go-at : (w : State) (vc c : ℕ) → c < 2 * length w.tree.links → vc < 2 → HasQueues w → has_entry (queue_at w.queues (queue_of c vc)) ≡ true →
    ((d : ℕ) → MayFollow w.tree.links c d → has_entry (queue_at w.queues (queue_of d vc)) ≡ false) → GoesOnAt w vc
go-at w vc c there small has filled clear = by_queue (queue_at w.queues (queue_of c vc)) refl
  where
    link : link_of_queue (queue_of c vc) ≡ c
    link = queues.link c vc small

    channel : channel_of (queue_of c vc) ≡ vc
    channel = queues.channel c vc small

    by_queue : (es : List Entry) → queue_at w.queues (queue_of c vc) ≡ es → GoesOnAt w vc
    by_queue [] is = absurd (false≢true (sym (ap has_entry is) ∙ filled))
    by_queue (e ∷ rest) is = record {
      queue = queue_of c vc;
      channel = channel;
      enabled = front-goes w (queue_of c vc) e rest has is (subst (λ n. n < 2 * length w.tree.links) (sym link) there)
          (λ d follows. subst (λ n. has_entry (queue_at w.queues (queue_of d n)) ≡ false) (sym channel) (clear d (subst (λ n. MayFollow w.tree.links n d) link follows)));
    }

pub channels-go_on : ChannelsGoOn
channels-go_on w q e rest has is =
    let vc = channel_of q in
    let here : q < length w.queues = in_range w q e rest is in
    let there : link_of_queue q < 2 * length w.tree.links = queues.of w.tree q (subst (λ n. q < n) has.queues here) in
    let busy : ℕ → Bool = λ d. has_entry (queue_at w.queues (queue_of d vc)) in
    let filled : busy (link_of_queue q) ≡ true = ap (λ n. has_entry (queue_at w.queues n)) (queues.whole q) ∙ ap has_entry is in
    let found = some_link_is_clear w.tree has.tree busy (link_of_queue q) there filled in
    go-at w vc found.0 found.1 (omega arith) has found.2 found.3
