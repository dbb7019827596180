-- With messages in queues no stream does anything that it wouldn't do without them.
use Rattle.std.proofs.Common.{◌≡◌, ℕ, true, false, IsTrue, List, [], ◌∷◌, map, refl, sym, ◌∙◌, ap, zero, suc}
use Rattle.std.specs.Prelude.{Option, Some, None, not, ◌&&◌}
use Rattle.std.specs.List.{AllByRecursion, list_all}
use Rattle.std.proofs.lemmas.Bool.{and_from, and_parts, both_ways, false_from_ne_true, false≢true}
use Rattle.net_topology.specs.declared.plan.Plan.{Plan}
use Rattle.net_machine.specs.declared.event.Event.{Event}
use Rattle.net_machine.specs.declared.event.Event.TheVariants.{Enter, Hop, Seen, Feed, Report, Command, Lose, Reply, Ask}
use Rattle.net_machine.specs.declared.plan.RunPlan.{RunPlan}
use Rattle.net_machine.specs.declared.plan.StreamPlan.{StreamPlan}
use Rattle.net_machine.specs.Conditions.{can_order, can_send, enabled, has_place, has_place_from, has_place_over, is_of, may, none_under_way}
use Rattle.net_machine.specs.Front.{Front, Queued, StreamFront, front_at, queued, stream_front}
use Rattle.net_machine.specs.Plans.{first_link, plan_at}
use Rattle.net_machine.specs.Queues.{back_vc, forward_vc, queue_of}
use Rattle.net_machine.specs.State.{Entry, Node, State, queue_at}
use Rattle.net_ways.specs.Standing.{IsMessage}
use Rattle.net_ways.proofs.Laws.{front_of, message-of, order-same}
use Rattle.net_lone.proofs.Bases.{Base, IsStreams, room-at}

-- ---- messages are of no stream

abbrev Carries : Entry → Type 0
Carries e = IsMessage e.packet.body

none-in : (plan : StreamPlan) (es : List Entry) → AllByRecursion Carries es →
    list_all (λ (e : Queued). not (is_of plan e.packet.dst e.packet.body)) (map queued es) ≡ true
none-in plan [] all = refl
none-in plan (e ∷ es) all =
    let here : not (is_of plan e.packet.dst e.packet.body) ≡ true = ap not (message-of plan e.packet.dst e.packet.body all.0) in
    ap (λ b. b && list_all (λ (f : Queued). not (is_of plan f.packet.dst f.packet.body)) (map queued es)) here ∙ none-in plan es all.1

none-among : (plan : StreamPlan) (queues : List (List Entry)) → ((q : ℕ) → AllByRecursion Carries (queue_at queues q)) →
    none_under_way (map (map queued) queues) plan ≡ true
none-among plan [] each = refl
none-among plan (es ∷ queues) each =
    ap (λ b. b && none_under_way (map (map queued) queues) plan) (none-in plan es (each zero)) ∙ none-among plan queues (λ q. each (suc q))

-- ---- what a stream would do with others in queues and tables it would do without them, if there is room

stream-less : (tree : Plan) (plan : RunPlan) (streams : List StreamFront) (qs rs : List (List Queued)) (ns ms : List Node) →
    ((s : ℕ) → none_under_way qs (plan_at plan s) ≡ none_under_way rs (plan_at plan s)) →
    ((q : ℕ) → has_place (front_of tree plan rs ms streams) q ≡ true) →
    (e : Event) → IsStreams e → IsTrue (may (front_of tree plan qs ns streams) e) → IsTrue (may (front_of tree plan rs ms streams) e)
unfolding may
stream-less tree plan streams qs rs ns ms under room e is may_it = by_event e is may_it
  where
    f : Front
    f = front_of tree plan qs ns streams

    g : Front
    g = front_of tree plan rs ms streams

    over : (vc : ℕ) (o : Option ℕ) → has_place_over f vc o ≡ true → has_place_over g vc o ≡ true
    over vc None has = absurd (false≢true has)
    over vc (Some d) has = room (queue_of d vc)

    by_event : (e : Event) → IsStreams e → IsTrue (may f e) → IsTrue (may g e)
    by_event (Enter s) is may_it =
        let can = can_send (plan_at plan s).flow (front_at f s) (front_at f s).ready in
        let epid = (plan_at plan s).from in
        let parts = and_parts can (has_place_from f forward_vc epid) may_it in
        and_from can (has_place_from g forward_vc epid) parts.0 (over forward_vc (first_link tree epid) parts.1)
    by_event (Hop q) is may_it = absurd is
    by_event (Seen s n) is may_it = may_it
    by_event (Feed b i) is may_it = may_it
    by_event (Report s) is may_it =
        let due = (front_at f s).due in
        let epid = (plan_at plan s).to in
        let parts = and_parts due (has_place_from f back_vc epid) may_it in
        and_from due (has_place_from g back_vc epid) parts.0 (over back_vc (first_link tree epid) parts.1)
    by_event (Command s op) is may_it =
        let epid = (plan_at plan s).from in
        let parts = and_parts (can_order f s op) (has_place_from f forward_vc epid) may_it in
        and_from (can_order g s op) (has_place_from g forward_vc epid)
        (sym (order-same tree plan streams qs rs ns ms s op (under s)) ∙ parts.0) (over forward_vc (first_link tree epid) parts.1)
    by_event (Lose q) is may_it = absurd is
    by_event (Reply x) is may_it = absurd is
    by_event (Ask x) is may_it = absurd is

no-entries : (es : List Entry) → es ≡ [] → AllByRecursion Carries es
no-entries es is = rw is tt

-- where all queues are empty, all that is in them are messages
pub empty-carry : (w : State) → Base w → (q : ℕ) → AllByRecursion (λ (e : Entry). IsMessage e.packet.body) (queue_at w.queues q)
empty-carry w base q = no-entries (queue_at w.queues q) (base.empty q)

-- no stream of a settled network does anything, whatever messages are in queues and whatever its nodes hold
pub still-with : (w : State) (queues : List (List Entry)) (nodes : List Node) → Base w →
    ((q : ℕ) → AllByRecursion (λ (e : Entry). IsMessage e.packet.body) (queue_at queues q)) →
    (e : Event) → IsStreams e → enabled (record w { queues = queues; nodes = nodes }) e ≡ false
still-with w queues nodes base carry e is = false_from_ne_true (enabled (record w { queues = queues; nodes = nodes }) e)
    (λ may_it. both_ways (enabled w e) (base.streams e is)
    (stream-less w.tree w.plan (map stream_front w.streams) (map (map queued) queues) (map (map queued) w.queues) nodes w.nodes
    (λ s. none-among (plan_at w.plan s) queues carry ∙ sym (none-among (plan_at w.plan s) w.queues (empty-carry w base)))
    (λ q. room-at w q base.queues.tree (base.empty q)) e is may_it))
