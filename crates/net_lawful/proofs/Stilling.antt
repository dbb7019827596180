-- Once a management packet is asked no stream does anything, and only messages move.
use Rattle.std.proofs.Common.{◌≡◌, ℕ, ◌≤◌, ◌<◌, ◌⊎◌, inl, inr, Bool, true, false, List, [], ◌∷◌, length, map, refl, sym, ◌∙◌, ap, subst, get_or, zero, suc}
use Rattle.std.specs.Prelude.{Some, nat_lt, not, ◌&&◌}
use Rattle.std.specs.List.{AllByRecursion, list_all}
use Rattle.std.specs.Option.{option_map_or}
use Rattle.std.proofs.lemmas.Bool.{cases_lt, false≢true, lt-ltb}
use Rattle.std.proofs.lemmas.List.{get_or_past}
use Rattle.chdr_words.specs.declared.epid.Epid.{Epid}
use Rattle.net_machine.specs.declared.event.Event.TheVariants.{Enter, Seen, Feed, Report, Command}
use Rattle.net_machine.specs.declared.plan.StreamPlan.{StreamPlan}
use Rattle.net_machine.specs.Conditions.{can_feed, can_order, can_see, can_send, ends_at_rx, has_place_from, is_of, may, none_under_way}
use Rattle.net_machine.specs.Front.{Queued, StreamFront, front, front_at, queued, queued_at, stream_front}
use Rattle.net_machine.specs.Moves.{AreEmpty, IsAtRest}
use Rattle.net_machine.specs.Plans.{block_at, first_link, plan_at}
use Rattle.net_machine.specs.Queues.{back_vc, forward_vc, queue_of}
use Rattle.net_machine.specs.State.{Entry, State, idle, queue_at}
use Rattle.net_machine.proofs.Laws.{fronts}
use Rattle.net_ways.specs.Ways.{HasQueues, IsLedTo}
use Rattle.net_ways.proofs.Laws.{front_of, message-of, order-same, ways_begin}
use Rattle.net_flows.specs.Flows.{IsSteady}
use Rattle.net_lawful.specs.Messages.{EachEntry}
use Rattle.net_lawful.specs.Walking.{AreLed, AreStilled, IsNoStreams}
use Rattle.net_lawful.proofs.Messages.{due-past, order-past}

-- ---- messages are of no stream

none-in : (plan : StreamPlan) (es : List Entry) → AllByRecursion (λ (e : Entry). IsNoStreams e.tag e.packet) es →
    list_all (λ (e : Queued). not (is_of plan e.packet.dst e.packet.body)) (map queued es) ≡ true
none-in plan [] all = refl
none-in plan (e ∷ es) all =
    let here : not (is_of plan e.packet.dst e.packet.body) ≡ true = ap not (message-of plan e.packet.dst e.packet.body all.0.body) in
    ap (λ b. b && list_all (λ (f : Queued). not (is_of plan f.packet.dst f.packet.body)) (map queued es)) here ∙ none-in plan es all.1

none-among : (plan : StreamPlan) (queues : List (List Entry)) → ((q : ℕ) → AllByRecursion (λ (e : Entry). IsNoStreams e.tag e.packet) (queue_at queues q)) →
    none_under_way (map (map queued) queues) plan ≡ true
none-among plan [] each = refl
none-among plan (es ∷ queues) each =
    ap (λ b. b && none_under_way (map (map queued) queues) plan) (none-in plan es (each zero)) ∙ none-among plan queues (λ q. each (suc q))

-- ---- stilled streams stay so as long as they are the same

pub stilled-same : (w v : State) → v.tree ≡ w.tree → v.plan ≡ w.plan → v.streams ≡ w.streams → EachEntry IsNoStreams v → AreStilled w → AreStilled v
unfolding may
stilled-same w v tree plan streams messages stilled =
    let qs = map (map queued) w.queues in
    let all = λ (s : ℕ). order-same v.tree v.plan (map stream_front v.streams) (map (map queued) v.queues) qs v.nodes w.nodes s in
    record {
      queued = messages;
      sends = λ s. (λ i. can_send (plan_at (plan i) s).flow (get_or (map stream_front (streams i)) s (stream_front idle)) (get_or (map stream_front (streams i)) s (stream_front idle)).ready) ∙ stilled.sends s;
      orders = λ s op. all s op (none-among (plan_at v.plan s) v.queues messages ∙ sym (none-among (plan_at v.plan s) w.queues stilled.queued))
          ∙ (λ i. can_order (front_of (tree i) (plan i) qs w.nodes (map stream_front (streams i))) s op) ∙ stilled.orders s op;
      reports = λ s. (λ i. (get_or (map stream_front (streams i)) s (stream_front idle)).due) ∙ stilled.reports s;
      sees = λ s n. (λ i. ends_at_rx (plan i) s && can_see (get_or (map stream_front (streams i)) s (stream_front idle)) n) ∙ stilled.sees s n;
      feeds = λ b k. (λ i. can_feed (front_of (tree i) (plan i) qs w.nodes (map stream_front (streams i))) (block_at (plan i) b) k) ∙ stilled.feeds b k;
    }

-- ---- at rest no stream would do anything, whatever room there is

second-true : (a b : Bool) → (a && b) ≡ false → b ≡ true → a ≡ false
second-true true b none yes_it = absurd (false≢true (sym none ∙ yes_it))
second-true false b none yes_it = refl

pub empty-at : (w : State) → AreEmpty w → (q : ℕ) → queue_at w.queues q ≡ []
empty-at w empty q = by_order (cases_lt q (length w.queues))
  where
    by_order : (q < length w.queues) ⊎ (length w.queues ≤ q) → queue_at w.queues q ≡ []
    by_order (inl lt) = empty q [] lt
    by_order (inr past) = get_or_past w.queues q [] past

-- where all queues are empty there is room
has-room : (w : State) → HasQueues w → AreEmpty w → (a : Epid) (vc d : ℕ) → first_link w.tree a ≡ Some d → has_place_from (front w) vc a ≡ true
has-room w has empty a vc d first =
    let none : queued_at (front w) (queue_of d vc) ≡ [] = fronts.queue w (queue_of d vc) ∙ ap (map queued) (empty-at w empty (queue_of d vc)) in
    ap (λ o. option_map_or (λ l. nat_lt (length (queued_at (front w) (queue_of l vc))) w.tree.room) o false) first
    ∙ ap (λ (es : List Queued). nat_lt (length es) w.tree.room) none
    ∙ lt-ltb 0 w.tree.room has.tree.room.0

room-from : (w : State) (a b : Epid) (vc : ℕ) → HasQueues w → AreEmpty w → IsLedTo w a b → has_place_from (front w) vc a ≡ true
room-from w a b vc has empty led =
    let begins = ways_begin w a b vc has led in has-room w has empty a vc begins.link begins.first

no-send : (w : State) (s : ℕ) → length w.streams ≤ s → can_send (plan_at w.plan s).flow (front_at (front w) s) (front_at (front w) s).ready ≡ false
no-send w s past = ap (λ (st : StreamFront). can_send (plan_at w.plan s).flow st st.ready) (fronts.stream w s ∙ ap stream_front (get_or_past w.streams s idle past))

no-entries : (P : Entry → Type 0) (es : List Entry) → es ≡ [] → AllByRecursion P es
no-entries P es is = rw is tt

pub stilled-begins : (w : State) → IsSteady w → AreLed w → IsAtRest w → AreStilled w
unfolding may
stilled-begins w steady led rest = record {
  queued = λ q. no-entries (λ (e : Entry). IsNoStreams e.tag e.packet) (queue_at w.queues q) (empty-at w rest.empty q);
  sends = λ s. elim (cases_lt s (length w.streams)) [
    | inl lt ↦ second-true (can_send (plan_at w.plan s).flow (front_at (front w) s) (front_at (front w) s).ready) (has_place_from (front w) forward_vc (plan_at w.plan s).from) (rest.still (Enter s)) (forth s lt)
    | inr past ↦ no-send w s past
  ];
  orders = λ s op. elim (cases_lt s (length w.streams)) [
    | inl lt ↦ second-true (can_order (front w) s op) (has_place_from (front w) forward_vc (plan_at w.plan s).from) (rest.still (Command s op)) (forth s lt)
    | inr past ↦ order-past w s op past
  ];
  reports = λ s. elim (cases_lt s (length w.streams)) [
    | inl lt ↦ second-true (front_at (front w) s).due (has_place_from (front w) back_vc (plan_at w.plan s).to) (rest.still (Report s)) (back s lt)
    | inr past ↦ due-past w s past
  ];
  sees = λ s n. rest.still (Seen s n);
  feeds = λ b i. rest.still (Feed b i);
}
  where
    forth : (s : ℕ) → s < length w.streams → has_place_from (front w) forward_vc (plan_at w.plan s).from ≡ true
    forth s lt = room-from w (plan_at w.plan s).from (plan_at w.plan s).to forward_vc steady.queues rest.empty (led.ways.each s (subst (λ n. s < n) steady.as_many lt)).forth

    back : (s : ℕ) → s < length w.streams → has_place_from (front w) back_vc (plan_at w.plan s).to ≡ true
    back s lt = room-from w (plan_at w.plan s).to (plan_at w.plan s).from back_vc steady.queues rest.empty (led.ways.each s (subst (λ n. s < n) steady.as_many lt)).back
