-- Each event lowers the weight, so a journal has at most as many events as the state in which it begins weighs.
use Rattle.std.proofs.Common.{◌≡◌, ℕ, suc, ◌≤◌, ◌<◌, Bool, true, false, IsTrue, ◌&&◌, List, [], ◌∷◌, length, map, refl, ◌∙◌, ap, subst, arith}
use Rattle.chdr_packets.specs.declared.packet.Packet.{Packet}
use Rattle.net_machine.specs.declared.event.Event.{Event}
use Rattle.net_machine.specs.declared.event.Event.TheVariants as event
use Rattle.net_machine.specs.Blocks.{has_packet}
use Rattle.net_machine.specs.Conditions.{can_hop, can_lose, can_reply, can_send, enabled, has_place_from, has_place_over, may}
use Rattle.net_machine.specs.Effects.{after, asks_first, enters, hops, loses_front, replies_first}
use Rattle.net_machine.specs.Front.{Queued, StreamFront, front, front_at, queued}
use Rattle.net_machine.specs.Moves.{IsLegal}
use Rattle.net_machine.specs.Plans.{plan_at}
use Rattle.net_machine.specs.Queues.{forward_vc}
use Rattle.net_machine.specs.State.{Entry, State, node_at, queue_at, stream_at}
use Rattle.net_machine.proofs.Laws.{fronts}
use Rattle.net_topology.specs.Links.{link_at}
use Rattle.net_ways.specs.Standing.{HaveWays}
use Rattle.net_ways.specs.Ways.{IsLedTo}
use Rattle.net_flows.specs.Flows.{IsSteady}
use Rattle.net_flows.proofs.Laws.{events_go_on, steady_stays}
use Rattle.chdr_words.specs.declared.command.CmdOp.{CmdOp}
use Rattle.net_weights.specs.Charge.{weight}
use Rattle.net_weights.specs.Journals.{AreWeighed, JournalsEnd, LedWeightFalls, WeightFalls}
use Rattle.net_weights.proofs.Events.{ask-falls, enter-falls, order-falls, order-there, reply-falls, report-falls}
use Rattle.net_weights.proofs.Moving.{feed-falls, hop-falls, lose-falls, seen-falls}

never : {A : Type 0} → false ≡ true → A
never h = cc

first-true : (a b : Bool) → (a && b) ≡ true → a ≡ true
first-true true b h = refl
first-true false b h = h

-- what a test finds of nothing is false
enter-some : (w : State) (s : ℕ) → IsTrue (enabled w (event.Enter s)) → (stream_at w s).ready ≡ [] → ⊥
unfolding may
enter-some w s may_it none =
    let test = first-true (can_send (plan_at w.plan s).flow (front_at (front w) s) (front_at (front w) s).ready) (has_place_from (front w) forward_vc (plan_at w.plan s).from) may_it in
    let ready : (front_at (front w) s).ready ≡ [] = ap (λ (st : StreamFront). st.ready) (fronts.stream w s) ∙ none in
    never (subst (λ (ps : List Packet). can_send (plan_at w.plan s).flow (front_at (front w) s) ps ≡ true) ready test)

ask-some : (w : State) (x : ℕ) → IsTrue (enabled w (event.Ask x)) → (node_at w x).requests ≡ [] → ⊥
unfolding may
ask-some w x may_it none =
    never (subst (λ (ps : List Packet). has_packet ps ≡ true) none
    (first-true (has_packet (node_at w x).requests) (has_place_over (front w) forward_vc (link_at w.tree.links x 0)) may_it))

reply-some : (w : State) (x : ℕ) → IsTrue (enabled w (event.Reply x)) → (node_at w x).pending ≡ [] → ⊥
unfolding may
reply-some w x may_it none = never (subst (λ (ps : List Packet). can_reply (front w) x ps ≡ true) none may_it)

hop-some : (w : State) (q : ℕ) → IsTrue (enabled w (event.Hop q)) → queue_at w.queues q ≡ [] → ⊥
unfolding may
hop-some w q may_it none = never (subst (λ (es : List Queued). can_hop (front w) q es ≡ true) (fronts.queue w q ∙ ap (map queued) none) may_it)

lose-some : (w : State) (q : ℕ) → IsTrue (enabled w (event.Lose q)) → queue_at w.queues q ≡ [] → ⊥
unfolding may
lose-some w q may_it none = never (subst (λ (es : List Queued). can_lose es ≡ true) (fronts.queue w q ∙ ap (map queued) none) may_it)

pub weight-falls : WeightFalls
unfolding after
weight-falls w (event.Enter s) fit steady each may_it = by_ready (stream_at w s).ready refl
  where
    by_ready : (ps : List Packet) → (stream_at w s).ready ≡ ps → weight (after w (event.Enter s)) < weight w
    by_ready [] is = absurd (enter-some w s may_it is)
    by_ready (p ∷ rest) is = enter-falls w s p rest is (ap (λ (ps : List Packet). enters s ps w) is) fit steady each
weight-falls w (event.Hop q) fit steady each may_it = by_queue (queue_at w.queues q) refl
  where
    by_queue : (es : List Entry) → queue_at w.queues q ≡ es → weight (after w (event.Hop q)) < weight w
    by_queue [] is = absurd (hop-some w q may_it is)
    by_queue (e ∷ rest) is = hop-falls w q e rest is (ap (λ (es : List Entry). hops q es w) is) may_it fit each
weight-falls w (event.Seen s n) fit steady each may_it = seen-falls w s n refl may_it fit each
weight-falls w (event.Feed b i) fit steady each may_it = feed-falls w b i refl may_it fit each
weight-falls w (event.Report s) fit steady each may_it = report-falls w s refl may_it fit each
weight-falls w (event.Command s op) fit steady each may_it = order-falls w s op refl may_it fit each
weight-falls w (event.Lose q) fit steady each may_it = by_queue (queue_at w.queues q) refl
  where
    by_queue : (es : List Entry) → queue_at w.queues q ≡ es → weight (after w (event.Lose q)) < weight w
    by_queue [] is = absurd (lose-some w q may_it is)
    by_queue (e ∷ rest) is = lose-falls w q e rest is (ap (λ (es : List Entry). loses_front q es w) is) may_it fit steady each
weight-falls w (event.Reply x) fit steady each may_it = by_pending (node_at w x).pending refl
  where
    by_pending : (ps : List Packet) → (node_at w x).pending ≡ ps → weight (after w (event.Reply x)) < weight w
    by_pending [] is = absurd (reply-some w x may_it is)
    by_pending (p ∷ rest) is = reply-falls w x p rest is (ap (λ (ps : List Packet). replies_first x ps w) is) fit each
weight-falls w (event.Ask x) fit steady each may_it = by_requests (node_at w x).requests refl
  where
    by_requests : (ps : List Packet) → (node_at w x).requests ≡ ps → weight (after w (event.Ask x)) < weight w
    by_requests [] is = absurd (ask-some w x may_it is)
    by_requests (p ∷ rest) is = ask-falls w x p rest is (ap (λ (ps : List Packet). asks_first x ps w) is) fit each

-- a stream that may give a command is there, and has its way
led-ways : (w : State) → HaveWays w → (s : ℕ) (op : CmdOp) → IsTrue (enabled w (event.Command s op)) → IsLedTo w (plan_at w.plan s).from (plan_at w.plan s).to
led-ways w ways s op may_it = (ways.each s (subst (λ (n : ℕ). s < n) ways.as_many (order-there w s op may_it))).forth

pub led-weight_falls : LedWeightFalls
led-weight_falls w e steady ways placed bounded may_it =
    weight-falls w e (record { steady = steady; bounded = bounded; ways = led-ways w ways }) (steady_stays w e steady ways placed may_it) (events_go_on w e steady ways placed may_it) may_it

-- the state that the rest of a journal begins in is steady
begins-steady : (w : State) (journal : List Event) → AreWeighed w journal → IsSteady w
begins-steady w [] fit = fit
begins-steady w (e ∷ journal) fit = fit.0.steady

pub journals-end : JournalsEnd
unfolding IsLegal
journals-end w [] fit legal = omega arith
journals-end w (e ∷ journal) fit legal =
    let falls = weight-falls w e fit.0 (begins-steady (after w e) journal fit.1.1) fit.1.0 legal.0 in
    let rest = journals-end (after w e) journal fit.1.1 legal.1 in
    sums (length journal) (weight (after w e)) (weight w) rest falls
  where
    sums : (n a b : ℕ) → n ≤ a → a < b → suc n ≤ b
    sums n a b rest falls = omega arith
