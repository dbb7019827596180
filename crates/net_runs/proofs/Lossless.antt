-- Where no packet is named to be lost, none is.
use Rattle.std.proofs.Common.{◌≡◌, ℕ, ◌+◌, Bool, true, false, IsTrue, List, [], ◌∷◌, ◌++◌, length, map, refl, sym, ◌∙◌, ap, subst, if◌then◌else◌}
use Rattle.std.specs.Prelude.{Option, Some, None, slice_get}
use Rattle.std.specs.List.{AllByRecursion}
use Rattle.std.specs.Option.{option_map_or}
use Rattle.std.proofs.lemmas.Bool.{both_ways}
use Rattle.rf_base.proofs.Places.{one-set}
use Rattle.block_library.specs.Memory.{gives}
use Rattle.block_registers.specs.Slots.{slots_after}
use Rattle.chdr_packets.specs.declared.packet.Body.{Body}
use Rattle.chdr_packets.specs.declared.packet.Body.TheVariants as body
use Rattle.chdr_packets.specs.declared.packet.Packet.{Packet}
use Rattle.chdr_words.specs.declared.control.Control.{Control}
use Rattle.net_topology.specs.Links.{end_of, link_at}
use Rattle.net_faults.specs.declared.fault.Fault.{Fault}
use Rattle.net_faults.specs.declared.fault.Fault.TheVariants as fault
use Rattle.net_machine.specs.declared.event.Event.{Event}
use Rattle.net_machine.specs.declared.event.Event.TheVariants.{Enter, Hop, Seen, Feed, Report, Command, Lose, Reply, Ask}
use Rattle.net_machine.specs.declared.plan.BlockPlan.{BlockPlan}
use Rattle.net_machine.specs.Begin.{begun}
use Rattle.net_machine.specs.Blocks.{kept_at}
use Rattle.net_machine.specs.Conditions.{can_lose, enabled, may}
use Rattle.net_machine.specs.Effects.{after, answers_host, arrives, asks_first, enters, enters_over, feeds, feeds_from, gives_out, hears_status, hops, joins, leaves, loses_front, on_any_stream, on_node, on_stream, operates, passes, pends, replies_first, stream_of}
use Rattle.net_machine.specs.Faults.{is_named}
use Rattle.net_machine.specs.Front.{front, queued, queued_at}
use Rattle.net_machine.specs.Moves.{IsLegal, moves_of}
use Rattle.net_machine.specs.Nodes.{is_host_at, own_epid, route_from, slot_at}
use Rattle.net_machine.specs.Passing.{Outcome, Passes, Returns, Arrives, Ends, passing}
use Rattle.net_machine.specs.Plans.{block_at, first_link, plan_at, stream_from, stream_into, stream_out_of, stream_to}
use Rattle.net_machine.specs.Queues.{back_vc, channel_of, forward_vc, link_of_queue, queue_of}
use Rattle.net_machine.specs.State.{Entry, Message, Node, State, Stream, Tag, node_at, queue_at, stream_at}
use Rattle.net_machine.specs.Streams.{counts_in, gets, gets_order, loses, readies, taken_to}
use Rattle.net_machine.proofs.Laws.{fronts}
use Rattle.net_lawful.proofs.Laws.{empty-at}
use Rattle.net_runs.specs.Lossless.{IsLossless, IsUnmarked, LosslessGoesOn, NothingNamedNothingLost}
use Rattle.net_runs.specs.Runs.{LosesNothing}

-- ---- queues

more : (es : List Entry) (e : Entry) → AllByRecursion IsUnmarked es → IsUnmarked e → AllByRecursion IsUnmarked (es ++ e ∷ [])
more [] e each here = (here, tt)
more (f ∷ es) e each here = (each.0, more es e each.1 here)

joined : (w : State) (q : ℕ) (e : Entry) → IsUnmarked e → IsLossless w → IsLossless (joins q e w)
joined w q e here stays = record {
  named = stays.named;
  unmarked = one-set {B = ℕ} (λ r es none. AllByRecursion IsUnmarked es) w.queues [] [] 0 (queue_at w.queues q ++ e ∷ []) q stays.unmarked
      (more (queue_at w.queues q) e (stays.unmarked q) here);
}

left : (w : State) (q : ℕ) (rest : List Entry) → AllByRecursion IsUnmarked rest → IsLossless w → IsLossless (leaves q rest w)
left w q rest here stays = record {
  named = stays.named;
  unmarked = one-set {B = ℕ} (λ r es none. AllByRecursion IsUnmarked es) w.queues [] [] 0 rest q stays.unmarked here;
}

-- what is kept beside queues and faults doesn't count
same : (w v : State) → v.faults ≡ w.faults → v.queues ≡ w.queues → IsLossless w → IsLossless v
same w v faults queues stays = record {
  named = faults ∙ stays.named;
  unmarked = λ q. subst (λ (qs : List (List Entry)). AllByRecursion IsUnmarked (queue_at qs q)) (sym queues) (stays.unmarked q);
}

on-any : (w : State) (o : Option ℕ) (next : Stream → Stream) → IsLossless w → IsLossless (on_any_stream o next w)
on-any w None next stays = stays
on-any w (Some s) next stays = same w _ refl refl stays

over : (w : State) (o : Option ℕ) (vc : ℕ) (marked : Bool) (p : Packet) (tag : Tag) → marked ≡ false → IsLossless w →
    IsLossless (enters_over o vc marked p tag w)
over w None vc marked p tag here stays = stays
over w (Some d) vc marked p tag here stays = joined w (queue_of d vc) (record { packet = p; marked = marked; tag = tag }) here stays

unnamed : (faults : List Fault) (name : Fault) → faults ≡ [] → is_named faults name ≡ false
unnamed faults name none = ap (λ (fs : List Fault). is_named fs name) none

-- ---- a Hop

pended : (w : State) (x : ℕ) (p : Packet) → IsLossless w → IsLossless (pends x p w)
pended w x p stays = by_link (route_from w.tree w.nodes x p.dst)
  where
    by_link : (o : Option ℕ) → IsLossless (option_map_or (λ (d : ℕ). on_node x (λ (n : Node). record n { pending = n.pending ++ p ∷ [] }) w) o w)
    by_link None = stays
    by_link (Some d) = same w _ refl refl stays

answered-host : (w : State) (x : ℕ) (p : Packet) → IsLossless w → IsLossless (answers_host x p w)
answered-host w x p stays = by_host (is_host_at w.tree x)
  where
    by_host : (b : Bool) → IsLossless (if b then on_node x (λ (n : Node). record n { answers = n.answers ++ p ∷ [] }) w else w)
    by_host true = same w _ refl refl stays
    by_host false = stays

operated : (w : State) (x : ℕ) (request : Control) → IsLossless w → IsLossless (operates x request w)
operated w x request stays = pended _ x _ (same w (record w { banks = slots_after w.banks (slot_at w.tree x request.dst_port) request }) refl refl stays)

arrived : (w : State) (x : ℕ) (e : Entry) (b : Body) → IsLossless w → IsLossless (arrives x e b w)
arrived w x e (body.Samples time payload) stays = on-any w (stream_to w.plan (own_epid w.tree x)) (gets e.packet) stays
arrived w x e (body.Command c) stays = on-any w (stream_to w.plan (own_epid w.tree x)) (gets_order c.op (counts_in e.tag)) stays
arrived w x e (body.Status status) stays = by_stream (stream_from w.plan (own_epid w.tree x))
  where
    by_stream : (o : Option ℕ) → IsLossless (option_map_or (λ (s : ℕ). hears_status e.tag s w) o w)
    by_stream None = stays
    by_stream (Some s) = same w _ refl refl stays
arrived w x e (body.Control control) stays = by_ack control.ack
  where
    by_ack : (b : Bool) → IsLossless (if b then answers_host x e.packet w else operates x control w)
    by_ack true = answered-host w x e.packet stays
    by_ack false = operated w x control stays
arrived w x e (body.Management m) stays = answered-host w x e.packet stays

passed-on : (w : State) (x vc : ℕ) (e : Entry) (outcome : Outcome) → IsUnmarked e → IsLossless w → IsLossless (passes x vc e outcome w)
passed-on w x vc e (Passes d p) here stays = joined w (queue_of d vc) (record e { packet = p }) here stays
passed-on w x vc e (Returns p) here stays = pended w x p stays
passed-on w x vc e Arrives here stays = arrived w x e e.packet.body stays
passed-on w x vc e Ends here stays = stays

hopped : (w : State) (q : ℕ) (es : List Entry) → AllByRecursion IsUnmarked es → IsLossless w → IsLossless (hops q es w)
hopped w q [] each stays = stays
hopped w q (e ∷ rest) each stays =
    let passed = passing w.tree w.nodes (link_of_queue q) e.packet in
    passed-on _ (end_of w.tree.links (link_of_queue q)) (channel_of q) e passed.outcome each.0
    (same (leaves q rest w) (record (leaves q rest w) { nodes = passed.nodes }) refl refl (left w q rest each.1 stays))

-- ---- the other events

entered : (w : State) (s : ℕ) (ps : List Packet) → IsLossless w → IsLossless (enters s ps w)
entered w s [] stays = stays
entered w s (p ∷ rest) stays = same _ _ refl refl
    (over w (first_link w.tree (plan_at w.plan s).from) _ _ _ _ (unnamed w.faults (fault.Samples s (length (stream_at w s).sent)) stays.named) stays)

fed : (w : State) (block : BlockPlan) (i : ℕ) → IsLossless w → IsLossless (feeds block i w)
fed w block i stays = by_stream (stream_into w.plan block i)
  where
    by_packet : (s : ℕ) (o : Option Packet) → IsLossless (option_map_or (λ (p : Packet). gives_out block (gives (kept_at w block) i p) (on_stream s (taken_to ((stream_at w s).taken + 1)) w)) o w)
    by_packet s None = stays
    by_packet s (Some p) =
        let given = gives (kept_at w block) i p in
        let taken = on_stream s (taken_to ((stream_at w s).taken + 1)) w in
        let first = on_any_stream (stream_out_of taken.plan block 0) (readies given.first) taken in
        on-any first (stream_out_of w.plan block 1) (readies given.second)
        (on-any taken (stream_out_of w.plan block 0) (readies given.first) (same w taken refl refl stays))

    by_stream : (o : Option ℕ) → IsLossless (option_map_or (λ (s : ℕ). feeds_from block i s w) o w)
    by_stream None = stays
    by_stream (Some s) = by_packet s (slice_get (stream_at w s).given (stream_at w s).taken)

lost-front : (w : State) (q : ℕ) (es : List Entry) → AllByRecursion IsUnmarked es → IsLossless w → IsLossless (loses_front q es w)
lost-front w q [] each stays = stays
lost-front w q (e ∷ rest) each stays = on-any (leaves q rest w) (stream_of w e.packet e.packet.body) (loses e) (left w q rest each.1 stays)

asked : (w : State) (x : ℕ) (ps : List Packet) → IsLossless w → IsLossless (asks_first x ps w)
asked w x [] stays = stays
asked w x (p ∷ rest) stays = same _ _ refl refl
    (over (record w { requests = w.requests + 1 }) (link_at w.tree.links x 0) forward_vc _ p Message (unnamed w.faults (fault.Request w.requests) stays.named)
    (same w (record w { requests = w.requests + 1 }) refl refl stays))

replied : (w : State) (x : ℕ) (ps : List Packet) → IsLossless w → IsLossless (replies_first x ps w)
replied w x [] stays = stays
replied w x (p ∷ rest) stays = same _ _ refl refl
    (over (record w { answers = w.answers + 1 }) (route_from w.tree w.nodes x p.dst) back_vc _ p Message (unnamed w.faults (fault.Answer w.answers) stays.named)
    (same w (record w { answers = w.answers + 1 }) refl refl stays))

event-keeps : (w : State) (e : Event) → IsLossless w → IsLossless (after w e)
unfolding after
event-keeps w (Enter s) stays = entered w s (stream_at w s).ready stays
event-keeps w (Command s op) stays = same _ _ refl refl
    (over w (first_link w.tree (plan_at w.plan s).from) _ _ _ _ (unnamed w.faults (fault.Command s (stream_at w s).commands) stays.named) stays)
event-keeps w (Report s) stays = same _ _ refl refl
    (over w (first_link w.tree (plan_at w.plan s).to) _ _ _ _ (unnamed w.faults (fault.Status s (stream_at w s).statuses) stays.named) stays)
event-keeps w (Seen s n) stays = same w _ refl refl stays
event-keeps w (Feed b i) stays = fed w (block_at w.plan b) i stays
event-keeps w (Ask x) stays = asked w x (node_at w x).requests stays
event-keeps w (Reply x) stays = replied w x (node_at w x).pending stays
event-keeps w (Lose q) stays = lost-front w q (queue_at w.queues q) (stays.unmarked q) stays
event-keeps w (Hop q) stays = hopped w q (queue_at w.queues q) (stays.unmarked q) stays

-- ---- so nothing is lost

not-lost : (w : State) (q : ℕ) (es : List Entry) → queue_at w.queues q ≡ es → AllByRecursion IsUnmarked es → IsTrue (enabled w (Lose q)) → ⊥
unfolding may
not-lost w q [] is each may_it = both_ways (can_lose (queued_at (front w) q)) (ap can_lose (fronts.queue w q ∙ ap (map queued) is)) may_it
not-lost w q (e ∷ rest) is each may_it =
    both_ways (can_lose (queued_at (front w) q)) (ap can_lose (fronts.queue w q ∙ ap (map queued) is) ∙ each.0) may_it

loses-nothing : (w : State) (e : Event) → IsLossless w → IsTrue (enabled w e) → LosesNothing e
loses-nothing w (Enter s) stays may_it = tt
loses-nothing w (Hop q) stays may_it = tt
loses-nothing w (Seen s n) stays may_it = tt
loses-nothing w (Feed b i) stays may_it = tt
loses-nothing w (Report s) stays may_it = tt
loses-nothing w (Command s op) stays may_it = tt
loses-nothing w (Lose q) stays may_it = not-lost w q (queue_at w.queues q) refl (stays.unmarked q) may_it
loses-nothing w (Reply x) stays may_it = tt
loses-nothing w (Ask x) stays may_it = tt

pub goes-on : LosslessGoesOn
goes-on w e stays may_it = record { event = loses-nothing w e stays may_it; after = event-keeps w e stays }

journal-loses-nothing : (w : State) (journal : List Event) → IsLossless w → IsLegal w (moves_of journal) → AllByRecursion LosesNothing journal
unfolding IsLegal
journal-loses-nothing w [] stays legal = tt
journal-loses-nothing w (e ∷ journal) stays legal =
    (loses-nothing w e stays legal.0, journal-loses-nothing (after w e) journal (event-keeps w e stays) legal.1)

pub nothing-lost : NothingNamedNothingLost
nothing-lost plan w journal rest none legal = journal-loses-nothing (begun plan w) journal begins legal
  where
    begins : IsLossless (begun plan w)
    begins = record { named = none; unmarked = λ q. subst (AllByRecursion IsUnmarked) (sym (empty-at w rest.empty q)) tt }
