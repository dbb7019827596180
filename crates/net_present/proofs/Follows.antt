-- The present goes on at each event as the state does.
use Rattle.std.proofs.Common.{◌≡◌, ℕ, ◌+◌, ◌<◌, ◌≤◌, Bool, true, false, IsTrue, List, [], ◌∷◌, ◌++◌, length, map, refl, sym, ◌∙◌, ap, subst, arith, get_or, Option, None, Some, cond, zero, suc}
use Rattle.std.specs.Prelude.{slice_get, nat_lt, nat_le, ◌&&◌, ◌==◌, not}
use Rattle.std.specs.Option.{option_map_or}
use Rattle.std.proofs.Math.ListN.{get_or-map}
use Rattle.std.proofs.lemmas.Bool.Decides.{nat_tests}
use Rattle.std.proofs.lemmas.List.{length-set}
use Rattle.rf_base.proofs.Places.{one-set}
use Rattle.block_library.specs.Memory.{Kept, block_registers, gives}
use Rattle.block_registers.specs.Operations.{Place as Port, Nowhere, Fixed, answer}
use Rattle.block_registers.specs.Registers.{Registers}
use Rattle.block_registers.specs.Slots.{place_of, slots_after}
use Rattle.chdr_packets.specs.declared.packet.Body.{Body}
use Rattle.chdr_packets.specs.declared.packet.Body.TheVariants as body
use Rattle.chdr_packets.specs.declared.packet.Packet.{Packet}
use Rattle.chdr_words.specs.declared.control.Control.{Control}
use Rattle.chdr_words.specs.declared.epid.Epid.{Epid}
use Rattle.net_topology.specs.Links.{end_of}
use Rattle.net_topology.specs.declared.plan.NodePlan.{NodePlan}
use Rattle.net_topology.specs.declared.plan.NodePlan.TheVariants.{Crossbar, Adapter, Host, Endpoint}
use Rattle.net_topology.specs.declared.plan.Plan.{Plan}
use Rattle.net_machine.specs.declared.event.Event.TheVariants as event
use Rattle.net_machine.specs.declared.plan.BlockPlan.{BlockPlan}
use Rattle.net_machine.specs.declared.plan.RunPlan.{RunPlan}
use Rattle.net_machine.specs.Blocks.{kept_at}
use Rattle.net_machine.specs.Conditions.{can_see, ends_at_rx, may}
use Rattle.net_machine.specs.Effects.{after, answers_host, arrives, asks_first, enters, enters_over, feeds, feeds_from, gives_out, hears_status, hops, leaves, loses_front, on_any_stream, on_node, on_stream, operates, passes, pends, replies_first, stream_of}
use Rattle.net_machine.specs.Front.{Queued, StreamFront, front, front_at, queued, stream_front}
use Rattle.net_machine.specs.Nodes.{block_on, block_place, block_port, is_host_at, own_epid, place_at, place_by, planned, route_from, slot_at}
use Rattle.net_machine.specs.Passing.{Outcome, Passes, Returns, Arrives, Ends, Passing, message, passing}
use Rattle.net_machine.specs.Plans.{block_at, is_rx, no_block, plan_at, stream_from, stream_into, stream_out_of, stream_to}
use Rattle.net_machine.specs.Queues.{back_vc, channel_of, link_of_queue}
use Rattle.net_machine.specs.State.{Entry, Node, State, Stream, Tag, idle, node_in, queue_at, stream_at}
use Rattle.net_machine.specs.Streams.{counts_in, gets, gets_order, gets_status, loses, readies, taken_of, taken_to, told_in}
use Rattle.net_present.specs.Fits.{FitsPresent, Spells}
use Rattle.net_present.specs.Kept.{IsNow, IsStreamNow, idle_now, now_at}
use Rattle.net_present.specs.Laws.{IsHeld, PresentFollows}
use Rattle.net_present.specs.Onward.{Held, answers_host_now, arrives_now, asks_now, block_on_now, block_place_now, enters_now as entering_now, entries_at, goes_on, hops_now, leaves_now, loses_now, on_any_now, on_node_now, on_now, on_present, operates_now, passes_now, pends_now, place_by_now, place_now, replies_now}
use Rattle.net_present.specs.Present.{BlockNow, Present, StreamNow}
use Rattle.net_present.specs.StreamSteps.{gets_now, gets_order_now, gets_status_now}
use Rattle.net_present.proofs.Events.{asks-follows, enters-follows, feeds-follows, orders-follows, replies-follows, reports-follows, route-same}
use Rattle.net_present.proofs.Feeds.{kept-fed, sees-follows}
use Rattle.net_present.proofs.Places.{any-stream-now, blocks-same, joins-now, leaves-now, node-now, stream-now, tables-now, taken-stays}
use Rattle.net_present.proofs.StreamsNow.{gets-taken, now-gets, now-hears, now-loses, now-obeys}

-- ---- registers stay at every event but a Hop

over-banks : (o : Option ℕ) (vc : ℕ) (marked : Bool) (packet : Packet) (tag : Tag) (w : State) → (enters_over o vc marked packet tag w).banks ≡ w.banks
over-banks None vc marked packet tag w = refl
over-banks (Some d) vc marked packet tag w = refl

any-banks : (o : Option ℕ) (g : Stream → Stream) (w : State) → (on_any_stream o g w).banks ≡ w.banks
any-banks None g w = refl
any-banks (Some s) g w = refl

pends-banks : (x : ℕ) (packet : Packet) (w : State) → (pends x packet w).banks ≡ w.banks
pends-banks x packet w = by_link (route_from w.tree w.nodes x packet.dst)
  where
    by_link : (o : Option ℕ) → (option_map_or (λ d. on_node x (λ n. record n { pending = n.pending ++ packet ∷ [] }) w) o w).banks ≡ w.banks
    by_link None = refl
    by_link (Some d) = refl

-- ---- what comes to a node

other-banks : (p : Present) (w : State) (banks : List (Option Registers)) → IsNow p w → IsNow p (record w { banks = banks })
other-banks p w banks now = record {
  tree = now.tree;
  plan = now.plan;
  queues = now.queues;
  nodes = now.nodes;
  as_many_streams = now.as_many_streams;
  streams = now.streams;
  as_many_blocks = now.as_many_blocks;
  blocks = now.blocks;
  faults = now.faults;
  requests = now.requests;
  answers = now.answers;
}

pends-follows : (p : Present) (w : State) (x : ℕ) (packet : Packet) → IsNow p w → IsNow (pends_now x packet p) (pends x packet w)
pends-follows p w x packet now =
    subst (λ (o : Option ℕ). IsNow (option_map_or (λ d. on_node_now x (λ n. record n { pending = n.pending ++ packet ∷ [] }) p) o p) (pends x packet w))
    (sym (route-same p w x packet.dst now)) (by_link (route_from w.tree w.nodes x packet.dst))
  where
    by_link : (o : Option ℕ) → IsNow (option_map_or (λ d. on_node_now x (λ n. record n { pending = n.pending ++ packet ∷ [] }) p) o p)
        (option_map_or (λ d. on_node x (λ n. record n { pending = n.pending ++ packet ∷ [] }) w) o w)
    by_link None = now
    by_link (Some d) = node-now p w x (λ n. record n { pending = n.pending ++ packet ∷ [] }) now

answers-follows : (h : Held) (w : State) (x : ℕ) (packet : Packet) → IsHeld h w → IsHeld (on_present (answers_host_now x packet) h) (answers_host x packet w)
answers-follows h w x packet held =
    subst (λ (tree : Plan). IsHeld (record { present = cond (is_host_at tree x) (on_node_now x (λ n. record n { answers = n.answers ++ packet ∷ [] }) h.present) h.present; banks = h.banks }) (answers_host x packet w))
    (sym held.now.tree) (by_host (is_host_at w.tree x))
  where
    by_host : (b : Bool) → IsHeld (record { present = cond b (on_node_now x (λ n. record n { answers = n.answers ++ packet ∷ [] }) h.present) h.present; banks = h.banks })
        (cond b (on_node x (λ n. record n { answers = n.answers ++ packet ∷ [] }) w) w)
    by_host true = record { now = node-now h.present w x (λ n. record n { answers = n.answers ++ packet ∷ [] }) held.now; banks = held.banks }
    by_host false = record { now = held.now; banks = held.banks }

-- no Rx stands at an endpoint
abbrev NoRx : State → Type 0
NoRx w = (x b : ℕ) (epid : Epid) (bank : Option ℕ) → planned w.tree x ≡ Some (Endpoint epid bank) → block_on w epid ≡ Some b → is_rx (block_at w.plan b).kind ≡ false

block-place-same : (p : Present) (w : State) (o : Option ℕ) → ((b : ℕ) → o ≡ Some b → is_rx (block_at w.plan b).kind ≡ false) → IsNow p w →
    block_place_now p o ≡ block_place w o
block-place-same p w None no_rx now = refl
block-place-same p w (Some b) no_rx now =
    ap (λ (k : Kept). Fixed (block_registers k)) (ap (λ (it : BlockNow). it.kept) (now.blocks b) ∙ kept-fed w (block_at w.plan b) (no_rx b refl))

place-same : (h : Held) (w : State) (x port : ℕ) → NoRx w → IsHeld h w → place_now h x port ≡ place_at w x port
place-same h w x port no_rx held =
    ap (λ (tree : Plan). option_map_or (place_by_now h x port) (planned tree x) Nowhere) held.now.tree ∙ by_node (planned w.tree x) refl
  where
    on : (epid : Epid) → block_on_now h.present epid ≡ block_on w epid
    on epid = ap (λ (plan : RunPlan). block_on (record w { plan = plan }) epid) held.now.plan

    by_node : (o : Option NodePlan) → planned w.tree x ≡ o → option_map_or (place_by_now h x port) o Nowhere ≡ option_map_or (place_by w x port) o Nowhere
    by_node None is = refl
    by_node (Some (Crossbar ports)) is = refl
    by_node (Some Adapter) is = refl
    by_node (Some (Host epid)) is = refl
    by_node (Some (Endpoint epid bank)) is =
        ap (λ (o : Option ℕ). cond (port == block_port) (block_place_now h.present o) (place_of h.banks (slot_at h.present.tree x port))) (on epid)
        ∙ ap (λ (place : Port). cond (port == block_port) place (place_of h.banks (slot_at h.present.tree x port))) (block-place-same h.present w (block_on w epid) (λ b. no_rx x b epid bank is) held.now)
        ∙ ap (λ (banks : List (Option Registers)). cond (port == block_port) (block_place w (block_on w epid)) (place_of banks (slot_at h.present.tree x port))) held.banks
        ∙ ap (λ (tree : Plan). cond (port == block_port) (block_place w (block_on w epid)) (place_of w.banks (slot_at tree x port))) held.now.tree

operates-follows : (h : Held) (w : State) (x : ℕ) (request : Control) → NoRx w → IsHeld h w → IsHeld (operates_now x request h) (operates x request w)
operates-follows h w x request no_rx held = record {
  now = subst (λ (packet : Packet). IsNow (pends_now x packet h.present) (operates x request w)) (sym same)
      (pends-follows h.present (record w { banks = slots }) x (acknowledged (answer (own_epid w.tree x) (place_at w x request.dst_port) request))
      (other-banks h.present w slots held.now));
  banks = ap (λ (banks : List (Option Registers)). slots_after banks (slot_at h.present.tree x request.dst_port) request) held.banks
      ∙ ap (λ (tree : Plan). slots_after w.banks (slot_at tree x request.dst_port) request) held.now.tree
      ∙ sym (pends-banks x _ (record w { banks = slots }));
}
  where
    slots : List (Option Registers)
    slots = slots_after w.banks (slot_at w.tree x request.dst_port) request

    acknowledged : Control → Packet
    acknowledged control = message back_vc request.src (body.Control control)

    same : acknowledged (answer (own_epid h.present.tree x) (place_now h x request.dst_port) request)
        ≡ acknowledged (answer (own_epid w.tree x) (place_at w x request.dst_port) request)
    same = ap (λ (tree : Plan). acknowledged (answer (own_epid tree x) (place_now h x request.dst_port) request)) held.now.tree
        ∙ ap (λ (place : Port). acknowledged (answer (own_epid w.tree x) place request)) (place-same h w x request.dst_port no_rx held)

-- a stream of both changes, if there is one
to-stream : (h : Held) (w : State) (o r : Option ℕ) (f : StreamNow → StreamNow) (g : Stream → Stream) → o ≡ r → IsHeld h w →
    ((s : ℕ) → IsStreamNow (ends_at_rx w.plan s) (f (now_at h.present.streams s)) (g (stream_at w s))) →
    ((s : ℕ) → taken_of (g (stream_at w s)) ≡ taken_of (stream_at w s)) →
    IsHeld (record { present = on_any_now o f h.present; banks = h.banks }) (on_any_stream r g w)
to-stream h w o r f g is held here same = record {
  now = subst (λ (o : Option ℕ). IsNow (on_any_now o f h.present) (on_any_stream r g w)) (sym is)
      (any-stream-now h.present w r f g held.now (λ s e. here s) (λ s e. same s));
  banks = held.banks ∙ sym (any-banks r g w);
}

arrives-follows : (h : Held) (w : State) (x : ℕ) (e : Entry) (b : Body) → ((s : ℕ) → (stream_at w s).taken ≤ length (stream_at w s).given) → NoRx w → Spells e.tag b → IsHeld h w →
    IsHeld (arrives_now x e.packet b h) (arrives x e b w)
arrives-follows h w x e (body.Samples time payload) taken no_rx spells held =
    to-stream h w _ _ (gets_now e.packet) (gets e.packet)
    (ap (λ (plan : RunPlan). stream_to plan (own_epid h.present.tree x)) held.now.plan ∙ ap (λ (tree : Plan). stream_to w.plan (own_epid tree x)) held.now.tree)
    held (λ s. now-gets _ _ _ e.packet (taken s) (held.now.streams s)) (λ s. gets-taken e.packet (stream_at w s) (taken s))
arrives-follows h w x e (body.Command c) taken no_rx spells held =
    to-stream h w _ _ (gets_order_now c) (gets_order c.op (counts_in e.tag))
    (ap (λ (plan : RunPlan). stream_to plan (own_epid h.present.tree x)) held.now.plan ∙ ap (λ (tree : Plan). stream_to w.plan (own_epid tree x)) held.now.tree)
    held (λ s. now-obeys _ _ _ c (counts_in e.tag) spells (held.now.streams s)) (λ s. refl)
arrives-follows h w x e (body.Status status) taken no_rx spells held =
    subst (λ (o : Option ℕ). IsHeld (record { present = option_map_or (λ s. on_now s (gets_status_now (plan_at h.present.plan s) status) h.present) o h.present; banks = h.banks }) (arrives x e (body.Status status) w))
    (sym (ap (λ (plan : RunPlan). stream_from plan (own_epid h.present.tree x)) held.now.plan ∙ ap (λ (tree : Plan). stream_from w.plan (own_epid tree x)) held.now.tree))
    (by_stream (stream_from w.plan (own_epid w.tree x)))
  where
    by_stream : (o : Option ℕ) → IsHeld (record { present = option_map_or (λ s. on_now s (gets_status_now (plan_at h.present.plan s) status) h.present) o h.present; banks = h.banks })
        (option_map_or (λ s. hears_status e.tag s w) o w)
    by_stream None = record { now = held.now; banks = held.banks }
    by_stream (Some s) = record {
      now = subst (λ (plan : RunPlan). IsNow (on_now s (gets_status_now (plan_at plan s) status) h.present) (hears_status e.tag s w)) (sym held.now.plan)
          (stream-now h.present w s (gets_status_now (plan_at w.plan s) status) (gets_status (plan_at w.plan s) (told_in e.tag)) held.now
          (now-hears _ _ _ (plan_at w.plan s) status (told_in e.tag) spells (held.now.streams s)) refl);
      banks = held.banks;
    }
arrives-follows h w x e (body.Control control) taken no_rx spells held = by_ack control.ack
  where
    by_ack : (b : Bool) → IsHeld (cond b (on_present (answers_host_now x e.packet) h) (operates_now x control h)) (cond b (answers_host x e.packet w) (operates x control w))
    by_ack true = answers-follows h w x e.packet held
    by_ack false = operates-follows h w x control no_rx held
arrives-follows h w x e (body.Management m) taken no_rx spells held = answers-follows h w x e.packet held

-- ---- a Hop

passes-follows : (h : Held) (w : State) (x vc : ℕ) (e : Entry) (o : Outcome) → ((s : ℕ) → (stream_at w s).taken ≤ length (stream_at w s).given) → NoRx w → Spells e.tag e.packet.body → IsHeld h w →
    IsHeld (passes_now x vc (queued e) o h) (passes x vc e o w)
passes-follows h w x vc e (Passes d packet) taken no_rx spells held =
    record { now = joins-now h.present w _ (record e { packet = packet }) held.now; banks = held.banks }
passes-follows h w x vc e (Returns packet) taken no_rx spells held =
    record { now = pends-follows h.present w x packet held.now; banks = held.banks ∙ sym (pends-banks x packet w) }
passes-follows h w x vc e Arrives taken no_rx spells held = arrives-follows h w x e e.packet.body taken no_rx spells held
passes-follows h w x vc e Ends taken no_rx spells held = held

hops-follows : (h : Held) (w : State) (q : ℕ) (entries : List Entry) → queue_at w.queues q ≡ entries → FitsPresent w → IsHeld h w →
    IsHeld (hops_now q (map queued entries) h) (hops q entries w)
hops-follows h w q [] is fits held = held
hops-follows h w q (e ∷ rest) is fits held =
    subst (λ (it : Passing). IsHeld (passes_now (end_of h.present.tree.links (link_of_queue q)) (channel_of q) (queued e) it.outcome (left it.nodes)) (hops q (e ∷ rest) w)) (sym same)
    (subst (λ (tree : Plan). IsHeld (passes_now (end_of tree.links (link_of_queue q)) (channel_of q) (queued e) passed.outcome (left passed.nodes)) (hops q (e ∷ rest) w)) (sym held.now.tree)
    (passes-follows (left passed.nodes) (record (leaves q rest w) { nodes = passed.nodes }) (end_of w.tree.links (link_of_queue q)) (channel_of q) e passed.outcome fits.taken fits.registers (fits.spelled q e rest is)
    (record { now = tables-now _ _ passed.nodes (leaves-now h.present w q rest held.now); banks = held.banks })))
  where
    passed : Passing
    passed = passing w.tree w.nodes (link_of_queue q) e.packet

    left : List Node → Held
    left nodes = on_present (λ p. record (leaves_now q (map queued rest) p) { nodes = nodes }) h

    same : passing h.present.tree h.present.nodes (link_of_queue q) e.packet ≡ passed
    same = ap (λ (tree : Plan). passing tree h.present.nodes (link_of_queue q) e.packet) held.now.tree
        ∙ ap (λ (nodes : List Node). passing w.tree nodes (link_of_queue q) e.packet) held.now.nodes

-- ---- a loss

loses-now : (p : Present) (w : State) (o : Option ℕ) (e : Entry) → IsNow p w → IsNow p (on_any_stream o (loses e) w)
loses-now p w None e now = now
loses-now p w (Some s) e now = record {
  tree = now.tree;
  plan = now.plan;
  queues = now.queues;
  nodes = now.nodes;
  as_many_streams = now.as_many_streams ∙ sym (length-set w.streams s (loses e (stream_at w s)));
  streams = one-set (λ k (st : Stream) (it : StreamNow). IsStreamNow (ends_at_rx w.plan k) it st) w.streams p.streams idle idle_now (loses e (stream_at w s)) s now.streams
      (now-loses (ends_at_rx w.plan s) (now_at p.streams s) (stream_at w s) e (now.streams s));
  as_many_blocks = now.as_many_blocks;
  blocks = λ b. now.blocks b ∙ blocks-same w (on_stream s (loses e) w) refl (λ k. sym (taken-stays w s (loses e) refl k)) b (block_at w.plan b);
  faults = now.faults;
  requests = now.requests;
  answers = now.answers;
}

loses-follows : (h : Held) (w : State) (q : ℕ) (entries : List Entry) → IsHeld h w → IsHeld (on_present (loses_now q (map queued entries)) h) (loses_front q entries w)
loses-follows h w q [] held = record { now = held.now; banks = held.banks }
loses-follows h w q (e ∷ rest) held = record {
  now = loses-now _ _ (stream_of w e.packet e.packet.body) e (leaves-now h.present w q rest held.now);
  banks = held.banks ∙ sym (any-banks (stream_of w e.packet e.packet.body) (loses e) (leaves q rest w));
}

-- the entries of a queue of both
entries-same : (h : Held) (w : State) (q : ℕ) → IsHeld h w → entries_at h.present.queues q ≡ map queued (queue_at w.queues q)
entries-same h w q held = ap (λ (queues : List (List Queued)). entries_at queues q) held.now.queues ∙ get_or-map (map queued) w.queues q []

-- ---- all events

not-true : IsTrue false → ⊥
not-true e = cc

-- what the condition of a Seen and of a Feed tells
sees-tells : (w : State) (s n : ℕ) → IsTrue (ends_at_rx w.plan s && can_see (front_at (front w) s) n) → (ends_at_rx w.plan s ≡ true) × ((stream_at w s).taken ≤ n)
sees-tells w s n may = by_rx (ends_at_rx w.plan s) refl may
  where
    within : (taken given : ℕ) → IsTrue (nat_lt taken n && nat_le n given) → taken ≤ n
    within taken given is = grind (arith, nat_tests)

    by_rx : (b : Bool) → ends_at_rx w.plan s ≡ b → IsTrue (b && can_see (front_at (front w) s) n) → (b ≡ true) × ((stream_at w s).taken ≤ n)
    by_rx true is may = (refl, subst (λ (f : StreamFront). f.taken ≤ n) (get_or-map stream_front w.streams s idle) (within (front_at (front w) s).taken (front_at (front w) s).given may))
    by_rx false is may = absurd (not-true may)

not-rx : (b : Bool) (rest : Bool) → IsTrue (not b && rest) → b ≡ false
not-rx true rest may = absurd (not-true may)
not-rx false rest may = refl

-- a block that may be fed is there: what stands for one that isn't there is an Rx
block-there : (blocks : List BlockPlan) (b : ℕ) → is_rx (get_or blocks b no_block).kind ≡ false → b < length blocks
block-there [] zero is = cc
block-there [] (suc b) is = cc
block-there (_ ∷ blocks) zero is = omega arith
block-there (_ ∷ blocks) (suc b) is = let within = block-there blocks b is in omega (arith, within)

enters-banks : (s : ℕ) (ready : List Packet) (w : State) → (enters s ready w).banks ≡ w.banks
enters-banks s [] w = refl
enters-banks s (packet ∷ rest) w = over-banks _ _ _ _ _ w

asks-banks : (x : ℕ) (requests : List Packet) (w : State) → (asks_first x requests w).banks ≡ w.banks
asks-banks x [] w = refl
asks-banks x (packet ∷ rest) w = over-banks _ _ _ _ _ (record w { requests = w.requests + 1 })

replies-banks : (x : ℕ) (pending : List Packet) (w : State) → (replies_first x pending w).banks ≡ w.banks
replies-banks x [] w = refl
replies-banks x (packet ∷ rest) w = over-banks _ _ _ _ _ (record w { answers = w.answers + 1 })

feeds-banks : (block : BlockPlan) (i : ℕ) (w : State) → (feeds block i w).banks ≡ w.banks
feeds-banks block i w = by_stream (stream_into w.plan block i)
  where
    fed : (s : ℕ) (packet : Packet) → (gives_out block (gives (kept_at w block) i packet) (on_stream s (taken_to ((stream_at w s).taken + 1)) w)).banks ≡ w.banks
    fed s packet = let given = gives (kept_at w block) i packet in let v = on_stream s (taken_to ((stream_at w s).taken + 1)) w in
        any-banks (stream_out_of w.plan block 1) (readies given.second) (on_any_stream (stream_out_of w.plan block 0) (readies given.first) v)
        ∙ any-banks (stream_out_of w.plan block 0) (readies given.first) v

    by_packet : (s : ℕ) (o : Option Packet) → (option_map_or (λ packet. gives_out block (gives (kept_at w block) i packet) (on_stream s (taken_to ((stream_at w s).taken + 1)) w)) o w).banks ≡ w.banks
    by_packet s None = refl
    by_packet s (Some packet) = fed s packet

    by_stream : (o : Option ℕ) → (option_map_or (λ s. feeds_from block i s w) o w).banks ≡ w.banks
    by_stream None = refl
    by_stream (Some s) = by_packet s (slice_get (stream_at w s).given (stream_at w s).taken)

pub present_follows : PresentFollows
unfolding goes_on after may
present_follows h w (event.Enter s) fits may held = record {
  now = subst (λ (ready : List Packet). IsNow (entering_now s ready h.present) (enters s (stream_at w s).ready w)) (sym (ap (λ (it : StreamNow). it.ready) (held.now.streams s).is))
      (enters-follows h.present w s (stream_at w s).ready refl held.now);
  banks = held.banks ∙ sym (enters-banks s (stream_at w s).ready w);
}
present_follows h w (event.Command s op) fits may held =
    record { now = orders-follows h.present w s op held.now; banks = held.banks ∙ sym (over-banks _ _ _ _ _ w) }
present_follows h w (event.Report s) fits may held =
    record { now = reports-follows h.present w s held.now; banks = held.banks ∙ sym (over-banks _ _ _ _ _ w) }
present_follows h w (event.Seen s n) fits may held = let tells = sees-tells w s n may in
    record { now = sees-follows h.present w s n fits tells.0 tells.1 held.now; banks = held.banks }
present_follows h w (event.Feed b i) fits may held =
    let fed = not-rx (is_rx (block_at w.plan b).kind) _ may in
    record { now = feeds-follows h.present w b i fits held.now fed (block-there w.plan.blocks b fed); banks = held.banks ∙ sym (feeds-banks (block_at w.plan b) i w) }
present_follows h w (event.Ask x) fits may held = record {
  now = subst (λ (nodes : List Node). IsNow (asks_now x (node_in nodes x).requests h.present) (asks_first x (node_in w.nodes x).requests w)) (sym held.now.nodes)
      (asks-follows h.present w x (node_in w.nodes x).requests held.now);
  banks = held.banks ∙ sym (asks-banks x (node_in w.nodes x).requests w);
}
present_follows h w (event.Reply x) fits may held = record {
  now = subst (λ (nodes : List Node). IsNow (replies_now x (node_in nodes x).pending h.present) (replies_first x (node_in w.nodes x).pending w)) (sym held.now.nodes)
      (replies-follows h.present w x (node_in w.nodes x).pending held.now);
  banks = held.banks ∙ sym (replies-banks x (node_in w.nodes x).pending w);
}
present_follows h w (event.Lose q) fits may held =
    subst (λ (entries : List Queued). IsHeld (on_present (loses_now q entries) h) (loses_front q (queue_at w.queues q) w)) (sym (entries-same h w q held))
    (loses-follows h w q (queue_at w.queues q) held)
present_follows h w (event.Hop q) fits may held =
    subst (λ (entries : List Queued). IsHeld (hops_now q entries h) (hops q (queue_at w.queues q) w)) (sym (entries-same h w q held))
    (hops-follows h w q (queue_at w.queues q) refl fits held)
