-- A part of a fabric changes, and the fabric stays sound.
use Rattle.std.proofs.Common.{◌≡◌, ℕ, zero, suc, ◌<◌, List, [], ◌∷◌, length, refl, sym, ◌∙◌, ap, subst, set, Option, None, Some, Bool, false, IsTrue, arith}
use Rattle.std.specs.Prelude.{All, IfSome, map}
use Rattle.std.proofs.Math.Seq.{map-set_same}
use Rattle.block_library.specs.Memory.{after_feed}
use Rattle.fabric_parts.specs.Ready.{IsShort}
use Rattle.std.proofs.lemmas.Bool.{false≢true}
use Rattle.std.proofs.lemmas.List.{get_or-set_other, length-map, length-set}
use Rattle.std.proofs.lemmas.List.FromFn.{get_or-map-range_with_len}
use Rattle.chdr_packets.specs.declared.packet.Packet.{Packet}
use Rattle.stream_endpoint.specs.declared.flow.Flow.{Flow}
use Rattle.net_machine.specs.Conditions.{can_send}
use Rattle.net_machine.specs.Front.{Queued, StreamFront}
use Rattle.net_machine.specs.Plans.{plan_at}
use Rattle.net_machine.specs.declared.plan.StreamPlan.{StreamPlan}
use Rattle.block_library.specs.declared.kind.BlockKind.{BlockKind}
use Rattle.net_present.specs.Kept.{block_now_at, idle_block, idle_now, now_at}
use Rattle.net_present.specs.Onward.{block_fed, enters_over_now, on_any_now, on_now}
use Rattle.net_present.specs.StreamSteps.{readies_now}
use Rattle.fabric_parts.specs.Streams.{StreamSeen}
use Rattle.fabric_lists.specs.BlocksView.{block_in, blocks_of}
use Rattle.net_present.specs.Present.{BlockNow, Present, StreamNow}
use Rattle.fabric_lists.specs.Opened.{is_tx_stream}
use Rattle.fabric_events.specs.Fabrics.{IsSound, item_now, kind_now, kind_planned, present_of}
use Rattle.fabric_lists.specs.QueuesView.{QueuesSeen}
use Rattle.fabric_lists.specs.StreamsView.{StreamsSeen, now_in, on_at, plan_in, plan_seen, streams_of, tx_seen}
use Rattle.fabric_events.specs.declared.fabric.Fabric.{Fabric}

-- the queues change, and none is added
pub sound_queues : (f : Fabric) (queues : QueuesSeen) (q : ℕ) (next : List Queued) → IsSound f
    → queues.entries ≡ set f.queues.entries q next → queues.room ≡ f.queues.room → IsSound (record f { queues = queues })
sound_queues f queues q next sound entries room = record {
  queues = ap (λ (es : List (List Queued)). length es) entries ∙ length-set f.queues.entries q next ∙ sound.queues;
  room = room ∙ sound.room;
  shapes = sound.shapes;
  working = sound.working;
  plans = sound.plans;
  txs = sound.txs;
  kinds = sound.kinds;
  items = sound.items;
  feeding = sound.feeding;
  few_streams = sound.few_streams;
  few_blocks = sound.few_blocks;
}

-- a sample, a command or a status enters beside the change of its stream
pub enters_beside : (link : Option ℕ) (vc : ℕ) (marked : Bool) (packet : Packet) (s : ℕ) (next : StreamNow → StreamNow) (p : Present)
    → enters_over_now link vc marked packet (on_now s next p) ≡ on_now s next (enters_over_now link vc marked packet p)
enters_beside None vc marked packet s next p = refl
enters_beside (Some d) vc marked packet s next p = refl

-- a list that isn't empty, in two parts
pub record Front {A : Type 0} (xs : List A) : Type 0 where
  pub first : A
  pub rest : List A
  pub is : xs ≡ first ∷ rest

pub front_of : {A : Type 0} (xs : List A) → 0 < length xs → Front xs
front_of [] some = absurd (omega arith)
front_of (x ∷ xs) some = record { first = x; rest = xs; is = refl }

-- the packet of a stream that may send one
pub ready_of : (flow : Flow) (st : StreamFront) (ready : List Packet) → IsTrue (can_send flow st ready) → Front ready
ready_of flow st [] can = absurd (false≢true can)
ready_of flow st (p ∷ rest) can = record { first = p; rest = rest; is = refl }

-- the streams change by what is kept of one, and stand as they were made
pub sound_streams : (f g : Fabric) (s : ℕ) (next : StreamNow → StreamNow) → IsSound f
    → g ≡ record f { streams = g.streams } → streams_of g.streams.items ≡ on_at s next (streams_of f.streams.items) → IsSound g
sound_streams f g s next sound same streams = subst IsSound (sym same) (record {
  queues = sound.queues;
  room = sound.room;
  shapes = sound.shapes;
  working = sound.working;
  plans = ap (λ (v : StreamsSeen). v.plans) streams ∙ sound.plans;
  txs = ap (λ (v : StreamsSeen). v.txs) streams ∙ sound.txs;
  kinds = sound.kinds;
  items = sound.items;
  feeding = sound.feeding;
  few_streams = sound.few_streams;
  few_blocks = sound.few_blocks;
})

-- there is a stream for each of the plan
pub stream_count : (f : Fabric) → IsSound f → length f.streams.items ≡ length f.plan.streams
stream_count f sound = sym (length-map f.streams.items plan_in) ∙ ap (λ (ps : List StreamPlan). length ps) sound.plans

-- the plan of a stream, and whether a Tx makes its packets
pub plan_there : (f : Fabric) (s : ℕ) → IsSound f → plan_seen (streams_of f.streams.items).plans s ≡ plan_at f.plan s
plan_there f s sound = ap (λ (ps : List StreamPlan). plan_seen ps s) sound.plans

pub tx_there : (f : Fabric) (s : ℕ) → IsSound f → s < length f.streams.items
    → tx_seen (streams_of f.streams.items).txs s ≡ is_tx_stream f.plan s
tx_there f s sound there =
    let within : s < length f.plan.streams = subst (λ (n : ℕ). s < n) (stream_count f sound) there in
    ap (λ (ts : List Bool). tx_seen ts s) sound.txs
    ∙ get_or-map-range_with_len (is_tx_stream f.plan) 0 (length f.plan.streams) s s false within (omega arith)

-- a packet enters once what is kept of a stream has changed
pub enters_by : (p mid new : Present) (s : ℕ) (next : StreamNow → StreamNow) (vc : ℕ) (link there : Option ℕ) (marked named : Bool) (packet made : Packet)
    → new ≡ enters_over_now link vc marked packet mid → mid ≡ on_now s next p → link ≡ there → marked ≡ named → packet ≡ made
    → new ≡ on_now s next (enters_over_now there vc named made p)
enters_by p mid new s next vc link there marked named packet made entered changed link_is marked_is packet_is =
    entered ∙ ap (λ (m : Present). enters_over_now link vc marked packet m) changed ∙ enters_beside link vc marked packet s next p
    ∙ ap (λ (l : Option ℕ). on_now s next (enters_over_now l vc marked packet p)) link_is
    ∙ ap (λ (b : Bool). on_now s next (enters_over_now there vc b packet p)) marked_is
    ∙ ap (λ (q : Packet). on_now s next (enters_over_now there vc named q p)) packet_is

-- the present once what is kept of a stream has changed
pub stream_changed : (f : Fabric) (streams : StreamsSeen) (s : ℕ) (next : StreamNow → StreamNow) → streams ≡ on_at s next (streams_of f.streams.items)
    → record (present_of f) { streams = streams.now } ≡ on_now s next (present_of f)
stream_changed f streams s next is = ap (λ (v : StreamsSeen). record (present_of f) { streams = v.now }) is

pub none_is_some : (packet : Packet) → let none : Option Packet = None in none ≡ Some packet → ⊥
none_is_some packet h = cc

-- there is a block for each of the plan
pub block_count : (f : Fabric) → IsSound f → length f.blocks.items ≡ length f.plan.blocks
block_count f sound =
    sym (length-map f.blocks.items block_in) ∙ sym (length-map (blocks_of f.blocks.items) kind_now)
    ∙ ap (λ (ks : List BlockKind). length ks) sound.kinds ∙ length-map f.plan.blocks kind_planned

-- one stream's change leaves what is ready on each as it was, where it leaves its own
pub ready_kept : (now : List StreamNow) (s t : ℕ) (next : StreamNow → StreamNow) → ((st : StreamNow) → (next st).ready ≡ st.ready)
    → (now_at (set now s (next (now_at now s))) t).ready ≡ (now_at now t).ready
ready_kept [] s t next same = refl
ready_kept (x ∷ xs) zero zero next same = same x
ready_kept (x ∷ xs) zero (suc t) next same = refl
ready_kept (x ∷ xs) (suc s) zero next same = refl
ready_kept (x ∷ xs) (suc s) (suc t) next same = ready_kept xs s t next same

-- what becomes ready on one stream leaves another as it was
pub ready_beside : (first : Option ℕ) (packets : List Packet) (p : Present) (t : ℕ) → (first ≡ Some t → ⊥)
    → (now_at (on_any_now first (readies_now packets) p).streams t).ready ≡ (now_at p.streams t).ready
ready_beside None packets p t apart = refl
ready_beside (Some u) packets p t apart =
    ap (λ (st : StreamNow). st.ready) (get_or-set_other p.streams u t _ idle_now (λ e. apart (ap (λ (n : ℕ). Some n) (sym e))))

-- there are as many streams
pub count_kept : (parts new : List StreamSeen) (s : ℕ) (next : StreamNow → StreamNow) → streams_of new ≡ on_at s next (streams_of parts)
    → length new ≡ length parts
count_kept parts new s next is =
    sym (length-map new now_in) ∙ ap (λ (v : StreamsSeen). length v.now) is
    ∙ length-set (map now_in parts) s (next (now_at (map now_in parts) s)) ∙ length-map parts now_in

-- what a stream asks that packets become ready on it
abbrev pub Fills : Fabric → List Packet → ℕ → Type 0
Fills f packets t = (t < length f.streams.items) × (is_tx_stream f.plan t ≡ false)
    × ((now_at (streams_of f.streams.items).now t).ready ≡ []) × All IsShort packets

pub if_some : (Fact : ℕ → Type 0) (o : Option ℕ) (n : ℕ) → o ≡ Some n → IfSome o Fact → Fact n
if_some Fact o n is holds = subst (λ (r : Option ℕ). IfSome r Fact) is holds

-- what asks less of the one that there is
pub on_some : (One Other : ℕ → Type 0) (o : Option ℕ) → ((n : ℕ) → o ≡ Some n → One n → Other n) → IfSome o One → IfSome o Other
on_some One Other None next holds = holds
on_some One Other (Some n) next holds = next n refl holds

-- a block keeps its kind as a packet is fed to it
kind_kept : (now : BlockNow) (i : ℕ) (packet : Packet) → kind_now (block_fed i packet now) ≡ kind_now now
unfolding after_feed
kind_kept now i packet = refl

item_kept : (now : BlockNow) (i : ℕ) (packet : Packet) → item_now (block_fed i packet now) ≡ item_now now
unfolding after_feed
item_kept now i packet = refl

-- a packet is taken off a stream and fed to a block
pub sound_fed : (f g : Fabric) (s : ℕ) (next : StreamNow → StreamNow) (b i : ℕ) (packet : Packet) → IsSound f
    → g ≡ record f { streams = g.streams; blocks = g.blocks } → streams_of g.streams.items ≡ on_at s next (streams_of f.streams.items)
    → blocks_of g.blocks.items ≡ set (blocks_of f.blocks.items) b (block_fed i packet (block_now_at (blocks_of f.blocks.items) b)) → IsSound g
sound_fed f g s next b i packet sound same streams blocks = subst IsSound (sym same) (record {
  queues = sound.queues;
  room = sound.room;
  shapes = sound.shapes;
  working = sound.working;
  plans = ap (λ (v : StreamsSeen). v.plans) streams ∙ sound.plans;
  txs = ap (λ (v : StreamsSeen). v.txs) streams ∙ sound.txs;
  kinds = ap (λ (bs : List BlockNow). map kind_now bs) blocks
      ∙ map-set_same kind_now (blocks_of f.blocks.items) b (block_fed i packet (block_now_at (blocks_of f.blocks.items) b)) (idle_block b)
      (kind_kept (block_now_at (blocks_of f.blocks.items) b) i packet) ∙ sound.kinds;
  items = ap (λ (bs : List BlockNow). map item_now bs) blocks
      ∙ map-set_same item_now (blocks_of f.blocks.items) b (block_fed i packet (block_now_at (blocks_of f.blocks.items) b)) (idle_block b)
      (item_kept (block_now_at (blocks_of f.blocks.items) b) i packet) ∙ sound.items;
  feeding = sound.feeding;
  few_streams = sound.few_streams;
  few_blocks = sound.few_blocks;
})
