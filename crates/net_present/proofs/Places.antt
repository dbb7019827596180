-- What is kept of a state, as one place of it changes.
use Rattle.std.proofs.Common.{◌≡◌, ℕ, Bool, List, [], ◌∷◌, ◌++◌, map, refl, sym, ◌∙◌, ap, subst, get_or, set, Option, None, Some}
use Rattle.std.specs.Option.{option_map_or}
use Rattle.std.proofs.lemmas.List.{length-set, map-append, map-set}
use Rattle.std.proofs.Math.ListN.{get_or-map}
use Rattle.rf_base.proofs.Places.{at-set, one-set}
use Rattle.chdr_packets.specs.declared.packet.Packet.{Packet}
use Rattle.net_machine.specs.declared.plan.BlockPlan.{BlockPlan}
use Rattle.net_machine.specs.Blocks.{fed_to}
use Rattle.net_machine.specs.Conditions.{ends_at_rx}
use Rattle.net_machine.specs.Effects.{enters_over, joins, leaves, on_any_stream, on_node, on_stream}
use Rattle.net_machine.specs.Front.{Queued, queued}
use Rattle.net_machine.specs.Plans.{block_at, stream_into}
use Rattle.net_machine.specs.State.{Entry, Node, State, Stream, Tag, blank, idle, queue_at, stream_at}
use Rattle.net_machine.specs.Streams.{taken_of}
use Rattle.net_present.specs.Kept.{IsNow, IsStreamNow, block_now, idle_now, now_at}
use Rattle.net_present.specs.Onward.{enters_over_now, joins_now, leaves_now, on_any_now, on_node_now, on_now}
use Rattle.net_present.specs.Present.{Present, StreamNow}

-- ---- blocks

pub map-or-same : {A B : Type 0} (f g : A → B) (d : B) → ((a : A) → f a ≡ g a) → (o : Option A) → option_map_or f o d ≡ option_map_or g o d
map-or-same f g d same None = refl
map-or-same f g d same (Some a) = same a

-- what is kept of a block follows from what was fed to its inputs
pub block-same : (w v : State) (b : ℕ) (block : BlockPlan) → fed_to w block 0 ≡ fed_to v block 0 → fed_to w block 1 ≡ fed_to v block 1 →
    block_now w b block ≡ block_now v b block
block-same w v b block first second = rw (first, second) refl

-- where all streams have taken the same, so it is with all blocks
pub blocks-same : (w v : State) → w.plan ≡ v.plan → ((k : ℕ) → taken_of (stream_at w k) ≡ taken_of (stream_at v k)) →
    (b : ℕ) (block : BlockPlan) → block_now w b block ≡ block_now v b block
blocks-same w v plan taken b block = block-same w v b block (fed 0) (fed 1)
  where
    fed : (i : ℕ) → fed_to w block i ≡ fed_to v block i
    fed i = map-or-same _ _ [] taken (stream_into w.plan block i)
        ∙ ap (λ plan. option_map_or (λ s. taken_of (stream_at v s)) (stream_into plan block i) []) plan

pub taken-stays : (w : State) (s : ℕ) (next : Stream → Stream) → taken_of (next (stream_at w s)) ≡ taken_of (stream_at w s) →
    (k : ℕ) → taken_of (stream_at (on_stream s next w) k) ≡ taken_of (stream_at w k)
taken-stays w s next same k =
    one-set (λ j (a b : Stream). taken_of a ≡ taken_of b) w.streams w.streams idle idle (next (stream_at w s)) s (λ j. refl) same k

-- ---- streams

pub stream-now : (p : Present) (w : State) (s : ℕ) (f : StreamNow → StreamNow) (g : Stream → Stream) → IsNow p w →
    IsStreamNow (ends_at_rx w.plan s) (f (now_at p.streams s)) (g (stream_at w s)) → taken_of (g (stream_at w s)) ≡ taken_of (stream_at w s) →
    IsNow (on_now s f p) (on_stream s g w)
stream-now p w s f g now here same = record {
  tree = now.tree;
  plan = now.plan;
  queues = now.queues;
  nodes = now.nodes;
  as_many_streams = simp length-set now.as_many_streams;
  streams = at-set (λ k. IsStreamNow (ends_at_rx w.plan k)) p.streams w.streams idle_now idle _ _ s now.as_many_streams now.streams here;
  as_many_blocks = now.as_many_blocks;
  blocks = λ b. now.blocks b ∙ blocks-same w (on_stream s g w) refl (λ k. sym (taken-stays w s g same k)) b (block_at w.plan b);
  faults = now.faults;
  requests = now.requests;
  answers = now.answers;
}

pub any-stream-now : (p : Present) (w : State) (o : Option ℕ) (f : StreamNow → StreamNow) (g : Stream → Stream) → IsNow p w →
    ((s : ℕ) → o ≡ Some s → IsStreamNow (ends_at_rx w.plan s) (f (now_at p.streams s)) (g (stream_at w s))) →
    ((s : ℕ) → o ≡ Some s → taken_of (g (stream_at w s)) ≡ taken_of (stream_at w s)) →
    IsNow (on_any_now o f p) (on_any_stream o g w)
any-stream-now p w None f g now here same = now
any-stream-now p w (Some s) f g now here same = stream-now p w s f g now (here s refl) (same s refl)

-- ---- queues and nodes

pub joins-now : (p : Present) (w : State) (q : ℕ) (e : Entry) → IsNow p w → IsNow (joins_now q (queued e) p) (joins q e w)
joins-now p w q e now = record {
  tree = now.tree;
  plan = now.plan;
  queues = ap (λ (qs : List (List Queued)). set qs q (get_or qs q [] ++ queued e ∷ [])) now.queues
      ∙ ap (λ (at : List Queued). set (map (map queued) w.queues) q (at ++ queued e ∷ [])) (get_or-map (map queued) w.queues q [])
      ∙ ap (set (map (map queued) w.queues) q) (sym (map-append queued (queue_at w.queues q) (e ∷ [])))
      ∙ sym (map-set (map queued) w.queues q (queue_at w.queues q ++ e ∷ []));
  nodes = now.nodes;
  as_many_streams = now.as_many_streams;
  streams = now.streams;
  as_many_blocks = now.as_many_blocks;
  blocks = now.blocks;
  faults = now.faults;
  requests = now.requests;
  answers = now.answers;
}

pub leaves-now : (p : Present) (w : State) (q : ℕ) (rest : List Entry) → IsNow p w →
    IsNow (leaves_now q (map queued rest) p) (leaves q rest w)
leaves-now p w q rest now = record {
  tree = now.tree;
  plan = now.plan;
  queues = ap (λ (qs : List (List Queued)). set qs q (map queued rest)) now.queues ∙ sym (map-set (map queued) w.queues q rest);
  nodes = now.nodes;
  as_many_streams = now.as_many_streams;
  streams = now.streams;
  as_many_blocks = now.as_many_blocks;
  blocks = now.blocks;
  faults = now.faults;
  requests = now.requests;
  answers = now.answers;
}

pub node-now : (p : Present) (w : State) (x : ℕ) (f : Node → Node) → IsNow p w → IsNow (on_node_now x f p) (on_node x f w)
node-now p w x f now = record {
  tree = now.tree;
  plan = now.plan;
  queues = now.queues;
  nodes = ap (λ (ns : List Node). set ns x (f (get_or ns x blank))) now.nodes;
  as_many_streams = now.as_many_streams;
  streams = now.streams;
  as_many_blocks = now.as_many_blocks;
  blocks = now.blocks;
  faults = now.faults;
  requests = now.requests;
  answers = now.answers;
}

-- other tables, the same of both
pub tables-now : (p : Present) (w : State) (nodes : List Node) → IsNow p w → IsNow (record p { nodes = nodes }) (record w { nodes = nodes })
tables-now p w nodes now = record {
  tree = now.tree;
  plan = now.plan;
  queues = now.queues;
  nodes = refl;
  as_many_streams = now.as_many_streams;
  streams = now.streams;
  as_many_blocks = now.as_many_blocks;
  blocks = now.blocks;
  faults = now.faults;
  requests = now.requests;
  answers = now.answers;
}

pub enters-now : (p : Present) (w : State) (o : Option ℕ) (vc : ℕ) (marked : Bool) (packet : Packet) (tag : Tag) → IsNow p w →
    IsNow (enters_over_now o vc marked packet p) (enters_over o vc marked packet tag w)
enters-now p w None vc marked packet tag now = now
enters-now p w (Some d) vc marked packet tag now = joins-now p w _ (record { packet = packet; marked = marked; tag = tag }) now

-- a packet of a stream enters, the same one at both
pub stream-enters : (p : Present) (w : State) (s vc : ℕ) (f : StreamNow → StreamNow) (g : Stream → Stream) (tag : Tag)
    (o r : Option ℕ) (m n : Bool) (a b : Packet) → o ≡ r → m ≡ n → a ≡ b → IsNow p w →
    IsStreamNow (ends_at_rx w.plan s) (f (now_at p.streams s)) (g (stream_at w s)) → taken_of (g (stream_at w s)) ≡ taken_of (stream_at w s) →
    IsNow (on_now s f (enters_over_now o vc m a p)) (on_stream s g (enters_over r vc n b tag w))
stream-enters p w s vc f g tag o r m n a b link mark packet now here same =
    subst (λ (a : Packet). IsNow (on_now s f (enters_over_now o vc m a p)) (on_stream s g (enters_over r vc n b tag w))) (sym packet)
    (subst (λ (m : Bool). IsNow (on_now s f (enters_over_now o vc m b p)) (on_stream s g (enters_over r vc n b tag w))) (sym mark)
    (subst (λ (o : Option ℕ). IsNow (on_now s f (enters_over_now o vc n b p)) (on_stream s g (enters_over r vc n b tag w))) (sym link)
    (by_link r)))
  where
    by_link : (r : Option ℕ) → IsNow (on_now s f (enters_over_now r vc n b p)) (on_stream s g (enters_over r vc n b tag w))
    by_link None = stream-now p w s f g now here same
    by_link (Some d) = stream-now _ _ s f g (joins-now p w _ (record { packet = b; marked = n; tag = tag }) now) here same

-- a packet of a node enters, the same one at both
pub node-enters : (p : Present) (w : State) (x vc : ℕ) (f : Node → Node) (tag : Tag)
    (o r : Option ℕ) (m n : Bool) (a : Packet) → o ≡ r → m ≡ n → IsNow p w →
    IsNow (on_node_now x f (enters_over_now o vc m a p)) (on_node x f (enters_over r vc n a tag w))
node-enters p w x vc f tag o r m n a link mark now =
    subst (λ (m : Bool). IsNow (on_node_now x f (enters_over_now o vc m a p)) (on_node x f (enters_over r vc n a tag w))) (sym mark)
    (subst (λ (o : Option ℕ). IsNow (on_node_now x f (enters_over_now o vc n a p)) (on_node x f (enters_over r vc n a tag w))) (sym link)
    (node-now _ _ x f (enters-now p w r vc n a tag now)))
