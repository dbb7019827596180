-- How the work that is left follows the parts of what events do.
use Rattle.std.proofs.Common.{◌≡◌, ℕ, ◌+◌, ◌≤◌, ◌<◌, ◌⊎◌, inl, inr, Bool, true, false, List, [], ◌∷◌, ◌++◌, length, Option, Some, None, sym, ◌∙◌, ap, arith, if◌then◌else◌}
use Rattle.std.specs.Option.{option_map_or}
use Rattle.std.proofs.lemmas.Bool.{cases_lt}
use Rattle.std.proofs.lemmas.List.{get_or_past}
use Rattle.std.proofs.lemmas.List.Sums.{sum_by-cons, sum_by_push}
use Rattle.chdr_packets.specs.declared.packet.Packet.{Packet}
use Rattle.net_topology.proofs.Laws.{ranks_are_bounded}
use Rattle.net_machine.specs.Effects.{answers_host, enters_over, joins, leaves, on_any_stream, on_node, on_stream, pends}
use Rattle.net_machine.specs.Nodes.{is_host_at, route_from}
use Rattle.net_machine.specs.Queues.{link_of_queue, queue_of}
use Rattle.net_machine.specs.State.{Entry, Node, State, Stream, Tag, blank, idle, node_at, queue_at, stream_at}
use Rattle.net_weights.specs.Work.{burden_of, entry_weight, node_weight, node_work, queue_weight, queue_work, stream_weight, stream_work, top_of, waiting_weight, work}
use Rattle.net_weights.proofs.Sums.{places-less, places-more}

-- an item that isn't as those past the end is there
pub there-by : {A : Type 0} (xs : List A) (k : ℕ) (item : A) → (length xs ≤ k → ⊥) → k < length xs
there-by xs k item none = by_order (cases_lt k (length xs))
  where
    by_order : (k < length xs) ⊎ (length xs ≤ k) → k < length xs
    by_order (inl lt) = lt
    by_order (inr past) = absurd (none past)

pub queue-there : (queues : List (List Entry)) (q : ℕ) (e : Entry) (rest : List Entry) → queue_at queues q ≡ e ∷ rest → q < length queues
queue-there queues q e rest is = there-by queues q [] (λ past. no_entry (sym (get_or_past queues q [] past) ∙ is))
  where
    no_entry : ◌≡◌ {A = List Entry} [] (e ∷ rest) → ⊥
    no_entry same = cc

pub work-joins : (q : ℕ) (e : Entry) (w : State) → work (joins q e w) ≤ work w + entry_weight w.tree q e
unfolding work
work-joins q e w =
    let pushed = sum_by_push (entry_weight w.tree q) (queue_at w.queues q) e in
    let more = places-more (queue_weight w.tree) [] w.queues q (queue_at w.queues q ++ e ∷ []) (entry_weight w.tree q e) (omega (arith, pushed)) in
    sums (queue_work (joins q e w)) (queue_work w) (node_work w) (stream_work w) (entry_weight w.tree q e) more
  where
    sums : (new old nodes streams m : ℕ) → new ≤ old + m → new + nodes + streams ≤ old + nodes + streams + m
    sums new old nodes streams m le = omega arith

pub work-leaves : (q : ℕ) (e : Entry) (rest : List Entry) (w : State) → queue_at w.queues q ≡ e ∷ rest → work (leaves q rest w) + entry_weight w.tree q e ≤ work w
unfolding work
work-leaves q e rest w is =
    let consed = sum_by-cons (entry_weight w.tree q) e rest in
    let here = ap (queue_weight w.tree q) is in
    let less = places-less (queue_weight w.tree) [] w.queues q rest (entry_weight w.tree q e) (queue-there w.queues q e rest is) (omega (arith, consed, here)) in
    sums (queue_work (leaves q rest w)) (queue_work w) (node_work w) (stream_work w) (entry_weight w.tree q e) less
  where
    sums : (new old nodes streams m : ℕ) → new + m ≤ old → new + nodes + streams + m ≤ old + nodes + streams
    sums new old nodes streams m le = omega arith

pub work-stream_more : (s : ℕ) (next : Stream → Stream) (m : ℕ) (w : State) → stream_weight (top_of w.tree) (next (stream_at w s)) ≤ stream_weight (top_of w.tree) (stream_at w s) + m →
    work (on_stream s next w) ≤ work w + m
unfolding work
work-stream_more s next m w here =
    let more = places-more (λ (k : ℕ) st. stream_weight (top_of w.tree) st) idle w.streams s (next (stream_at w s)) m here in
    sums (queue_work w) (node_work w) (stream_work (on_stream s next w)) (stream_work w) m more
  where
    sums : (queues nodes new old m : ℕ) → new ≤ old + m → queues + nodes + new ≤ queues + nodes + old + m
    sums queues nodes new old m le = omega arith

pub work-stream_less : (s : ℕ) (next : Stream → Stream) (m : ℕ) (w : State) → s < length w.streams → stream_weight (top_of w.tree) (next (stream_at w s)) + m ≤ stream_weight (top_of w.tree) (stream_at w s) →
    work (on_stream s next w) + m ≤ work w
unfolding work
work-stream_less s next m w lt here =
    let less = places-less (λ (k : ℕ) st. stream_weight (top_of w.tree) st) idle w.streams s (next (stream_at w s)) m lt here in
    sums (queue_work w) (node_work w) (stream_work (on_stream s next w)) (stream_work w) m less
  where
    sums : (queues nodes new old m : ℕ) → new + m ≤ old → queues + nodes + new + m ≤ queues + nodes + old
    sums queues nodes new old m le = omega arith

pub work-node_more : (x : ℕ) (next : Node → Node) (m : ℕ) (w : State) → node_weight (top_of w.tree) (next (node_at w x)) ≤ node_weight (top_of w.tree) (node_at w x) + m →
    work (on_node x next w) ≤ work w + m
unfolding work
work-node_more x next m w here =
    let more = places-more (λ (k : ℕ) n. node_weight (top_of w.tree) n) blank w.nodes x (next (node_at w x)) m here in
    sums (queue_work w) (node_work (on_node x next w)) (node_work w) (stream_work w) m more
  where
    sums : (queues new old streams m : ℕ) → new ≤ old + m → queues + new + streams ≤ queues + old + streams + m
    sums queues new old streams m le = omega arith

pub work-node_less : (x : ℕ) (next : Node → Node) (m : ℕ) (w : State) → x < length w.nodes → node_weight (top_of w.tree) (next (node_at w x)) + m ≤ node_weight (top_of w.tree) (node_at w x) →
    work (on_node x next w) + m ≤ work w
unfolding work
work-node_less x next m w lt here =
    let less = places-less (λ (k : ℕ) n. node_weight (top_of w.tree) n) blank w.nodes x (next (node_at w x)) m lt here in
    sums (queue_work w) (node_work (on_node x next w)) (node_work w) (stream_work w) m less
  where
    sums : (queues new old streams m : ℕ) → new + m ≤ old → queues + new + streams + m ≤ queues + old + streams
    sums queues new old streams m le = omega arith

-- what enters a queue weighs no more than by the greatest rank
pub work-over : (o : Option ℕ) (vc : ℕ) (marked : Bool) (p : Packet) (tag : Tag) (w : State) →
    work (enters_over o vc marked p tag w) ≤ work w + (top_of w.tree + 1 + burden_of (top_of w.tree) p)
work-over None vc marked p tag w = omega arith
work-over (Some d) vc marked p tag w =
    let joined = work-joins (queue_of d vc) (record { packet = p; marked = marked; tag = tag }) w in
    let low = ranks_are_bounded w.tree (link_of_queue (queue_of d vc)) in
    omega (arith, joined, low)

-- what becomes a pending answer
pub work-pends : (x : ℕ) (p : Packet) (w : State) → work (pends x p w) ≤ work w + waiting_weight (top_of w.tree) p
work-pends x p w = by_route (route_from w.tree w.nodes x p.dst)
  where
    by_route : (o : Option ℕ) → work (option_map_or (λ (d : ℕ). on_node x (λ (n : Node). record n { pending = n.pending ++ p ∷ [] }) w) o w) ≤ work w + waiting_weight (top_of w.tree) p
    by_route None = omega arith
    by_route (Some d) = work-node_more x (λ (n : Node). record n { pending = n.pending ++ p ∷ [] }) (waiting_weight (top_of w.tree) p) w
        (let pushed = sum_by_push (waiting_weight (top_of w.tree)) (node_at w x).pending p in omega (arith, pushed))

pub work-answers : (x : ℕ) (p : Packet) (w : State) → work (answers_host x p w) ≤ work w
work-answers x p w = by_host (is_host_at w.tree x)
  where
    by_host : (b : Bool) → work (if b then on_node x (λ (n : Node). record n { answers = n.answers ++ p ∷ [] }) w else w) ≤ work w
    by_host true = let more = work-node_more x (λ (n : Node). record n { answers = n.answers ++ p ∷ [] }) 0 w (omega arith) in omega arith
    by_host false = omega arith

-- a stream changes, if there is one
pub work-any_more : (o : Option ℕ) (next : Stream → Stream) (m : ℕ) (w : State) →
    ((st : Stream) → stream_weight (top_of w.tree) (next st) ≤ stream_weight (top_of w.tree) st + m) → work (on_any_stream o next w) ≤ work w + m
work-any_more None next m w here = omega arith
work-any_more (Some s) next m w here = work-stream_more s next m w (here (stream_at w s))
