-- What neither sends nor loses: it marks nothing, and what each stream sent and lost stays as it was.
use Rattle.std.proofs.Common.{◌≡◌, ℕ, ◌+◌, ◌≤◌, Bool, true, false, List, [], ◌∷◌, ◌++◌, length, Option, Some, None, refl, ◌∙◌, ap, arith, count_by, cond, if◌then◌else◌}
use Rattle.std.specs.Option.{option_map_or}
use Rattle.std.proofs.lemmas.List.Sums.{sum_by-cons, sum_by_push}
use Rattle.rf_base.proofs.Places.{one-set}
use Rattle.block_library.specs.Blocks.{Lists}
use Rattle.chdr_packets.specs.declared.packet.Body.{Body}
use Rattle.chdr_packets.specs.declared.packet.Body.TheVariants as body
use Rattle.chdr_packets.specs.declared.packet.Packet.{Packet}
use Rattle.net_machine.specs.declared.plan.BlockPlan.{BlockPlan}
use Rattle.net_machine.specs.Effects.{answers_host, arrives, gives_out, hears_status, hops, joins, leaves, on_any_stream, on_node, on_stream, operates, passes, pends}
use Rattle.net_machine.specs.Nodes.{is_host_at, own_epid, route_from}
use Rattle.net_machine.specs.Passing.{Outcome, Passes, Returns, Arrives, Ends, passing}
use Rattle.net_machine.specs.Plans.{plan_at, stream_from, stream_out_of, stream_to}
use Rattle.net_machine.specs.Queues.{channel_of, link_of_queue, queue_of}
use Rattle.net_machine.specs.State.{Entry, Node, State, Stream, idle, queue_at, stream_at}
use Rattle.net_machine.specs.Streams.{counts_in, gets, gets_order, gets_status, readies, told_in}
use Rattle.net_weights.specs.Charge.{marks_left}
use Rattle.net_weights.proofs.Leftovers.{HasCounts, HasGrown}
use Rattle.net_weights.proofs.Sums.{places-less, places-more}
use Rattle.net_weights.proofs.Working.{queue-there}

-- ---- marks

marks-in : List Entry → ℕ
marks-in entries = count_by (λ (e : Entry). e.marked) entries

pub marks-join : (q : ℕ) (e : Entry) (w : State) → marks_left (joins q e w) ≤ marks_left w + (if e.marked then 1 else 0)
marks-join q e w =
    let pushed = sum_by_push (λ (e : Entry). cond e.marked 1 0) (queue_at w.queues q) e in
    places-more (λ (k : ℕ) (entries : List Entry). count_by (λ (e : Entry). e.marked) entries) [] w.queues q (queue_at w.queues q ++ e ∷ []) (if e.marked then 1 else 0) (omega (arith, pushed))

pub marks-leave : (q : ℕ) (e : Entry) (rest : List Entry) (w : State) → queue_at w.queues q ≡ e ∷ rest → marks_left (leaves q rest w) + (if e.marked then 1 else 0) ≤ marks_left w
marks-leave q e rest w is =
    let consed = sum_by-cons (λ (e : Entry). cond e.marked 1 0) e rest in
    let here = ap (λ (entries : List Entry). count_by (λ (e : Entry). e.marked) entries) is in
    places-less (λ (k : ℕ) (entries : List Entry). count_by (λ (e : Entry). e.marked) entries) [] w.queues q rest (if e.marked then 1 else 0) (queue-there w.queues q e rest is) (omega (arith, consed, here))

-- ---- streams

-- what a stream sent and lost is as it was
pub record HasKept (old new : Stream) : Type 0 where
  pub sent : length new.sent ≡ length old.sent
  pub losses : new.losses ≡ old.losses
  pub statuses : old.statuses ≤ new.statuses
  pub commands : old.commands ≤ new.commands

pub kept-counts : (old new : Stream) → HasKept old new → HasCounts old new
kept-counts old new kept = record { sent = omega (arith, kept.sent); statuses = kept.statuses; commands = kept.commands }

pub kept-same : (st : Stream) → HasKept st st
kept-same st = record { sent = refl; losses = refl; statuses = omega arith; commands = omega arith }

pub kept-twice : (a b c : Stream) → HasKept a b → HasKept b c → HasKept a c
kept-twice a b c first second = record {
  sent = second.sent ∙ first.sent;
  losses = second.losses ∙ first.losses;
  statuses = omega (arith, first.statuses, second.statuses);
  commands = omega (arith, first.commands, second.commands);
}

-- one stream changes
pub kept-on : (w : State) (s : ℕ) (next : Stream → Stream) → HasKept (stream_at w s) (next (stream_at w s)) → (t : ℕ) → HasKept (stream_at w t) (stream_at (on_stream s next w) t)
kept-on w s next here = one-set (λ (t : ℕ) new old. HasKept old new) w.streams w.streams idle idle (next (stream_at w s)) s (λ t. kept-same (stream_at w t)) here

-- ---- states

pub record IsCalm (w v : State) : Type 0 where
  pub streams : (t : ℕ) → HasKept (stream_at w t) (stream_at v t)
  pub marks : marks_left v ≤ marks_left w
  pub faults : v.faults ≡ w.faults
  pub requests : w.requests ≤ v.requests
  pub answers : w.answers ≤ v.answers

pub calm-grown : (w v : State) → IsCalm w v → HasGrown w v
calm-grown w v calm = record {
  streams = λ t. kept-counts (stream_at w t) (stream_at v t) (calm.streams t);
  requests = calm.requests;
  answers = calm.answers;
  faults = calm.faults;
}

pub calm-twice : (w v u : State) → IsCalm w v → IsCalm v u → IsCalm w u
calm-twice w v u first second = record {
  streams = λ t. kept-twice (stream_at w t) (stream_at v t) (stream_at u t) (first.streams t) (second.streams t);
  marks = omega (arith, first.marks, second.marks);
  faults = second.faults ∙ first.faults;
  requests = omega (arith, first.requests, second.requests);
  answers = omega (arith, first.answers, second.answers);
}

pub calm-self : (w : State) → IsCalm w w
calm-self w = record { streams = λ t. kept-same (stream_at w t); marks = omega arith; faults = refl; requests = omega arith; answers = omega arith }

pub calm-stream : (w : State) (s : ℕ) (next : Stream → Stream) → HasKept (stream_at w s) (next (stream_at w s)) → IsCalm w (on_stream s next w)
calm-stream w s next here = record { streams = kept-on w s next here; marks = omega arith; faults = refl; requests = omega arith; answers = omega arith }

pub calm-any : (o : Option ℕ) (next : Stream → Stream) (w : State) → ((st : Stream) → HasKept st (next st)) → IsCalm w (on_any_stream o next w)
calm-any None next w each = calm-self w
calm-any (Some s) next w each = calm-stream w s next (each (stream_at w s))

calm-node : (x : ℕ) (next : Node → Node) (w : State) → IsCalm w (on_node x next w)
calm-node x next w = record { streams = λ t. kept-same (stream_at w t); marks = omega arith; faults = refl; requests = omega arith; answers = omega arith }

calm-pends : (x : ℕ) (p : Packet) (w : State) → IsCalm w (pends x p w)
calm-pends x p w = by_route (route_from w.tree w.nodes x p.dst)
  where
    by_route : (o : Option ℕ) → IsCalm w (option_map_or (λ (d : ℕ). on_node x (λ (n : Node). record n { pending = n.pending ++ p ∷ [] }) w) o w)
    by_route None = calm-self w
    by_route (Some d) = calm-node x (λ (n : Node). record n { pending = n.pending ++ p ∷ [] }) w

calm-answers : (x : ℕ) (p : Packet) (w : State) → IsCalm w (answers_host x p w)
calm-answers x p w = by_host (is_host_at w.tree x)
  where
    by_host : (b : Bool) → IsCalm w (if b then on_node x (λ (n : Node). record n { answers = n.answers ++ p ∷ [] }) w else w)
    by_host true = calm-node x (λ (n : Node). record n { answers = n.answers ++ p ∷ [] }) w
    by_host false = calm-self w

calm-arrives : (x : ℕ) (e : Entry) (b : Body) (w : State) → IsCalm w (arrives x e b w)
calm-arrives x e (body.Samples time payload) w =
    calm-any (stream_to w.plan (own_epid w.tree x)) (gets e.packet) w (λ st. record { sent = refl; losses = refl; statuses = omega arith; commands = omega arith })
calm-arrives x e (body.Command c) w =
    calm-any (stream_to w.plan (own_epid w.tree x)) (gets_order c.op (counts_in e.tag)) w (λ st. record { sent = refl; losses = refl; statuses = omega arith; commands = omega arith })
calm-arrives x e (body.Status status) w = by_stream (stream_from w.plan (own_epid w.tree x))
  where
    by_stream : (o : Option ℕ) → IsCalm w (option_map_or (λ (s : ℕ). hears_status e.tag s w) o w)
    by_stream None = calm-self w
    by_stream (Some s) = calm-stream w s (gets_status (plan_at w.plan s) (told_in e.tag)) (record { sent = refl; losses = refl; statuses = omega arith; commands = omega arith })
calm-arrives x e (body.Control control) w = by_ack control.ack
  where
    operated : IsCalm w (operates x control w)
    operated = let pended = calm-pends x _ (record w { banks = _ }) in record {
      streams = pended.streams;
      marks = pended.marks;
      faults = pended.faults;
      requests = pended.requests;
      answers = pended.answers;
    }

    by_ack : (b : Bool) → IsCalm w (if b then answers_host x e.packet w else operates x control w)
    by_ack true = calm-answers x e.packet w
    by_ack false = operated
calm-arrives x e (body.Management m) w = calm-answers x e.packet w

-- what a block gives is ready then
pub calm-gives : (block : BlockPlan) (given : Lists) (w : State) → IsCalm w (gives_out block given w)
calm-gives block given w =
    let once = on_any_stream (stream_out_of w.plan block 0) (readies given.first) w in
    calm-twice w once (gives_out block given w)
    (calm-any (stream_out_of w.plan block 0) (readies given.first) w (λ st. record { sent = refl; losses = refl; statuses = omega arith; commands = omega arith }))
    (calm-any (stream_out_of w.plan block 1) (readies given.second) once (λ st. record { sent = refl; losses = refl; statuses = omega arith; commands = omega arith }))

unmarked-none : (b : Bool) → b ≡ false → 0 + (if b then 1 else 0) ≤ 0
unmarked-none true is = let z : true ≡ false = is in cc
unmarked-none false is = omega arith

calm-passes : (x vc : ℕ) (e : Entry) (o : Outcome) (w : State) → e.marked ≡ false → IsCalm w (passes x vc e o w)
calm-passes x vc e (Passes d p) w unmarked = record {
  streams = λ t. kept-same (stream_at w t);
  marks = (let joined = marks-join (queue_of d vc) (record e { packet = p }) w in let none = unmarked-none e.marked unmarked in omega (arith, joined, none));
  faults = refl;
  requests = omega arith;
  answers = omega arith;
}
calm-passes x vc e (Returns p) w unmarked = calm-pends x p w
calm-passes x vc e Arrives w unmarked = calm-arrives x e e.packet.body w
calm-passes x vc e Ends w unmarked = calm-self w

pub calm-hops : (w : State) (q : ℕ) (e : Entry) (rest : List Entry) → queue_at w.queues q ≡ e ∷ rest → e.marked ≡ false → IsCalm w (hops q (e ∷ rest) w)
calm-hops w q e rest is unmarked =
    let passed = passing w.tree w.nodes (link_of_queue q) e.packet in
    let left = marks-leave q e rest w is in
    let mid : State = record (leaves q rest w) { nodes = passed.nodes } in
    calm-twice w mid (hops q (e ∷ rest) w)
    (record { streams = λ t. kept-same (stream_at w t); marks = omega (arith, left); faults = refl; requests = omega arith; answers = omega arith })
    (calm-passes _ (channel_of q) e passed.outcome mid unmarked)
