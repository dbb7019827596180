-- Entries stay in queues of their channel, and on the ways of their streams.
use Rattle.std.proofs.Common.{◌≡◌, ℕ, ◌+◌, Bool, true, false, List, [], ◌∷◌, ◌++◌, refl, sym, ◌∙◌, ap, subst, set, if◌then◌else◌}
use Rattle.std.specs.Prelude.{Option, Some, None, slice_get}
use Rattle.std.specs.Option.{option_map_or}
use Rattle.std.specs.List.{AllByRecursion}
use Rattle.rf_base.proofs.Places.{one-set}
use Rattle.block_library.specs.Memory.{gives}
use Rattle.chdr_packets.specs.declared.packet.Body.{Body}
use Rattle.chdr_packets.specs.declared.packet.Body.TheVariants as body
use Rattle.chdr_packets.specs.declared.packet.Packet.{Packet}
use Rattle.chdr_words.specs.declared.epid.Epid.{Epid}
use Rattle.net_topology.specs.declared.plan.Plan.{Plan}
use Rattle.net_machine.specs.declared.plan.BlockPlan.{BlockPlan}
use Rattle.net_machine.specs.declared.plan.RunPlan.{RunPlan}
use Rattle.net_machine.specs.Blocks.{kept_at}
use Rattle.net_machine.specs.Effects.{answers_host, arrives, enters_over, feeds, feeds_from, gives_out, hears_status, joins, leaves, on_any_stream, on_node, on_stream, operates, pends}
use Rattle.net_machine.specs.Nodes.{is_host_at, own_epid, route_from}
use Rattle.net_machine.specs.Plans.{first_link, plan_at, stream_from, stream_into, stream_out_of, stream_to}
use Rattle.net_machine.specs.Queues.{back_vc, forward_vc, queue_of}
use Rattle.net_machine.specs.State.{Entry, Node, State, Stream, Tag, queue_at, stream_at}
use Rattle.net_machine.specs.Streams.{counts_in, gets, gets_order, readies, taken_to}
use Rattle.net_ways.specs.Hops.{GoesAhead}
use Rattle.net_ways.specs.Standing.{ArePlaced, HasWays, IsMessage, IsOn, IsPlaced, Stands, StandsAhead, StandsBack}
use Rattle.net_ways.specs.Ways.{HasQueues, IsLedTo, queues_over, way_between}
use Rattle.net_ways.proofs.Leading.{ways-begin}

-- ---- entries join and leave queues

more : {A : Type 0} (P : A → Type 0) (xs : List A) (x : A) → AllByRecursion P xs → P x → AllByRecursion P (xs ++ x ∷ [])
more P [] x each here = (here, tt)
more P (y ∷ xs) x each here = (each.0, more P xs x each.1 here)

placed-set : (w : State) (r : ℕ) (new : List Entry) → ArePlaced w → AllByRecursion (IsPlaced w.tree w.plan r) new →
    (q : ℕ) → AllByRecursion (IsPlaced w.tree w.plan q) (queue_at (set w.queues r new) q)
placed-set w r new each here =
    one-set {B = ℕ} (λ q es none. AllByRecursion (IsPlaced w.tree w.plan q) es) w.queues [] [] 0 new r each here

pub placed-joins : (r : ℕ) (e : Entry) (w : State) → IsPlaced w.tree w.plan r e → ArePlaced w → ArePlaced (joins r e w)
placed-joins r e w here each =
    placed-set w r (queue_at w.queues r ++ e ∷ []) each (more (IsPlaced w.tree w.plan r) (queue_at w.queues r) e (each r) here)

pub placed-front : (w : State) (q : ℕ) (e : Entry) (rest : List Entry) → queue_at w.queues q ≡ e ∷ rest → ArePlaced w → AllByRecursion (IsPlaced w.tree w.plan q) (e ∷ rest)
placed-front w q e rest is each = subst (AllByRecursion (IsPlaced w.tree w.plan q)) is (each q)

pub placed-leaves : (q : ℕ) (e : Entry) (rest : List Entry) (w : State) → queue_at w.queues q ≡ e ∷ rest → ArePlaced w → ArePlaced (leaves q rest w)
placed-leaves q e rest w is each = placed-set w q rest each (placed-front w q e rest is each).1

pub placed-over : (w : State) (o : Option ℕ) (vc : ℕ) (marked : Bool) (p : Packet) (tag : Tag) →
    ((d : ℕ) → o ≡ Some d → IsPlaced w.tree w.plan (queue_of d vc) (record { packet = p; marked = marked; tag = tag })) →
    ArePlaced w → ArePlaced (enters_over o vc marked p tag w)
placed-over w None vc marked p tag here each = each
placed-over w (Some d) vc marked p tag here each = placed-joins (queue_of d vc) (record { packet = p; marked = marked; tag = tag }) w (here d refl) each

-- ---- at the first queue of a way

-- the first link of a way, found by the EPID at its beginning
record BeginsOn (w : State) (a b : Epid) (vc d : ℕ) : Type 0 where
  on : IsOn (queue_of d vc) (queues_over vc (way_between w.tree a b))

begins-on : (w : State) (a b : Epid) (vc d : ℕ) → HasQueues w → IsLedTo w a b → first_link w.tree a ≡ Some d → BeginsOn w a b vc d
begins-on w a b vc d has leads first =
    let begins = ways-begin w a b vc has leads in
    let same : begins.link ≡ d = some-same (sym begins.first ∙ first) in
    record { on = record { before = []; behind = begins.behind; way = begins.way ∙ ap (λ n. queue_of n vc ∷ begins.behind) same } }
  where
    some-same : {x y : ℕ} → ◌≡◌ {A = Option ℕ} (Some x) (Some y) → x ≡ y
    some-same e = cc

pub ahead-stands : (tree : Plan) (plan : RunPlan) (q : ℕ) (dst : Epid) (b : Body) → GoesAhead b → StandsAhead tree plan q dst → Stands tree plan q dst b
ahead-stands tree plan q dst (body.Samples time payload) kind stands = stands
ahead-stands tree plan q dst (body.Command c) kind stands = stands
ahead-stands tree plan q dst (body.Status status) kind stands = absurd kind
ahead-stands tree plan q dst (body.Control control) kind stands = absurd kind
ahead-stands tree plan q dst (body.Management m) kind stands = absurd kind

pub message-stands : (tree : Plan) (plan : RunPlan) (q : ℕ) (dst : Epid) (b : Body) → IsMessage b → Stands tree plan q dst b
message-stands tree plan q dst (body.Samples time payload) kind = absurd kind
message-stands tree plan q dst (body.Command c) kind = absurd kind
message-stands tree plan q dst (body.Status status) kind = absurd kind
message-stands tree plan q dst (body.Control control) kind = tt
message-stands tree plan q dst (body.Management m) kind = tt

pub first-ahead : (w : State) (s d : ℕ) → HasQueues w → HasWays w s → first_link w.tree (plan_at w.plan s).from ≡ Some d →
    StandsAhead w.tree w.plan (queue_of d forward_vc) (plan_at w.plan s).to
first-ahead w s d has ways first = record {
  stream = s;
  to = refl;
  mine = ways.to;
  on = (begins-on w (plan_at w.plan s).from (plan_at w.plan s).to forward_vc d has ways.forth first).on;
}

pub first-back : (w : State) (s d : ℕ) → HasQueues w → HasWays w s → first_link w.tree (plan_at w.plan s).to ≡ Some d →
    StandsBack w.tree w.plan (queue_of d back_vc) (plan_at w.plan s).from
first-back w s d has ways first = record {
  stream = s;
  from = refl;
  mine = ways.from;
  on = (begins-on w (plan_at w.plan s).to (plan_at w.plan s).from back_vc d has ways.back first).on;
}

-- ---- what leaves queues as they are

pub placed-any : (o : Option ℕ) (next : Stream → Stream) (w : State) → ArePlaced w → ArePlaced (on_any_stream o next w)
placed-any None next w each = each
placed-any (Some s) next w each = each

pub placed-pends : (x : ℕ) (p : Packet) (w : State) → ArePlaced w → ArePlaced (pends x p w)
placed-pends x p w each = by_route (route_from w.tree w.nodes x p.dst)
  where
    by_route : (o : Option ℕ) → ArePlaced (option_map_or (λ (d : ℕ). on_node x (λ (n : Node). record n { pending = n.pending ++ p ∷ [] }) w) o w)
    by_route None = each
    by_route (Some d) = each

pub placed-answers : (x : ℕ) (p : Packet) (w : State) → ArePlaced w → ArePlaced (answers_host x p w)
placed-answers x p w each = by_host (is_host_at w.tree x)
  where
    by_host : (b : Bool) → ArePlaced (if b then on_node x (λ (n : Node). record n { answers = n.answers ++ p ∷ [] }) w else w)
    by_host true = each
    by_host false = each

placed-heard : (o : Option ℕ) (tag : Tag) (w : State) → ArePlaced w → ArePlaced (option_map_or (λ (s : ℕ). hears_status tag s w) o w)
placed-heard None tag w each = each
placed-heard (Some s) tag w each = each

pub placed-arrives : (x : ℕ) (e : Entry) (b : Body) (w : State) → ArePlaced w → ArePlaced (arrives x e b w)
placed-arrives x e (body.Samples time payload) w each = placed-any (stream_to w.plan (own_epid w.tree x)) (gets e.packet) w each
placed-arrives x e (body.Command c) w each = placed-any (stream_to w.plan (own_epid w.tree x)) (gets_order c.op (counts_in e.tag)) w each
placed-arrives x e (body.Status status) w each = placed-heard (stream_from w.plan (own_epid w.tree x)) e.tag w each
placed-arrives x e (body.Control control) w each = by_ack control.ack
  where
    by_ack : (b : Bool) → ArePlaced (if b then answers_host x e.packet w else operates x control w)
    by_ack true = placed-answers x e.packet w each
    by_ack false = placed-pends x _ (record w { banks = _ }) each
placed-arrives x e (body.Management m) w each = placed-answers x e.packet w each

pub placed-feeds : (block : BlockPlan) (i : ℕ) (w : State) → ArePlaced w → ArePlaced (feeds block i w)
placed-feeds block i w each = by_stream (stream_into w.plan block i)
  where
    by_packet : (s : ℕ) (o : Option Packet) → ArePlaced (option_map_or (λ (p : Packet). gives_out block (gives (kept_at w block) i p) (on_stream s (taken_to ((stream_at w s).taken + 1)) w)) o w)
    by_packet s None = each
    by_packet s (Some p) =
        placed-any (stream_out_of w.plan block 1) (readies (gives (kept_at w block) i p).second) (on_any_stream (stream_out_of w.plan block 0) (readies (gives (kept_at w block) i p).first) (on_stream s (taken_to ((stream_at w s).taken + 1)) w))
        (placed-any (stream_out_of w.plan block 0) (readies (gives (kept_at w block) i p).first) (on_stream s (taken_to ((stream_at w s).taken + 1)) w) each)

    by_stream : (o : Option ℕ) → ArePlaced (option_map_or (λ (s : ℕ). feeds_from block i s w) o w)
    by_stream None = each
    by_stream (Some s) = by_packet s (slice_get (stream_at w s).given (stream_at w s).taken)
