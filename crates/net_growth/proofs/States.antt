-- What holds of a stream in a state holds after an event, if it lasts through what the event may do to the stream.
use Rattle.std.proofs.Common.{◌≡◌, ℕ, ◌+◌, Bool, true, false, List, [], ◌∷◌, ◌++◌, length, refl, sym, subst, if◌then◌else◌}
use Rattle.std.specs.Prelude.{Option, Some, None, slice_get}
use Rattle.std.specs.Option.{option_map_or}
use Rattle.rf_base.proofs.Places.{one-set}
use Rattle.block_library.specs.Memory.{gives}
use Rattle.chdr_packets.specs.declared.packet.Body.{Body}
use Rattle.chdr_packets.specs.declared.packet.Body.TheVariants as body
use Rattle.chdr_packets.specs.declared.packet.Packet.{Packet}
use Rattle.chdr_words.specs.declared.command.CmdOp.{CmdOp}
use Rattle.net_topology.specs.Links.{end_of, link_at}
use Rattle.stream_endpoint.specs.Epochs.{Told as Tells, ordered_by, told_by}
use Rattle.stream_endpoint.specs.InEnd.{status_of}
use Rattle.stream_endpoint.specs.OutEnd.{command_of}
use Rattle.net_faults.specs.declared.fault.Fault.TheVariants as fault
use Rattle.stream_endpoint.specs.declared.count.Count.{Count}
use Rattle.net_machine.specs.declared.event.Event.{Event}
use Rattle.net_machine.specs.declared.event.Event.TheVariants.{Ask, Command, Enter, Feed, Hop, Lose, Reply, Report, Seen}
use Rattle.net_machine.specs.declared.plan.RunPlan.{RunPlan}
use Rattle.net_machine.specs.declared.plan.StreamPlan.{StreamPlan}
use Rattle.net_machine.specs.Blocks.{kept_at}
use Rattle.net_machine.specs.Effects.{after, answers_host, arrives, asks_first, enters, enters_over, feeds_from, gives_out, hears_status, hops, leaves, loses_front, on_any_stream, on_node, on_stream, operates, orders, passes, pends, replies_first, reports, stream_of}
use Rattle.net_machine.specs.Faults.{is_named}
use Rattle.net_machine.specs.Nodes.{is_host_at, own_epid, route_from}
use Rattle.net_machine.specs.Passing.{Arrives, Ends, Outcome, Passes, Returns, message, passing}
use Rattle.net_machine.specs.Plans.{block_at, first_link, plan_at, stream_from, stream_into, stream_out_of, stream_to}
use Rattle.net_machine.specs.Queues.{back_vc, channel_of, forward_vc, link_of_queue}
use Rattle.net_machine.specs.State.{Entry, Message, Node, Order, Report as Told, Sample, State, Stream, Tag, idle, node_at, queue_at, stream_at}
use Rattle.net_machine.specs.Streams.{counts_in, entering, gets, gets_order, gets_status, loses, readies, receiving_of, sending_of, sends_first, sends_order, sends_status, taken_to, told_in}

-- a fact lasts through a step of a stream
abbrev pub Lasts : (Stream → Type 0) → (Stream → Stream) → Type 0
Lasts P next = (st : Stream) → P st → P (next st)

-- it lasts as a packet is fed to input i of block b, and as what the block gives becomes ready
pub record LastsFeed (P : Stream → Type 0) (plan : RunPlan) (b i s : ℕ) : Type 0 where
  pub fed : stream_into plan (block_at plan b) i ≡ Some s → (n : ℕ) → Lasts P (taken_to n)
  pub readies : (packets : List Packet) → Lasts P (readies packets)

-- it lasts as something comes to the stream
pub record LastsHop (P : Stream → Type 0) : Type 0 where
  pub gets : (packet : Packet) → Lasts P (gets packet)
  pub obeys : (op : CmdOp) (told : Count) → Lasts P (gets_order op told)
  pub hears : (plan : StreamPlan) (told : Tells) → Lasts P (gets_status plan told)

-- it lasts through what an event may do to stream s
abbrev pub LastsAt : (Stream → Type 0) → RunPlan → Event → ℕ → Type 0
LastsAt P plan (Enter t) s = (terms : StreamPlan) (packet : Packet) (rest : List Packet) → Lasts P (sends_first terms packet rest)
LastsAt P plan (Command t op) s = Lasts P (sends_order op)
LastsAt P plan (Report t) s = Lasts P sends_status
LastsAt P plan (Seen t n) s = t ≡ s → Lasts P (taken_to n)
LastsAt P plan (Feed b i) s = LastsFeed P plan b i s
LastsAt P plan (Ask x) s = Unit {0}
LastsAt P plan (Reply x) s = Unit {0}
LastsAt P plan (Lose q) s = (e : Entry) → Lasts P (loses e)
LastsAt P plan (Hop q) s = LastsHop P

-- a fact holds of stream s
abbrev Has : (Stream → Type 0) → ℕ → State → Type 0
Has P s w = P (stream_at w s)

module _ (P : Stream → Type 0) (s : ℕ) where
  of-stream : (t : ℕ) (next : Stream → Stream) (w : State) → (t ≡ s → Lasts P next) → Has P s w → Has P s (on_stream t next w)
  of-stream t next w lasts has =
      one-set {B = ℕ} (λ k st none. k ≡ s → P st) w.streams [] idle 0 (next (stream_at w t)) t
      (λ k e. subst (λ n. P (stream_at w n)) (sym e) has)
      (λ e. lasts e (stream_at w t) (subst (λ n. P (stream_at w n)) (sym e) has)) s refl

  of-any : (o : Option ℕ) (next : Stream → Stream) (w : State) → Lasts P next → Has P s w → Has P s (on_any_stream o next w)
  of-any None next w lasts has = has
  of-any (Some t) next w lasts has = of-stream t next w (λ e. lasts) has

  of-over : (o : Option ℕ) (vc : ℕ) (marked : Bool) (packet : Packet) (tag : Tag) (w : State) → Has P s w → Has P s (enters_over o vc marked packet tag w)
  of-over None vc marked packet tag w has = has
  of-over (Some d) vc marked packet tag w has = has

  of-sends : (t : ℕ) (next : Stream → Stream) (o : Option ℕ) (vc : ℕ) (marked : Bool) (packet : Packet) (tag : Tag) (w : State) → Lasts P next → Has P s w → Has P s (on_stream t next (enters_over o vc marked packet tag w))
  of-sends t next o vc marked packet tag w lasts has = of-stream t next (enters_over o vc marked packet tag w) (λ e. lasts) (of-over o vc marked packet tag w has)

  of-enters : (t : ℕ) (packets : List Packet) (w : State) → ((terms : StreamPlan) (packet : Packet) (rest : List Packet) → Lasts P (sends_first terms packet rest)) → Has P s w → Has P s (enters t packets w)
  of-enters t [] w lasts has = has
  of-enters t (packet ∷ rest) w lasts has =
      let plan = plan_at w.plan t in let st = stream_at w t in
      of-sends t (sends_first plan packet rest) (first_link w.tree plan.from) forward_vc (is_named w.faults (fault.Samples t (length st.sent)))
      (entering plan st.sender packet) (Sample (length st.sent)) w (lasts plan packet rest) has

  of-orders : (t : ℕ) (op : CmdOp) (w : State) → Lasts P (sends_order op) → Has P s w → Has P s (orders t op w)
  of-orders t op w lasts has = let plan = plan_at w.plan t in let st = stream_at w t in
      of-sends t (sends_order op) (first_link w.tree plan.from) forward_vc (is_named w.faults (fault.Command t st.commands))
      (message forward_vc plan.to (body.Command (command_of op (sending_of plan st)))) (Order (ordered_by plan.flow st.sender op)) w lasts has

  of-reports : (t : ℕ) (w : State) → Lasts P sends_status → Has P s w → Has P s (reports t w)
  of-reports t w lasts has = let plan = plan_at w.plan t in let st = stream_at w t in
      of-sends t sends_status (first_link w.tree plan.to) back_vc (is_named w.faults (fault.Status t st.statuses))
      (message back_vc plan.from (body.Status (status_of (receiving_of plan st)))) (Told (told_by st.receiver)) w lasts has

  of-feeds : (b i t : ℕ) (o : Option Packet) (w : State) → LastsFeed P w.plan b i s → stream_into w.plan (block_at w.plan b) i ≡ Some t → Has P s w →
      Has P s (option_map_or
      (λ packet. gives_out (block_at w.plan b) (gives (kept_at w (block_at w.plan b)) i packet) (on_stream t (taken_to ((stream_at w t).taken + 1)) w)) o w)
  of-feeds b i t None w lasts into has = has
  of-feeds b i t (Some packet) w lasts into has =
      let given = gives (kept_at w (block_at w.plan b)) i packet in
      let n = (stream_at w t).taken + 1 in
      of-any (stream_out_of w.plan (block_at w.plan b) 1) (readies given.second) _ (lasts.readies given.second)
      (of-any (stream_out_of w.plan (block_at w.plan b) 0) (readies given.first) (on_stream t (taken_to n) w) (lasts.readies given.first)
      (of-stream t (taken_to n) w (λ e. lasts.fed (subst (λ k. stream_into w.plan (block_at w.plan b) i ≡ Some k) e into) n) has))

  of-feeding : (b i : ℕ) (o : Option ℕ) (w : State) → LastsFeed P w.plan b i s → stream_into w.plan (block_at w.plan b) i ≡ o → Has P s w → Has P s (option_map_or (λ t. feeds_from (block_at w.plan b) i t w) o w)
  of-feeding b i None w lasts into has = has
  of-feeding b i (Some t) w lasts into has = of-feeds b i t (slice_get (stream_at w t).given (stream_at w t).taken) w lasts into has

  of-pends : (x : ℕ) (packet : Packet) (w : State) → Has P s w → Has P s (pends x packet w)
  of-pends x packet w has = by_route (route_from w.tree w.nodes x packet.dst)
    where
      by_route : (o : Option ℕ) → Has P s (option_map_or (λ (d : ℕ). on_node x (λ (n : Node). record n { pending = n.pending ++ packet ∷ [] }) w) o w)
      by_route None = has
      by_route (Some d) = has

  of-answers : (x : ℕ) (packet : Packet) (w : State) → Has P s w → Has P s (answers_host x packet w)
  of-answers x packet w has = by_host (is_host_at w.tree x)
    where
      by_host : (b : Bool) → Has P s (if b then on_node x (λ (n : Node). record n { answers = n.answers ++ packet ∷ [] }) w else w)
      by_host true = has
      by_host false = has

  of-arrives : (x : ℕ) (e : Entry) (b : Body) (w : State) → LastsHop P → Has P s w → Has P s (arrives x e b w)
  of-arrives x e (body.Samples time payload) w lasts has = of-any (stream_to w.plan (own_epid w.tree x)) (gets e.packet) w (lasts.gets e.packet) has
  of-arrives x e (body.Command c) w lasts has = of-any (stream_to w.plan (own_epid w.tree x)) (gets_order c.op (counts_in e.tag)) w (lasts.obeys c.op (counts_in e.tag)) has
  of-arrives x e (body.Status status) w lasts has = by_stream (stream_from w.plan (own_epid w.tree x))
    where
      by_stream : (o : Option ℕ) → Has P s (option_map_or (λ t. hears_status e.tag t w) o w)
      by_stream None = has
      by_stream (Some t) = of-stream t (gets_status (plan_at w.plan t) (told_in e.tag)) w (λ e. lasts.hears (plan_at w.plan t) _) has
  of-arrives x e (body.Control control) w lasts has = by_ack control.ack
    where
      by_ack : (b : Bool) → Has P s (if b then answers_host x e.packet w else operates x control w)
      by_ack true = of-answers x e.packet w has
      by_ack false = of-pends x _ _ has
  of-arrives x e (body.Management m) w lasts has = of-answers x e.packet w has

  of-passes : (x vc : ℕ) (e : Entry) (o : Outcome) (w : State) → LastsHop P → Has P s w → Has P s (passes x vc e o w)
  of-passes x vc e (Passes d packet) w lasts has = has
  of-passes x vc e (Returns packet) w lasts has = of-pends x packet w has
  of-passes x vc e Arrives w lasts has = of-arrives x e e.packet.body w lasts has
  of-passes x vc e Ends w lasts has = has

  of-hops : (q : ℕ) (entries : List Entry) (w : State) → LastsHop P → Has P s w → Has P s (hops q entries w)
  of-hops q [] w lasts has = has
  of-hops q (e ∷ rest) w lasts has =
      let passed = passing w.tree w.nodes (link_of_queue q) e.packet in
      of-passes (end_of w.tree.links (link_of_queue q)) (channel_of q) e passed.outcome (record (leaves q rest w) { nodes = passed.nodes }) lasts has

  of-loses : (q : ℕ) (entries : List Entry) (w : State) → ((e : Entry) → Lasts P (loses e)) → Has P s w → Has P s (loses_front q entries w)
  of-loses q [] w lasts has = has
  of-loses q (e ∷ rest) w lasts has = of-any (stream_of w e.packet e.packet.body) (loses e) (leaves q rest w) (lasts e) has

  of-asks : (x : ℕ) (packets : List Packet) (w : State) → Has P s w → Has P s (asks_first x packets w)
  of-asks x [] w has = has
  of-asks x (packet ∷ rest) w has = of-over (link_at w.tree.links x 0) _ _ packet Message (record w { requests = w.requests + 1 }) has

  of-replies : (x : ℕ) (packets : List Packet) (w : State) → Has P s w → Has P s (replies_first x packets w)
  of-replies x [] w has = has
  of-replies x (packet ∷ rest) w has = of-over (route_from w.tree w.nodes x packet.dst) _ _ packet Message (record w { answers = w.answers + 1 }) has

  pub lasts-on : (e : Event) (w : State) → LastsAt P w.plan e s → Has P s w → Has P s (after w e)
  unfolding after
  lasts-on (Enter t) w lasts has = of-enters t (stream_at w t).ready w lasts has
  lasts-on (Command t op) w lasts has = of-orders t op w lasts has
  lasts-on (Report t) w lasts has = of-reports t w lasts has
  lasts-on (Seen t n) w lasts has = of-stream t (taken_to n) w lasts has
  lasts-on (Feed b i) w lasts has = of-feeding b i (stream_into w.plan (block_at w.plan b) i) w lasts refl has
  lasts-on (Ask x) w lasts has = of-asks x (node_at w x).requests w has
  lasts-on (Reply x) w lasts has = of-replies x (node_at w x).pending w has
  lasts-on (Lose q) w lasts has = of-loses q (queue_at w.queues q) w lasts has
  lasts-on (Hop q) w lasts has = of-hops q (queue_at w.queues q) w lasts has
