-- What holds of a stream in a present holds after an event, if it lasts through what the event may do to the stream.
use Rattle.std.proofs.Common.{◌≡◌, ℕ, ◌+◌, Bool, true, false, List, [], ◌∷◌, ◌++◌, set, refl, sym, subst, if◌then◌else◌}
use Rattle.std.specs.Prelude.{Option, Some, None, slice_get}
use Rattle.std.specs.Option.{option_map_or}
use Rattle.rf_base.proofs.Places.{one-set}
use Rattle.block_library.specs.Memory.{gives}
use Rattle.chdr_packets.specs.declared.packet.Body.{Body}
use Rattle.chdr_packets.specs.declared.packet.Body.TheVariants as body
use Rattle.chdr_packets.specs.declared.packet.Packet.{Packet}
use Rattle.chdr_words.specs.declared.command.CmdOp.{CmdOp}
use Rattle.chdr_words.specs.declared.command.Command.{Command as Order}
use Rattle.chdr_words.specs.declared.status.Status.{Status}
use Rattle.net_topology.specs.Links.{end_of, link_at}
use Rattle.stream_endpoint.specs.InEnd.{status_of}
use Rattle.stream_endpoint.specs.OutEnd.{command_of}
use Rattle.stream_endpoint.specs.Sender.{next_number}
use Rattle.net_faults.specs.declared.fault.Fault.TheVariants as fault
use Rattle.net_machine.specs.declared.event.Event.{Event}
use Rattle.net_machine.specs.declared.event.Event.TheVariants.{Ask, Command, Enter, Feed, Hop, Lose, Reply, Report, Seen}
use Rattle.net_machine.specs.declared.plan.RunPlan.{RunPlan}
use Rattle.net_machine.specs.declared.plan.StreamPlan.{StreamPlan}
use Rattle.net_machine.specs.Faults.{is_named}
use Rattle.net_machine.specs.Front.{Queued}
use Rattle.net_machine.specs.Nodes.{is_host_at, own_epid, route_from}
use Rattle.net_machine.specs.Passing.{Arrives, Ends, Outcome, Passes, Returns, message, passing}
use Rattle.net_machine.specs.Plans.{block_at, first_link, plan_at, stream_from, stream_into, stream_out_of, stream_to}
use Rattle.net_machine.specs.Queues.{back_vc, channel_of, forward_vc, link_of_queue}
use Rattle.net_machine.specs.State.{Node, node_in}
use Rattle.net_machine.specs.Streams.{numbered}
use Rattle.net_present.specs.Kept.{block_now_at, idle_now, now_at}
use Rattle.net_present.specs.Onward.{Held, answers_host_now, arrives_now, asks_now, block_fed, enters_now, enters_over_now, entries_at, feeds_from_now, gives_out_now, goes_on, hops_now, leaves_now, loses_now, on_any_now, on_node_now, on_now, on_present, operates_now, orders_now, passes_now, pends_now, replies_now, reports_now}
use Rattle.net_present.specs.Present.{Present, StreamNow}
use Rattle.net_present.specs.StreamSteps.{fed_now, gets_now, gets_order_now, gets_status_now, readies_now, receiving_now, sending_now, sends_first_now, sends_order_now, sends_status_now, taken_now}

-- a fact lasts through a step of a stream
abbrev pub Lasts : (StreamNow → Type 0) → (StreamNow → StreamNow) → Type 0
Lasts P next = (st : StreamNow) → P st → P (next st)

-- it lasts as a packet is fed to input i of block b, and as what the block gives becomes ready
pub record LastsFeed (P : StreamNow → Type 0) (plan : RunPlan) (b i s : ℕ) : Type 0 where
  pub fed : stream_into plan (block_at plan b) i ≡ Some s → Lasts P fed_now
  pub readies : (t j : ℕ) (packets : List Packet) → stream_into plan (block_at plan b) i ≡ Some t
      → stream_out_of plan (block_at plan b) j ≡ Some s → Lasts P (readies_now packets)

-- it lasts as something comes to the stream
pub record LastsHop (P : StreamNow → Type 0) : Type 0 where
  pub gets : (packet : Packet) → Lasts P (gets_now packet)
  pub obeys : (c : Order) → Lasts P (gets_order_now c)
  pub hears : (plan : StreamPlan) (status : Status) → Lasts P (gets_status_now plan status)

-- it lasts through what an event may do to stream s
abbrev pub LastsAt : (StreamNow → Type 0) → RunPlan → Event → ℕ → Type 0
LastsAt P plan (Enter t) s = t ≡ s → (packet : Packet) (rest : List Packet) → Lasts P (sends_first_now packet rest)
LastsAt P plan (Command t op) s = Lasts P (sends_order_now op)
LastsAt P plan (Report t) s = Lasts P sends_status_now
LastsAt P plan (Seen t n) s = t ≡ s → Lasts P (taken_now n)
LastsAt P plan (Feed b i) s = LastsFeed P plan b i s
LastsAt P plan (Ask x) s = Unit {0}
LastsAt P plan (Reply x) s = Unit {0}
LastsAt P plan (Lose q) s = Unit {0}
LastsAt P plan (Hop q) s = LastsHop P

-- a fact holds of stream s
abbrev Has : (StreamNow → Type 0) → ℕ → Present → Type 0
Has P s p = P (now_at p.streams s)

module _ (P : StreamNow → Type 0) (s : ℕ) where
  of-now : (t : ℕ) (next : StreamNow → StreamNow) (p : Present) → (t ≡ s → Lasts P next) → Has P s p → Has P s (on_now t next p)
  of-now t next p lasts has =
      one-set {B = ℕ} (λ k st none. k ≡ s → P st) p.streams [] idle_now 0 (next (now_at p.streams t)) t
      (λ k e. subst (λ n. P (now_at p.streams n)) (sym e) has)
      (λ e. lasts e (now_at p.streams t) (subst (λ n. P (now_at p.streams n)) (sym e) has)) s refl

  of-any : (o : Option ℕ) (next : StreamNow → StreamNow) (p : Present) → (o ≡ Some s → Lasts P next) → Has P s p → Has P s (on_any_now o next p)
  of-any None next p lasts has = has
  of-any (Some t) next p lasts has = of-now t next p (λ e. lasts (subst (λ n. Some t ≡ Some n) e refl)) has

  of-over : (o : Option ℕ) (vc : ℕ) (marked : Bool) (packet : Packet) (p : Present) → Has P s p → Has P s (enters_over_now o vc marked packet p)
  of-over None vc marked packet p has = has
  of-over (Some d) vc marked packet p has = has

  of-sends : (t : ℕ) (next : StreamNow → StreamNow) (o : Option ℕ) (vc : ℕ) (marked : Bool) (packet : Packet) (p : Present) → (t ≡ s → Lasts P next) → Has P s p → Has P s (on_now t next (enters_over_now o vc marked packet p))
  of-sends t next o vc marked packet p lasts has = of-now t next (enters_over_now o vc marked packet p) lasts (of-over o vc marked packet p has)

  of-enters : (t : ℕ) (packets : List Packet) (p : Present) → (t ≡ s → (packet : Packet) (rest : List Packet) → Lasts P (sends_first_now packet rest)) → Has P s p → Has P s (enters_now t packets p)
  of-enters t [] p lasts has = has
  of-enters t (packet ∷ rest) p lasts has =
      of-sends t (sends_first_now packet rest) (first_link p.tree (plan_at p.plan t).from) forward_vc (is_named p.faults (fault.Samples t (now_at p.streams t).sent))
      (numbered (plan_at p.plan t) (next_number (now_at p.streams t).sender) packet) p (λ e. lasts e packet rest) has

  of-orders : (t : ℕ) (op : CmdOp) (p : Present) → Lasts P (sends_order_now op) → Has P s p → Has P s (orders_now t op p)
  of-orders t op p lasts has = let plan = plan_at p.plan t in let st = now_at p.streams t in
      of-sends t (sends_order_now op) (first_link p.tree plan.from) forward_vc (is_named p.faults (fault.Command t st.commands))
      (message forward_vc plan.to (body.Command (command_of op (sending_now plan st)))) p (λ e. lasts) has

  of-reports : (t : ℕ) (p : Present) → Lasts P sends_status_now → Has P s p → Has P s (reports_now t p)
  of-reports t p lasts has = let plan = plan_at p.plan t in let st = now_at p.streams t in
      of-sends t sends_status_now (first_link p.tree plan.to) back_vc (is_named p.faults (fault.Status t st.statuses))
      (message back_vc plan.from (body.Status (status_of (receiving_now plan st)))) p (λ e. lasts) has

  of-feeds : (b i t : ℕ) (o : Option Packet) (p : Present) → LastsFeed P p.plan b i s → stream_into p.plan (block_at p.plan b) i ≡ Some t → Has P s p →
      Has P s (option_map_or
      (λ packet. gives_out_now (block_at p.plan b) (gives (block_now_at p.blocks b).kept i packet)
      (record (on_now t fed_now p) { blocks = set p.blocks b (block_fed i packet (block_now_at p.blocks b)) })) o p)
  of-feeds b i t None p lasts into has = has
  of-feeds b i t (Some packet) p lasts into has =
      let given = gives (block_now_at p.blocks b).kept i packet in
      of-any (stream_out_of p.plan (block_at p.plan b) 1) (readies_now given.second) _ (lasts.readies t 1 given.second into)
      (of-any (stream_out_of p.plan (block_at p.plan b) 0) (readies_now given.first) (record (on_now t fed_now p) { blocks = set p.blocks b (block_fed i packet (block_now_at p.blocks b)) }) (lasts.readies t 0 given.first into)
      (of-now t fed_now p (λ e. lasts.fed (subst (λ n. stream_into p.plan (block_at p.plan b) i ≡ Some n) e into)) has))

  of-feeding : (b i : ℕ) (o : Option ℕ) (p : Present) → LastsFeed P p.plan b i s → stream_into p.plan (block_at p.plan b) i ≡ o → Has P s p → Has P s (option_map_or (λ t. feeds_from_now b i t p) o p)
  of-feeding b i None p lasts into has = has
  of-feeding b i (Some t) p lasts into has = of-feeds b i t (slice_get (now_at p.streams t).waiting 0) p lasts into has

  of-pends : (x : ℕ) (packet : Packet) (p : Present) → Has P s p → Has P s (pends_now x packet p)
  of-pends x packet p has = by_route (route_from p.tree p.nodes x packet.dst)
    where
      by_route : (o : Option ℕ) → Has P s (option_map_or (λ (d : ℕ). on_node_now x (λ (n : Node). record n { pending = n.pending ++ packet ∷ [] }) p) o p)
      by_route None = has
      by_route (Some d) = has

  of-answers : (x : ℕ) (packet : Packet) (p : Present) → Has P s p → Has P s (answers_host_now x packet p)
  of-answers x packet p has = by_host (is_host_at p.tree x)
    where
      by_host : (b : Bool) → Has P s (if b then on_node_now x (λ (n : Node). record n { answers = n.answers ++ packet ∷ [] }) p else p)
      by_host true = has
      by_host false = has

  of-arrives : (x : ℕ) (packet : Packet) (b : Body) (h : Held) → LastsHop P → Has P s h.present → Has P s (arrives_now x packet b h).present
  of-arrives x packet (body.Samples time payload) h lasts has = of-any (stream_to h.present.plan (own_epid h.present.tree x)) (gets_now packet) h.present (λ e. lasts.gets packet) has
  of-arrives x packet (body.Command c) h lasts has = of-any (stream_to h.present.plan (own_epid h.present.tree x)) (gets_order_now c) h.present (λ e. lasts.obeys c) has
  of-arrives x packet (body.Status status) h lasts has = by_stream (stream_from h.present.plan (own_epid h.present.tree x))
    where
      by_stream : (o : Option ℕ) → Has P s (option_map_or (λ t. on_now t (gets_status_now (plan_at h.present.plan t) status) h.present) o h.present)
      by_stream None = has
      by_stream (Some t) = of-now t (gets_status_now (plan_at h.present.plan t) status) h.present (λ e. lasts.hears (plan_at h.present.plan t) status) has
  of-arrives x packet (body.Control control) h lasts has = by_ack control.ack
    where
      by_ack : (b : Bool) → Has P s (if b then on_present (answers_host_now x packet) h else operates_now x control h).present
      by_ack true = of-answers x packet h.present has
      by_ack false = of-pends x _ h.present has
  of-arrives x packet (body.Management m) h lasts has = of-answers x packet h.present has

  of-passes : (x vc : ℕ) (e : Queued) (o : Outcome) (h : Held) → LastsHop P → Has P s h.present → Has P s (passes_now x vc e o h).present
  of-passes x vc e (Passes d packet) h lasts has = has
  of-passes x vc e (Returns packet) h lasts has = of-pends x packet h.present has
  of-passes x vc e Arrives h lasts has = of-arrives x e.packet e.packet.body h lasts has
  of-passes x vc e Ends h lasts has = has

  of-hops : (q : ℕ) (entries : List Queued) (h : Held) → LastsHop P → Has P s h.present → Has P s (hops_now q entries h).present
  of-hops q [] h lasts has = has
  of-hops q (e ∷ rest) h lasts has =
      let passed = passing h.present.tree h.present.nodes (link_of_queue q) e.packet in
      of-passes (end_of h.present.tree.links (link_of_queue q)) (channel_of q) e passed.outcome
      (on_present (λ (p : Present). record (leaves_now q rest p) { nodes = passed.nodes }) h) lasts has

  of-loses : (q : ℕ) (entries : List Queued) (p : Present) → Has P s p → Has P s (loses_now q entries p)
  of-loses q [] p has = has
  of-loses q (e ∷ rest) p has = has

  of-asks : (x : ℕ) (packets : List Packet) (p : Present) → Has P s p → Has P s (asks_now x packets p)
  of-asks x [] p has = has
  of-asks x (packet ∷ rest) p has = of-over (link_at p.tree.links x 0) _ _ packet (record p { requests = p.requests + 1 }) has

  of-replies : (x : ℕ) (packets : List Packet) (p : Present) → Has P s p → Has P s (replies_now x packets p)
  of-replies x [] p has = has
  of-replies x (packet ∷ rest) p has = of-over (route_from p.tree p.nodes x packet.dst) _ _ packet (record p { answers = p.answers + 1 }) has

  pub lasts-now : (e : Event) (h : Held) → LastsAt P h.present.plan e s → Has P s h.present → Has P s (goes_on e h).present
  unfolding goes_on
  lasts-now (Enter t) h lasts has = of-enters t (now_at h.present.streams t).ready h.present lasts has
  lasts-now (Command t op) h lasts has = of-orders t op h.present lasts has
  lasts-now (Report t) h lasts has = of-reports t h.present lasts has
  lasts-now (Seen t n) h lasts has = of-now t (taken_now n) h.present lasts has
  lasts-now (Feed b i) h lasts has = of-feeding b i (stream_into h.present.plan (block_at h.present.plan b) i) h.present lasts refl has
  lasts-now (Ask x) h lasts has = of-asks x (node_in h.present.nodes x).requests h.present has
  lasts-now (Reply x) h lasts has = of-replies x (node_in h.present.nodes x).pending h.present has
  lasts-now (Lose q) h lasts has = of-loses q (entries_at h.present.queues q) h.present has
  lasts-now (Hop q) h lasts has = of-hops q (entries_at h.present.queues q) h lasts has
