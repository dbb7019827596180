-- No event but sending, taking and feeding changes what a stream sent, has ready, or took.
use Rattle.std.proofs.Common.{◌≡◌, ℕ, ◌+◌, ◌≤◌, Bool, true, false, List, [], ◌∷◌, ◌++◌, length, take, refl, ◌∙◌, ap, if◌then◌else◌}
use Rattle.std.specs.Prelude.{Option, Some, None}
use Rattle.std.specs.Option.{option_map_or}
use Rattle.std.proofs.lemmas.List.{take-append-le}
use Rattle.rf_base.proofs.Places.{one-set}
use Rattle.chdr_packets.specs.declared.packet.Body.{Body}
use Rattle.chdr_packets.specs.declared.packet.Body.TheVariants as body
use Rattle.chdr_packets.specs.declared.packet.Packet.{Packet}
use Rattle.chdr_words.specs.declared.command.CmdOp.{CmdOp}
use Rattle.net_topology.specs.Links.{end_of, link_at}
use Rattle.stream_endpoint.specs.Epochs.{Told}
use Rattle.stream_endpoint.specs.Receiver.{arrival, expected}
use Rattle.stream_endpoint.specs.declared.count.Count.{Count}
use Rattle.stream_endpoint.specs.declared.state.Arrived.{Arrived}
use Rattle.stream_endpoint.specs.declared.state.Arrived.TheVariants.{Kept, Discarded, Gap}
use Rattle.net_machine.specs.declared.event.Event.{Event}
use Rattle.net_machine.specs.declared.event.Event.TheVariants.{Enter, Hop, Seen, Feed, Report, Command, Lose, Reply, Ask}
use Rattle.net_machine.specs.declared.plan.StreamPlan.{StreamPlan}
use Rattle.net_machine.specs.Effects.{after, answers_host, arrives, asks_first, enters_over, hears_status, hops, leaves, loses_front, on_any_stream, on_node, on_stream, operates, passes, pends, replies_first, stream_of}
use Rattle.net_machine.specs.Nodes.{is_host_at, own_epid, route_from}
use Rattle.net_machine.specs.Passing.{Outcome, Passes, Returns, Arrives, Ends, passing}
use Rattle.net_machine.specs.Plans.{first_link, plan_at, stream_from, stream_to}
use Rattle.net_machine.specs.Queues.{channel_of, link_of_queue}
use Rattle.net_machine.specs.State.{Entry, Message, Node, State, Stream, Tag, idle, node_at, queue_at, stream_at}
use Rattle.net_machine.specs.Streams.{counts_in, gets, gets_order, gets_status, kept_by, loses, sends_order, sends_status, taken_of, told_in}

-- what was sent, is ready and was taken is the same, and so is the most that was outstanding
pub record KeepsSides (old new : Stream) : Type 0 where
  pub sent : new.sent ≡ old.sent
  pub ready : new.ready ≡ old.ready
  pub taken : new.taken ≡ old.taken
  pub given : old.taken ≤ length old.given → take old.taken new.given ≡ take old.taken old.given
  pub peak : new.peak ≡ old.peak

pub same-taken : (old new : Stream) → old.taken ≤ length old.given → KeepsSides old new → taken_of new ≡ taken_of old
same-taken old new le keeps = ap (λ n. take n new.given) keeps.taken ∙ keeps.given le

pub stays : (st : Stream) → KeepsSides st st
stays st = record { sent = refl; ready = refl; taken = refl; given = λ le. refl; peak = refl }

given-more : (arrived : Arrived) (p : Packet) (given : List Packet) (n : ℕ) → n ≤ length given → take n (kept_by arrived p given) ≡ take n given
given-more Kept p given n le = take-append-le n given (p ∷ []) le
given-more (Gap expected got) p given n le = refl
given-more Discarded p given n le = refl

of-gets : (p : Packet) (st : Stream) → KeepsSides st (gets p st)
of-gets p st = record {
  sent = refl;
  ready = refl;
  taken = refl;
  given = λ le. given-more (arrival st.receiver.broken (expected st.receiver) p.seq) p st.given st.taken le;
  peak = refl;
}

-- both states have the same of each stream
abbrev pub Keep : State → State → Type 0
Keep w v = (t : ℕ) → KeepsSides (stream_at w t) (stream_at v t)

of-stream : (w : State) (s : ℕ) (next : Stream → Stream) → KeepsSides (stream_at w s) (next (stream_at w s)) → Keep w (on_stream s next w)
of-stream w s next here =
    one-set {B = ℕ} (λ t st none. KeepsSides (stream_at w t) st) w.streams [] idle 0 (next (stream_at w s)) s (λ t. stays (stream_at w t)) here

of-any : (w : State) (o : Option ℕ) (next : Stream → Stream) → ((st : Stream) → KeepsSides st (next st)) → Keep w (on_any_stream o next w)
of-any w None next here = λ t. stays (stream_at w t)
of-any w (Some s) next here = of-stream w s next (here (stream_at w s))

of-over : (w : State) (o : Option ℕ) (vc : ℕ) (marked : Bool) (p : Packet) (tag : Tag) (s : ℕ) (next : Stream → Stream) → ((st : Stream) → KeepsSides st (next st)) →
    Keep w (on_stream s next (enters_over o vc marked p tag w))
of-over w None vc marked p tag s next here = of-stream w s next (here (stream_at w s))
of-over w (Some d) vc marked p tag s next here = of-stream w s next (here (stream_at w s))

of-node : (w : State) (o : Option ℕ) (vc : ℕ) (marked : Bool) (p : Packet) (tag : Tag) (x : ℕ) (next : Node → Node) → Keep w (on_node x next (enters_over o vc marked p tag w))
of-node w None vc marked p tag x next = λ t. stays (stream_at w t)
of-node w (Some d) vc marked p tag x next = λ t. stays (stream_at w t)

of-order : (op : CmdOp) (st : Stream) → KeepsSides st (sends_order op st)
of-order op st = record { sent = refl; ready = refl; taken = refl; given = λ le. refl; peak = refl }

of-status : (st : Stream) → KeepsSides st (sends_status st)
of-status st = record { sent = refl; ready = refl; taken = refl; given = λ le. refl; peak = refl }

of-obeyed : (op : CmdOp) (told : Count) (st : Stream) → KeepsSides st (gets_order op told st)
of-obeyed op told st = record { sent = refl; ready = refl; taken = refl; given = λ le. refl; peak = refl }

of-heard : (plan : StreamPlan) (told : Told) (st : Stream) → KeepsSides st (gets_status plan told st)
of-heard plan told st = record { sent = refl; ready = refl; taken = refl; given = λ le. refl; peak = refl }

of-lost : (e : Entry) (st : Stream) → KeepsSides st (loses e st)
of-lost e st = record { sent = refl; ready = refl; taken = refl; given = λ le. refl; peak = refl }

of-pends : (x : ℕ) (p : Packet) (w : State) → Keep w (pends x p w)
of-pends x p w = by_route (route_from w.tree w.nodes x p.dst)
  where
    by_route : (o : Option ℕ) → Keep w (option_map_or (λ (d : ℕ). on_node x (λ (n : Node). record n { pending = n.pending ++ p ∷ [] }) w) o w)
    by_route None = λ t. stays (stream_at w t)
    by_route (Some d) = λ t. stays (stream_at w t)

of-answers : (x : ℕ) (p : Packet) (w : State) → Keep w (answers_host x p w)
of-answers x p w = by_host (is_host_at w.tree x)
  where
    by_host : (b : Bool) → Keep w (if b then on_node x (λ (n : Node). record n { answers = n.answers ++ p ∷ [] }) w else w)
    by_host true = λ t. stays (stream_at w t)
    by_host false = λ t. stays (stream_at w t)

of-hearing : (o : Option ℕ) (tag : Tag) (w : State) → Keep w (option_map_or (λ (s : ℕ). hears_status tag s w) o w)
of-hearing None tag w = λ t. stays (stream_at w t)
of-hearing (Some s) tag w = of-stream w s (gets_status (plan_at w.plan s) (told_in tag)) (of-heard (plan_at w.plan s) (told_in tag) (stream_at w s))

of-arrives : (x : ℕ) (e : Entry) (b : Body) (w : State) → Keep w (arrives x e b w)
of-arrives x e (body.Samples time payload) w = of-any w (stream_to w.plan (own_epid w.tree x)) (gets e.packet) (of-gets e.packet)
of-arrives x e (body.Command c) w = of-any w (stream_to w.plan (own_epid w.tree x)) (gets_order c.op (counts_in e.tag)) (of-obeyed c.op (counts_in e.tag))
of-arrives x e (body.Status status) w = of-hearing (stream_from w.plan (own_epid w.tree x)) e.tag w
of-arrives x e (body.Control control) w = by_ack control.ack
  where
    by_ack : (b : Bool) → Keep w (if b then answers_host x e.packet w else operates x control w)
    by_ack true = of-answers x e.packet w
    by_ack false = of-pends x _ (record w { banks = _ })
of-arrives x e (body.Management m) w = of-answers x e.packet w

of-passes : (x vc : ℕ) (e : Entry) (o : Outcome) (w : State) → Keep w (passes x vc e o w)
of-passes x vc e (Passes d p) w = λ t. stays (stream_at w t)
of-passes x vc e (Returns p) w = of-pends x p w
of-passes x vc e Arrives w = of-arrives x e e.packet.body w
of-passes x vc e Ends w = λ t. stays (stream_at w t)

of-hops : (q : ℕ) (entries : List Entry) (w : State) → Keep w (hops q entries w)
of-hops q [] w = λ t. stays (stream_at w t)
of-hops q (e ∷ rest) w =
    let passed = passing w.tree w.nodes (link_of_queue q) e.packet in
    of-passes (end_of w.tree.links (link_of_queue q)) (channel_of q) e passed.outcome (record (leaves q rest w) { nodes = passed.nodes })

of-asks : (x : ℕ) (packets : List Packet) (w : State) → Keep w (asks_first x packets w)
of-asks x [] w = λ t. stays (stream_at w t)
of-asks x (p ∷ rest) w = of-node (record w { requests = w.requests + 1 }) (link_at w.tree.links x 0) _ _ p Message x (λ (n : Node). record n { requests = rest })

of-replies : (x : ℕ) (packets : List Packet) (w : State) → Keep w (replies_first x packets w)
of-replies x [] w = λ t. stays (stream_at w t)
of-replies x (p ∷ rest) w = of-node (record w { answers = w.answers + 1 }) (route_from w.tree w.nodes x p.dst) _ _ p Message x (λ (n : Node). record n { pending = rest })

of-loses : (q : ℕ) (entries : List Entry) (w : State) → Keep w (loses_front q entries w)
of-loses q [] w = λ t. stays (stream_at w t)
of-loses q (e ∷ rest) w = of-any (leaves q rest w) (stream_of w e.packet e.packet.body) (loses e) (of-lost e)

-- an event neither sends, takes nor feeds
abbrev pub MakesNone : Event → Type 0
MakesNone (Enter s) = ⊥
MakesNone (Hop q) = Unit {0}
MakesNone (Seen s n) = ⊥
MakesNone (Feed b i) = ⊥
MakesNone (Report s) = Unit {0}
MakesNone (Command s op) = Unit {0}
MakesNone (Lose q) = Unit {0}
MakesNone (Reply x) = Unit {0}
MakesNone (Ask x) = Unit {0}

pub sides-stay : (w : State) (e : Event) → MakesNone e → Keep w (after w e)
unfolding after
sides-stay w (Enter s) none = absurd none
sides-stay w (Command s op) none = of-over w (first_link w.tree (plan_at w.plan s).from) _ _ _ _ s (sends_order op) (of-order op)
sides-stay w (Report s) none = of-over w (first_link w.tree (plan_at w.plan s).to) _ _ _ _ s sends_status of-status
sides-stay w (Seen s n) none = absurd none
sides-stay w (Feed b i) none = absurd none
sides-stay w (Ask x) none = of-asks x (node_at w x).requests w
sides-stay w (Reply x) none = of-replies x (node_at w x).pending w
sides-stay w (Lose q) none = of-loses q (queue_at w.queues q) w
sides-stay w (Hop q) none = of-hops q (queue_at w.queues q) w
