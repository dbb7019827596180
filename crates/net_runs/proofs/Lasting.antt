-- No event other than a Lose counts a packet as lost.
use Rattle.std.proofs.Common.{◌≡◌, ℕ, zero, suc, ◌+◌, Bool, true, false, List, [], ◌∷◌, ◌++◌, map, get_or, Option, Some, None, refl, ◌∙◌, slice_get, if◌then◌else◌}
use Rattle.std.specs.List.{AllByRecursion}
use Rattle.std.specs.Option.{option_map_or}
use Rattle.rf_base.proofs.Places.{one-set}
use Rattle.block_library.specs.Memory.{gives}
use Rattle.chdr_packets.specs.declared.packet.Body.{Body}
use Rattle.chdr_packets.specs.declared.packet.Body.TheVariants as body
use Rattle.chdr_packets.specs.declared.packet.Packet.{Packet}
use Rattle.net_machine.specs.declared.event.Event.{Event}
use Rattle.net_machine.specs.declared.event.Event.TheVariants.{Enter, Hop, Seen, Feed, Report, Command, Lose, Reply, Ask}
use Rattle.net_machine.specs.declared.plan.BlockPlan.{BlockPlan}
use Rattle.net_machine.specs.declared.plan.RunPlan.{RunPlan}
use Rattle.net_machine.specs.declared.plan.StreamPlan.{StreamPlan}
use Rattle.net_machine.specs.Begin.{opened}
use Rattle.net_machine.specs.Blocks.{kept_at}
use Rattle.net_machine.specs.Effects.{after, answers_host, arrives, asks_first, enters, enters_over, feeds, feeds_from, gives_out, hears_status, hops, leaves, on_any_stream, on_node, on_stream, operates, passes, pends, replies_first}
use Rattle.net_machine.specs.Moves.{after_all, after_journal}
use Rattle.net_machine.specs.Nodes.{is_host_at, own_epid, route_from}
use Rattle.net_machine.specs.Passing.{Outcome, Passes, Returns, Arrives, Ends, passing}
use Rattle.net_machine.specs.Plans.{block_at, first_link, plan_at, stream_from, stream_into, stream_out_of, stream_to}
use Rattle.net_machine.specs.Queues.{channel_of, link_of_queue}
use Rattle.net_machine.specs.State.{Entry, Node, State, Stream, Tag, idle, node_at, queue_at, stream_at}
use Rattle.net_machine.specs.Streams.{counts_in, gets, gets_order, gets_status, readies, sends_first, sends_order, sends_status, taken_to, told_in}
use Rattle.net_topology.specs.Links.{link_at}
use Rattle.net_lawful.proofs.Laws.{events_ask_nothing}
use Rattle.net_runs.specs.Runs.{BeginsWithoutLosses, LosesNothing, OnlyLosesCount}

-- each stream counts the same packets as lost
abbrev pub KeepLost : State → State → Type 0
KeepLost w v = (s : ℕ) → (stream_at v s).lost ≡ (stream_at w s).lost

lost-on : (w : State) (s : ℕ) (next : Stream → Stream) → (next (stream_at w s)).lost ≡ (stream_at w s).lost → KeepLost w (on_stream s next w)
lost-on w s next here = one-set (λ (t : ℕ) new old. new.lost ≡ old.lost) w.streams w.streams idle idle (next (stream_at w s)) s (λ t. refl) here

lost-any : (o : Option ℕ) (next : Stream → Stream) (w : State) → ((st : Stream) → (next st).lost ≡ st.lost) → KeepLost w (on_any_stream o next w)
lost-any None next w each = λ s. refl
lost-any (Some s) next w each = lost-on w s next (each (stream_at w s))

lost-sends : (s : ℕ) (next : Stream → Stream) (o : Option ℕ) (vc : ℕ) (marked : Bool) (p : Packet) (tag : Tag) (w : State) → ((st : Stream) → (next st).lost ≡ st.lost) → KeepLost w (on_stream s next (enters_over o vc marked p tag w))
lost-sends s next None vc marked p tag w each = lost-on w s next (each (stream_at w s))
lost-sends s next (Some d) vc marked p tag w each = lost-on w s next (each (stream_at w s))

lost-leaves : (x : ℕ) (next : Node → Node) (o : Option ℕ) (vc : ℕ) (marked : Bool) (p : Packet) (tag : Tag) (w : State) → KeepLost w (on_node x next (enters_over o vc marked p tag w))
lost-leaves x next None vc marked p tag w = λ s. refl
lost-leaves x next (Some d) vc marked p tag w = λ s. refl

lost-pends : (x : ℕ) (p : Packet) (w : State) → KeepLost w (pends x p w)
lost-pends x p w = by_route (route_from w.tree w.nodes x p.dst)
  where
    by_route : (o : Option ℕ) → KeepLost w (option_map_or (λ (d : ℕ). on_node x (λ (n : Node). record n { pending = n.pending ++ p ∷ [] }) w) o w)
    by_route None = λ s. refl
    by_route (Some d) = λ s. refl

lost-answers : (x : ℕ) (p : Packet) (w : State) → KeepLost w (answers_host x p w)
lost-answers x p w = by_host (is_host_at w.tree x)
  where
    by_host : (b : Bool) → KeepLost w (if b then on_node x (λ (n : Node). record n { answers = n.answers ++ p ∷ [] }) w else w)
    by_host true = λ s. refl
    by_host false = λ s. refl

lost-arrives : (x : ℕ) (e : Entry) (b : Body) (w : State) → KeepLost w (arrives x e b w)
lost-arrives x e (body.Samples time payload) w = lost-any (stream_to w.plan (own_epid w.tree x)) (gets e.packet) w (λ st. refl)
lost-arrives x e (body.Command c) w = lost-any (stream_to w.plan (own_epid w.tree x)) (gets_order c.op (counts_in e.tag)) w (λ st. refl)
lost-arrives x e (body.Status status) w = by_stream (stream_from w.plan (own_epid w.tree x))
  where
    by_stream : (o : Option ℕ) → KeepLost w (option_map_or (λ (s : ℕ). hears_status e.tag s w) o w)
    by_stream None = λ s. refl
    by_stream (Some s) = lost-on w s (gets_status (plan_at w.plan s) (told_in e.tag)) refl
lost-arrives x e (body.Control control) w = by_ack control.ack
  where
    by_ack : (b : Bool) → KeepLost w (if b then answers_host x e.packet w else operates x control w)
    by_ack true = lost-answers x e.packet w
    by_ack false = lost-pends x _ (record w { banks = _ })
lost-arrives x e (body.Management m) w = lost-answers x e.packet w

lost-passes : (x vc : ℕ) (e : Entry) (o : Outcome) (w : State) → KeepLost w (passes x vc e o w)
lost-passes x vc e (Passes d p) w = λ s. refl
lost-passes x vc e (Returns p) w = lost-pends x p w
lost-passes x vc e Arrives w = lost-arrives x e e.packet.body w
lost-passes x vc e Ends w = λ s. refl

lost-hops : (q : ℕ) (entries : List Entry) (w : State) → KeepLost w (hops q entries w)
lost-hops q [] w = λ s. refl
lost-hops q (e ∷ rest) w = lost-passes _ (channel_of q) e (passing w.tree w.nodes (link_of_queue q) e.packet).outcome (record (leaves q rest w) { nodes = (passing w.tree w.nodes (link_of_queue q) e.packet).nodes })

lost-feeds : (block : BlockPlan) (i : ℕ) (w : State) → KeepLost w (feeds block i w)
lost-feeds block i w = by_stream (stream_into w.plan block i)
  where
    by_packet : (s : ℕ) (o : Option Packet) → KeepLost w (option_map_or (λ (p : Packet). gives_out block (gives (kept_at w block) i p) (on_stream s (taken_to ((stream_at w s).taken + 1)) w)) o w)
    by_packet s None = λ t. refl
    by_packet s (Some p) =
        let given = gives (kept_at w block) i p in
        let took = on_stream s (taken_to ((stream_at w s).taken + 1)) w in
        let first = on_any_stream (stream_out_of w.plan block 0) (readies given.first) took in
        λ t. lost-any (stream_out_of w.plan block 1) (readies given.second) first (λ st. refl) t
        ∙ (lost-any (stream_out_of w.plan block 0) (readies given.first) took (λ st. refl) t
        ∙ lost-on w s (taken_to ((stream_at w s).taken + 1)) refl t)

    by_stream : (o : Option ℕ) → KeepLost w (option_map_or (λ (s : ℕ). feeds_from block i s w) o w)
    by_stream None = λ t. refl
    by_stream (Some s) = by_packet s (slice_get (stream_at w s).given (stream_at w s).taken)

lost-enters : (s : ℕ) (packets : List Packet) (w : State) → KeepLost w (enters s packets w)
lost-enters s [] w = λ t. refl
lost-enters s (p ∷ rest) w = lost-sends s (sends_first (plan_at w.plan s) p rest) (first_link w.tree (plan_at w.plan s).from) _ _ _ _ w (λ st. refl)

lost-asks : (x : ℕ) (packets : List Packet) (w : State) → KeepLost w (asks_first x packets w)
lost-asks x [] w = λ t. refl
lost-asks x (p ∷ rest) w = lost-leaves x (λ (n : Node). record n { requests = rest }) (link_at w.tree.links x 0) _ _ p _ (record w { requests = w.requests + 1 })

lost-replies : (x : ℕ) (packets : List Packet) (w : State) → KeepLost w (replies_first x packets w)
lost-replies x [] w = λ t. refl
lost-replies x (p ∷ rest) w = lost-leaves x (λ (n : Node). record n { pending = rest }) (route_from w.tree w.nodes x p.dst) _ _ p _ (record w { answers = w.answers + 1 })

pub event-lost : OnlyLosesCount
unfolding after
event-lost w (Enter s) none = lost-enters s (stream_at w s).ready w
event-lost w (Hop q) none = lost-hops q (queue_at w.queues q) w
event-lost w (Seen s n) none = lost-on w s (taken_to n) refl
event-lost w (Feed b i) none = lost-feeds (block_at w.plan b) i w
event-lost w (Report s) none = lost-sends s sends_status (first_link w.tree (plan_at w.plan s).to) _ _ _ _ w (λ st. refl)
event-lost w (Command s op) none = lost-sends s (sends_order op) (first_link w.tree (plan_at w.plan s).from) _ _ _ _ w (λ st. refl)
event-lost w (Lose q) none = absurd none
event-lost w (Reply x) none = lost-replies x (node_at w x).pending w
event-lost w (Ask x) none = lost-asks x (node_at w x).requests w

pub journal-lost : (w : State) (journal : List Event) → AllByRecursion LosesNothing journal → KeepLost w (after_journal w journal)
unfolding after_all
journal-lost w [] none = λ s. refl
journal-lost w (e ∷ journal) none = λ s. journal-lost (after w e) journal none.1 s ∙ event-lost w e none.0 s

pub journal-walked : (w : State) (journal : List Event) → (after_journal w journal).walked ≡ w.walked
unfolding after_all
journal-walked w [] = refl
journal-walked w (e ∷ journal) = journal-walked (after w e) journal ∙ events_ask_nothing w e

-- as a run begins nothing was lost
opened-lost : (plan : RunPlan) (streams : List StreamPlan) (s : ℕ) → (get_or (map (opened plan) streams) s idle).lost ≡ []
opened-lost plan [] s = refl
opened-lost plan (stream ∷ streams) zero = refl
opened-lost plan (stream ∷ streams) (suc s) = opened-lost plan streams s

pub begun-lost : BeginsWithoutLosses
begun-lost plan w s = opened-lost plan plan.streams s
