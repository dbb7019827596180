-- What an event does to nodes, and that it asks nothing.
use Rattle.std.proofs.Common.{◌≡◌, ℕ, ◌+◌, Bool, true, false, List, [], ◌∷◌, ◌++◌, refl, if◌then◌else◌}
use Rattle.std.specs.Prelude.{Option, Some, None, slice_get}
use Rattle.std.specs.Option.{option_map_or}
use Rattle.rf_base.proofs.Places.{one-set}
use Rattle.block_library.specs.Memory.{gives}
use Rattle.chdr_packets.specs.declared.packet.Body.{Body}
use Rattle.chdr_packets.specs.declared.packet.Body.TheVariants as body
use Rattle.chdr_packets.specs.declared.packet.Packet.{Packet}
use Rattle.net_topology.specs.Links.{end_of, link_at}
use Rattle.net_faults.specs.declared.fault.Fault.TheVariants as fault
use Rattle.net_machine.specs.declared.event.Event.{Event}
use Rattle.net_machine.specs.declared.event.Event.TheVariants.{Enter, Hop, Seen, Feed, Report, Command, Lose, Reply, Ask}
use Rattle.net_machine.specs.declared.plan.BlockPlan.{BlockPlan}
use Rattle.net_machine.specs.Blocks.{kept_at}
use Rattle.net_machine.specs.Effects.{after, answers_host, arrives, asks_first, enters, enters_over, feeds, feeds_from, gives_out, hears_status, hops, leaves, loses_front, on_any_stream, on_node, on_stream, operates, passes, pends, replies_first, stream_of}
use Rattle.net_machine.specs.Faults.{is_named}
use Rattle.net_machine.specs.Nodes.{is_host_at, own_epid, route_from}
use Rattle.net_machine.specs.Passing.{Outcome, Passes, Returns, Arrives, Ends, passing}
use Rattle.net_machine.specs.Plans.{block_at, first_link, plan_at, stream_from, stream_into, stream_out_of, stream_to}
use Rattle.net_machine.specs.Queues.{back_vc, channel_of, forward_vc, link_of_queue}
use Rattle.net_machine.specs.State.{Entry, Message, Node, State, Stream, Tag, blank, node_at, node_in, queue_at, stream_at}
use Rattle.net_machine.specs.Streams.{counts_in, gets, gets_order, loses, readies, sends_first, sends_order, sends_status, taken_to}

-- nothing was asked on the way from one state to the other, and what became of each node
pub record IsCalm (N : Node → Node → Type 0) (w v : State) : Type 0 where
  pub walked : v.walked ≡ w.walked
  pub nodes : (x : ℕ) → N (node_at w x) (node_at v x)

-- what a Hop's operations may do to nodes
abbrev pub HopKeeps : (Node → Node → Type 0) → State → Event → Type 0
HopKeeps N w (Enter s) = Unit {0}
HopKeeps N w (Hop q) = (e : Entry) (rest : List Entry) → queue_at w.queues q ≡ e ∷ rest →
    (x : ℕ) → N (node_at w x) (node_in (passing w.tree w.nodes (link_of_queue q) e.packet).nodes x)
HopKeeps N w (Seen s n) = Unit {0}
HopKeeps N w (Feed b i) = Unit {0}
HopKeeps N w (Report s) = Unit {0}
HopKeeps N w (Command s op) = Unit {0}
HopKeeps N w (Lose q) = Unit {0}
HopKeeps N w (Reply x) = Unit {0}
HopKeeps N w (Ask x) = Unit {0}

module _ (N : Node → Node → Type 0) (self : (n : Node) → N n n) (twice : (a b c : Node) → N a b → N b c → N a c)
    (pending : (n : Node) (packets : List Packet) → N n (record n { pending = packets }))
    (answers : (n : Node) (packets : List Packet) → N n (record n { answers = packets }))
    (asked : (n : Node) (p : Packet) (rest : List Packet) → n.requests ≡ p ∷ rest → N n (record n { requests = rest })) where
  stays : (w : State) → IsCalm N w w
  stays w = record { walked = refl; nodes = λ x. self (node_at w x) }

  of-node : (x : ℕ) (next : Node → Node) (w : State) → N (node_at w x) (next (node_at w x)) → IsCalm N w (on_node x next w)
  of-node x next w here = record {
    walked = refl;
    nodes = one-set {B = ℕ} (λ y n none. N (node_at w y) n) w.nodes [] blank 0 (next (node_at w x)) x (λ y. self (node_at w y)) here;
  }

  of-any : (o : Option ℕ) (next : Stream → Stream) (w u : State) → IsCalm N w u → IsCalm N w (on_any_stream o next u)
  of-any None next w u calm = calm
  of-any (Some s) next w u calm = record { walked = calm.walked; nodes = calm.nodes }

  of-over : (o : Option ℕ) (vc : ℕ) (marked : Bool) (p : Packet) (tag : Tag) (s : ℕ) (next : Stream → Stream) (w : State) →
      IsCalm N w (on_stream s next (enters_over o vc marked p tag w))
  of-over None vc marked p tag s next w = record { walked = refl; nodes = λ x. self (node_at w x) }
  of-over (Some d) vc marked p tag s next w = record { walked = refl; nodes = λ x. self (node_at w x) }

  of-pends : (x : ℕ) (p : Packet) (w : State) → IsCalm N w (pends x p w)
  of-pends x p w = by_route (route_from w.tree w.nodes x p.dst)
    where
      by_route : (o : Option ℕ) → IsCalm N w (option_map_or (λ (d : ℕ). on_node x (λ (n : Node). record n { pending = n.pending ++ p ∷ [] }) w) o w)
      by_route None = stays w
      by_route (Some d) = of-node x (λ (n : Node). record n { pending = n.pending ++ p ∷ [] }) w (pending (node_at w x) ((node_at w x).pending ++ p ∷ []))

  of-answers : (x : ℕ) (p : Packet) (w : State) → IsCalm N w (answers_host x p w)
  of-answers x p w = by_host (is_host_at w.tree x)
    where
      by_host : (b : Bool) → IsCalm N w (if b then on_node x (λ (n : Node). record n { answers = n.answers ++ p ∷ [] }) w else w)
      by_host true = of-node x (λ (n : Node). record n { answers = n.answers ++ p ∷ [] }) w (answers (node_at w x) ((node_at w x).answers ++ p ∷ []))
      by_host false = stays w

  of-heard : (o : Option ℕ) (tag : Tag) (w : State) → IsCalm N w (option_map_or (λ (s : ℕ). hears_status tag s w) o w)
  of-heard None tag w = stays w
  of-heard (Some s) tag w = record { walked = refl; nodes = λ x. self (node_at w x) }

  of-arrives : (x : ℕ) (e : Entry) (b : Body) (w : State) → IsCalm N w (arrives x e b w)
  of-arrives x e (body.Samples time payload) w = of-any (stream_to w.plan (own_epid w.tree x)) (gets e.packet) w w (stays w)
  of-arrives x e (body.Command c) w = of-any (stream_to w.plan (own_epid w.tree x)) (gets_order c.op (counts_in e.tag)) w w (stays w)
  of-arrives x e (body.Status status) w = of-heard (stream_from w.plan (own_epid w.tree x)) e.tag w
  of-arrives x e (body.Control control) w = by_ack control.ack
    where
      by_ack : (b : Bool) → IsCalm N w (if b then answers_host x e.packet w else operates x control w)
      by_ack true = of-answers x e.packet w
      by_ack false = let calm = of-pends x _ (record w { banks = _ }) in record { walked = calm.walked; nodes = calm.nodes }
  of-arrives x e (body.Management m) w = of-answers x e.packet w

  of-passes : (x vc : ℕ) (e : Entry) (o : Outcome) (w : State) → IsCalm N w (passes x vc e o w)
  of-passes x vc e (Passes d p) w = record { walked = refl; nodes = λ y. self (node_at w y) }
  of-passes x vc e (Returns p) w = of-pends x p w
  of-passes x vc e Arrives w = of-arrives x e e.packet.body w
  of-passes x vc e Ends w = stays w

  of-hops : (q : ℕ) (entries : List Entry) (w : State) → queue_at w.queues q ≡ entries → HopKeeps N w (Hop q) → IsCalm N w (hops q entries w)
  of-hops q [] w is keeps = stays w
  of-hops q (e ∷ rest) w is keeps =
      let passed = passing w.tree w.nodes (link_of_queue q) e.packet in
      let u = record (leaves q rest w) { nodes = passed.nodes } in
      let calm = of-passes (end_of w.tree.links (link_of_queue q)) (channel_of q) e passed.outcome u in
      record { walked = calm.walked; nodes = λ x. twice (node_at w x) (node_at u x) (node_at (passes (end_of w.tree.links (link_of_queue q)) (channel_of q) e passed.outcome u) x) (keeps e rest is x) (calm.nodes x) }

  of-enters : (s : ℕ) (packets : List Packet) (w : State) → IsCalm N w (enters s packets w)
  of-enters s [] w = stays w
  of-enters s (p ∷ rest) w = of-over (first_link w.tree (plan_at w.plan s).from) _ _ _ _ s (sends_first (plan_at w.plan s) p rest) w

  of-feeds : (block : BlockPlan) (i : ℕ) (w : State) → IsCalm N w (feeds block i w)
  of-feeds block i w = by_stream (stream_into w.plan block i)
    where
      by_packet : (s : ℕ) (o : Option Packet) → IsCalm N w (option_map_or (λ (p : Packet). gives_out block (gives (kept_at w block) i p) (on_stream s (taken_to ((stream_at w s).taken + 1)) w)) o w)
      by_packet s None = stays w
      by_packet s (Some p) =
          let u = on_stream s (taken_to ((stream_at w s).taken + 1)) w in
          let given = gives (kept_at w block) i p in
          of-any (stream_out_of w.plan block 1) (readies given.second) w (on_any_stream (stream_out_of w.plan block 0) (readies given.first) u)
          (of-any (stream_out_of w.plan block 0) (readies given.first) w u (record { walked = refl; nodes = λ x. self (node_at w x) }))

      by_stream : (o : Option ℕ) → IsCalm N w (option_map_or (λ (s : ℕ). feeds_from block i s w) o w)
      by_stream None = stays w
      by_stream (Some s) = by_packet s (slice_get (stream_at w s).given (stream_at w s).taken)

  of-asks : (w : State) (x : ℕ) (packets : List Packet) → (node_at w x).requests ≡ packets → IsCalm N w (asks_first x packets w)
  of-asks w x [] is = stays w
  of-asks w x (p ∷ rest) is = by_link (link_at w.tree.links x 0)
    where
      here : IsCalm N w (on_node x (λ (n : Node). record n { requests = rest }) w)
      here = of-node x (λ (n : Node). record n { requests = rest }) w (asked (node_at w x) p rest is)

      by_link : (o : Option ℕ) → IsCalm N w (on_node x (λ (n : Node). record n { requests = rest }) (enters_over o forward_vc (is_named w.faults (fault.Request w.requests)) p Message (record w { requests = w.requests + 1 })))
      by_link None = record { walked = refl; nodes = here.nodes }
      by_link (Some d) = record { walked = refl; nodes = here.nodes }

  of-replies : (w : State) (x : ℕ) (packets : List Packet) → IsCalm N w (replies_first x packets w)
  of-replies w x [] = stays w
  of-replies w x (p ∷ rest) = by_link (route_from w.tree w.nodes x p.dst)
    where
      here : IsCalm N w (on_node x (λ (n : Node). record n { pending = rest }) w)
      here = of-node x (λ (n : Node). record n { pending = rest }) w (pending (node_at w x) rest)

      by_link : (o : Option ℕ) → IsCalm N w (on_node x (λ (n : Node). record n { pending = rest }) (enters_over o back_vc (is_named w.faults (fault.Answer w.answers)) p Message (record w { answers = w.answers + 1 })))
      by_link None = record { walked = refl; nodes = here.nodes }
      by_link (Some d) = record { walked = refl; nodes = here.nodes }

  of-loses : (q : ℕ) (entries : List Entry) (w : State) → IsCalm N w (loses_front q entries w)
  of-loses q [] w = stays w
  of-loses q (e ∷ rest) w =
      of-any (stream_of w e.packet e.packet.body) (loses e) w (leaves q rest w) (record { walked = refl; nodes = λ x. self (node_at w x) })

  pub calm-event : (w : State) (e : Event) → HopKeeps N w e → IsCalm N w (after w e)
  unfolding after
  calm-event w (Enter s) keeps = of-enters s (stream_at w s).ready w
  calm-event w (Command s op) keeps = of-over (first_link w.tree (plan_at w.plan s).from) _ _ _ _ s (sends_order op) w
  calm-event w (Report s) keeps = of-over (first_link w.tree (plan_at w.plan s).to) _ _ _ _ s sends_status w
  calm-event w (Seen s n) keeps = record { walked = refl; nodes = λ x. self (node_at w x) }
  calm-event w (Feed b i) keeps = of-feeds (block_at w.plan b) i w
  calm-event w (Ask x) keeps = of-asks w x (node_at w x).requests refl
  calm-event w (Reply x) keeps = of-replies w x (node_at w x).pending
  calm-event w (Lose q) keeps = of-loses q (queue_at w.queues q) w
  calm-event w (Hop q) keeps = of-hops q (queue_at w.queues q) w refl keeps

-- any change of a node
abbrev AnyChange : Node → Node → Type 0
AnyChange a b = Unit {0}

-- no event asks a management packet
pub walked-stays : (w : State) (e : Event) → (after w e).walked ≡ w.walked
walked-stays w e = (calm-event AnyChange (λ n. tt) (λ a b c f g. tt) (λ n packets. tt) (λ n packets. tt) (λ n p rest is. tt) w e (any-hop e)).walked
  where
    any-hop : (e : Event) → HopKeeps AnyChange w e
    any-hop (Enter s) = tt
    any-hop (Hop q) = λ e rest is x. tt
    any-hop (Seen s n) = tt
    any-hop (Feed b i) = tt
    any-hop (Report s) = tt
    any-hop (Command s op) = tt
    any-hop (Lose q) = tt
    any-hop (Reply x) = tt
    any-hop (Ask x) = tt
