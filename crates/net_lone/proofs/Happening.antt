-- What the next event of a message does to the network.
use Rattle.std.proofs.Common.{◌≡◌, ℕ, ◌+◌, ◌<◌, Bool, true, false, List, [], ◌∷◌, ◌++◌, length, refl, sym, ◌∙◌, ap, set, if◌then◌else◌}
use Rattle.std.specs.Prelude.{Option, Some, None}
use Rattle.std.specs.Option.{option_map_or}
use Rattle.std.proofs.lemmas.List.{get_or-set_same, set-get_or, set-set}
use Rattle.chdr_packets.specs.declared.packet.Body.{Body}
use Rattle.chdr_packets.specs.declared.packet.Body.TheVariants as body
use Rattle.chdr_packets.specs.declared.packet.Packet.{Packet}
use Rattle.net_topology.specs.Links.{end_of, link_at}
use Rattle.net_faults.specs.declared.fault.Fault.TheVariants as fault
use Rattle.net_machine.specs.declared.event.Event.{Event}
use Rattle.net_machine.specs.declared.event.Event.TheVariants.{Hop, Lose, Reply, Ask}
use Rattle.net_machine.specs.Effects.{after, answers_host, arrives, asks_first, enters_over, hops, joins, leaves, loses_front, on_any_stream, on_node, operates, passes, pends, replies_first, stream_of}
use Rattle.net_machine.specs.Faults.{is_named}
use Rattle.net_machine.specs.Nodes.{is_host_at, route_from}
use Rattle.net_machine.specs.Passing.{Arrives, Ends, Outcome, Passes, Passing, Returns, passing}
use Rattle.net_machine.specs.Queues.{back_vc, channel_of, forward_vc, link_of_queue, queue_of}
use Rattle.net_machine.specs.State.{Entry, Message, Node, State, blank, node_at, node_in, queue_at}
use Rattle.net_machine.specs.Streams.{loses}
use Rattle.net_ways.specs.Standing.{IsMessage}
use Rattle.net_lone.specs.Lone.{acknowledgement, answered_at, answering_at, arrived, entered, goes_on_from, operated, passed}
use Rattle.net_lone.specs.Stages.{Answered, Answering, Asking, FitsStage, Gone, Stage, UnderWay, lone, next_event, state_of, with_message}
use Rattle.net_lone.proofs.Bases.{Base, some-same}
use Rattle.net_lone.proofs.Only.{content-at, entry_of, node-there, route-link, route-same}

-- ---- what a node held before its one packet came, it holds when that is gone

asked-back : (nodes : List Node) (x : ℕ) (p : Packet) → x < length nodes → (node_in nodes x).requests ≡ [] →
    set (set nodes x (record (node_in nodes x) { requests = (node_in nodes x).requests ++ p ∷ [] })) x
    (record (node_in (set nodes x (record (node_in nodes x) { requests = (node_in nodes x).requests ++ p ∷ [] })) x) { requests = [] }) ≡ nodes
asked-back nodes x p lt none =
    let n = node_in nodes x in
    let more : Node = record n { requests = n.requests ++ p ∷ [] } in
    ap (λ (m : Node). set (set nodes x more) x (record m { requests = [] })) (get_or-set_same nodes x more blank lt)
    ∙ set-set nodes x more (record n { requests = [] })
    ∙ ap (λ (ps : List Packet). set nodes x (record n { requests = ps })) (sym none)
    ∙ set-get_or nodes x blank

pending-back : (nodes : List Node) (x : ℕ) (p : Packet) → x < length nodes → (node_in nodes x).pending ≡ [] →
    set (set nodes x (record (node_in nodes x) { pending = (node_in nodes x).pending ++ p ∷ [] })) x
    (record (node_in (set nodes x (record (node_in nodes x) { pending = (node_in nodes x).pending ++ p ∷ [] })) x) { pending = [] }) ≡ nodes
pending-back nodes x p lt none =
    let n = node_in nodes x in
    let more : Node = record n { pending = n.pending ++ p ∷ [] } in
    ap (λ (m : Node). set (set nodes x more) x (record m { pending = [] })) (get_or-set_same nodes x more blank lt)
    ∙ set-set nodes x more (record n { pending = [] })
    ∙ ap (λ (ps : List Packet). set nodes x (record n { pending = ps })) (sym none)
    ∙ set-get_or nodes x blank

pub answer-back : (nodes : List Node) (x : ℕ) → (node_in nodes x).answers ≡ [] →
    set nodes x (record (node_in nodes x) { answers = [] }) ≡ nodes
answer-back nodes x none =
    ap (λ (ps : List Packet). set nodes x (record (node_in nodes x) { answers = ps })) (sym none) ∙ set-get_or nodes x blank

queue-back : (w : State) (q : ℕ) (es : List Entry) → Base w → set (set w.queues q es) q [] ≡ w.queues
queue-back w q es base =
    set-set w.queues q es [] ∙ ap (λ (fs : List Entry). set w.queues q fs) (sym (base.empty q)) ∙ set-get_or w.queues q []

-- ---- an Ask and a Reply

after-ask : (w : State) (x : ℕ) (p : Packet) (d : ℕ) → Base w → link_at w.tree.links x 0 ≡ Some d →
    after (with_message w (Asking x p)) (Ask x) ≡ state_of (goes_on_from w (Asking x p))
unfolding after
after-ask w x p d base is =
    let v = with_message w (Asking x p) in
    let n = node_at w x in
    let more : Node = record n { requests = n.requests ++ p ∷ [] } in
    let lt = node-there w x 0 d base is in
    let one : (node_at v x).requests ≡ p ∷ [] =
    ap (λ (m : Node). m.requests) (get_or-set_same w.nodes x more blank lt) ∙ ap (λ (ps : List Packet). ps ++ p ∷ []) (base.asks x d is) in
    let marked = is_named w.faults (fault.Request w.requests) in
    let counted : State = record v { requests = w.requests + 1 } in
    let gone = joins (queue_of d forward_vc) (entry_of marked p) (record w { requests = w.requests + 1 }) in
    ap (λ (ps : List Packet). asks_first x ps v) one
    ∙ ap (λ (o : Option ℕ). on_node x (λ (m : Node). record m { requests = [] }) (enters_over o forward_vc marked p Message counted)) is
    ∙ ap (λ (nodes : List Node). record gone { nodes = nodes }) (asked-back w.nodes x p lt (base.asks x d is))
    ∙ ap (λ (o : Option ℕ). state_of (entered (record w { requests = w.requests + 1 }) forward_vc marked p o)) (sym is)

after-reply : (w : State) (x : ℕ) (p : Packet) (d : ℕ) → Base w → route_from w.tree w.nodes x p.dst ≡ Some d →
    after (with_message w (Answering x p)) (Reply x) ≡ state_of (goes_on_from w (Answering x p))
unfolding after
after-reply w x p d base is =
    let v = with_message w (Answering x p) in
    let n = node_at w x in
    let more : Node = record n { pending = n.pending ++ p ∷ [] } in
    let link = route-link w.tree w.nodes x p.dst d is in
    let lt = node-there w x link.0 d base link.1 in
    let at : node_at v x ≡ more = get_or-set_same w.nodes x more blank lt in
    let one : (node_at v x).pending ≡ p ∷ [] = ap (λ (m : Node). m.pending) at ∙ ap (λ (ps : List Packet). ps ++ p ∷ []) (base.clear x) in
    let route : route_from w.tree v.nodes x p.dst ≡ Some d = route-same w.tree v.nodes w.nodes x p.dst (ap (λ (m : Node). m.table) at) ∙ is in
    let marked = is_named w.faults (fault.Answer w.answers) in
    let counted : State = record v { answers = w.answers + 1 } in
    let gone = joins (queue_of d back_vc) (entry_of marked p) (record w { answers = w.answers + 1 }) in
    ap (λ (ps : List Packet). replies_first x ps v) one
    ∙ ap (λ (o : Option ℕ). on_node x (λ (m : Node). record m { pending = [] }) (enters_over o back_vc marked p Message counted)) route
    ∙ ap (λ (nodes : List Node). record gone { nodes = nodes }) (pending-back w.nodes x p lt (base.clear x))
    ∙ ap (λ (o : Option ℕ). state_of (entered (record w { answers = w.answers + 1 }) back_vc marked p o)) (sym is)

-- ---- a Lose

no-stream : (v : State) (p : Packet) (b : Body) → IsMessage b → stream_of v p b ≡ None
no-stream v p (body.Samples time payload) is = absurd is
no-stream v p (body.Command c) is = absurd is
no-stream v p (body.Status status) is = absurd is
no-stream v p (body.Control control) is = refl
no-stream v p (body.Management m) is = refl

after-lose : (w : State) (q : ℕ) (p : Packet) → Base w → FitsStage w (UnderWay q true p) →
    after (with_message w (UnderWay q true p)) (Lose q) ≡ w
unfolding after
after-lose w q p base fits =
    let v = with_message w (UnderWay q true p) in
    let e = entry_of true p in
    ap (λ (es : List Entry). loses_front q es v) (content-at w q e base fits.1)
    ∙ ap (λ (o : Option ℕ). on_any_stream o (loses e) (leaves q [] v)) (no-stream (leaves q [] v) p p.body fits.0)
    ∙ ap (λ (qs : List (List Entry)). record w { queues = qs }) (queue-back w q (queue_at w.queues q ++ e ∷ []) base)

-- ---- a Hop

pends-is : (u : State) (x : ℕ) (p : Packet) → pends x p u ≡ with_message u (answering_at u x p)
pends-is u x p = by_route (route_from u.tree u.nodes x p.dst)
  where
    by_route : (o : Option ℕ) → option_map_or (λ (d : ℕ). on_node x (λ (n : Node). record n { pending = n.pending ++ p ∷ [] }) u) o u
        ≡ with_message u (option_map_or (λ (d : ℕ). Answering x p) o Gone)
    by_route None = refl
    by_route (Some d) = refl

comes-is : (u : State) (x : ℕ) (p : Packet) → answers_host x p u ≡ with_message u (answered_at u x p)
comes-is u x p = by_host (is_host_at u.tree x)
  where
    by_host : (b : Bool) → (if b then on_node x (λ (n : Node). record n { answers = n.answers ++ p ∷ [] }) u else u)
        ≡ with_message u (if b then Answered x p else Gone)
    by_host true = refl
    by_host false = refl

arrives-is : (u : State) (x : ℕ) (p : Packet) (b : Body) → IsMessage b → arrives x (entry_of false p) b u ≡ state_of (arrived u x p b)
arrives-is u x p (body.Samples time payload) is = absurd is
arrives-is u x p (body.Command c) is = absurd is
arrives-is u x p (body.Status status) is = absurd is
arrives-is u x p (body.Control control) is = by_ack control.ack
  where
    by_ack : (b : Bool) → (if b then answers_host x p u else operates x control u)
        ≡ state_of (if b then lone u (answered_at u x p) else lone (operated u x control) (answering_at u x (acknowledgement u x control)))
    by_ack true = comes-is u x p
    by_ack false = pends-is (operated u x control) x (acknowledgement u x control)
arrives-is u x p (body.Management m) is = comes-is u x p

passes-is : (u : State) (d vc : ℕ) (p : Packet) (outcome : Outcome) → IsMessage p.body →
    passes (end_of u.tree.links d) vc (entry_of false p) outcome u ≡ state_of (passed u d vc p outcome)
passes-is u d vc p (Passes e on) is = refl
passes-is u d vc p (Returns back) is = pends-is u (end_of u.tree.links d) back
passes-is u d vc p Arrives is = arrives-is u (end_of u.tree.links d) p p.body is
passes-is u d vc p Ends is = refl

after-hop : (w : State) (q : ℕ) (p : Packet) → Base w → FitsStage w (UnderWay q false p) →
    after (with_message w (UnderWay q false p)) (Hop q) ≡ state_of (goes_on_from w (UnderWay q false p))
unfolding after
after-hop w q p base fits =
    let v = with_message w (UnderWay q false p) in
    let e = entry_of false p in
    let work : Passing = passing w.tree w.nodes (link_of_queue q) p in
    ap (λ (es : List Entry). hops q es v) (content-at w q e base fits.1)
    ∙ ap (λ (qs : List (List Entry)). passes (end_of w.tree.links (link_of_queue q)) (channel_of q) e work.outcome (record w { queues = qs; nodes = work.nodes }))
    (queue-back w q (queue_at w.queues q ++ e ∷ []) base)
    ∙ passes-is (record w { nodes = work.nodes }) (link_of_queue q) (channel_of q) p work.outcome fits.0

-- ---- all

at-next : (w : State) (stage : Stage) (f e : Event) → f ≡ e → after (with_message w stage) f ≡ state_of (goes_on_from w stage) →
    after (with_message w stage) e ≡ state_of (goes_on_from w stage)
at-next w stage f e same is = ap (after (with_message w stage)) (sym same) ∙ is

pub after-next : (w : State) (stage : Stage) (e : Event) → Base w → FitsStage w stage → next_event stage ≡ Some e →
    after (with_message w stage) e ≡ state_of (goes_on_from w stage)
after-next w (Asking x p) e base fits is = at-next w (Asking x p) (Ask x) e (some-same (Ask x) e is) (after-ask w x p fits.1.0 base fits.1.1)
after-next w (UnderWay q true p) e base fits is = at-next w (UnderWay q true p) (Lose q) e (some-same (Lose q) e is) (after-lose w q p base fits)
after-next w (UnderWay q false p) e base fits is = at-next w (UnderWay q false p) (Hop q) e (some-same (Hop q) e is) (after-hop w q p base fits)
after-next w (Answering x p) e base fits is =
    at-next w (Answering x p) (Reply x) e (some-same (Reply x) e is) (after-reply w x p fits.1.0 base fits.1.1)
after-next w (Answered x p) e base fits is = let z : ◌≡◌ {A = Option Event} None (Some e) = is in absurd cc
after-next w Gone e base fits is = let z : ◌≡◌ {A = Option Event} None (Some e) = is in absurd cc
