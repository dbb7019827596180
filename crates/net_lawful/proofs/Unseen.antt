-- Once a management packet is asked no stream sees what happens, and each stays a run.
use Rattle.std.proofs.Common.{◌≡◌, ℕ, ◌+◌, ◌<◌, Bool, true, false, IsTrue, List, [], ◌∷◌, ◌++◌, length, refl, sym, ◌∙◌, ap, subst, get_or, if◌then◌else◌}
use Rattle.std.specs.Prelude.{Option, Some, None}
use Rattle.std.specs.List.{AllByRecursion}
use Rattle.std.specs.Option.{option_map_or}
use Rattle.std.proofs.lemmas.Bool.{false≢true}
use Rattle.block_registers.specs.Registers.{Registers}
use Rattle.chdr_packets.specs.declared.packet.Body.{Body}
use Rattle.chdr_packets.specs.declared.packet.Body.TheVariants as body
use Rattle.chdr_packets.specs.declared.packet.Packet.{Packet}
use Rattle.net_topology.specs.Links.{end_of, link_at}
use Rattle.net_topology.specs.Tree.{IsTree}
use Rattle.net_topology.specs.declared.plan.Plan.{Plan}
use Rattle.net_faults.specs.declared.fault.Fault.{Fault}
use Rattle.net_machine.specs.declared.event.Event.{Event}
use Rattle.net_machine.specs.declared.event.Event.TheVariants.{Enter, Hop, Seen, Feed, Report, Command, Lose, Reply, Ask}
use Rattle.net_machine.specs.declared.plan.RunPlan.{RunPlan}
use Rattle.net_machine.specs.declared.plan.StreamPlan.{StreamPlan}
use Rattle.net_machine.specs.Conditions.{can_order, can_send, enabled, has_place_from, may}
use Rattle.net_machine.specs.Effects.{after, answers_host, arrives, asks_first, enters_over, hops, leaves, loses_front, on_any_stream, on_node, operates, passes, pends, replies_first, stream_of}
use Rattle.net_machine.specs.Front.{front, front_at}
use Rattle.net_machine.specs.Moves.{Happens}
use Rattle.net_machine.specs.Nodes.{is_host_at, route_from}
use Rattle.net_machine.specs.Passing.{Outcome, Passes, Returns, Arrives, Ends, passing}
use Rattle.net_machine.specs.Plans.{plan_at}
use Rattle.net_machine.specs.Queues.{back_vc, channel_of, forward_vc, link_of_queue, queue_count, queue_of}
use Rattle.net_machine.specs.State.{Entry, Message, Node, State, Stream, Tag, idle, node_at, queue_at, stream_at}
use Rattle.net_machine.specs.Streams.{loses}
use Rattle.net_machine.proofs.Laws.{shape_stays}
use Rattle.net_ways.specs.Hops.{IsUnseen}
use Rattle.net_ways.specs.Standing.{AreMessages, IsMessage}
use Rattle.net_ways.specs.Unseen.{IsElsewhere, IsForeign}
use Rattle.net_ways.proofs.Laws.{hops_unseen, joins_unseen, losses_unseen, messages_stay, nodes_unseen, unseen_twice}
use Rattle.net_flows.specs.Flows.{IsSteady, UnseenFlows}
use Rattle.net_flows.specs.Forms.{HasForm, Tells}
use Rattle.net_flows.specs.Lasting.{IsSound}
use Rattle.net_lawful.specs.Walking.{AreStilled, IsNoStreams, StilledIsUnseen}
use Rattle.net_lawful.proofs.Entering.{Puts, entries-stay}
use Rattle.net_lawful.proofs.Messages.{answer-is, first-true, request-is}
use Rattle.net_lawful.proofs.Stilling.{stilled-same}

-- ---- only messages move

-- an event moves a message, or loses one
abbrev pub IsMover : Event → Type 0
IsMover (Enter s) = ⊥
IsMover (Hop q) = Unit {0}
IsMover (Seen s n) = ⊥
IsMover (Feed b i) = ⊥
IsMover (Report s) = ⊥
IsMover (Command s op) = ⊥
IsMover (Lose q) = Unit {0}
IsMover (Reply x) = Unit {0}
IsMover (Ask x) = Unit {0}

never : (b : Bool) → b ≡ true → b ≡ false → ⊥
never b yes_it no_it = false≢true (sym no_it ∙ yes_it)

pub only-moves : (w : State) (e : Event) → AreStilled w → IsTrue (enabled w e) → IsMover e
unfolding may
only-moves w (Enter s) stilled may_it =
    let st = front_at (front w) s in
    never (can_send (plan_at w.plan s).flow st st.ready) (first-true (can_send (plan_at w.plan s).flow st st.ready) (has_place_from (front w) forward_vc (plan_at w.plan s).from) may_it) (stilled.sends s)
only-moves w (Hop q) stilled may_it = tt
only-moves w (Seen s n) stilled may_it = never _ may_it (stilled.sees s n)
only-moves w (Feed b i) stilled may_it = never _ may_it (stilled.feeds b i)
only-moves w (Report s) stilled may_it =
    never (front_at (front w) s).due (first-true (front_at (front w) s).due (has_place_from (front w) back_vc (plan_at w.plan s).to) may_it) (stilled.reports s)
only-moves w (Command s op) stilled may_it =
    never (can_order (front w) s op) (first-true (can_order (front w) s op) (has_place_from (front w) forward_vc (plan_at w.plan s).from) may_it) (stilled.orders s op)
only-moves w (Lose q) stilled may_it = tt
only-moves w (Reply x) stilled may_it = tt
only-moves w (Ask x) stilled may_it = tt

front-is : (w : State) (q : ℕ) (e : Entry) (rest : List Entry) → AreStilled w → queue_at w.queues q ≡ e ∷ rest → IsNoStreams e.tag e.packet
front-is w q e rest stilled is = (subst (AllByRecursion (λ (f : Entry). IsNoStreams f.tag f.packet)) is (stilled.queued q)).0

-- ---- no stream changes

pends-same : (x : ℕ) (p : Packet) (w : State) → (pends x p w).streams ≡ w.streams
pends-same x p w = by_route (route_from w.tree w.nodes x p.dst)
  where
    by_route : (o : Option ℕ) → (option_map_or (λ (d : ℕ). on_node x (λ (n : Node). record n { pending = n.pending ++ p ∷ [] }) w) o w).streams ≡ w.streams
    by_route None = refl
    by_route (Some d) = refl

answers-same : (x : ℕ) (p : Packet) (w : State) → (answers_host x p w).streams ≡ w.streams
answers-same x p w = by_host (is_host_at w.tree x)
  where
    by_host : (b : Bool) → (if b then on_node x (λ (n : Node). record n { answers = n.answers ++ p ∷ [] }) w else w).streams ≡ w.streams
    by_host true = refl
    by_host false = refl

arrives-same : (x : ℕ) (e : Entry) (b : Body) (w : State) → IsMessage b → (arrives x e b w).streams ≡ w.streams
arrives-same x e (body.Samples time payload) w is = absurd is
arrives-same x e (body.Command c) w is = absurd is
arrives-same x e (body.Status status) w is = absurd is
arrives-same x e (body.Control control) w is = by_ack control.ack
  where
    by_ack : (b : Bool) → (if b then answers_host x e.packet w else operates x control w).streams ≡ w.streams
    by_ack true = answers-same x e.packet w
    by_ack false = pends-same x _ (record w { banks = _ })
arrives-same x e (body.Management m) w is = answers-same x e.packet w

passes-same : (x vc : ℕ) (e : Entry) (o : Outcome) (w : State) → IsMessage e.packet.body → (passes x vc e o w).streams ≡ w.streams
passes-same x vc e (Passes d p) w is = refl
passes-same x vc e (Returns p) w is = pends-same x p w
passes-same x vc e Arrives w is = arrives-same x e e.packet.body w is
passes-same x vc e Ends w is = refl

lost-same : (w u : State) (p : Packet) (b : Body) (next : Stream → Stream) → IsMessage b → (on_any_stream (stream_of w p b) next u).streams ≡ u.streams
lost-same w u p (body.Samples time payload) next is = absurd is
lost-same w u p (body.Command c) next is = absurd is
lost-same w u p (body.Status status) next is = absurd is
lost-same w u p (body.Control control) next is = refl
lost-same w u p (body.Management m) next is = refl

hops-same : (w : State) (q : ℕ) (entries : List Entry) → queue_at w.queues q ≡ entries → AreStilled w → (hops q entries w).streams ≡ w.streams
hops-same w q [] is stilled = refl
hops-same w q (e ∷ rest) is stilled =
    let passed = passing w.tree w.nodes (link_of_queue q) e.packet in
    passes-same (end_of w.tree.links (link_of_queue q)) (channel_of q) e passed.outcome (record (leaves q rest w) { nodes = passed.nodes }) (front-is w q e rest stilled is).body

loses-same : (w : State) (q : ℕ) (entries : List Entry) → queue_at w.queues q ≡ entries → AreStilled w → (loses_front q entries w).streams ≡ w.streams
loses-same w q [] is stilled = refl
loses-same w q (e ∷ rest) is stilled = lost-same w (leaves q rest w) e.packet e.packet.body (loses e) (front-is w q e rest stilled is).body

over-same : (x : ℕ) (next : Node → Node) (o : Option ℕ) (vc : ℕ) (marked : Bool) (p : Packet) (tag : Tag) (w : State) → (on_node x next (enters_over o vc marked p tag w)).streams ≡ w.streams
over-same x next None vc marked p tag w = refl
over-same x next (Some d) vc marked p tag w = refl

asks-same : (w : State) (x : ℕ) (packets : List Packet) → (asks_first x packets w).streams ≡ w.streams
asks-same w x [] = refl
asks-same w x (p ∷ rest) = over-same x (λ (n : Node). record n { requests = rest }) (link_at w.tree.links x 0) _ _ p Message (record w { requests = w.requests + 1 })

replies-same : (w : State) (x : ℕ) (packets : List Packet) → (replies_first x packets w).streams ≡ w.streams
replies-same w x [] = refl
replies-same w x (p ∷ rest) = over-same x (λ (n : Node). record n { pending = rest }) (route_from w.tree w.nodes x p.dst) _ _ p Message (record w { answers = w.answers + 1 })

pub streams-same : (w : State) (e : Event) → IsMover e → AreStilled w → (after w e).streams ≡ w.streams
unfolding after
streams-same w (Enter s) moves stilled = absurd moves
streams-same w (Hop q) moves stilled = hops-same w q (queue_at w.queues q) refl stilled
streams-same w (Seen s n) moves stilled = absurd moves
streams-same w (Feed b i) moves stilled = absurd moves
streams-same w (Report s) moves stilled = absurd moves
streams-same w (Command s op) moves stilled = absurd moves
streams-same w (Lose q) moves stilled = loses-same w q (queue_at w.queues q) refl stilled
streams-same w (Reply x) moves stilled = replies-same w x (node_at w x).pending
streams-same w (Ask x) moves stilled = asks-same w x (node_at w x).requests

-- ---- no stream sees it

foreign : (plan : StreamPlan) (e : Entry) → IsMessage e.packet.body → IsForeign plan e
foreign plan e is = by_body e.packet.body refl is
  where
    by_body : (b : Body) → e.packet.body ≡ b → IsMessage b → IsForeign plan e
    by_body (body.Samples time payload) same is = absurd is
    by_body (body.Command c) same is = absurd is
    by_body (body.Status status) same is = absurd is
    by_body (body.Control control) same is = record { ahead = rw same refl; back = rw same refl }
    by_body (body.Management m) same is = record { ahead = rw same refl; back = rw same refl }

elsewhere : (w : State) (x t : ℕ) (b : Body) → IsMessage b → IsElsewhere w x t b
elsewhere w x t (body.Samples time payload) is = absurd is
elsewhere w x t (body.Command c) is = absurd is
elsewhere w x t (body.Status status) is = absurd is
elsewhere w x t (body.Control control) is = tt
elsewhere w x t (body.Management m) is = tt

self : (w : State) (t : ℕ) → IsUnseen w w t
self w t = record { plan = refl; tree = refl; stream = refl; ahead = refl; back = refl }

-- a message leaves a node and enters
left-unseen : (w u : State) (t x : ℕ) (next : Node → Node) (o : Option ℕ) (vc : ℕ) (marked : Bool) (p : Packet) → IsMessage p.body → IsUnseen w u t → u.plan ≡ w.plan →
    IsUnseen w (on_node x next (enters_over o vc marked p Message u)) t
left-unseen w u t x next None vc marked p is unseen plan = unseen_twice w u (on_node x next u) t unseen (nodes_unseen u x t next)
left-unseen w u t x next (Some d) vc marked p is unseen plan =
    let e : Entry = record { packet = p; marked = marked; tag = Message } in
    let joined = joins_unseen u t (queue_of d vc) e (foreign (plan_at u.plan t) e is) in
    let v = enters_over (Some d) vc marked p Message u in
    unseen_twice w u (on_node x next v) t unseen (unseen_twice u v (on_node x next v) t joined (nodes_unseen v x t next))

asks-unseen : (w : State) (x t : ℕ) (packets : List Packet) → (node_at w x).requests ≡ packets → IsSteady w → IsUnseen w (asks_first x packets w) t
asks-unseen w x t [] is steady = self w t
asks-unseen w x t (p ∷ rest) is steady =
    left-unseen w (record w { requests = w.requests + 1 }) t x (λ (n : Node). record n { requests = rest }) (link_at w.tree.links x 0) _ _ p (request-is w x p rest steady is) (record { plan = refl; tree = refl; stream = refl; ahead = refl; back = refl }) refl

replies-unseen : (w : State) (x t : ℕ) (packets : List Packet) → (node_at w x).pending ≡ packets → IsSteady w → IsUnseen w (replies_first x packets w) t
replies-unseen w x t [] is steady = self w t
replies-unseen w x t (p ∷ rest) is steady =
    left-unseen w (record w { answers = w.answers + 1 }) t x (λ (n : Node). record n { pending = rest }) (route_from w.tree w.nodes x p.dst) _ _ p (answer-is w x p rest steady is) (record { plan = refl; tree = refl; stream = refl; ahead = refl; back = refl }) refl

hop-unseen : (w : State) (q t : ℕ) (entries : List Entry) → queue_at w.queues q ≡ entries → AreStilled w → IsUnseen w (after w (Hop q)) t
unfolding after
hop-unseen w q t [] is stilled = subst (λ v. IsUnseen w v t) (sym (ap (λ es. hops q es w) is)) (self w t)
hop-unseen w q t (e ∷ rest) is stilled =
    let here = front-is w q e rest stilled is in
    hops_unseen w t q e rest is (foreign (plan_at w.plan t) e here.body) (λ ends. elsewhere w (end_of w.tree.links (link_of_queue q)) t e.packet.body here.body)

lose-unseen : (w : State) (q t : ℕ) (entries : List Entry) → queue_at w.queues q ≡ entries → AreStilled w → IsUnseen w (after w (Lose q)) t
unfolding after
lose-unseen w q t [] is stilled = subst (λ v. IsUnseen w v t) (sym (ap (λ es. loses_front q es w) is)) (self w t)
lose-unseen w q t (e ∷ rest) is stilled = losses_unseen w t q e rest is (foreign (plan_at w.plan t) e (front-is w q e rest stilled is).body)

moves-unseen : (w : State) (e : Event) (t : ℕ) → IsMover e → IsSteady w → AreStilled w → IsUnseen w (after w e) t
unfolding after
moves-unseen w (Enter s) t moves steady stilled = absurd moves
moves-unseen w (Hop q) t moves steady stilled = hop-unseen w q t (queue_at w.queues q) refl stilled
moves-unseen w (Seen s n) t moves steady stilled = absurd moves
moves-unseen w (Feed b i) t moves steady stilled = absurd moves
moves-unseen w (Report s) t moves steady stilled = absurd moves
moves-unseen w (Command s op) t moves steady stilled = absurd moves
moves-unseen w (Lose q) t moves steady stilled = lose-unseen w q t (queue_at w.queues q) refl stilled
moves-unseen w (Reply x) t moves steady stilled = replies-unseen w x t (node_at w x).pending refl steady
moves-unseen w (Ask x) t moves steady stilled = asks-unseen w x t (node_at w x).requests refl steady

pub stilled-unseen : StilledIsUnseen
stilled-unseen w e steady stilled may_it s = moves-unseen w e s (only-moves w e stilled may_it) steady stilled

-- ---- so only messages are queued then, and all stays as steady as it was

puts-messages : (w : State) (e : Event) → IsMover e → IsSteady w → Puts IsNoStreams w e
puts-messages w (Enter s) moves steady = absurd moves
puts-messages w (Hop q) moves steady = λ e rest m is here has epid two. record { body = tt; tag = here.tag }
puts-messages w (Seen s n) moves steady = absurd moves
puts-messages w (Feed b i) moves steady = absurd moves
puts-messages w (Report s) moves steady = absurd moves
puts-messages w (Command s op) moves steady = absurd moves
puts-messages w (Lose q) moves steady = tt
puts-messages w (Reply x) moves steady = λ p rest is. record { body = answer-is w x p rest steady is; tag = refl }
puts-messages w (Ask x) moves steady = λ p rest d is at. record { body = request-is w x p rest steady is; tag = refl }

pub stilled-stays : (w : State) (e : Event) → IsSteady w → IsTrue (enabled w e) → AreStilled w → AreStilled (after w e)
stilled-stays w e steady may_it stilled =
    let moves = only-moves w e stilled may_it in
    let shape = shape_stays w (Happens e) in
    stilled-same w (after w e) shape.tree shape.plan (streams-same w e moves stilled)
    (entries-stay IsNoStreams w e (puts-messages w e moves steady) stilled.queued) stilled

weaker : {A : Type 0} (P Q : A → Type 0) → ((x : A) → P x → Q x) → (xs : List A) → AllByRecursion P xs → AllByRecursion Q xs
weaker P Q less [] all = tt
weaker P Q less (x ∷ xs) all = (less x all.0, weaker P Q less xs all.1)

tells : (plan : RunPlan) (e : Entry) (b : Body) → IsMessage b → e.tag ≡ Message → Tells plan e b
tells plan e (body.Samples time payload) is tag = absurd is
tells plan e (body.Command c) is tag = absurd is
tells plan e (body.Status status) is tag = absurd is
tells plan e (body.Control control) is tag = tag
tells plan e (body.Management m) is tag = tag

pub steady-stilled : UnseenFlows → (w : State) (e : Event) → IsSteady w → IsTrue (enabled w e) → AreStilled w → IsSteady (after w e)
steady-stilled unseen w e steady may_it stilled =
    let moves = only-moves w e stilled may_it in
    let shape = shape_stays w (Happens e) in
    let streams = streams-same w e moves stilled in
    let still = stilled-stays w e steady may_it stilled in
    record {
      queues = record {
        tree = subst IsTree (sym shape.tree) steady.queues.tree;
        queues = shape.queues ∙ steady.queues.queues ∙ ap queue_count (sym shape.tree);
      };
      plan = subst (λ (t : Plan). IsSound t (after w e).plan) (sym shape.tree) (subst (λ (p : RunPlan). IsSound w.tree p) (sym shape.plan) steady.plan);
      as_many = shape.streams ∙ steady.as_many ∙ ap (λ (p : RunPlan). length p.streams) (sym shape.plan);
      messages = messages_stay w (Happens e) may_it steady.messages;
      telling = λ q. weaker (λ (f : Entry). IsNoStreams f.tag f.packet) (λ (f : Entry). Tells (after w e).plan f f.packet.body)
          (λ f is. tells (after w e).plan f f.packet.body is.body is.tag) (queue_at (after w e).queues q) (still.queued q);
      forms = λ s lt. subst (λ (all : List Stream). HasForm (after w e).plan s (get_or all s idle)) (sym streams)
          (subst (λ (p : RunPlan). HasForm p s (stream_at w s)) (sym shape.plan) (steady.forms s (subst (λ n. s < n) shape.streams lt)));
      flows = unseen w (after w e) shape.streams (λ s. moves-unseen w e s moves steady stilled) steady.flows;
    }

-- what is done from outside leaves streams and queues as they are
pub steady-outside : UnseenFlows → (w : State) (nodes : List Node) (banks : List (Option Registers)) (faults : List Fault) (requests answers : ℕ) (walked : Bool) →
    AreMessages (record w { nodes = nodes; banks = banks; faults = faults; requests = requests; answers = answers; walked = walked }) → IsSteady w →
    IsSteady (record w { nodes = nodes; banks = banks; faults = faults; requests = requests; answers = answers; walked = walked })
steady-outside unseen w nodes banks faults requests answers walked messages steady = record {
  queues = record { tree = steady.queues.tree; queues = steady.queues.queues };
  plan = steady.plan;
  as_many = steady.as_many;
  messages = messages;
  telling = steady.telling;
  forms = steady.forms;
  flows = unseen w (record w { nodes = nodes; banks = banks; faults = faults; requests = requests; answers = answers; walked = walked }) refl
      (λ s. record { plan = refl; tree = refl; stream = refl; ahead = refl; back = refl }) steady.flows;
}
