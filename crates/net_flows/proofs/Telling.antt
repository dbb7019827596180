-- Entries of queues go on to tell what their bodies ask.
use Rattle.std.proofs.Common.{◌≡◌, ℕ, Bool, true, false, List, [], ◌∷◌, ◌++◌, length, subst, set, if◌then◌else◌}
use Rattle.std.specs.Prelude.{Option, Some, None, nat_lt, ◌==◌}
use Rattle.std.specs.List.{AllByRecursion}
use Rattle.std.specs.Option.{option_map_or}
use Rattle.rf_base.proofs.Places.{one-set}
use Rattle.chdr_packets.specs.declared.packet.Body.{Body}
use Rattle.chdr_packets.specs.declared.packet.Body.TheVariants as body
use Rattle.chdr_packets.specs.declared.packet.Packet.{Packet}
use Rattle.chdr_words.specs.declared.management.Management.{Management}
use Rattle.net_nodes.specs.declared.site.Done.{Done}
use Rattle.net_nodes.specs.declared.site.Done.TheVariants.{Forward, Return, NoSuchPort, Dead}
use Rattle.net_topology.specs.Leads.{sent_on}
use Rattle.net_topology.specs.Links.{end_of, link_at}
use Rattle.net_machine.specs.declared.plan.RunPlan.{RunPlan}
use Rattle.net_machine.specs.Effects.{answers_host, arrives, enters_over, hops, joins, leaves, on_any_stream, on_node, operates, passes, pends}
use Rattle.net_machine.specs.Nodes.{exits_of, is_host_at, is_switch, route_from}
use Rattle.net_machine.specs.Passing.{Outcome, Passes, Returns, Arrives, Ends, by_table, goes_on, leaves_by, passing, passing_by, walked_by, walking}
use Rattle.net_machine.specs.Queues.{channel_of, link_of_queue, queue_of}
use Rattle.net_machine.specs.State.{Entry, Message, Node, State, Stream, queue_at}
use Rattle.net_ways.specs.Standing.{IsMessage}
use Rattle.net_flows.specs.Forms.{Tells}
use Rattle.net_flows.proofs.Keeping.{TellingBy}

abbrev TellsItself : RunPlan → Entry → Type 0
TellsItself plan e = Tells plan e e.packet.body

more : {A : Type 0} (P : A → Type 0) (xs : List A) (x : A) → AllByRecursion P xs → P x → AllByRecursion P (xs ++ x ∷ [])
more P [] x each here = (here, tt)
more P (y ∷ xs) x each here = (each.0, more P xs x each.1 here)

telling-set : (plan : RunPlan) (w : State) (r : ℕ) (new : List Entry) → TellingBy plan w → AllByRecursion (TellsItself plan) new →
    (q : ℕ) → AllByRecursion (TellsItself plan) (queue_at (set w.queues r new) q)
telling-set plan w r new each here =
    one-set {B = ℕ} (λ q es none. AllByRecursion (TellsItself plan) es) w.queues [] [] 0 new r each here

pub telling-joins : (plan : RunPlan) (r : ℕ) (e : Entry) (w : State) → Tells plan e e.packet.body → TellingBy plan w → TellingBy plan (joins r e w)
telling-joins plan r e w here each =
    telling-set plan w r (queue_at w.queues r ++ e ∷ []) each (more (TellsItself plan) (queue_at w.queues r) e (each r) here)

pub telling-front : (plan : RunPlan) (w : State) (q : ℕ) (e : Entry) (rest : List Entry) → queue_at w.queues q ≡ e ∷ rest → TellingBy plan w → AllByRecursion (λ (f : Entry). Tells plan f f.packet.body) (e ∷ rest)
telling-front plan w q e rest is each = subst (AllByRecursion (TellsItself plan)) is (each q)

pub telling-leaves : (plan : RunPlan) (q : ℕ) (e : Entry) (rest : List Entry) (w : State) → queue_at w.queues q ≡ e ∷ rest → TellingBy plan w → TellingBy plan (leaves q rest w)
telling-leaves plan q e rest w is each = telling-set plan w q rest each (telling-front plan w q e rest is each).1

pub telling-over : (plan : RunPlan) (o : Option ℕ) (vc : ℕ) (e : Entry) (w : State) → Tells plan e e.packet.body → TellingBy plan w →
    TellingBy plan (enters_over o vc e.marked e.packet e.tag w)
telling-over plan None vc e w here each = each
telling-over plan (Some d) vc e w here each = telling-joins plan (queue_of d vc) e w here each

-- ---- what leaves queues as they are

pub telling-any : (plan : RunPlan) (o : Option ℕ) (next : Stream → Stream) (w : State) → TellingBy plan w → TellingBy plan (on_any_stream o next w)
telling-any plan None next w each = each
telling-any plan (Some s) next w each = each

telling-pends : (plan : RunPlan) (x : ℕ) (p : Packet) (w : State) → TellingBy plan w → TellingBy plan (pends x p w)
telling-pends plan x p w each = by_route (route_from w.tree w.nodes x p.dst)
  where
    by_route : (o : Option ℕ) → TellingBy plan (option_map_or (λ (d : ℕ). on_node x (λ (n : Node). record n { pending = n.pending ++ p ∷ [] }) w) o w)
    by_route None = each
    by_route (Some d) = each

telling-answers : (plan : RunPlan) (x : ℕ) (p : Packet) (w : State) → TellingBy plan w → TellingBy plan (answers_host x p w)
telling-answers plan x p w each = by_host (is_host_at w.tree x)
  where
    by_host : (b : Bool) → TellingBy plan (if b then on_node x (λ (n : Node). record n { answers = n.answers ++ p ∷ [] }) w else w)
    by_host true = each
    by_host false = each

-- a request, an answer or a management packet comes to an end node
telling-arrives : (plan : RunPlan) (x : ℕ) (e : Entry) (b : Body) (w : State) → IsMessage b → TellingBy plan w → TellingBy plan (arrives x e b w)
telling-arrives plan x e (body.Samples time payload) w kind each = absurd kind
telling-arrives plan x e (body.Command c) w kind each = absurd kind
telling-arrives plan x e (body.Status status) w kind each = absurd kind
telling-arrives plan x e (body.Control control) w kind each = by_ack control.ack
  where
    by_ack : (b : Bool) → TellingBy plan (if b then answers_host x e.packet w else operates x control w)
    by_ack true = telling-answers plan x e.packet w each
    by_ack false = telling-pends plan x _ (record w { banks = _ }) each
telling-arrives plan x e (body.Management m) w kind each = telling-answers plan x e.packet w each

-- ---- a request, an answer or a management packet hops

-- where it goes on, it is such a packet still
abbrev IsMessageThen : Outcome → Type 0
IsMessageThen (Passes d p) = IsMessage p.body
IsMessageThen (Returns p) = Unit {0}
IsMessageThen Arrives = Unit {0}
IsMessageThen Ends = Unit {0}

pub message-tells : (plan : RunPlan) (e : Entry) (b : Body) → IsMessage b → e.tag ≡ Message → Tells plan e b
message-tells plan e (body.Samples time payload) kind tag = absurd kind
message-tells plan e (body.Command c) kind tag = absurd kind
message-tells plan e (body.Status status) kind tag = absurd kind
message-tells plan e (body.Control control) kind tag = tag
message-tells plan e (body.Management m) kind tag = tag

goes-message : (w : State) (d : ℕ) (p : Packet) → IsMessage p.body → IsMessageThen (goes_on w.tree w.nodes d p).outcome
goes-message w d p kind = by_sort (is_switch w.tree (end_of w.tree.links d))
  where
    by_way : (o : Option ℕ) → IsMessageThen (option_map_or (λ (r : ℕ). Passes r p) o Ends)
    by_way None = tt
    by_way (Some r) = kind

    by_sort : (b : Bool) → IsMessageThen (if b then by_table w.tree w.nodes d p else Arrives)
    by_sort true = by_way (sent_on w.tree (exits_of w.nodes) p.dst d)
    by_sort false = tt

leaves-message : (w : State) (x : ℕ) (p : Packet) (m : Management) (exit : Done) → IsMessageThen (leaves_by w.tree x p m exit)
leaves-message w x p m (Forward port) = by_link (link_at w.tree.links x port)
  where
    by_link : (o : Option ℕ) → IsMessageThen (option_map_or (λ (d : ℕ). Passes d (walking p m)) o Ends)
    by_link None = tt
    by_link (Some d) = tt
leaves-message w x p m Return = tt
leaves-message w x p m (NoSuchPort port) = tt
leaves-message w x p m Dead = tt

passing-message : (w : State) (d : ℕ) (p : Packet) (b : Body) → IsMessage p.body → IsMessage b → IsMessageThen (passing_by w.tree w.nodes d p b).outcome
passing-message w d p (body.Samples time payload) kind here = absurd here
passing-message w d p (body.Command c) kind here = absurd here
passing-message w d p (body.Status status) kind here = absurd here
passing-message w d p (body.Control control) kind here = goes-message w d p kind
passing-message w d p (body.Management m) kind here = by_epid (p.dst.0 == 0) (nat_lt (length m.hops) 2)
  where
    by_epid : (b c : Bool) → IsMessageThen (if b
        then (if c then record { outcome = Ends; nodes = w.nodes } else walked_by w.tree w.nodes d p m)
        else goes_on w.tree w.nodes d p).outcome
    by_epid true true = tt
    by_epid true false = leaves-message w (end_of w.tree.links d) p _ _
    by_epid false c = goes-message w d p kind

passes-telling : (plan : RunPlan) (x vc : ℕ) (e : Entry) (o : Outcome) (v : State) → e.tag ≡ Message → IsMessage e.packet.body → IsMessageThen o → TellingBy plan v → TellingBy plan (passes x vc e o v)
passes-telling plan x vc e (Passes d p) v tag kind then_it each =
    telling-joins plan (queue_of d vc) (record e { packet = p }) v (message-tells plan (record e { packet = p }) p.body then_it tag) each
passes-telling plan x vc e (Returns p) v tag kind then_it each = telling-pends plan x p v each
passes-telling plan x vc e Arrives v tag kind then_it each = telling-arrives plan x e e.packet.body v kind each
passes-telling plan x vc e Ends v tag kind then_it each = each

pub telling-message : (plan : RunPlan) (w : State) (q : ℕ) (e : Entry) (rest : List Entry) → queue_at w.queues q ≡ e ∷ rest → e.tag ≡ Message → IsMessage e.packet.body → TellingBy plan w →
    TellingBy plan (hops q (e ∷ rest) w)
telling-message plan w q e rest is tag kind each =
    let passed = passing w.tree w.nodes (link_of_queue q) e.packet in
    passes-telling plan (end_of w.tree.links (link_of_queue q)) (channel_of q) e passed.outcome (record (leaves q rest w) { nodes = passed.nodes }) tag kind
    (passing-message w (link_of_queue q) e.packet e.packet.body kind kind) (telling-leaves plan q e rest w is each)
