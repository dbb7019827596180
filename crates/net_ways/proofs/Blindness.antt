-- What becomes of an entry that isn't of a stream, the stream doesn't see.
use Rattle.std.proofs.Common.{◌≡◌, ◌≢◌, ℕ, ◌==◌, Bool, true, false, List, [], ◌∷◌, ◌++◌, length, refl, sym, ◌∙◌, ap, subst, eq-eqb, if◌then◌else◌}
use Rattle.std.specs.Prelude.{Option, Some, None, nat_lt}
use Rattle.std.specs.Option.{option_map_or}
use Rattle.std.proofs.lemmas.Bool.{eqb-true, false≢true}
use Rattle.std.proofs.lemmas.List.{get_or-set_other}
use Rattle.std.proofs.lemmas.List.Quantifiers.{position-Some}
use Rattle.chdr_packets.specs.declared.packet.Body.{Body}
use Rattle.chdr_packets.specs.declared.packet.Body.TheVariants as body
use Rattle.chdr_packets.specs.declared.packet.Packet.{Packet}
use Rattle.chdr_words.specs.declared.control.Control.{Control}
use Rattle.chdr_words.specs.declared.epid.Epid.{Epid}
use Rattle.chdr_words.specs.declared.management.Management.{Management}
use Rattle.net_nodes.specs.declared.site.Done.{Done}
use Rattle.net_nodes.specs.declared.site.Done.TheVariants.{Forward, Return, NoSuchPort, Dead}
use Rattle.net_topology.specs.Leads.{sent_on}
use Rattle.net_topology.specs.Links.{end_of, link_at}
use Rattle.net_machine.specs.declared.plan.RunPlan.{RunPlan}
use Rattle.net_machine.specs.Effects.{after, answers_host, arrives, leaves, loses_front, on_any_stream, on_node, on_stream, operates, passes, pends, stream_of}
use Rattle.net_machine.specs.Nodes.{exits_of, is_host_at, is_switch, own_epid, route_from}
use Rattle.net_machine.specs.Passing.{Outcome, Passes, Returns, Arrives, Ends, by_table, goes_on, leaves_by, passing, passing_by, walked_by, walking}
use Rattle.net_machine.specs.Plans.{is_from, is_to, no_stream, plan_at, stream_from, stream_to}
use Rattle.net_machine.specs.Queues.{channel_of, link_of_queue, queue_of}
use Rattle.net_machine.specs.State.{Entry, Node, State, Stream, idle, stream_at}
use Rattle.net_machine.specs.Streams.{counts_in, gets, gets_order, gets_status, loses, told_in}
use Rattle.net_ways.specs.Hops.{IsUnseen}
use Rattle.net_ways.specs.Unseen.{HopsUnseen, IsElsewhere, IsForeign, JoinsUnseen, LeavesUnseen, LossesUnseen, NodesUnseen, StreamsUnseen, UnseenTwice}
use Rattle.net_ways.specs.Ways.{back_way, forward_way, is_ahead, is_back, pick_ahead, pick_back, picked}
use Rattle.net_ways.proofs.Moving.{hop-passes, less-unseen, more-unseen}

pub unseen-self : (w : State) (t : ℕ) → IsUnseen w w t
unseen-self w t = record { plan = refl; tree = refl; stream = refl; ahead = refl; back = refl }

pub unseen-twice : UnseenTwice
unseen-twice w v u t first second = record {
  plan = second.plan ∙ first.plan;
  tree = second.tree ∙ first.tree;
  stream = second.stream ∙ first.stream;
  ahead = second.ahead ∙ first.ahead;
  back = second.back ∙ first.back;
}

pub streams-unseen : StreamsUnseen
streams-unseen w s t next other = record {
  plan = refl;
  tree = refl;
  stream = get_or-set_other w.streams s t (next (stream_at w s)) idle other;
  ahead = refl;
  back = refl;
}

pub nodes-unseen : NodesUnseen
nodes-unseen w x t next = record { plan = refl; tree = refl; stream = refl; ahead = refl; back = refl }

none-picked : (test : Bool) (e : Entry) → test ≡ false → picked test e ≡ []
none-picked test e is = rw is refl

pub joins-unseen : JoinsUnseen
joins-unseen w t q e foreign = record {
  plan = refl;
  tree = refl;
  stream = refl;
  ahead = more-unseen (pick_ahead (plan_at w.plan t)) w.queues (forward_way w.tree (plan_at w.plan t)) q e (none-picked _ e foreign.ahead);
  back = more-unseen (pick_back (plan_at w.plan t)) w.queues (back_way w.tree (plan_at w.plan t)) q e (none-picked _ e foreign.back);
}

pub leaves-unseen : LeavesUnseen
leaves-unseen w t q e rest is foreign = record {
  plan = refl;
  tree = refl;
  stream = refl;
  ahead = less-unseen (pick_ahead (plan_at w.plan t)) w.queues (forward_way w.tree (plan_at w.plan t)) q e rest is (none-picked _ e foreign.ahead);
  back = less-unseen (pick_back (plan_at w.plan t)) w.queues (back_way w.tree (plan_at w.plan t)) q e rest is (none-picked _ e foreign.back);
}

-- ---- at a node

pends-unseen : (x : ℕ) (p : Packet) (w : State) (t : ℕ) → IsUnseen w (pends x p w) t
pends-unseen x p w t = by_route (route_from w.tree w.nodes x p.dst)
  where
    by_route : (o : Option ℕ) → IsUnseen w (option_map_or (λ (d : ℕ). on_node x (λ (n : Node). record n { pending = n.pending ++ p ∷ [] }) w) o w) t
    by_route None = unseen-self w t
    by_route (Some d) = nodes-unseen w x t (λ (n : Node). record n { pending = n.pending ++ p ∷ [] })

answers-unseen : (x : ℕ) (p : Packet) (w : State) (t : ℕ) → IsUnseen w (answers_host x p w) t
answers-unseen x p w t = by_host (is_host_at w.tree x)
  where
    by_host : (b : Bool) → IsUnseen w (if b then on_node x (λ (n : Node). record n { answers = n.answers ++ p ∷ [] }) w else w) t
    by_host true = nodes-unseen w x t (λ (n : Node). record n { answers = n.answers ++ p ∷ [] })
    by_host false = unseen-self w t

operates-unseen : (x : ℕ) (c : Control) (w : State) (t : ℕ) → IsUnseen w (operates x c w) t
operates-unseen x c w t =
    unseen-twice w (record w { banks = _ }) (operates x c w) t
    (record { plan = refl; tree = refl; stream = refl; ahead = refl; back = refl })
    (pends-unseen x _ (record w { banks = _ }) t)

any-unseen : (o : Option ℕ) (next : Stream → Stream) (w : State) (t : ℕ) → o ≢ Some t → IsUnseen w (on_any_stream o next w) t
any-unseen None next w t other = unseen-self w t
any-unseen (Some s) next w t other = streams-unseen w s t next (λ e. other (ap Some (sym e)))

heard-unseen : (o : Option ℕ) (next : ℕ → Stream → Stream) (w : State) (t : ℕ) → o ≢ Some t →
    IsUnseen w (option_map_or (λ (s : ℕ). on_stream s (next s) w) o w) t
heard-unseen None next w t other = unseen-self w t
heard-unseen (Some s) next w t other = streams-unseen w s t (next s) (λ e. other (ap Some (sym e)))

arrives-unseen : (x : ℕ) (e : Entry) (b : Body) (w : State) (t : ℕ) → IsElsewhere w x t b → IsUnseen w (arrives x e b w) t
arrives-unseen x e (body.Samples time payload) w t other = any-unseen (stream_to w.plan (own_epid w.tree x)) (gets e.packet) w t other
arrives-unseen x e (body.Command c) w t other = any-unseen (stream_to w.plan (own_epid w.tree x)) (gets_order c.op (counts_in e.tag)) w t other
arrives-unseen x e (body.Status status) w t other =
    heard-unseen (stream_from w.plan (own_epid w.tree x)) (λ (s : ℕ). gets_status (plan_at w.plan s) (told_in e.tag)) w t other
arrives-unseen x e (body.Control control) w t other = by_ack control.ack
  where
    by_ack : (b : Bool) → IsUnseen w (if b then answers_host x e.packet w else operates x control w) t
    by_ack true = answers-unseen x e.packet w t
    by_ack false = operates-unseen x control w t
arrives-unseen x e (body.Management m) w t other = answers-unseen x e.packet w t

-- ---- what becomes of it

-- what may become of an entry that stream t doesn't see
abbrev IsBlindOutcome : State → ℕ → ℕ → Entry → Outcome → Type 0
IsBlindOutcome w x t e (Passes d p) = IsForeign (plan_at w.plan t) (record e { packet = p })
IsBlindOutcome w x t e (Returns p) = Unit {0}
IsBlindOutcome w x t e Arrives = IsElsewhere w x t e.packet.body
IsBlindOutcome w x t e Ends = Unit {0}

passes-unseen : (x vc : ℕ) (e : Entry) (o : Outcome) (w : State) (t : ℕ) → IsBlindOutcome w x t e o → IsUnseen w (passes x vc e o w) t
passes-unseen x vc e (Passes d p) w t h = joins-unseen w t (queue_of d vc) (record e { packet = p }) h
passes-unseen x vc e (Returns p) w t h = pends-unseen x p w t
passes-unseen x vc e Arrives w t h = arrives-unseen x e e.packet.body w t h
passes-unseen x vc e Ends w t h = unseen-self w t

blind-over : (w : State) (x t : ℕ) (e : Entry) (p : Packet) → IsForeign (plan_at w.plan t) (record e { packet = p }) → (o : Option ℕ) →
    IsBlindOutcome w x t e (option_map_or (λ (d : ℕ). Passes d p) o Ends)
blind-over w x t e p none None = tt
blind-over w x t e p none (Some d) = none

blind-goes : (w : State) (t d : ℕ) (e : Entry) → IsForeign (plan_at w.plan t) e →
    (is_switch w.tree (end_of w.tree.links d) ≡ false → IsElsewhere w (end_of w.tree.links d) t e.packet.body) →
    IsBlindOutcome w (end_of w.tree.links d) t e (goes_on w.tree w.nodes d e.packet).outcome
blind-goes w t d e none other = by_sort (is_switch w.tree (end_of w.tree.links d)) refl
  where
    by_sort : (b : Bool) → is_switch w.tree (end_of w.tree.links d) ≡ b →
        IsBlindOutcome w (end_of w.tree.links d) t e (if b then by_table w.tree w.nodes d e.packet else Arrives)
    by_sort true is = blind-over w (end_of w.tree.links d) t e e.packet none (sent_on w.tree (exits_of w.nodes) e.packet.dst d)
    by_sort false is = other is

blind-leaves : (w : State) (t x : ℕ) (e : Entry) (p : Packet) (m : Management) (how : Done) → IsBlindOutcome w x t e (leaves_by w.tree x p m how)
blind-leaves w t x e p m (Forward port) = blind-over w x t e (walking p m) (record { ahead = refl; back = refl }) (link_at w.tree.links x port)
blind-leaves w t x e p m Return = tt
blind-leaves w t x e p m (NoSuchPort port) = tt
blind-leaves w t x e p m Dead = tt

blind-passing : (w : State) (t d : ℕ) (e : Entry) (b : Body) → IsForeign (plan_at w.plan t) e →
    (is_switch w.tree (end_of w.tree.links d) ≡ false → IsElsewhere w (end_of w.tree.links d) t e.packet.body) →
    IsBlindOutcome w (end_of w.tree.links d) t e (passing_by w.tree w.nodes d e.packet b).outcome
blind-passing w t d e (body.Samples time payload) none other = blind-goes w t d e none other
blind-passing w t d e (body.Command c) none other = blind-goes w t d e none other
blind-passing w t d e (body.Status status) none other = blind-goes w t d e none other
blind-passing w t d e (body.Control control) none other = blind-goes w t d e none other
blind-passing w t d e (body.Management m) none other = by_epid (e.packet.dst.0 == 0) (nat_lt (length m.hops) 2)
  where
    by_epid : (b c : Bool) → IsBlindOutcome w (end_of w.tree.links d) t e (if b
        then (if c then record { outcome = Ends; nodes = w.nodes } else walked_by w.tree w.nodes d e.packet m)
        else goes_on w.tree w.nodes d e.packet).outcome
    by_epid true true = tt
    by_epid true false = blind-leaves w t (end_of w.tree.links d) e e.packet _ _
    by_epid false c = blind-goes w t d e none other

with-nodes : (w v : State) (t : ℕ) (nodes : List Node) → IsUnseen w v t → IsUnseen w (record v { nodes = nodes }) t
with-nodes w v t nodes same =
    record { plan = same.plan; tree = same.tree; stream = same.stream; ahead = same.ahead; back = same.back }

pub hops-unseen : HopsUnseen
hops-unseen w t q e rest is foreign elsewhere =
    let x = end_of w.tree.links (link_of_queue q) in
    let passed = passing w.tree w.nodes (link_of_queue q) e.packet in
    let left = record (leaves q rest w) { nodes = passed.nodes } in
    subst (λ (v : State). IsUnseen w v t) (sym (hop-passes w q e rest passed is refl))
    (unseen-twice w left (passes x (channel_of q) e passed.outcome left) t
    (with-nodes w (leaves q rest w) t passed.nodes (leaves-unseen w t q e rest is foreign))
    (passes-unseen x (channel_of q) e passed.outcome left t (blind-passing w t (link_of_queue q) e e.packet.body foreign elsewhere)))

-- ---- losses

-- the stream that is found at an EPID begins, or ends, there
found-to : (plan : RunPlan) (epid : Epid) (t : ℕ) → stream_to plan epid ≡ Some t → (epid.0 == (plan_at plan t).to.0) ≡ true
found-to plan epid t found =
    eq-eqb epid.0 (plan_at plan t).to.0 (sym (eqb-true (plan_at plan t).to.0 epid.0 (position-Some (is_to epid) plan.streams t no_stream found).1))

found-from : (plan : RunPlan) (epid : Epid) (t : ℕ) → stream_from plan epid ≡ Some t → (epid.0 == (plan_at plan t).from.0) ≡ true
found-from plan epid t found =
    eq-eqb epid.0 (plan_at plan t).from.0 (sym (eqb-true (plan_at plan t).from.0 epid.0 (position-Some (is_from epid) plan.streams t no_stream found).1))

not-of : (w : State) (t : ℕ) (p : Packet) (b : Body) → is_ahead (plan_at w.plan t) p.dst b ≡ false → is_back (plan_at w.plan t) p.dst b ≡ false →
    stream_of w p b ≢ Some t
not-of w t p (body.Samples time payload) ahead back = λ found. false≢true (sym ahead ∙ found-to w.plan p.dst t found)
not-of w t p (body.Command c) ahead back = λ found. false≢true (sym ahead ∙ found-to w.plan p.dst t found)
not-of w t p (body.Status status) ahead back = λ found. false≢true (sym back ∙ found-from w.plan p.dst t found)
not-of w t p (body.Control control) ahead back = λ found. let z : ◌≡◌ {A = Option ℕ} None (Some t) = found in cc
not-of w t p (body.Management m) ahead back = λ found. let z : ◌≡◌ {A = Option ℕ} None (Some t) = found in cc

pub losses-unseen : LossesUnseen
unfolding after
losses-unseen w t q e rest is foreign =
    subst (λ (entries : List Entry). IsUnseen w (loses_front q entries w) t) (sym is)
    (unseen-twice w (leaves q rest w) (on_any_stream (stream_of w e.packet e.packet.body) (loses e) (leaves q rest w)) t
    (leaves-unseen w t q e rest is foreign)
    (any-unseen (stream_of w e.packet e.packet.body) (loses e) (leaves q rest w) t (not-of w t e.packet e.packet.body foreign.ahead foreign.back)))
