-- What hops on stays on its way.
use Rattle.std.proofs.Common.{◌≡◌, ℕ, ◌<◌, Bool, true, false, List, [], ◌∷◌, ◌++◌, length, refl, sym, ◌∙◌, ap, subst, arith, set, append-nil, if◌then◌else◌}
use Rattle.std.specs.Prelude.{Option, Some, None}
use Rattle.std.specs.Option.{option_and_then, option_map_or}
use Rattle.std.specs.List.{flat_map}
use Rattle.std.proofs.lemmas.Grind.{flat_map-append}
use Rattle.chdr_packets.specs.declared.packet.Body.{Body}
use Rattle.chdr_packets.specs.declared.packet.Body.TheVariants as body
use Rattle.chdr_packets.specs.declared.packet.Packet.{Packet}
use Rattle.chdr_words.specs.declared.epid.Epid.{Epid}
use Rattle.net_topology.specs.declared.plan.Plan.{Plan}
use Rattle.net_topology.specs.Leads.{Exits, sent_on, turned_to}
use Rattle.net_topology.specs.Links.{NoneTwice, end_of}
use Rattle.net_machine.specs.declared.event.Event.TheVariants.{Hop}
use Rattle.net_machine.specs.declared.plan.StreamPlan.{StreamPlan}
use Rattle.net_machine.specs.Effects.{after, hops, leaves, passes}
use Rattle.net_machine.specs.Nodes.{exits_of, is_switch}
use Rattle.net_machine.specs.Passing.{Passes, Arrives, Ends, Passing, by_table, goes_on, passing_by}
use Rattle.net_machine.specs.Plans.{plan_at}
use Rattle.net_machine.specs.Queues.{back_vc, channel_of, forward_vc, link_of_queue, queue_of}
use Rattle.net_machine.specs.State.{Entry, Node, State, queue_at}
use Rattle.net_machine.proofs.Laws.{queues}
use Rattle.net_ways.specs.Gather.{gather}
use Rattle.net_ways.specs.Hops.{GoesAhead, GoesBack, GoesByTable, HopsAhead, HopsBack, HopsByTable, IsUnseen, StaysOnWay, moved}
use Rattle.net_ways.specs.Ways.{HasQueues, IsLedTo, back_way, forward_way, is_ahead, is_back, pick_ahead, pick_back, picked, queues_over, way_between}
use Rattle.net_ways.proofs.Gathering.{gather-blind, gather-moves}
use Rattle.net_ways.proofs.Leading.{over-queues, way-next}

-- ---- after a Hop

has-table : (b : Bool) (o : Option ℕ) (d : ℕ) → (if b then o else None) ≡ Some d → b ≡ true
has-table true o d h = refl
has-table false o d h = let z : ◌≡◌ {A = Option ℕ} None (Some d) = h in cc

pub sent-switch : (tree : Plan) (exits : Exits) (dst : Epid) (d e : ℕ) → sent_on tree exits dst d ≡ Some e → is_switch tree (end_of tree.links d) ≡ true
sent-switch tree exits dst d e h =
    has-table (is_switch tree (end_of tree.links d)) (option_and_then (turned_to tree d) (exits (end_of tree.links d) dst)) e h

by-table : (tree : Plan) (nodes : List Node) (d e : ℕ) (p : Packet) → sent_on tree (exits_of nodes) p.dst d ≡ Some e →
    goes_on tree nodes d p ≡ record { outcome = Passes e p; nodes = nodes }
by-table tree nodes d e p h =
    ap (λ (b : Bool). record { outcome = if b then by_table tree nodes d p else Arrives; nodes = nodes }) (sent-switch tree (exits_of nodes) p.dst d e h)
    ∙ ap (λ (o : Option ℕ). record { outcome = option_map_or (λ (x : ℕ). Passes x p) o Ends; nodes = nodes }) h

pub passing-goes : (tree : Plan) (nodes : List Node) (d : ℕ) (p : Packet) (b : Body) → GoesByTable p b → passing_by tree nodes d p b ≡ goes_on tree nodes d p
passing-goes tree nodes d p (body.Samples time payload) h = refl
passing-goes tree nodes d p (body.Command c) h = refl
passing-goes tree nodes d p (body.Status status) h = refl
passing-goes tree nodes d p (body.Control control) h = refl
passing-goes tree nodes d p (body.Management m) h = rw h refl

-- what a Hop makes of how its entry passes the node
pub hop-passes : (w : State) (q : ℕ) (e : Entry) (rest : List Entry) (passed : Passing) → queue_at w.queues q ≡ e ∷ rest →
    passing_by w.tree w.nodes (link_of_queue q) e.packet e.packet.body ≡ passed →
    after w (Hop q) ≡ passes (end_of w.tree.links (link_of_queue q)) (channel_of q) e passed.outcome (record (leaves q rest w) { nodes = passed.nodes })
unfolding after
hop-passes w q e rest passed is how =
    ap (λ (entries : List Entry). hops q entries w) is
    ∙ ap (λ (p : Passing). passes (end_of w.tree.links (link_of_queue q)) (channel_of q) e p.outcome (record (leaves q rest w) { nodes = p.nodes })) how

pub hops-by_table : HopsByTable
hops-by_table w q d e rest is by h =
    hop-passes w q e rest (record { outcome = Passes d e.packet; nodes = w.nodes }) is
    (passing-goes w.tree w.nodes (link_of_queue q) e.packet e.packet.body by ∙ by-table w.tree w.nodes (link_of_queue q) d e.packet h)

-- ---- what streams pick then

-- an entry of which nothing is picked leaves a queue
pub less-unseen : {X : Type 0} (pick : Entry → List X) (lists : List (List Entry)) (qs : List ℕ) (q : ℕ) (e : Entry) (rest : List Entry) →
    queue_at lists q ≡ e ∷ rest → pick e ≡ [] → gather pick (set lists q rest) qs ≡ gather pick lists qs
less-unseen pick lists qs q e rest is none = gather-blind pick lists qs q rest (rw (is, none) refl)

-- or joins one
pub more-unseen : {X : Type 0} (pick : Entry → List X) (lists : List (List Entry)) (qs : List ℕ) (r : ℕ) (e : Entry) → pick e ≡ [] →
    gather pick (set lists r (queue_at lists r ++ e ∷ [])) qs ≡ gather pick lists qs
more-unseen pick lists qs r e none =
    gather-blind pick lists qs r (queue_at lists r ++ e ∷ [])
    (flat_map-append pick (queue_at lists r) (e ∷ []) ∙ (rw none (append-nil (flat_map pick (queue_at lists r)))))

moved-unseen : (pick : Entry → List Entry) (w : State) (qs : List ℕ) (q r : ℕ) (e : Entry) (rest : List Entry) →
    queue_at w.queues q ≡ e ∷ rest → pick e ≡ [] → gather pick (moved w q r e rest).queues qs ≡ gather pick w.queues qs
moved-unseen pick w qs q r e rest is none =
    more-unseen pick (set w.queues q rest) qs r e none ∙ less-unseen pick w.queues qs q e rest is none

pub ahead-none_back : (stream : StreamPlan) (e : Entry) (b : Body) → GoesAhead b → picked (is_back stream e.packet.dst b) e ≡ []
ahead-none_back stream e (body.Samples time payload) h = refl
ahead-none_back stream e (body.Command c) h = refl
ahead-none_back stream e (body.Status status) h = absurd h
ahead-none_back stream e (body.Control control) h = absurd h
ahead-none_back stream e (body.Management m) h = absurd h

pub back-none_ahead : (stream : StreamPlan) (e : Entry) (b : Body) → GoesBack b → picked (is_ahead stream e.packet.dst b) e ≡ []
back-none_ahead stream e (body.Samples time payload) h = absurd h
back-none_ahead stream e (body.Command c) h = absurd h
back-none_ahead stream e (body.Status status) h = refl
back-none_ahead stream e (body.Control control) h = absurd h
back-none_ahead stream e (body.Management m) h = absurd h

ahead-goes : (p : Packet) (b : Body) → GoesAhead b → GoesByTable p b
ahead-goes p (body.Samples time payload) h = tt
ahead-goes p (body.Command c) h = tt
ahead-goes p (body.Status status) h = absurd h
ahead-goes p (body.Control control) h = absurd h
ahead-goes p (body.Management m) h = absurd h

back-goes : (p : Packet) (b : Body) → GoesBack b → GoesByTable p b
back-goes p (body.Samples time payload) h = absurd h
back-goes p (body.Command c) h = absurd h
back-goes p (body.Status status) h = tt
back-goes p (body.Control control) h = absurd h
back-goes p (body.Management m) h = absurd h

-- ---- the next queue of the way

-- what a Hop does with an entry on a way along which tables lead
record OnWay (w : State) (q r : ℕ) (before behind : List ℕ) (e : Entry) (rest : List Entry) : Type 0 where
  moves : after w (Hop q) ≡ moved w q r e rest
  here : q < length w.queues
  there : r < length w.queues
  once : NoneTwice (before ++ q ∷ r ∷ behind)

pub append-one : (before : List ℕ) (q r : ℕ) (behind : List ℕ) → before ++ q ∷ r ∷ behind ≡ (before ++ q ∷ []) ++ r ∷ behind
append-one [] q r behind = refl
append-one (x ∷ before) q r behind = ap (λ xs. x ∷ xs) (append-one before q r behind)

on-way : (w : State) (a b : Epid) (vc q r : ℕ) (before behind : List ℕ) (e : Entry) (rest : List Entry) → vc < 2 →
    HasQueues w → IsLedTo w a b → queue_at w.queues q ≡ e ∷ rest → queues_over vc (way_between w.tree a b) ≡ before ++ q ∷ r ∷ behind →
    GoesByTable e.packet e.packet.body → e.packet.dst ≡ b → OnWay w q r before behind e rest
on-way w a b vc q r before behind e rest small has leads is way by to =
    let over = over-queues w a b vc small has leads in
    let step = way-next w a b vc before q r behind has leads way in
    let link : link_of_queue q ≡ step.over = ap link_of_queue step.is_over ∙ queues.link step.over vc small in
    let channel : channel_of q ≡ vc = ap channel_of step.is_over ∙ queues.channel step.over vc small in
    let sent : sent_on w.tree (exits_of w.nodes) e.packet.dst (link_of_queue q) ≡ Some step.next = rw (to, link) step.sent in
    let next : queue_of step.next (channel_of q) ≡ r = ap (queue_of step.next) channel ∙ sym step.is_next in
    record {
      moves = hops-by_table w q step.next e rest is by sent ∙ ap (λ (n : ℕ). moved w q n e rest) next;
      here = over.there before q (r ∷ behind) way;
      there = over.there (before ++ q ∷ []) r behind (way ∙ append-one before q r behind);
      once = subst NoneTwice way over.once;
    }

unseen-moved : (w : State) (s q r : ℕ) (e : Entry) (rest : List Entry) →
    gather (pick_ahead (plan_at w.plan s)) (moved w q r e rest).queues (forward_way w.tree (plan_at w.plan s))
    ≡ gather (pick_ahead (plan_at w.plan s)) w.queues (forward_way w.tree (plan_at w.plan s)) →
    gather (pick_back (plan_at w.plan s)) (moved w q r e rest).queues (back_way w.tree (plan_at w.plan s))
    ≡ gather (pick_back (plan_at w.plan s)) w.queues (back_way w.tree (plan_at w.plan s)) →
    after w (Hop q) ≡ moved w q r e rest → StaysOnWay w s q r e rest
unseen-moved w s q r e rest ahead back moves = record {
  moves = moves;
  unseen = subst (λ (v : State). IsUnseen w v s) (sym moves)
      (record { plan = refl; tree = refl; stream = refl; ahead = ahead; back = back });
}

pub hops-ahead : HopsAhead
hops-ahead w s q r before behind e rest has leads is way kind to =
    let stream = plan_at w.plan s in
    let on = on-way w stream.from stream.to forward_vc q r before behind e rest (omega arith) has leads is way (ahead-goes e.packet e.packet.body kind) to in
    let ahead : gather (pick_ahead stream) (moved w q r e rest).queues (forward_way w.tree stream) ≡ gather (pick_ahead stream) w.queues (forward_way w.tree stream) =
    rw way (gather-moves (pick_ahead stream) w.queues before q r behind e e rest on.here on.there on.once is refl) in
    unseen-moved w s q r e rest ahead
    (moved-unseen (pick_back stream) w (back_way w.tree stream) q r e rest is (ahead-none_back stream e e.packet.body kind)) on.moves

pub hops-back : HopsBack
hops-back w s q r before behind e rest has leads is way kind to =
    let stream = plan_at w.plan s in
    let on = on-way w stream.to stream.from back_vc q r before behind e rest (omega arith) has leads is way (back-goes e.packet e.packet.body kind) to in
    let back : gather (pick_back stream) (moved w q r e rest).queues (back_way w.tree stream) ≡ gather (pick_back stream) w.queues (back_way w.tree stream) =
    rw way (gather-moves (pick_back stream) w.queues before q r behind e e rest on.here on.there on.once is refl) in
    unseen-moved w s q r e rest
    (moved-unseen (pick_ahead stream) w (forward_way w.tree stream) q r e rest is (back-none_ahead stream e e.packet.body kind)) back on.moves
