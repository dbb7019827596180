-- What hops from the last queue of its way comes to its stream.
use Rattle.std.proofs.Common.{◌≡◌, ℕ, ◌<◌, Bool, false, List, [], ◌∷◌, ◌++◌, length, refl, sym, ◌∙◌, ap, subst, arith, set, eq-eqb, if◌then◌else◌}
use Rattle.std.specs.Prelude.{Option, Some, None, slice_get, unwrap_or}
use Rattle.std.specs.Option.{option_and_then, option_map_or}
use Rattle.chdr_packets.specs.declared.packet.Body.{Body}
use Rattle.chdr_packets.specs.declared.packet.Body.TheVariants as body
use Rattle.chdr_words.specs.declared.epid.Epid.{Epid}
use Rattle.net_topology.specs.Leads.{has_table}
use Rattle.net_topology.specs.Links.{NoneTwice, end_of}
use Rattle.net_topology.specs.Tree.{epid_at, epid_of}
use Rattle.net_topology.specs.declared.plan.NodePlan.{NodePlan}
use Rattle.net_topology.specs.declared.plan.NodePlan.TheVariants.{Crossbar, Adapter, Host, Endpoint}
use Rattle.net_topology.proofs.Laws.{epids_name_nodes}
use Rattle.net_machine.specs.declared.event.Event.TheVariants.{Hop}
use Rattle.net_machine.specs.declared.plan.StreamPlan.{StreamPlan}
use Rattle.net_machine.specs.Effects.{after, arrives, hears_status, leaves, on_any_stream}
use Rattle.net_machine.specs.Nodes.{is_switch, own_epid}
use Rattle.net_machine.specs.Passing.{Arrives, by_table}
use Rattle.net_machine.specs.Plans.{no_epid, plan_at, stream_from, stream_to}
use Rattle.net_machine.specs.Queues.{back_vc, forward_vc, link_of_queue}
use Rattle.net_machine.specs.State.{Entry, State, Stream, queue_at}
use Rattle.net_machine.specs.Streams.{counts_in, gets, gets_order, gets_status, told_in}
use Rattle.net_machine.proofs.Laws.{queues}
use Rattle.net_ways.specs.Gather.{gather}
use Rattle.net_ways.specs.Hops.{ComesAhead, ComesBack, CommandsCome, GoesAhead, GoesBack, GoesByTable, LeavesAhead, LeavesBack, SamplesCome, StatusesCome, taken_in}
use Rattle.net_ways.specs.Ways.{HasQueues, IsLedTo, back_way, forward_way, is_ahead, is_back, pick_ahead, pick_back, picked, queues_over, way_between}
use Rattle.net_ways.proofs.Gathering.{gather-comes}
use Rattle.net_ways.proofs.Leading.{over-queues, way-last}
use Rattle.net_ways.proofs.Moving.{ahead-none_back, back-none_ahead, hop-passes, less-unseen, passing-goes}

-- a node with an EPID has no table
no-table : (node : Option NodePlan) (epid : Epid) → option_and_then epid_of node ≡ Some epid → option_map_or has_table node false ≡ false
no-table None epid h = refl
no-table (Some (Crossbar ports)) epid h = let z : ◌≡◌ {A = Option Epid} None (Some epid) = h in cc
no-table (Some Adapter) epid h = let z : ◌≡◌ {A = Option Epid} None (Some epid) = h in cc
no-table (Some (Host own)) epid h = refl
no-table (Some (Endpoint own bank)) epid h = refl

-- the end of a way, at the node of an EPID
pub record AtEnd (w : State) (q : ℕ) (b : Epid) (before : List ℕ) : Type 0 where
  pub switch : is_switch w.tree (end_of w.tree.links (link_of_queue q)) ≡ false
  pub epid : own_epid w.tree (end_of w.tree.links (link_of_queue q)) ≡ b
  pub here : q < length w.queues
  pub once : NoneTwice (before ++ q ∷ [])

pub at-end : (w : State) (a b : Epid) (vc q : ℕ) (before : List ℕ) → vc < 2 → HasQueues w → IsLedTo w a b →
    queues_over vc (way_between w.tree a b) ≡ before ++ q ∷ [] → AtEnd w q b before
at-end w a b vc q before small has leads way =
    let over = over-queues w a b vc small has leads in
    let last = way-last w a b vc before q has leads way in
    let link : link_of_queue q ≡ last.over = ap link_of_queue last.is_over ∙ queues.link last.over vc small in
    let node : end_of w.tree.links (link_of_queue q) ≡ leads.target = ap (end_of w.tree.links) link ∙ last.ends in
    let named : epid_at w.tree.nodes leads.target ≡ Some b = (epids_name_nodes w.tree has.tree leads.target b).0 leads.to in
    record {
      switch = ap (is_switch w.tree) node ∙ no-table (slice_get w.tree.nodes leads.target) b named;
      epid = ap (own_epid w.tree) node ∙ ap (λ (o : Option Epid). unwrap_or o no_epid) named;
      here = over.there before q [] way;
      once = subst NoneTwice way over.once;
    }

hop-arrives : (w : State) (q : ℕ) (e : Entry) (rest : List Entry) → queue_at w.queues q ≡ e ∷ rest → GoesByTable e.packet e.packet.body →
    is_switch w.tree (end_of w.tree.links (link_of_queue q)) ≡ false →
    after w (Hop q) ≡ arrives (end_of w.tree.links (link_of_queue q)) e e.packet.body (leaves q rest w)
hop-arrives w q e rest is by none =
    hop-passes w q e rest (record { outcome = Arrives; nodes = w.nodes }) is
    (passing-goes w.tree w.nodes (link_of_queue q) e.packet e.packet.body by
    ∙ ap (λ (b : Bool). record { outcome = if b then by_table w.tree w.nodes (link_of_queue q) e.packet else Arrives; nodes = w.nodes }) none)

-- what is for a stream is picked by it
pub for-consumer : (stream : StreamPlan) (e : Entry) (b : Body) → GoesAhead b → e.packet.dst ≡ stream.to → picked (is_ahead stream e.packet.dst b) e ≡ e ∷ []
for-consumer stream e (body.Samples time payload) h to = rw (eq-eqb e.packet.dst.0 stream.to.0 (ap (λ (x : Epid). x.0) to)) refl
for-consumer stream e (body.Command c) h to = rw (eq-eqb e.packet.dst.0 stream.to.0 (ap (λ (x : Epid). x.0) to)) refl
for-consumer stream e (body.Status status) h to = absurd h
for-consumer stream e (body.Control control) h to = absurd h
for-consumer stream e (body.Management m) h to = absurd h

pub for-producer : (stream : StreamPlan) (e : Entry) (b : Body) → GoesBack b → e.packet.dst ≡ stream.from → picked (is_back stream e.packet.dst b) e ≡ e ∷ []
for-producer stream e (body.Samples time payload) h to = absurd h
for-producer stream e (body.Command c) h to = absurd h
for-producer stream e (body.Status status) h to = rw (eq-eqb e.packet.dst.0 stream.from.0 (ap (λ (x : Epid). x.0) to)) refl
for-producer stream e (body.Control control) h to = absurd h
for-producer stream e (body.Management m) h to = absurd h

-- what comes from the last queue of a way leaves it
comes-ahead : (w : State) (s q : ℕ) (before : List ℕ) (e : Entry) (rest : List Entry) (next : Stream → Stream) →
    AtEnd w q (plan_at w.plan s).to before → queue_at w.queues q ≡ e ∷ rest → forward_way w.tree (plan_at w.plan s) ≡ before ++ q ∷ [] →
    GoesAhead e.packet.body → e.packet.dst ≡ (plan_at w.plan s).to → after w (Hop q) ≡ taken_in w s q rest next → ComesAhead w s q e rest next
comes-ahead w s q before e rest next end is way kind to comes =
    let stream = plan_at w.plan s in
    let first : gather (pick_ahead stream) w.queues (forward_way w.tree stream) ≡ e ∷ gather (pick_ahead stream) (set w.queues q rest) (forward_way w.tree stream) =
    rw way (gather-comes (pick_ahead stream) w.queues before q e rest end.here end.once is
    ∙ ap (λ es. es ++ gather (pick_ahead stream) (set w.queues q rest) (before ++ q ∷ [])) (for-consumer stream e e.packet.body kind to)) in
    record {
      comes = comes;
      leaves = subst (λ (v : State). LeavesAhead w v s e) (sym comes) (record {
        ahead = first;
        back = less-unseen (pick_back stream) w.queues (back_way w.tree stream) q e rest is (ahead-none_back stream e e.packet.body kind);
      });
    }

comes-back : (w : State) (s q : ℕ) (before : List ℕ) (e : Entry) (rest : List Entry) (next : Stream → Stream) →
    AtEnd w q (plan_at w.plan s).from before → queue_at w.queues q ≡ e ∷ rest → back_way w.tree (plan_at w.plan s) ≡ before ++ q ∷ [] →
    GoesBack e.packet.body → e.packet.dst ≡ (plan_at w.plan s).from → after w (Hop q) ≡ taken_in w s q rest next → ComesBack w s q e rest next
comes-back w s q before e rest next end is way kind to comes =
    let stream = plan_at w.plan s in
    let first : gather (pick_back stream) w.queues (back_way w.tree stream) ≡ e ∷ gather (pick_back stream) (set w.queues q rest) (back_way w.tree stream) =
    rw way (gather-comes (pick_back stream) w.queues before q e rest end.here end.once is
    ∙ ap (λ es. es ++ gather (pick_back stream) (set w.queues q rest) (before ++ q ∷ [])) (for-producer stream e e.packet.body kind to)) in
    record {
      comes = comes;
      leaves = subst (λ (v : State). LeavesBack w v s e) (sym comes) (record {
        ahead = less-unseen (pick_ahead stream) w.queues (forward_way w.tree stream) q e rest is (back-none_ahead stream e e.packet.body kind);
        back = first;
      });
    }

pub samples-come : SamplesCome
samples-come w s q before e rest time payload has leads mine is way samples to =
    let stream = plan_at w.plan s in
    let end = at-end w stream.from stream.to forward_vc q before (omega arith) has leads way in
    let x = end_of w.tree.links (link_of_queue q) in
    let goes : GoesByTable e.packet e.packet.body = rw samples tt in
    let kind : GoesAhead e.packet.body = rw samples tt in
    let comes : after w (Hop q) ≡ taken_in w s q rest (gets e.packet) =
    hop-arrives w q e rest is goes end.switch
    ∙ ap (λ (b : Body). arrives x e b (leaves q rest w)) samples
    ∙ ap (λ (o : Option ℕ). on_any_stream o (gets e.packet) (leaves q rest w)) (ap (stream_to w.plan) end.epid ∙ mine) in
    comes-ahead w s q before e rest (gets e.packet) end is way kind to comes

pub commands-come : CommandsCome
commands-come w s q before e rest c has leads mine is way command to =
    let stream = plan_at w.plan s in
    let end = at-end w stream.from stream.to forward_vc q before (omega arith) has leads way in
    let x = end_of w.tree.links (link_of_queue q) in
    let goes : GoesByTable e.packet e.packet.body = rw command tt in
    let kind : GoesAhead e.packet.body = rw command tt in
    let next = gets_order c.op (counts_in e.tag) in
    let comes : after w (Hop q) ≡ taken_in w s q rest next =
    hop-arrives w q e rest is goes end.switch
    ∙ ap (λ (b : Body). arrives x e b (leaves q rest w)) command
    ∙ ap (λ (o : Option ℕ). on_any_stream o next (leaves q rest w)) (ap (stream_to w.plan) end.epid ∙ mine) in
    comes-ahead w s q before e rest next end is way kind to comes

pub statuses-come : StatusesCome
statuses-come w s q before e rest status has leads mine is way status_is to =
    let stream = plan_at w.plan s in
    let end = at-end w stream.to stream.from back_vc q before (omega arith) has leads way in
    let x = end_of w.tree.links (link_of_queue q) in
    let goes : GoesByTable e.packet e.packet.body = rw status_is tt in
    let kind : GoesBack e.packet.body = rw status_is tt in
    let next = gets_status (plan_at w.plan s) (told_in e.tag) in
    let comes : after w (Hop q) ≡ taken_in w s q rest next =
    hop-arrives w q e rest is goes end.switch
    ∙ ap (λ (b : Body). arrives x e b (leaves q rest w)) status_is
    ∙ ap (λ (o : Option ℕ). option_map_or (λ (t : ℕ). hears_status e.tag t (leaves q rest w)) o (leaves q rest w)) (ap (stream_from w.plan) end.epid ∙ mine) in
    comes-back w s q before e rest next end is way kind to comes
