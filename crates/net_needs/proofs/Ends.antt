-- Where a way of a stream ends, and what comes there.
use Rattle.std.proofs.Common.{◌≡◌, ℕ, ◌<◌, ◌⊎◌, inl, inr, Bool, true, false, List, [], ◌∷◌, ◌++◌, length, refl, sym, ◌∙◌, ap, subst, arith, if◌then◌else◌}
use Rattle.std.specs.Prelude.{Option, Some, None, unwrap_or}
use Rattle.std.specs.List.{flat_map}
use Rattle.std.specs.Option.{option_and_then}
use Rattle.std.proofs.lemmas.Bool.{false≢true}
use Rattle.std.proofs.lemmas.List.Quantifiers.{position-Some}
use Rattle.std.proofs.lemmas.Option.{none-some, same_Some}
use Rattle.chdr_packets.specs.Length.{wire_of}
use Rattle.chdr_packets.specs.declared.packet.Body.{Body}
use Rattle.chdr_packets.specs.declared.packet.Body.TheVariants as body
use Rattle.chdr_packets.specs.declared.packet.Packet.{Packet}
use Rattle.chdr_words.specs.declared.epid.Epid.{Epid}
use Rattle.stream_endpoint.specs.Receiver.{FindsRoom, Receiver}
use Rattle.stream_laws.specs.Machine.{Core, Data, Entry as Flight, number_at}
use Rattle.stream_laws.proofs.Laws.{room_ahead}
use Rattle.net_topology.specs.Leads.{Exits, LeadsOver, sent_on, turned_to}
use Rattle.net_topology.specs.Links.{end_of}
use Rattle.net_topology.specs.Parts.{way_of}
use Rattle.net_topology.specs.declared.plan.Plan.{Plan}
use Rattle.net_topology.proofs.Laws.{epids_name_nodes, leads_are_ways}
use Rattle.net_machine.specs.declared.event.Event.TheVariants.{Hop}
use Rattle.net_machine.specs.Effects.{after}
use Rattle.net_machine.specs.Nodes.{exits_of, is_switch, own_epid}
use Rattle.net_machine.specs.Plans.{is_to, no_epid, no_stream, plan_at, stream_to}
use Rattle.net_machine.specs.Queues.{forward_vc, link_of_queue, queue_of}
use Rattle.net_machine.specs.State.{Entry, Sample, State, Tag, queue_at, stream_at}
use Rattle.net_machine.proofs.Laws.{queues}
use Rattle.net_ways.specs.Standing.{HasWays, HaveWays, StandsAhead}
use Rattle.net_ways.specs.Ways.{HasQueues, IsLedTo, ahead, forward_way, queues_over, way_between}
use Rattle.net_ways.proofs.Laws.{samples_come}
use Rattle.net_streams.specs.Shows.{flight_by, flight_of, load_of, terms_of}
use Rattle.net_flows.specs.Flows.{IsFlow, IsSteady}
use Rattle.net_flows.specs.Forms.{TellsPlace}

-- queue q is the last one of a way to node z, or its link ends at a switch
abbrev EndsOr : Plan → ℕ → ℕ → List ℕ → Type 0
EndsOr tree z q behind = ((behind ≡ []) × (end_of tree.links (link_of_queue q) ≡ z)) ⊎ (is_switch tree (end_of tree.links (link_of_queue q)) ≡ true)

sent-by-switch : (tree : Plan) (exits : Exits) (dst : Epid) (d e : ℕ) → sent_on tree exits dst d ≡ Some e → is_switch tree (end_of tree.links d) ≡ true
sent-by-switch tree exits dst d e is = by_sort (is_switch tree (end_of tree.links d)) is
  where
    by_sort : (b : Bool) → (if b then option_and_then (turned_to tree d) (exits (end_of tree.links d) dst) else None) ≡ Some e → b ≡ true
    by_sort true is = refl
    by_sort false is = absurd (none-some e is)

ends-or : (tree : Plan) (exits : Exits) (dst : Epid) (vc z q d : ℕ) (ds before behind : List ℕ) → vc < 2 → LeadsOver tree exits dst d ds z →
    queues_over vc (d ∷ ds) ≡ before ++ q ∷ behind → EndsOr tree z q behind
ends-or tree exits dst vc z q d [] [] behind low leads is =
    let here : queue_of d vc ≡ q = cc in
    let none : behind ≡ [] = cc in
    let link : link_of_queue q ≡ d = ap link_of_queue (sym here) ∙ queues.link d vc low in
    inl (none, ap (end_of tree.links) link ∙ leads)
ends-or tree exits dst vc z q d (e ∷ ds) [] behind low leads is =
    let here : queue_of d vc ≡ q = cc in
    let link : link_of_queue q ≡ d = ap link_of_queue (sym here) ∙ queues.link d vc low in
    inr (ap (λ l. is_switch tree (end_of tree.links l)) link ∙ sent-by-switch tree exits dst d e leads.0)
ends-or tree exits dst vc z q d [] (b ∷ []) behind low leads is = let none : [] ≡ q ∷ behind = cc in cc
ends-or tree exits dst vc z q d [] (b ∷ c ∷ before) behind low leads is = let none : [] ≡ c ∷ (before ++ q ∷ behind) = cc in cc
ends-or tree exits dst vc z q d (e ∷ ds) (b ∷ before) behind low leads is =
    let rest : queues_over vc (e ∷ ds) ≡ before ++ q ∷ behind = cc in
    ends-or tree exits dst vc z q e ds before behind low leads.1 rest

-- a queue of a way whose link doesn't end at a switch is its last one, and ends at the node of the EPID
pub record IsLast (w : State) (b : Epid) (q : ℕ) (behind : List ℕ) : Type 0 where
  pub last : behind ≡ []
  pub epid : own_epid w.tree (end_of w.tree.links (link_of_queue q)) ≡ b

pub is-last : (w : State) (a b : Epid) (vc q : ℕ) (before behind : List ℕ) → vc < 2 → HasQueues w → IsLedTo w a b →
    queues_over vc (way_between w.tree a b) ≡ before ++ q ∷ behind → is_switch w.tree (end_of w.tree.links (link_of_queue q)) ≡ false → IsLast w b q behind
is-last w a b vc q before behind low has leads way none =
    let between : way_between w.tree a b ≡ way_of w.tree.links leads.source leads.target = rw (leads.from, leads.to) refl in
    let over : queues_over vc (leads.first ∷ leads.links) ≡ before ++ q ∷ behind =
    ap (queues_over vc) (leads_are_ways w.tree has.tree (exits_of w.nodes) a b leads ∙ sym between) ∙ way in
    by_end (ends-or w.tree (exits_of w.nodes) b vc leads.target q leads.first leads.links before behind low leads.way over)
  where
    by_end : EndsOr w.tree leads.target q behind → IsLast w b q behind
    by_end (inl end) = record {
      last = end.0;
      epid = ap (own_epid w.tree) end.1 ∙ ap (λ (o : Option Epid). unwrap_or o no_epid) ((epids_name_nodes w.tree has.tree leads.target b).0 leads.to);
    }
    by_end (inr switch) = absurd (false≢true (sym none ∙ switch))

-- ---- samples find room

flight-is : (tag : Tag) (p : Packet) (b : Body) (time : Option ℕ) (payload : List ℕ) (place : ℕ) → b ≡ body.Samples time payload → tag ≡ Sample place →
    flight_by tag p b ≡ Data place (load_of p) ∷ []
flight-is tag p b time payload place samples at = rw (samples, at) refl

-- samples at the end of their way find room at their receiver, which is that of the stream of this EPID
pub record FindsPlace (w : State) (q : ℕ) (e : Entry) : Type 0 where
  pub stream : ℕ
  pub there : stream < length w.plan.streams
  pub mine : stream_to w.plan (own_epid w.tree (end_of w.tree.links (link_of_queue q))) ≡ Some stream
  pub tells : stream_to w.plan e.packet.dst ≡ Some stream
  pub room : FindsRoom (plan_at w.plan stream).flow (stream_at w stream).receiver e.packet.seq (wire_of e.packet)

pub finds-place : (w : State) (q : ℕ) (e : Entry) (rest : List Entry) (time : Option ℕ) (payload : List ℕ) → IsSteady w → HaveWays w →
    queue_at w.queues q ≡ e ∷ rest → StandsAhead w.tree w.plan q e.packet.dst → e.packet.body ≡ body.Samples time payload → TellsPlace w.plan e →
    is_switch w.tree (end_of w.tree.links (link_of_queue q)) ≡ false → FindsPlace w q e
finds-place w q e rest time payload steady ways is stands samples tells none = record {
  stream = t;
  there = there;
  mine = ap (stream_to w.plan) last.epid ∙ way.to;
  tells = stands.mine;
  room = room;
}
  where
    t : ℕ
    t = stands.stream

    there : t < length w.plan.streams
    there = (position-Some (is_to e.packet.dst) w.plan.streams t no_stream stands.mine).0

    way : HasWays w t
    way = ways.each t there

    last : IsLast w (plan_at w.plan t).to q stands.on.behind
    last = is-last w (plan_at w.plan t).from (plan_at w.plan t).to forward_vc q stands.on.before stands.on.behind (omega arith) steady.queues way.forth stands.on.way none

    flow : IsFlow w t
    flow = steady.flows t (subst (λ n. t < n) (sym steady.as_many) there)

    on : forward_way w.tree (plan_at w.plan t) ≡ stands.on.before ++ q ∷ []
    on = subst (λ (qs : List ℕ). forward_way w.tree (plan_at w.plan t) ≡ stands.on.before ++ q ∷ qs) last.last stands.on.way

    comes : ahead w t ≡ e ∷ ahead (after w (Hop q)) t
    comes = (samples_come w t q stands.on.before e rest time payload steady.queues way.forth way.to is on samples (sym stands.to)).leaves.ahead

    more : List (Flight Packet)
    more = flat_map flight_of (ahead (after w (Hop q)) t)

    forward : flow.state.forward ≡ Data tells.place (load_of e.packet) ∷ more
    forward = flow.shows.forward ∙ ap (flat_map flight_of) comes
        ∙ ap (λ (es : List (Flight Packet)). es ++ more) (flight-is e.tag e.packet e.packet.body time payload tells.place samples tells.tag)

    same : tells.stream ≡ t
    same = same_Some tells.stream t (sym tells.mine ∙ stands.mine)

    number : number_at (terms_of (plan_at w.plan t)) tells.place ≡ e.packet.seq
    number = ap (λ (k : ℕ). number_at (terms_of (plan_at w.plan k)) tells.place) (sym same) ∙ sym tells.number

    receiver : flow.state.core.receiver ≡ (stream_at w t).receiver
    receiver = ap (λ (c : Core Packet). c.receiver) flow.shows.core

    found : FindsRoom (plan_at w.plan t).flow flow.state.core.receiver (number_at (terms_of (plan_at w.plan t)) tells.place) (wire_of e.packet)
    found = room_ahead (terms_of (plan_at w.plan t)) flow.state flow.run tells.place (load_of e.packet) more forward

    room : FindsRoom (plan_at w.plan t).flow (stream_at w t).receiver e.packet.seq (wire_of e.packet)
    room = subst (λ (n : ℕ). FindsRoom (plan_at w.plan t).flow (stream_at w t).receiver n (wire_of e.packet)) number
        (subst (λ (r : Receiver). FindsRoom (plan_at w.plan t).flow r (number_at (terms_of (plan_at w.plan t)) tells.place) (wire_of e.packet)) receiver found)
