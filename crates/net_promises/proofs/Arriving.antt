-- Samples that come to the end of their way find room.
use Rattle.std.proofs.Common.{◌≡◌, ℕ, ◌+◌, ◌<◌, Bool, true, false, List, [], ◌∷◌, ◌++◌, length, refl, sym, ◌∙◌, ap, subst, get_or, arith, if◌then◌else◌}
use Rattle.std.specs.Prelude.{Option, Some, None, drop, unwrap_or}
use Rattle.std.specs.List.{AllByRecursion, flat_map}
use Rattle.std.specs.Option.{option_and_then}
use Rattle.std.proofs.lemmas.Bool.{false≢true}
use Rattle.std.proofs.lemmas.List.{length-append}
use Rattle.std.proofs.lemmas.List.Quantifiers.{position-Some}
use Rattle.std.proofs.lemmas.Option.{same_Some}
use Rattle.chdr_packets.specs.Length.{wire_of}
use Rattle.chdr_packets.specs.declared.packet.Body.{Body}
use Rattle.chdr_packets.specs.declared.packet.Body.TheVariants as body
use Rattle.chdr_packets.specs.declared.packet.Packet.{Packet}
use Rattle.chdr_words.specs.declared.epid.Epid.{Epid}
use Rattle.net_topology.specs.Leads.{Exits, Leads, LeadsOver, sent_on, turned_to}
use Rattle.net_topology.specs.Links.{end_of}
use Rattle.net_topology.specs.Tree.{IsTree}
use Rattle.net_topology.specs.declared.plan.Plan.{Plan}
use Rattle.net_topology.proofs.Laws.{epids_name_nodes, leads_are_ways}
use Rattle.stream_endpoint.specs.Receiver.{FindsRoom}
use Rattle.stream_laws.specs.Machine.{Core, Data, Entry as Flight, number_at}
use Rattle.stream_laws.proofs.Laws.{room_ahead}
use Rattle.net_machine.specs.declared.event.Event.TheVariants.{Hop}
use Rattle.net_machine.specs.Effects.{after}
use Rattle.net_machine.specs.Nodes.{exits_of, is_switch, own_epid}
use Rattle.net_machine.specs.Plans.{is_to, no_epid, no_stream, plan_at, stream_to}
use Rattle.net_machine.specs.Queues.{forward_vc, link_of_queue, queue_of}
use Rattle.net_machine.specs.State.{Entry, Sample, State, Tag, queue_at, stream_at}
use Rattle.net_machine.proofs.Laws.{queues}
use Rattle.net_ways.specs.Standing.{IsMessage, IsPlaced, Stands, StandsAhead}
use Rattle.net_ways.specs.Ways.{ahead, forward_way, queues_over, way_between}
use Rattle.net_ways.proofs.Laws.{samples_come}
use Rattle.net_streams.specs.Shows.{flight_by, flight_of, load_of, terms_of}
use Rattle.net_flows.specs.Forms.{Tells, TellsPlace}
use Rattle.net_lawful.specs.Lawful.{Lawful}
use Rattle.net_lawful.specs.Walking.{AreLed, IsNoStreams}
use Rattle.net_promises.specs.Arriving.{ArrivalsFindRoom}

-- ---- the last queue of a way

-- what is sent on goes on at a node with a table
sent-switch : (tree : Plan) (exits : Exits) (dst : Epid) (d e : ℕ) → sent_on tree exits dst d ≡ Some e → is_switch tree (end_of tree.links d) ≡ true
sent-switch tree exits dst d e is = by_table (is_switch tree (end_of tree.links d)) is
  where
    none : ◌≡◌ {A = Option ℕ} None (Some e) → ⊥
    none same = cc

    by_table : (b : Bool) → (if b then option_and_then (turned_to tree d) (exits (end_of tree.links d) dst) else None) ≡ Some e → b ≡ true
    by_table true is = refl
    by_table false is = absurd (none is)

-- a way's queue at whose end is no table is the last one, and leads to the end of the way
record IsLastOf (links_end target : ℕ) (behind : List ℕ) : Type 0 where
  last : behind ≡ []
  ends : links_end ≡ target

no-front : (before : List ℕ) (q : ℕ) (behind : List ℕ) → [] ≡ before ++ q ∷ behind → ⊥
no-front before q behind is =
    let n : 0 ≡ length before + length (q ∷ behind) = ap length is ∙ length-append before (q ∷ behind) in omega (arith, n)

last-of : (tree : Plan) (exits : Exits) (dst : Epid) (vc d z : ℕ) (ds before : List ℕ) (q : ℕ) (behind : List ℕ) → vc < 2 → LeadsOver tree exits dst d ds z →
    queues_over vc (d ∷ ds) ≡ before ++ q ∷ behind → is_switch tree (end_of tree.links (link_of_queue q)) ≡ false →
    IsLastOf (end_of tree.links (link_of_queue q)) z behind
last-of tree exits dst vc d z [] [] q behind low leads way ends =
    let head : queue_of d vc ≡ q = ap (λ xs. get_or xs 0 0) way in
    let link : link_of_queue q ≡ d = ap link_of_queue (sym head) ∙ queues.link d vc low in
    record { last = sym (ap (λ xs. drop 1 xs) way); ends = ap (end_of tree.links) link ∙ leads }
last-of tree exits dst vc d z (e ∷ ds) [] q behind low leads way ends =
    let head : queue_of d vc ≡ q = ap (λ xs. get_or xs 0 0) way in
    let link : link_of_queue q ≡ d = ap link_of_queue (sym head) ∙ queues.link d vc low in
    absurd (false≢true (sym ends ∙ ap (λ n. is_switch tree (end_of tree.links n)) link ∙ sent-switch tree exits dst d e leads.0))
last-of tree exits dst vc d z [] (b ∷ before) q behind low leads way ends = absurd (no-front before q behind (ap (λ xs. drop 1 xs) way))
last-of tree exits dst vc d z (e ∷ ds) (b ∷ before) q behind low leads way ends =
    last-of tree exits dst vc e z ds before q behind low leads.1 (ap (λ xs. drop 1 xs) way) ends

-- the node at the end of a way has its EPID
record EndsAt (tree : Plan) (dst : Epid) (q : ℕ) (behind : List ℕ) : Type 0 where
  last : behind ≡ []
  own : own_epid tree (end_of tree.links (link_of_queue q)) ≡ dst

ends-at : (tree : Plan) (exits : Exits) (a dst : Epid) (vc : ℕ) (before : List ℕ) (q : ℕ) (behind : List ℕ) → vc < 2 → IsTree tree → Leads tree exits a dst →
    queues_over vc (way_between tree a dst) ≡ before ++ q ∷ behind → is_switch tree (end_of tree.links (link_of_queue q)) ≡ false → EndsAt tree dst q behind
ends-at tree exits a dst vc before q behind low is l way ends =
    let whole : way_between tree a dst ≡ l.first ∷ l.links = rw (l.from, l.to) (sym (leads_are_ways tree is exits a dst l)) in
    let place = last-of tree exits dst vc l.first l.target l.links before q behind low l.way (ap (queues_over vc) (sym whole) ∙ way) ends in
    record {
      last = place.last;
      own = ap (λ (x : ℕ). own_epid tree x) place.ends ∙ ap (λ o. unwrap_or o no_epid) ((epids_name_nodes tree is l.target dst).0 l.to);
    }

-- ---- samples come

led-by : (w : State) (q : ℕ) (e : Entry) (rest : List Entry) (time : Option ℕ) (payload : List ℕ) → Lawful w → queue_at w.queues q ≡ e ∷ rest →
    e.packet.body ≡ body.Samples time payload → AreLed w
led-by w q e rest time payload lawful is has = by_walked w.walked refl
  where
    by_walked : (b : Bool) → w.walked ≡ b → AreLed w
    by_walked false walked = lawful.led walked
    by_walked true walked =
        absurd (subst IsMessage has (subst (AllByRecursion (λ (f : Entry). IsNoStreams f.tag f.packet)) is ((lawful.stilled walked).queued q)).0.body)

-- what such an entry is under way
flight-is : (e : Entry) (time : Option ℕ) (payload : List ℕ) (place : ℕ) → e.packet.body ≡ body.Samples time payload → e.tag ≡ Sample place →
    flight_of e ≡ Data place (load_of e.packet) ∷ []
flight-is e time payload place has tag =
    ap (λ (b : Body). flight_by e.tag e.packet b) has ∙ ap (λ (t : Tag). flight_by t e.packet (body.Samples time payload)) tag

pub arrivals-find-room : ArrivalsFindRoom
arrivals-find-room w q s e rest time payload lawful comes has =
    let led = led-by w q e rest time payload lawful comes.front has in
    let steady = lawful.steady in
    let placed = subst (AllByRecursion (IsPlaced w.tree w.plan q)) comes.front (led.placed q) in
    let stands : StandsAhead w.tree w.plan q e.packet.dst = subst (λ (b : Body). Stands w.tree w.plan q e.packet.dst b) has placed.0.stands in
    let t = stands.stream in
    let there : t < length w.plan.streams = (position-Some (is_to e.packet.dst) w.plan.streams t no_stream stands.mine).0 in
    let ways = led.ways.each t there in
    let end = ends-at w.tree (exits_of w.nodes) (plan_at w.plan t).from (plan_at w.plan t).to forward_vc stands.on.before q stands.on.behind (omega arith)
    steady.queues.tree ways.forth stands.on.way comes.ends in
    let same : s ≡ t = same_Some s t (sym comes.stream ∙ ap (stream_to w.plan) end.own ∙ ways.to) in
    let way : forward_way w.tree (plan_at w.plan t) ≡ stands.on.before ++ q ∷ [] = stands.on.way ∙ ap (λ xs. stands.on.before ++ q ∷ xs) end.last in
    let taken = samples_come w t q stands.on.before e rest time payload steady.queues ways.forth ways.to comes.front way has (sym stands.to) in
    let lt : t < length w.streams = subst (λ n. t < n) (sym steady.as_many) there in
    let flow = steady.flows t lt in
    let tells : TellsPlace w.plan e = subst (Tells w.plan e) has (subst (AllByRecursion (λ (f : Entry). Tells w.plan f f.packet.body)) comes.front (steady.telling q)).0 in
    let mine : tells.stream ≡ t = same_Some tells.stream t (sym tells.mine ∙ stands.mine) in
    let terms = terms_of (plan_at w.plan t) in
    let number : e.packet.seq ≡ number_at terms tells.place = tells.number ∙ ap (λ r. number_at (terms_of (plan_at w.plan r)) tells.place) mine in
    let behind = flat_map flight_of (ahead (after w (Hop q)) t) in
    let forward = flow.shows.forward ∙ ap (flat_map flight_of) taken.leaves.ahead
    ∙ ap (λ (front : List (Flight Packet)). front ++ behind) (flight-is e time payload tells.place has tells.tag) in
    let room = room_ahead terms flow.state flow.run tells.place (load_of e.packet) behind forward in
    let here = subst (λ (c : Core Packet). FindsRoom terms.flow c.receiver (number_at terms tells.place) (wire_of e.packet)) flow.shows.core room in
    let seq = subst (λ n. FindsRoom terms.flow (stream_at w t).receiver n (wire_of e.packet)) (sym number) here in
    subst (λ r. FindsRoom (plan_at w.plan r).flow (stream_at w r).receiver e.packet.seq (wire_of e.packet)) (sym same) seq
