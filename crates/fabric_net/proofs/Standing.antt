-- A net stands for the machine's states: as it is built, as a run begins, after each event and each other call.
use Rattle.std.proofs.Common.{◌≡◌, ℕ, ◌+◌, ◌-◌, ◌<◌, ◌≤◌, ◌⊎◌, inl, inr, Bool, true, false, List, [], ◌∷◌, ◌++◌, length, drop, get_or, refl, sym, ◌∙◌, ap, subst, arith, zero, suc}
use Rattle.std.specs.Prelude.{All, IsTrue, Option, Some, map, slice_get, slice_set}
use Rattle.std.proofs.lemmas.Bool.{cases_lt, false≢true}
use Rattle.std.proofs.lemmas.List.{drop-drop, drop_all, length-drop, length-map, length-set, nil_from_length, set_past}
use Rattle.std.proofs.Math.ListN.{get_or-map}
use Rattle.std.proofs.lemmas.Option.{slice_get_within}
use Rattle.rf_base.proofs.Places.{one-set}
use Rattle.block_registers.specs.Registers.{Registers}
use Rattle.chdr_packets.specs.declared.packet.Body.{Body}
use Rattle.chdr_packets.specs.declared.packet.Body.TheVariants as body
use Rattle.chdr_packets.specs.declared.packet.Packet.{Packet}
use Rattle.net_topology.specs.Tree.{IsTree}
use Rattle.net_topology.specs.declared.plan.Plan.{Plan}
use Rattle.net_faults.specs.declared.fault.Fault.{Fault}
use Rattle.net_machine.specs.declared.event.Event.{Event}
use Rattle.net_machine.specs.declared.plan.RunPlan.{RunPlan}
use Rattle.net_machine.specs.declared.plan.StreamPlan.{StreamPlan}
use Rattle.net_machine.specs.Begin.{begun, built, no_plan}
use Rattle.net_machine.specs.CanBegin.{CanBegin}
use Rattle.net_machine.specs.Conditions.{ends_at_rx}
use Rattle.net_machine.specs.Effects.{after}
use Rattle.net_machine.specs.Front.{Queued, queued}
use Rattle.net_machine.specs.Moves.{Answered, AreEmpty, Asks, CanAsk, Happens, IsAtRest, IsRequest, Loads, Marks, answered, asks, marked}
use Rattle.net_machine.specs.Faults.{renamed}
use Rattle.net_machine.specs.Nodes.{is_host_at, own_epid}
use Rattle.net_machine.specs.State.{Entry, Node, State, Stream, idle, node_in, stream_at}
use Rattle.net_present.proofs.Laws.{present_follows, present_tells}
use Rattle.net_present.specs.Kept.{IsNow, IsStreamNow, idle_now, now_at, stream_now}
use Rattle.net_present.specs.Laws.{IsHeld}
use Rattle.net_present.specs.Onward.{Held, enabled_now, goes_on, on_now}
use Rattle.net_present.specs.Present.{Present, StreamNow}
use Rattle.net_lawful.proofs.Laws.{begun_is_lawful, built_is_lawful, lawful_stays}
use Rattle.net_lawful.specs.Messages.{FitsTree}
use Rattle.net_promises.proofs.Laws.{lawful_fits_present}
use Rattle.net_needs.specs.Staying.{IsCounted, IsStreamCounted}
use Rattle.fabric_parts.specs.Streams.{hands_now, offers_now}
use Rattle.fabric_events.proofs.Laws.{begun_is_now, built_is_now}
use Rattle.fabric_lists.specs.Opened.{opened_now}
use Rattle.fabric_events.specs.Begun.{begun_now, built_now}
use Rattle.fabric_net.specs.Asking.{CanAskNow, IsRequestNow, answered_now, asked_now, marked_now}
use Rattle.fabric_net.specs.Standing.{HasNoEntries, IsResting, StandsFor}

-- ---- as a net is built, and as a run begins

pub stands-built : (tree : Plan) (routed : Bool) (banks : List (Option Registers)) → IsTree tree → FitsTree tree
    → StandsFor (built_now tree routed) (built tree routed banks)
stands-built tree routed banks is fits = record {
  lawful = built_is_lawful tree routed banks is fits;
  now = built_is_now tree routed banks;
}

none-of : (queue : List Entry) → map queued queue ≡ [] → queue ≡ []
none-of queue e = nil_from_length queue (sym (length-map queue queued) ∙ ap (λ (es : List Queued). length es) e)

no-entries : (queues : List (List Entry)) → All (λ (queue : List Queued). queue ≡ []) (map (map queued) queues)
    → All (λ (queue : List Entry). queue ≡ []) queues
no-entries queues empty k d lt =
    none-of (get_or queues k d) (sym (get_or-map (map queued) queues k d) ∙ empty k (map queued d) (rw (length-map queues (map queued)) lt))

pub empty-state : (p : Present) (w : State) → IsNow p w → HasNoEntries p → AreEmpty w
empty-state p w now empty =
    no-entries w.queues (subst (λ (queues : List (List Queued)). All (λ (queue : List Queued). queue ≡ []) queues) now.queues empty)

pub at-rest : (p : Present) (w : State) → IsNow p w → IsResting p → IsAtRest w
at-rest p w now rest = record {
  empty = empty-state p w now rest.empty;
  still = λ e. sym (present_tells p w e now) ∙ rest.still e;
  heard = subst (λ (nodes : List Node). All (λ (n : Node). n.answers ≡ []) nodes) now.nodes rest.heard;
}

pub stands-begun : (plan : RunPlan) (p : Present) (w : State) → IsResting p → CanBegin p.tree p.nodes plan → StandsFor p w
    → StandsFor (begun_now plan p) (begun plan w)
stands-begun plan p w rest can stands =
    let can-tree : CanBegin w.tree p.nodes plan = subst (λ (tree : Plan). CanBegin tree p.nodes plan) stands.now.tree can in
    record {
      lawful = begun_is_lawful plan w stands.lawful (at-rest p w stands.now rest)
          (subst (λ (nodes : List Node). CanBegin w.tree nodes plan) stands.now.nodes can-tree);
      now = begun_is_now plan p w stands.now;
    }

-- ---- after an event

-- other banks make no other present
abbrev pub with-banks : State → List (Option Registers) → State
with-banks w banks = record w { banks = banks }

pub stands-loaded : (p : Present) (w : State) (banks : List (Option Registers)) → StandsFor p w → StandsFor p (with-banks w banks)
stands-loaded p w banks stands = let now = stands.now in record {
  lawful = lawful_stays w (Loads banks) stands.lawful tt;
  now = record {
    tree = now.tree;
    plan = now.plan;
    queues = now.queues;
    nodes = now.nodes;
    as_many_streams = now.as_many_streams;
    streams = now.streams;
    as_many_blocks = now.as_many_blocks;
    blocks = now.blocks;
    faults = now.faults;
    requests = now.requests;
    answers = now.answers;
  };
}

pub held-follows : (h : Held) (w : State) (e : Event) → StandsFor h.present w → h.banks ≡ w.banks → IsTrue (enabled_now h.present e)
    → IsHeld (goes_on e h) (after w e)
held-follows h w e stands same may =
    present_follows h w e (lawful_fits_present w stands.lawful) (subst (λ (b : Bool). b ≡ true) (present_tells h.present w e stands.now) may)
    (record { now = stands.now; banks = same })

pub stands-after : (h : Held) (w : State) (e : Event) → StandsFor h.present w → h.banks ≡ w.banks → IsTrue (enabled_now h.present e)
    → StandsFor (goes_on e h).present (after w e)
stands-after h w e stands same may = record {
  lawful = lawful_stays w (Happens e) stands.lawful (subst (λ (b : Bool). b ≡ true) (present_tells h.present w e stands.now) may);
  now = (held-follows h w e stands same may).now;
}

-- ---- handing and offering

hand-stream : (rx : Bool) (now : StreamNow) (st : Stream) → rx ≡ true → IsStreamNow rx now st → IsStreamNow rx (hands_now now) st
hand-stream rx now st at is = by (cases_lt is.handed (length st.given))
  where
    by : (is.handed < length st.given) ⊎ (length st.given ≤ is.handed) → IsStreamNow rx (hands_now now) st
    by (inl lt) = record {
      handed = is.handed + 1;
      offered = is.offered;
      given = omega (arith, lt);
      ready = is.ready;
      fed = λ e. absurd (false≢true (sym e ∙ at));
      is = ap hands_now is.is ∙ ap (λ (ps : List Packet). record (stream_now (is.handed + 1) is.offered st) { waiting = ps }) (drop-drop 1 is.handed st.given);
    }
    by (inr le) = record {
      handed = is.handed;
      offered = is.offered;
      given = is.given;
      ready = is.ready;
      fed = is.fed;
      is = ap hands_now is.is ∙ ap (λ (ps : List Packet). record (stream_now is.handed is.offered st) { waiting = ps }) (ap (drop 1) (drop_all is.handed st.given le) ∙ sym (drop_all is.handed st.given le));
    }

offer-stream : (rx : Bool) (now : StreamNow) (st : Stream) (packet : Packet) → slice_get now.ready now.offered ≡ Some packet
    → IsStreamNow rx now st → IsStreamNow rx (offers_now now) st
offer-stream rx now st packet next is =
    let first : slice_get st.ready is.offered ≡ Some packet = subst (λ (n : StreamNow). slice_get n.ready n.offered ≡ Some packet) is.is next in
    record {
      handed = is.handed;
      offered = is.offered + 1;
      given = is.given;
      ready = let lt = slice_get_within st.ready is.offered packet first in omega (arith, lt);
      fed = is.fed;
      is = ap offers_now is.is;
    }

stream-goes : (p : Present) (w : State) (s : ℕ) (next : StreamNow → StreamNow) → StandsFor p w
    → IsStreamNow (ends_at_rx w.plan s) (next (now_at p.streams s)) (stream_at w s) → StandsFor (on_now s next p) w
stream-goes p w s next stands here = let now = stands.now in record {
  lawful = stands.lawful;
  now = record {
    tree = now.tree;
    plan = now.plan;
    queues = now.queues;
    nodes = now.nodes;
    as_many_streams = length-set p.streams s (next (now_at p.streams s)) ∙ now.as_many_streams;
    streams = one-set (λ t st whole. IsStreamNow (ends_at_rx w.plan t) st whole) p.streams w.streams idle_now idle (next (now_at p.streams s)) s now.streams here;
    as_many_blocks = now.as_many_blocks;
    blocks = now.blocks;
    faults = now.faults;
    requests = now.requests;
    answers = now.answers;
  };
}

pub stands-handed : (p : Present) (w : State) (s : ℕ) → ends_at_rx p.plan s ≡ true → StandsFor p w → StandsFor (on_now s hands_now p) w
stands-handed p w s at stands =
    stream-goes p w s hands_now stands
    (hand-stream (ends_at_rx w.plan s) (now_at p.streams s) (stream_at w s) (subst (λ (plan : RunPlan). ends_at_rx plan s ≡ true) stands.now.plan at) (stands.now.streams s))

pub stands-offered : (p : Present) (w : State) (s : ℕ) (packet : Packet) → slice_get (now_at p.streams s).ready (now_at p.streams s).offered ≡ Some packet
    → StandsFor p w → StandsFor (on_now s offers_now p) w
stands-offered p w s packet next stands =
    stream-goes p w s offers_now stands
    (offer-stream (ends_at_rx w.plan s) (now_at p.streams s) (stream_at w s) packet next (stands.now.streams s))

first-behind : {X : Type 0} (xs : List X) (k : ℕ) → slice_get (drop k xs) 0 ≡ slice_get xs k
first-behind [] zero = refl
first-behind [] (suc k) = refl
first-behind (x ∷ xs) zero = refl
first-behind (x ∷ xs) (suc k) = first-behind xs k

-- the first packet that waits is the first that wasn't handed out
pub first-given : (p : Present) (w : State) (s : ℕ) → StandsFor p w
    → slice_get (now_at p.streams s).waiting 0
    ≡ slice_get (stream_at w s).given ((now_at p.streams s).given - length (now_at p.streams s).waiting)
first-given p w s stands =
    let is = stands.now.streams s in
    let st = stream_at w s in
    let left : length st.given - length (drop is.handed st.given) ≡ is.handed =
    let within = is.given in omega (arith, within, length-drop is.handed st.given) in
    subst (λ (n : StreamNow). slice_get n.waiting 0 ≡ slice_get st.given (n.given - length n.waiting)) (sym is.is)
    (first-behind st.given is.handed ∙ ap (λ (k : ℕ). slice_get st.given k) (sym left))

-- ---- requests and answers

can-request : (p : Present) (w : State) (x : ℕ) (packet : Packet) (b : Body) → IsNow p w → IsRequestNow p x packet b → IsRequest w x packet b
can-request p w x packet (body.Samples time payload) now is = absurd is
can-request p w x packet (body.Status status) now is = absurd is
can-request p w x packet (body.Command command) now is = absurd is
can-request p w x packet (body.Control control) now is = subst (λ (tree : Plan). (control.ack ≡ false) × (control.src ≡ own_epid tree x)) now.tree is
can-request p w x packet (body.Management m) now is =
    (is.0, subst (λ (tree : Plan). m.src ≡ own_epid tree x) now.tree is.1, is.2, at-rest p w now is.3)

can-ask : (p : Present) (w : State) (x : ℕ) (packet : Packet) → IsNow p w → CanAskNow p x packet → CanAsk w x packet
can-ask p w x packet now can = record {
  host = subst (λ (tree : Plan). is_host_at tree x ≡ true) now.tree can.host;
  few = subst (λ (nodes : List Node). length (node_in nodes x).requests < 8) now.nodes can.few;
  fits = can.fits;
  channel = can.channel;
  request = can-request p w x packet packet.body now can.request;
}

pub stands-asked : (p : Present) (w : State) (x : ℕ) (packet : Packet) → CanAskNow p x packet → StandsFor p w
    → StandsFor (asked_now x packet p) (asks x packet w)
stands-asked p w x packet can stands = let now = stands.now in record {
  lawful = lawful_stays w (Asks x packet) stands.lawful (can-ask p w x packet now can);
  now = record {
    tree = now.tree;
    plan = now.plan;
    queues = now.queues;
    nodes = ap (λ (nodes : List Node). slice_set nodes x (record (node_in nodes x) { requests = (node_in nodes x).requests ++ packet ∷ [] })) now.nodes;
    as_many_streams = now.as_many_streams;
    streams = now.streams;
    as_many_blocks = now.as_many_blocks;
    blocks = now.blocks;
    faults = now.faults;
    requests = now.requests;
    answers = now.answers;
  };
}

pub stands-answered : (p : Present) (w : State) (x : ℕ) → StandsFor p w → StandsFor (answered_now x p) (answered x w)
stands-answered p w x stands = let now = stands.now in record {
  lawful = lawful_stays w (Answered x) stands.lawful tt;
  now = record {
    tree = now.tree;
    plan = now.plan;
    queues = now.queues;
    nodes = ap (λ (nodes : List Node). slice_set nodes x (record (node_in nodes x) { answers = drop 1 (node_in nodes x).answers })) now.nodes;
    as_many_streams = now.as_many_streams;
    streams = now.streams;
    as_many_blocks = now.as_many_blocks;
    blocks = now.blocks;
    faults = now.faults;
    requests = now.requests;
    answers = now.answers;
  };
}

-- where there is no such node nothing is taken out
pub answered-past : (p : Present) (x : ℕ) → length p.nodes ≤ x → answered_now x p ≡ p
answered-past p x past = ap (λ (nodes : List Node). record p { nodes = nodes }) (set_past p.nodes x _ past)

pub stands-marked : (p : Present) (w : State) (faults : List Fault) → HasNoEntries p → StandsFor p w
    → StandsFor (marked_now faults p) (marked faults w)
stands-marked p w faults empty stands = let now = stands.now in record {
  lawful = lawful_stays w (Marks faults) stands.lawful (empty-state p w now empty);
  now = record {
    tree = now.tree;
    plan = now.plan;
    queues = now.queues;
    nodes = now.nodes;
    as_many_streams = now.as_many_streams;
    streams = now.streams;
    as_many_blocks = now.as_many_blocks;
    blocks = now.blocks;
    faults = ap (λ (fs : List Fault). renamed fs faults) now.faults;
    requests = refl;
    answers = refl;
  };
}

-- ---- counts

counted-opened : (plan : RunPlan) (streams : List StreamPlan) (s : ℕ) → IsStreamCounted 0 (now_at (map (opened_now plan) streams) s)
counted-opened plan [] s = record { sent = omega arith; given = omega arith; statuses = omega arith; commands = omega arith; cuts = omega arith }
counted-opened plan (st ∷ sts) zero = record { sent = omega arith; given = omega arith; statuses = omega arith; commands = omega arith; cuts = omega arith }
counted-opened plan (st ∷ sts) (suc s) = counted-opened plan sts s

pub counted-built : (tree : Plan) (routed : Bool) → IsCounted 0 (built_now tree routed)
counted-built tree routed = record {
  streams = counted-opened no_plan [];
  requests = omega arith;
  answers = omega arith;
}

pub counted-begun : (plan : RunPlan) (p : Present) → IsCounted 0 (begun_now plan p)
counted-begun plan p = record {
  streams = counted-opened plan plan.streams;
  requests = omega arith;
  answers = omega arith;
}

counted-stream : (n m : ℕ) (st : StreamNow) → n ≤ m → IsStreamCounted n st → IsStreamCounted m st
counted-stream n m st le c = omega (arith, le, c.sent, c.given, c.statuses, c.commands, c.cuts)

-- a greater number will do
pub counted-within : (n m : ℕ) (p : Present) → n ≤ m → IsCounted n p → IsCounted m p
counted-within n m p le c = record {
  streams = λ s. counted-stream n m (now_at p.streams s) le (c.streams s);
  requests = let few = c.requests in omega (arith, le, few);
  answers = let few = c.answers in omega (arith, le, few);
}

-- what is counted of a stream stays
counted-goes : (n : ℕ) (p : Present) (s : ℕ) (next : StreamNow → StreamNow) → IsCounted n p → IsStreamCounted n (next (now_at p.streams s)) → IsCounted n (on_now s next p)
counted-goes n p s next c here = record {
  streams = one-set {B = ℕ} (λ t st none. IsStreamCounted n st) p.streams [] idle_now 0 (next (now_at p.streams s)) s c.streams here;
  requests = c.requests;
  answers = c.answers;
}

pub counted-handed : (n : ℕ) (p : Present) (s : ℕ) → IsCounted n p → IsCounted n (on_now s hands_now p)
counted-handed n p s c = let st = c.streams s in
    counted-goes n p s hands_now c (record { sent = st.sent; given = st.given; statuses = st.statuses; commands = st.commands; cuts = st.cuts })

pub counted-offered : (n : ℕ) (p : Present) (s : ℕ) → IsCounted n p → IsCounted n (on_now s offers_now p)
counted-offered n p s c = let st = c.streams s in
    counted-goes n p s offers_now c (record { sent = st.sent; given = st.given; statuses = st.statuses; commands = st.commands; cuts = st.cuts })

pub counted-asked : (n : ℕ) (p : Present) (x : ℕ) (packet : Packet) → IsCounted n p → IsCounted n (asked_now x packet p)
counted-asked n p x packet c = record { streams = c.streams; requests = c.requests; answers = c.answers }

pub counted-answered : (n : ℕ) (p : Present) (x : ℕ) → IsCounted n p → IsCounted n (answered_now x p)
counted-answered n p x c = record { streams = c.streams; requests = c.requests; answers = c.answers }

pub counted-marked : (n : ℕ) (p : Present) (faults : List Fault) → IsCounted n p → IsCounted n (marked_now faults p)
counted-marked n p faults c = record { streams = c.streams; requests = omega arith; answers = omega arith }
