-- A run begins with all that lasts, and each move keeps it.
use Rattle.std.proofs.Common.{◌≡◌, ℕ, ◌+◌, ◌*◌, ◌<◌, ◌≤◌, inl, inr, Bool, true, false, List, [], ◌∷◌, ◌++◌, length, map, refl, sym, ◌∙◌, ap, subst, get_or, if◌then◌else◌}
use Rattle.std.specs.Prelude.{Option, None, Some, is_some}
use Rattle.std.specs.List.{All, AllByRecursion, flat_map, list_any}
use Rattle.std.specs.Option.{option_map_or}
use Rattle.std.proofs.lemmas.Bool.{cases_lt}
use Rattle.std.proofs.lemmas.List.{get_or-map, get_or_past, length-map}
use Rattle.std.proofs.lemmas.List.Elements.{All-head, All-nil, All-tail, All-weaker}
use Rattle.std.proofs.lemmas.List.Quantifiers.{position-Some}
use Rattle.block_library.proofs.Laws.{plans_are_within}
use Rattle.block_library.specs.Producer.{FitsPlan, produced}
use Rattle.block_library.specs.Within.{IsWithin}
use Rattle.chdr_packets.specs.Length.{wire_of}
use Rattle.chdr_packets.specs.declared.packet.Packet.{Packet}
use Rattle.chdr_words.specs.declared.epid.Epid.{Epid}
use Rattle.stream_laws.proofs.Laws.{goes_on}
use Rattle.stream_laws.specs.Acts.{Fill, Leads, after as act_after}
use Rattle.stream_laws.specs.Laws.{IsRun}
use Rattle.stream_laws.specs.Machine.{Load, State as OneStream, Terms, opens}
use Rattle.net_topology.specs.declared.plan.Plan.{Plan}
use Rattle.net_machine.specs.declared.plan.RunPlan.{RunPlan}
use Rattle.net_machine.specs.declared.plan.StreamPlan.{StreamPlan}
use Rattle.net_machine.specs.Begin.{begun, opened, ready_at_first, ready_by, source_of}
use Rattle.net_machine.specs.CanBegin.{CanBegin, is_timed}
use Rattle.net_machine.specs.Moves.{Answered, AreEmpty, Asks, Happens, Loads, Marks, after_move}
use Rattle.net_machine.specs.Plain.{numbered_from}
use Rattle.net_machine.specs.Plans.{block_at, is_among, is_tx, no_block, no_stream, plan_at, producer_of}
use Rattle.net_machine.specs.State.{Entry, State, Stream, idle, queue_at, stream_at}
use Rattle.net_ways.proofs.Laws.{begun_has_queues, messages_stay}
use Rattle.net_ways.specs.Gather.{gather, list_at}
use Rattle.net_ways.specs.Hops.{GoesAhead, IsUnseen}
use Rattle.net_ways.specs.Standing.{AreMessages}
use Rattle.net_ways.specs.Ways.{HasQueues, back_way, forward_way, pick_ahead, pick_back}
use Rattle.net_streams.specs.Shows.{Shows, core_of, flight_of, loads_of, terms_of, told_of}
use Rattle.net_flows.specs.Beginning.{BegunIsSteady, MovesKeepSteady, SteadyIsReady}
use Rattle.net_flows.specs.Flows.{IsFlow, IsSteady}
use Rattle.net_flows.specs.Forms.{AreTelling, HasForm, HaveForms, IsPacketOn, Tells}
use Rattle.net_flows.specs.Lasting.{IsSound}
use Rattle.net_flows.proofs.Entering.{ready-there, samples-in}
use Rattle.net_flows.proofs.Fitting.{IsOfBlock, all-fit, on-producer}
use Rattle.net_flows.proofs.Following.{flow-of}
use Rattle.net_flows.proofs.Staying.{steady_stays, unseen_flows}

sound-of : (w : State) (plan : RunPlan) → CanBegin w.tree w.nodes plan → IsSound w.tree plan
sound-of w plan can = record {
  fits = can.fits;
  few_blocks = can.few_blocks;
  endpoints = can.endpoints;
  endpoints_free = can.endpoints_free;
  few_streams = can.few_streams;
  ports = can.ports;
  ports_free = can.ports_free;
  acyclic = can.acyclic;
  no_loops = can.no_loops;
  no_open_ports = can.no_open_ports;
  small = can.small;
  few_packets = can.few_packets;
}

-- ---- nothing is under way

empty-at : (w : State) → AreEmpty w → (q : ℕ) → queue_at w.queues q ≡ []
empty-at w empty q =
    elim (cases_lt q (length w.queues)) [
      | inl lt ↦ empty q [] lt
      | inr past ↦ get_or_past w.queues q [] past
    ]

gathers-none : (pick : Entry → List Entry) (queues : List (List Entry)) (qs : List ℕ) → ((q : ℕ) → list_at queues q ≡ []) → gather pick queues qs ≡ []
gathers-none pick queues [] none = refl
gathers-none pick queues (q ∷ qs) none =
    ap (λ (es : List Entry). es ++ flat_map pick (list_at queues q)) (gathers-none pick queues qs none) ∙ ap (λ (es : List Entry). flat_map pick es) (none q)

none-tell : (plan : RunPlan) (es : List Entry) → es ≡ [] → AllByRecursion (λ (e : Entry). Tells plan e e.packet.body) es
none-tell plan es is = rw is tt

-- ---- what is ready at first

fits-source : (plan : RunPlan) (b : ℕ) (dst own : Epid) → FitsPlan (source_of (block_at plan b) own) → FitsPlan (source_of (block_at plan b) dst)
fits-source plan b dst own fits = record { packets = fits.packets; spp_low = fits.spp_low; spp_high = fits.spp_high; item = fits.item }

made-form : (plan : RunPlan) (b : ℕ) (dst own : Epid) → FitsPlan (source_of (block_at plan b) own) → All (IsOfBlock plan b) (ready_by (block_at plan b) dst)
made-form plan b dst own fits = by_kind (is_tx (block_at plan b).kind) refl
  where
    by_kind : (k : Bool) → is_tx (block_at plan b).kind ≡ k → All (IsOfBlock plan b) (if k then produced (source_of (block_at plan b) dst) else [])
    by_kind true tx =
        subst (λ (k : Bool). All (IsWithin (block_at plan b).item ((block_at plan b).spp * (block_at plan b).item) (if k then is_some (block_at plan b).time else list_any is_timed plan.blocks)) (produced (source_of (block_at plan b) dst))) (sym tx)
        (plans_are_within (source_of (block_at plan b) dst) (fits-source plan b dst own fits))
    by_kind false other = All-nil (IsOfBlock plan b)

ready-form : (tree : Plan) (plan : RunPlan) (s : ℕ) → IsSound tree plan → All (IsPacketOn plan s) (ready_at_first plan (plan_at plan s))
ready-form tree plan s sound = by_producer (producer_of plan s) refl
  where
    by_producer : (o : Option ℕ) → producer_of plan s ≡ o → All (IsPacketOn plan s) (option_map_or (λ (b : ℕ). ready_by (block_at plan b) (plan_at plan s).to) o [])
    by_producer None is = All-nil (IsPacketOn plan s)
    by_producer (Some b) is =
        let lt = (position-Some (λ block. is_among (plan_at plan s).from block.outs) plan.blocks b no_block is).0 in
        All-weaker (IsOfBlock plan b) (IsPacketOn plan s) (on-producer plan s b is) (ready_by (block_at plan b) (plan_at plan s).to)
        (made-form plan b (plan_at plan s).to _ (sound.fits.blocks b lt).source)

-- ---- a stream begins

opened-at : (plan : RunPlan) (w : State) (s : ℕ) → s < length plan.streams → stream_at (begun plan w) s ≡ opened plan (plan_at plan s)
opened-at plan w s lt = get_or-map (opened plan) plan.streams s no_stream idle lt

opened-form : (tree : Plan) (plan : RunPlan) (s : ℕ) → IsSound tree plan → HasForm plan s (opened plan (plan_at plan s))
opened-form tree plan s sound = record { ready = ready-form tree plan s sound; given = All-nil (IsPacketOn plan s) }

all-small : (plan : StreamPlan) (cap place : ℕ) (ps : List Packet) → All (λ p. wire_of p ≤ cap) ps → AllByRecursion (λ (load : Load Packet). load.wire ≤ cap) (loads_of (numbered_from plan place ps))
all-small plan cap place [] small = tt
all-small plan cap place (p ∷ ps) small =
    (All-head (λ (q : Packet). wire_of q ≤ cap) p ps small, all-small plan cap (place + 1) ps (All-tail (λ (q : Packet). wire_of q ≤ cap) p ps small))

begun-flow : (plan : RunPlan) (w : State) (s : ℕ) → AreEmpty w → IsSound w.tree plan → s < length plan.streams → IsFlow (begun plan w) s
begun-flow plan w s empty sound lt = flow-of (begun plan w) s false filled (λ h. cc) run shows
  where
    stream : StreamPlan
    stream = plan_at plan s

    terms : Terms
    terms = terms_of stream

    loads : List (Load Packet)
    loads = loads_of (numbered_from stream 0 (ready_at_first plan stream))

    filled : OneStream Packet
    filled = act_after terms (opens terms) (Fill loads)

    itself : Leads terms (opens {A = Packet} terms) (opens terms)
    itself = record { acts = []; legal = tt; there = refl }

    run : IsRun terms filled
    run = record {
      valid = sound.fits.flows s lt;
      run = goes_on terms (opens terms) (opens terms) (Fill loads) itself (
        refl,
        all-small stream stream.flow.cap_bytes 0 (ready_at_first plan stream)
            (all-fit w.tree plan s sound lt (ready_at_first plan stream) (ready-form w.tree plan s sound)),
      );
    }

    shows : Shows (begun plan w) s false filled
    shows = record {
      core = ap (core_of stream false) (sym (opened-at plan w s lt));
      forward = ap (λ (es : List Entry). flat_map flight_of es)
          (sym (gathers-none (pick_ahead stream) w.queues (forward_way w.tree stream) (empty-at w empty)));
      back = ap (λ (es : List Entry). flat_map told_of es)
          (sym (gathers-none (pick_back stream) w.queues (back_way w.tree stream) (empty-at w empty)));
    }

pub begun_is_steady : BegunIsSteady
begun_is_steady plan w has messages empty can =
    let sound = sound-of w plan can in
    let as_many : length (map (opened plan) plan.streams) ≡ length plan.streams = length-map plan.streams (opened plan) in
    record {
      queues = begun_has_queues plan w has;
      plan = sound;
      as_many = as_many;
      messages = messages;
      telling = λ q. none-tell plan (queue_at w.queues q) (empty-at w empty q);
      forms = λ s there. subst (HasForm plan s) (sym (opened-at plan w s (subst (λ (n : ℕ). s < n) as_many there))) (opened-form w.tree plan s sound);
      flows = λ s there. begun-flow plan w s empty sound (subst (λ (n : ℕ). s < n) as_many there);
    }

-- ---- moves

-- only nodes, registers, faults and the counts of requests change
record IsBeside (w v : State) : Type 0 where
  tree : v.tree ≡ w.tree
  plan : v.plan ≡ w.plan
  queues : v.queues ≡ w.queues
  streams : v.streams ≡ w.streams

beside-unseen : (w v : State) → IsBeside w v → (s : ℕ) → IsUnseen w v s
beside-unseen w v beside s = record {
  plan = beside.plan;
  tree = beside.tree;
  stream = ap (λ (streams : List Stream). get_or streams s idle) beside.streams;
  ahead = ap (λ (queues : List (List Entry)). gather (pick_ahead (plan_at v.plan s)) queues (forward_way v.tree (plan_at v.plan s))) beside.queues
      ∙ ap (λ (plan : RunPlan). gather (pick_ahead (plan_at plan s)) w.queues (forward_way v.tree (plan_at plan s))) beside.plan
      ∙ ap (λ (tree : Plan). gather (pick_ahead (plan_at w.plan s)) w.queues (forward_way tree (plan_at w.plan s))) beside.tree;
  back = ap (λ (queues : List (List Entry)). gather (pick_back (plan_at v.plan s)) queues (back_way v.tree (plan_at v.plan s))) beside.queues
      ∙ ap (λ (plan : RunPlan). gather (pick_back (plan_at plan s)) w.queues (back_way v.tree (plan_at plan s))) beside.plan
      ∙ ap (λ (tree : Plan). gather (pick_back (plan_at w.plan s)) w.queues (back_way tree (plan_at w.plan s))) beside.tree;
}

beside-steady : (w v : State) → IsBeside w v → HasQueues v → IsSound v.tree v.plan → length v.streams ≡ length v.plan.streams → AreMessages v → AreTelling v → HaveForms v → IsSteady w → IsSteady v
beside-steady w v beside queues sound as_many messages telling forms steady = record {
  queues = queues;
  plan = sound;
  as_many = as_many;
  messages = messages;
  telling = telling;
  forms = forms;
  flows = unseen_flows w v (ap (λ (streams : List Stream). length streams) beside.streams) (beside-unseen w v beside) steady.flows;
}

pub moves_keep_steady : MovesKeepSteady
moves_keep_steady w (Happens e) allowed steady ways placed = steady_stays w e steady ways placed allowed
moves_keep_steady w (Asks x p) allowed steady ways placed =
    beside-steady w (after_move w (Asks x p)) (record { tree = refl; plan = refl; queues = refl; streams = refl }) (record { tree = steady.queues.tree; queues = steady.queues.queues })
    steady.plan steady.as_many (messages_stay w (Asks x p) allowed steady.messages) steady.telling steady.forms steady
moves_keep_steady w (Answered x) allowed steady ways placed =
    beside-steady w (after_move w (Answered x)) (record { tree = refl; plan = refl; queues = refl; streams = refl }) (record { tree = steady.queues.tree; queues = steady.queues.queues })
    steady.plan steady.as_many (messages_stay w (Answered x) allowed steady.messages) steady.telling steady.forms steady
moves_keep_steady w (Marks faults) allowed steady ways placed =
    beside-steady w (after_move w (Marks faults)) (record { tree = refl; plan = refl; queues = refl; streams = refl }) (record { tree = steady.queues.tree; queues = steady.queues.queues })
    steady.plan steady.as_many (messages_stay w (Marks faults) allowed steady.messages) steady.telling steady.forms steady
moves_keep_steady w (Loads banks) allowed steady ways placed =
    beside-steady w (after_move w (Loads banks)) (record { tree = refl; plan = refl; queues = refl; streams = refl }) (record { tree = steady.queues.tree; queues = steady.queues.queues })
    steady.plan steady.as_many (messages_stay w (Loads banks) allowed steady.messages) steady.telling steady.forms steady

-- ---- what is ready

pub steady_is_ready : SteadyIsReady
steady_is_ready w steady = record {
  samples = λ s p rest is.
      let within : IsPacketOn w.plan s p = All-head (IsPacketOn w.plan s) p rest (subst (All (IsPacketOn w.plan s)) is (steady.forms s (ready-there w s p rest is)).ready) in
      subst GoesAhead (sym (samples-in w.plan s p within).is) tt;
  messages = steady.messages;
}
