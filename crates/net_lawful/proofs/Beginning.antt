-- A network is lawful as it is built, and as a run begins.
use Rattle.std.proofs.Common.{◌≡◌, ℕ, ◌+◌, ◌<◌, ◌≤◌, ◌⊎◌, inl, inr, Bool, true, false, List, [], ◌∷◌, ◌++◌, length, map, refl, sym, ◌∙◌, ap, subst, get_or, arith, zero, suc, if◌then◌else◌}
use Rattle.std.specs.Prelude.{Option, Some, None, IfSome, replicate, slice_get, nat_lt, ◌==◌, ◌&&◌}
use Rattle.std.specs.List.{AllByRecursion, range_with_len}
use Rattle.std.specs.Option.{option_map_or}
use Rattle.std.proofs.lemmas.Bool.{cases_lt, false≢true, lt-ltb}
use Rattle.std.proofs.lemmas.List.{get_or_past, length-map}
use Rattle.std.proofs.lemmas.List.Elements.{All-map, All-nil}
use Rattle.std.proofs.lemmas.List.Quantifiers.{position-Some}
use Rattle.std.proofs.lemmas.Option.{none-some, slice_get_within}
use Rattle.block_library.specs.Blocks.{Lists, block_of, groups, kept_packets}
use Rattle.block_library.specs.Memory.{lists}
use Rattle.block_library.specs.Producer.{produced}
use Rattle.block_library.specs.declared.kind.BlockKind.{BlockKind}
use Rattle.block_library.specs.declared.kind.BlockKind.TheVariants.{Tx, Rx, Fifo, Split, Keep, Repeat, Replay, Switch, Sink}
use Rattle.chdr_packets.specs.declared.packet.Packet.{Packet}
use Rattle.chdr_words.specs.declared.epid.Epid.{Epid}
use Rattle.net_nodes.specs.Table.{HasEntries}
use Rattle.net_nodes.specs.declared.table.Place.{Place}
use Rattle.net_topology.specs.Leads.{has_table}
use Rattle.net_topology.specs.Links.{IsWay, link_at, start_port}
use Rattle.net_topology.specs.Parts.{way_of}
use Rattle.net_topology.specs.Tree.{IsTree, has_epid, node_with, port_count}
use Rattle.net_topology.specs.declared.plan.NodePlan.{NodePlan}
use Rattle.net_topology.specs.declared.plan.NodePlan.TheVariants.{Adapter}
use Rattle.net_topology.specs.declared.plan.Plan.{Plan}
use Rattle.net_topology.proofs.Laws.{links_join_ports, ways_are_there}
use Rattle.net_machine.specs.declared.event.Event.TheVariants.{Ask}
use Rattle.net_machine.specs.declared.plan.BlockPlan.{BlockPlan}
use Rattle.net_machine.specs.declared.plan.RunPlan.{RunPlan}
use Rattle.net_machine.specs.declared.plan.StreamPlan.{StreamPlan}
use Rattle.net_machine.specs.Begin.{begun, built_node, epids_of, exit_over, exit_to, no_plan, opened, place_for, ready_by, source_of}
use Rattle.net_machine.specs.Blocks.{fed_to, has_packet}
use Rattle.net_machine.specs.Conditions.{has_place, has_place_over, may}
use Rattle.net_machine.specs.Front.{Queued, front, queued, queued_at}
use Rattle.net_machine.specs.Moves.{AreEmpty, IsAtRest}
use Rattle.net_machine.specs.Nodes.{is_switch}
use Rattle.net_machine.specs.Plain.{given_at, is_second, made_for, numbered_from}
use Rattle.net_machine.specs.Plans.{block_at, is_tx, no_stream, plan_at, producer_of, stream_into}
use Rattle.net_machine.specs.Queues.{forward_vc, queue_count, queue_of}
use Rattle.net_machine.specs.State.{Entry, State, Stream, blank, idle, node_at, node_in, queue_at, stream_at}
use Rattle.net_machine.specs.Streams.{taken_of}
use Rattle.net_machine.proofs.Laws.{fronts}
use Rattle.net_ways.proofs.Laws.{begun_has_ways, built_has_queues, built_holds_messages, empty_is_placed}
use Rattle.net_flows.specs.Flows.{IsSteady}
use Rattle.net_flows.specs.Beginning.{BegunIsSteady}
use Rattle.net_flows.specs.Lasting.{IsSound}
use Rattle.net_lawful.specs.Laws.{BegunIsLawful, BuiltIsLawful}
use Rattle.net_lawful.specs.Made.{HaveMade}
use Rattle.net_lawful.specs.Messages.{IsNodeFit}
use Rattle.net_lawful.specs.Walking.{KeepsTables}

-- ---- what a run has made as it begins

-- a block that was fed nothing gives nothing
gives-nothing : (block : BlockPlan) (epid : Epid) → given_at block epid (block_of block.kind block.item (lists [] [])) ≡ []
unfolding block_of kept_packets groups
gives-nothing block epid = by_kind block.kind
  where
    by_second : (b : Bool) → ◌≡◌ {A = List Packet} (if b then [] else []) []
    by_second true = refl
    by_second false = refl

    by_number : (b c : Bool) → ◌≡◌ {A = List Packet} (if b then [] else (if c then [] else [])) []
    by_number true c = refl
    by_number false true = refl
    by_number false false = refl

    by_kind : (kind : BlockKind) → given_at block epid (block_of kind block.item (lists [] [])) ≡ []
    by_kind Tx = by_second (is_second block epid)
    by_kind Rx = by_second (is_second block epid)
    by_kind Fifo = by_second (is_second block epid)
    by_kind Split = by_second (is_second block epid)
    by_kind (Keep n) = by_second (is_second block epid)
    by_kind (Repeat n) = by_second (is_second block epid)
    by_kind (Replay n) = by_second (is_second block epid)
    by_kind (Switch n) = by_number (is_second block epid) (n == 0)
    by_kind Sink = by_second (is_second block epid)

-- nothing was taken of a stream as it begins
none-taken : (plan : RunPlan) (streams : List StreamPlan) (s : ℕ) → taken_of (get_or (map (opened plan) streams) s idle) ≡ []
none-taken plan [] s = refl
none-taken plan (st ∷ streams) zero = refl
none-taken plan (st ∷ streams) (suc s) = none-taken plan streams s

opened-at : (plan : RunPlan) (streams : List StreamPlan) (s : ℕ) → s < length streams → get_or (map (opened plan) streams) s idle ≡ opened plan (get_or streams s no_stream)
opened-at plan [] s lt = absurd (omega (arith, lt))
opened-at plan (st ∷ streams) zero lt = refl
opened-at plan (st ∷ streams) (suc s) lt = opened-at plan streams s (omega (arith, lt))

none-fed : (plan : RunPlan) (w : State) (block : BlockPlan) (i : ℕ) → fed_to (begun plan w) block i ≡ []
none-fed plan w block i = by_stream (stream_into plan block i)
  where
    by_stream : (o : Option ℕ) → option_map_or (λ s. taken_of (stream_at (begun plan w) s)) o [] ≡ []
    by_stream None = refl
    by_stream (Some s) = none-taken plan plan.streams s

begun-made : (plan : RunPlan) (w : State) → HaveMade (begun plan w)
begun-made plan w s lt =
    let at = opened-at plan plan.streams s (subst (λ n. s < n) (length-map plan.streams (opened plan)) lt) in
    (λ i. (at i).sent ++ numbered_from (plan_at plan s) (length (at i).sent) (at i).ready) ∙ by_block (producer_of plan s)
  where
    made : (b : ℕ) → Bool → List Packet
    made b tx = if tx then produced (source_of (block_at plan b) (plan_at plan s).to) else []

    by_tx : (b : ℕ) (fed : Lists) → given_at (block_at plan b) (plan_at plan s).from (block_of (block_at plan b).kind (block_at plan b).item fed) ≡ [] →
        ready_by (block_at plan b) (plan_at plan s).to ≡ made_for (block_at plan b) (plan_at plan s) fed
    by_tx b fed none = (λ i. if is_tx (block_at plan b).kind then produced (source_of (block_at plan b) (plan_at plan s).to) else sym none i)

    by_block : (o : Option ℕ) → numbered_from (plan_at plan s) 0 (option_map_or (λ b. ready_by (block_at plan b) (plan_at plan s).to) o [])
        ≡ option_map_or (λ b. numbered_from (plan_at plan s) 0 (made_for (block_at plan b) (plan_at plan s) (lists (fed_to (begun plan w) (block_at plan b) 0) (fed_to (begun plan w) (block_at plan b) 1)))) o []
    by_block None = refl
    by_block (Some b) =
        let first = none-fed plan w (block_at plan b) 0 in
        let second = none-fed plan w (block_at plan b) 1 in
        let none = ap (λ (l : Lists). given_at (block_at plan b) (plan_at plan s).from (block_of (block_at plan b).kind (block_at plan b).item l)) (λ i. lists (first i) (second i))
        ∙ gives-nothing (block_at plan b) (plan_at plan s).from in
        ap (numbered_from (plan_at plan s) 0) (by_tx b (lists (fed_to (begun plan w) (block_at plan b) 0) (fed_to (begun plan w) (block_at plan b) 1)) none)

-- ---- a run begins

empty-at : (w : State) → AreEmpty w → (q : ℕ) → queue_at w.queues q ≡ []
empty-at w empty q = by_order (cases_lt q (length w.queues))
  where
    by_order : (q < length w.queues) ⊎ (length w.queues ≤ q) → queue_at w.queues q ≡ []
    by_order (inl lt) = empty q [] lt
    by_order (inr past) = get_or_past w.queues q [] past

no-entries : (P : Entry → Type 0) (es : List Entry) → es ≡ [] → AllByRecursion P es
no-entries P es is = rw is tt

-- at rest a node with a link asks nothing
none-asked : (w : State) (x d : ℕ) → IsSteady w → IsAtRest w → link_at w.tree.links x 0 ≡ Some d → AllByRecursion KeepsTables (node_at w x).requests
unfolding may
none-asked w x d steady rest at = by_requests (node_at w x).requests (rest.still (Ask x))
  where
    room : has_place_over (front w) forward_vc (link_at w.tree.links x 0) ≡ true
    room =
        let none : queued_at (front w) (queue_of d forward_vc) ≡ [] = fronts.queue w (queue_of d forward_vc) ∙ ap (map queued) (empty-at w rest.empty (queue_of d forward_vc)) in
        ap (λ o. option_map_or (λ l. has_place (front w) (queue_of l forward_vc)) o false) at
        ∙ ap (λ (es : List Queued). nat_lt (length es) w.tree.room) none
        ∙ lt-ltb 0 w.tree.room steady.queues.tree.room.0

    by_requests : (requests : List Packet) → (has_packet requests && has_place_over (front w) forward_vc (link_at w.tree.links x 0)) ≡ false → AllByRecursion KeepsTables requests
    by_requests [] none = tt
    by_requests (p ∷ packets) none = absurd (false≢true (sym none ∙ room))

pub begun-lawful : BegunIsSteady → BegunIsLawful
begun-lawful begins plan w lawful rest can = record {
  steady = begins plan w lawful.steady.queues lawful.steady.messages rest.empty can;
  tree = lawful.tree;
  nodes = lawful.nodes;
  messages = lawful.messages;
  spelled = lawful.spelled;
  makes = begun-made plan w;
  peaks = λ s lt.
      let at = opened-at plan plan.streams s (subst (λ n. s < n) (length-map plan.streams (opened plan)) lt) in
      record {
        packets = subst (λ (st : Stream). st.peak.packets ≤ (plan_at plan s).flow.cap_packets) (sym at) (omega arith);
        bytes = subst (λ (st : Stream). st.peak.bytes ≤ (plan_at plan s).flow.cap_bytes) (sym at) (omega arith);
      };
  led = λ is. record {
    ways = begun_has_ways plan w can;
    placed = empty_is_placed (begun plan w) rest.empty;
    queued = λ q. no-entries (λ (e : Entry). KeepsTables e.packet) (queue_at w.queues q) (empty-at w rest.empty q);
    asked = λ x d at. none-asked w x d lawful.steady rest at;
  };
  stilled = λ is. absurd (false≢true is);
}

-- ---- a network is built

-- the first link of a way leaves its node by a port of it
exit-within : (tree : Plan) (x z : ℕ) (ds : List ℕ) → IsTree tree → IsWay tree.links x z ds → IfSome (exit_over tree ds) (λ port. port < port_count tree.nodes x)
exit-within tree x z [] is way = tt
exit-within tree x z (d ∷ ds) is way =
    let walks = way.0 in
    subst (λ y. start_port tree.links d < port_count tree.nodes y) walks.1 (links_join_ports tree is d walks.0).2

place-within : (tree : Plan) (x : ℕ) (epid : Epid) → IsTree tree → x < length tree.nodes → IfSome (exit_to tree x epid) (λ port. port < port_count tree.nodes x)
place-within tree x epid is lt = by_node (node_with tree.nodes epid) refl
  where
    by_node : (o : Option ℕ) → node_with tree.nodes epid ≡ o → IfSome (option_map_or (λ z. exit_over tree (way_of tree.links x z)) o None) (λ port. port < port_count tree.nodes x)
    by_node None found = tt
    by_node (Some z) found =
        exit-within tree x z (way_of tree.links x z) is (ways_are_there tree is x z lt (position-Some (has_epid epid) tree.nodes z Adapter found).0)

places-within : (tree : Plan) (routed : Bool) (x : ℕ) → IsTree tree → x < length tree.nodes → HasEntries (port_count tree.nodes x) (map (place_for tree routed x) (epids_of tree))
places-within tree true x is lt =
    All-map (λ (place : Place). IfSome place.exit (λ port. port < port_count tree.nodes x)) (place_for tree true x) (epids_of tree) (λ i d within. place-within tree x (get_or (epids_of tree) i d) is lt)
places-within tree false x is lt =
    All-map (λ (place : Place). IfSome place.exit (λ port. port < port_count tree.nodes x)) (place_for tree false x) (epids_of tree) (λ i d within. tt)

blank-fit : (tree : Plan) (x : ℕ) → IsNodeFit tree x blank
blank-fit tree x = record { table = All-nil _; requests = tt; pending = tt; answers = tt }

built-fit : (tree : Plan) (routed : Bool) (x : ℕ) → IsTree tree → IsNodeFit tree x (built_node tree routed x)
built-fit tree routed x is = by_sort (is_switch tree x) refl
  where
    there : (o : Option NodePlan) → slice_get tree.nodes x ≡ o → is_switch tree x ≡ true → x < length tree.nodes
    there None at switch = absurd (false≢true (sym (ap (λ (o : Option NodePlan). option_map_or has_table o false) at) ∙ switch))
    there (Some node) at switch = slice_get_within tree.nodes x node at

    by_sort : (b : Bool) → is_switch tree x ≡ b → IsNodeFit tree x (if b then record blank { table = map (place_for tree routed x) (epids_of tree) } else blank)
    by_sort true switch = record { table = places-within tree routed x is (there (slice_get tree.nodes x) refl switch); requests = tt; pending = tt; answers = tt }
    by_sort false switch = blank-fit tree x

rows-fit : (tree : Plan) (routed : Bool) → IsTree tree → (a n x : ℕ) → IsNodeFit tree (a + x) (node_in (map (built_node tree routed) (range_with_len a n)) x)
rows-fit tree routed is a zero x = blank-fit tree (a + x)
rows-fit tree routed is a (suc n) zero = let same : a ≡ a + 0 = omega arith in subst (λ y. IsNodeFit tree y (built_node tree routed a)) same (built-fit tree routed a is)
rows-fit tree routed is a (suc n) (suc x) =
    let same : a + 1 + x ≡ a + suc x = omega arith in
    subst (λ y. IsNodeFit tree y (node_in (map (built_node tree routed) (range_with_len (a + 1) n)) x)) same (rows-fit tree routed is (a + 1) n x)

-- queues as they are built are empty
empty-row : (n q : ℕ) → queue_at (replicate n []) q ≡ []
empty-row zero q = refl
empty-row (suc n) zero = refl
empty-row (suc n) (suc q) = empty-row n q

no-port : (A : Type 0) (x : A) → ◌≡◌ {A = Option A} None (Some x) → ⊥
no-port A x is = none-some x is

-- a plan of nothing can run
nothing-sound : (tree : Plan) → IsSound tree no_plan
nothing-sound tree = record {
  fits = record {
    blocks = λ b lt. absurd (omega (arith, lt));
    starts = λ s lt. absurd (omega (arith, lt));
    flows = λ s lt. absurd (omega (arith, lt));
    forms = λ s lt. absurd (omega (arith, lt));
  };
  few_blocks = omega arith;
  endpoints = λ b lt. absurd (omega (arith, lt));
  endpoints_free = ((λ a b i j epid here there. absurd (no-port Epid epid here)), (λ a b i j epid here there. absurd (no-port Epid epid here)));
  few_streams = omega arith;
  ports = λ s lt. absurd (omega (arith, lt));
  ports_free = ((λ s t here there same. absurd (omega (arith, here))), (λ s t here there same. absurd (omega (arith, here))));
  acyclic = λ s lt. absurd (omega (arith, lt));
  no_loops = λ s lt. absurd (omega (arith, lt));
  no_open_ports = λ b lt. absurd (omega (arith, lt));
  small = λ s lt. absurd (omega (arith, lt));
  few_packets = λ s lt. absurd (omega (arith, lt));
}

-- no request waits at a node as it is built
built-asks : (tree : Plan) (routed : Bool) (x : ℕ) → AllByRecursion KeepsTables (built_node tree routed x).requests
built-asks tree routed x = by_sort (is_switch tree x)
  where
    by_sort : (b : Bool) → AllByRecursion KeepsTables (if b then record blank { table = map (place_for tree routed x) (epids_of tree) } else blank).requests
    by_sort true = tt
    by_sort false = tt

rows-ask : (tree : Plan) (routed : Bool) (a n x : ℕ) → AllByRecursion KeepsTables (node_in (map (built_node tree routed) (range_with_len a n)) x).requests
rows-ask tree routed a zero x = tt
rows-ask tree routed a (suc n) zero = built-asks tree routed a
rows-ask tree routed a (suc n) (suc x) = rows-ask tree routed (a + 1) n x

pub built-lawful : BuiltIsLawful
built-lawful tree routed banks is fits = record {
  steady = record {
    queues = built_has_queues tree routed banks is;
    plan = nothing-sound tree;
    as_many = refl;
    messages = built_holds_messages tree routed banks;
    telling = λ q. no-entries _ (queue_at (replicate (queue_count tree) []) q) (empty-row (queue_count tree) q);
    forms = λ s lt. absurd (omega (arith, lt));
    flows = λ s lt. absurd (omega (arith, lt));
  };
  tree = fits;
  nodes = λ x. let same : 0 + x ≡ x = omega arith in
      subst (λ y. IsNodeFit tree y (node_in (map (built_node tree routed) (range_with_len 0 (length tree.nodes))) x)) same (rows-fit tree routed is 0 (length tree.nodes) x);
  messages = λ q. no-entries _ (queue_at (replicate (queue_count tree) []) q) (empty-row (queue_count tree) q);
  spelled = λ q. no-entries _ (queue_at (replicate (queue_count tree) []) q) (empty-row (queue_count tree) q);
  makes = λ s lt. absurd (omega (arith, lt));
  peaks = λ s lt. absurd (omega (arith, lt));
  led = λ walked. record {
    ways = record { as_many = refl; each = λ s lt. absurd (omega (arith, lt)) };
    placed = λ q. no-entries _ (queue_at (replicate (queue_count tree) []) q) (empty-row (queue_count tree) q);
    queued = λ q. no-entries _ (queue_at (replicate (queue_count tree) []) q) (empty-row (queue_count tree) q);
    asked = λ x d at. rows-ask tree routed 0 (length tree.nodes) x;
  };
  stilled = λ walked. absurd (false≢true walked);
}
