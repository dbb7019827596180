-- The present goes on as the state does at each event of a stream, a block or a node.
use Rattle.std.proofs.Common.{◌≡◌, ℕ, ◌+◌, ◌<◌, false, List, [], ◌∷◌, length, refl, sym, ◌∙◌, ap, subst, set, Option, None, Some}
use Rattle.std.specs.Prelude.{slice_get}
use Rattle.std.specs.Option.{option_map_or}
use Rattle.block_library.specs.Memory.{Kept, gives}
use Rattle.chdr_packets.specs.declared.packet.Body.TheVariants as body
use Rattle.chdr_packets.specs.declared.packet.Packet.{Packet}
use Rattle.chdr_words.specs.declared.command.CmdOp.{CmdOp}
use Rattle.chdr_words.specs.declared.epid.Epid.{Epid}
use Rattle.chdr_words.specs.declared.command.Command.{Command}
use Rattle.chdr_words.specs.declared.status.Status.{Status}
use Rattle.net_topology.specs.Links.{link_at}
use Rattle.net_topology.specs.declared.plan.Plan.{Plan}
use Rattle.endpoint_laws.proofs.Laws.{kept_numbers, kept_orders, kept_status}
use Rattle.stream_endpoint.specs.Epochs.{ordered_by, told_by}
use Rattle.stream_endpoint.specs.InEnd.{status_of}
use Rattle.stream_endpoint.specs.OutEnd.{command_of}
use Rattle.stream_endpoint.specs.Sender.{next_number}
use Rattle.net_faults.specs.declared.fault.Fault.{Fault}
use Rattle.net_faults.specs.declared.fault.Fault.TheVariants as fault
use Rattle.net_machine.specs.declared.plan.RunPlan.{RunPlan}
use Rattle.net_machine.specs.Blocks.{kept_at}
use Rattle.net_machine.specs.Effects.{asks_first, enters, feeds, feeds_from, gives_out, on_stream, orders, replies_first, reports}
use Rattle.net_machine.specs.Faults.{is_named}
use Rattle.net_machine.specs.Nodes.{route_from}
use Rattle.net_machine.specs.Passing.{message}
use Rattle.net_machine.specs.Plans.{block_at, first_link, is_rx, plan_at, stream_into}
use Rattle.net_machine.specs.Queues.{back_vc, forward_vc}
use Rattle.net_machine.specs.State.{Message, Node, Order, Report, Sample, State, stream_at}
use Rattle.net_machine.specs.Streams.{numbered, receiving_of, sending_of, sends_first, sends_order, sends_status, taken_to}
use Rattle.net_present.specs.Fits.{FitsPresent}
use Rattle.net_present.specs.Kept.{IsNow, block_now_at, now_at}
use Rattle.net_present.specs.Onward.{asks_now, block_fed, enters_now as entering_now, feeds_from_now, feeds_now, gives_out_now, on_now, orders_now, replies_now, reports_now}
use Rattle.net_present.specs.Present.{BlockNow, Present, StreamNow}
use Rattle.net_present.specs.StreamSteps.{fed_now, receiving_now, sending_now, sends_first_now, sends_order_now, sends_status_now}
use Rattle.net_present.proofs.Feeds.{fed-follows, gives-follows, kept-fed}
use Rattle.net_present.proofs.Places.{node-enters, stream-enters}
use Rattle.net_present.proofs.StreamsNow.{get-drop, now-orders, now-reports, now-sends}

-- ---- entering

pub enters-follows : (p : Present) (w : State) (s : ℕ) (ready : List Packet) → (stream_at w s).ready ≡ ready → IsNow p w →
    IsNow (entering_now s ready p) (enters s ready w)
enters-follows p w s [] is now = now
enters-follows p w s (packet ∷ rest) is now =
    let st = stream_at w s in
    let it = now.streams s in
    let count : (now_at p.streams s).sent ≡ length st.sent = ap (λ (t : StreamNow). t.sent) it.is in
    let number : next_number (now_at p.streams s).sender ≡ next_number st.sender = ap (λ (t : StreamNow). next_number t.sender) it.is ∙ kept_numbers st.sender in
    stream-enters p w s forward_vc (sends_first_now packet rest) (sends_first (plan_at w.plan s) packet rest) (Sample (length st.sent))
    _ _ _ _ _ _
    (ap (λ (tree : Plan). first_link tree (plan_at p.plan s).from) now.tree ∙ ap (λ (plan : RunPlan). first_link w.tree (plan_at plan s).from) now.plan)
    (ap (λ (faults : List Fault). is_named faults (fault.Samples s (now_at p.streams s).sent)) now.faults ∙ ap (λ k. is_named w.faults (fault.Samples s k)) count)
    (ap (λ (plan : RunPlan). numbered (plan_at plan s) (next_number (now_at p.streams s).sender) packet) now.plan ∙ ap (λ k. numbered (plan_at w.plan s) k packet) number)
    now (now-sends _ _ _ (plan_at w.plan s) packet rest is it) refl

pub orders-follows : (p : Present) (w : State) (s : ℕ) (op : CmdOp) → IsNow p w → IsNow (orders_now s op p) (orders s op w)
orders-follows p w s op now =
    let st = stream_at w s in
    let it = now.streams s in
    let count : (now_at p.streams s).commands ≡ st.commands = ap (λ (t : StreamNow). t.commands) it.is in
    let command : command_of op (sending_now (plan_at w.plan s) (now_at p.streams s)) ≡ command_of op (sending_of (plan_at w.plan s) st) =
    ap (λ (t : StreamNow). command_of op (sending_now (plan_at w.plan s) t)) it.is ∙ kept_orders op (sending_of (plan_at w.plan s) st) in
    stream-enters p w s forward_vc (sends_order_now op) (sends_order op) (Order (ordered_by (plan_at w.plan s).flow st.sender op))
    _ _ _ _ _ _
    (ap (λ (tree : Plan). first_link tree (plan_at p.plan s).from) now.tree ∙ ap (λ (plan : RunPlan). first_link w.tree (plan_at plan s).from) now.plan)
    (ap (λ (faults : List Fault). is_named faults (fault.Command s (now_at p.streams s).commands)) now.faults ∙ ap (λ k. is_named w.faults (fault.Command s k)) count)
    (ap (λ (plan : RunPlan). message forward_vc (plan_at plan s).to (body.Command (command_of op (sending_now (plan_at plan s) (now_at p.streams s))))) now.plan
    ∙ ap (λ (c : Command). message forward_vc (plan_at w.plan s).to (body.Command c)) command)
    now (now-orders _ _ _ op it) refl

pub reports-follows : (p : Present) (w : State) (s : ℕ) → IsNow p w → IsNow (reports_now s p) (reports s w)
reports-follows p w s now =
    let st = stream_at w s in
    let it = now.streams s in
    let count : (now_at p.streams s).statuses ≡ st.statuses = ap (λ (t : StreamNow). t.statuses) it.is in
    let status : status_of (receiving_now (plan_at w.plan s) (now_at p.streams s)) ≡ status_of (receiving_of (plan_at w.plan s) st) =
    ap (λ (t : StreamNow). status_of (receiving_now (plan_at w.plan s) t)) it.is ∙ kept_status (receiving_of (plan_at w.plan s) st) in
    stream-enters p w s back_vc sends_status_now sends_status (Report (told_by st.receiver))
    _ _ _ _ _ _
    (ap (λ (tree : Plan). first_link tree (plan_at p.plan s).to) now.tree ∙ ap (λ (plan : RunPlan). first_link w.tree (plan_at plan s).to) now.plan)
    (ap (λ (faults : List Fault). is_named faults (fault.Status s (now_at p.streams s).statuses)) now.faults ∙ ap (λ k. is_named w.faults (fault.Status s k)) count)
    (ap (λ (plan : RunPlan). message back_vc (plan_at plan s).from (body.Status (status_of (receiving_now (plan_at plan s) (now_at p.streams s))))) now.plan
    ∙ ap (λ (it : Status). message back_vc (plan_at w.plan s).from (body.Status it)) status)
    now (now-reports _ _ _ it) refl

-- ---- nodes

pub asks-follows : (p : Present) (w : State) (x : ℕ) (requests : List Packet) → IsNow p w → IsNow (asks_now x requests p) (asks_first x requests w)
asks-follows p w x [] now = now
asks-follows p w x (packet ∷ rest) now =
    node-enters _ _ x forward_vc (λ (n : Node). record n { requests = rest }) Message _ _ _ _ packet
    (ap (λ (tree : Plan). link_at tree.links x 0) now.tree)
    (ap (λ (faults : List Fault). is_named faults (fault.Request p.requests)) now.faults ∙ ap (λ k. is_named w.faults (fault.Request k)) now.requests)
    counted
  where
    counted : IsNow (record p { requests = p.requests + 1 }) (record w { requests = w.requests + 1 })
    counted = record {
      tree = now.tree;
      plan = now.plan;
      queues = now.queues;
      nodes = now.nodes;
      as_many_streams = now.as_many_streams;
      streams = now.streams;
      as_many_blocks = now.as_many_blocks;
      blocks = now.blocks;
      faults = now.faults;
      requests = ap (λ k. k + 1) now.requests;
      answers = now.answers;
    }

pub route-same : (p : Present) (w : State) (x : ℕ) (dst : Epid) → IsNow p w → route_from p.tree p.nodes x dst ≡ route_from w.tree w.nodes x dst
route-same p w x dst now =
    ap (λ (tree : Plan). route_from tree p.nodes x dst) now.tree ∙ ap (λ (nodes : List Node). route_from w.tree nodes x dst) now.nodes

pub replies-follows : (p : Present) (w : State) (x : ℕ) (pending : List Packet) → IsNow p w → IsNow (replies_now x pending p) (replies_first x pending w)
replies-follows p w x [] now = now
replies-follows p w x (packet ∷ rest) now =
    node-enters _ _ x back_vc (λ (n : Node). record n { pending = rest }) Message _ _ _ _ packet
    (route-same p w x packet.dst now)
    (ap (λ (faults : List Fault). is_named faults (fault.Answer p.answers)) now.faults ∙ ap (λ k. is_named w.faults (fault.Answer k)) now.answers)
    counted
  where
    counted : IsNow (record p { answers = p.answers + 1 }) (record w { answers = w.answers + 1 })
    counted = record {
      tree = now.tree;
      plan = now.plan;
      queues = now.queues;
      nodes = now.nodes;
      as_many_streams = now.as_many_streams;
      streams = now.streams;
      as_many_blocks = now.as_many_blocks;
      blocks = now.blocks;
      faults = now.faults;
      requests = now.requests;
      answers = ap (λ k. k + 1) now.answers;
    }

-- ---- blocks

-- of the stream into an input that a block may be fed from
feeds-from : (p : Present) (w : State) (b i s : ℕ) (o : Option Packet) → slice_get (stream_at w s).given (stream_at w s).taken ≡ o → FitsPresent w → IsNow p w →
    is_rx (block_at w.plan b).kind ≡ false → stream_into w.plan (block_at w.plan b) i ≡ Some s → b < length w.plan.blocks →
    IsNow
    (option_map_or (λ packet. gives_out_now (block_at p.plan b) (gives (block_now_at p.blocks b).kept i packet)
    (record (on_now s fed_now p) { blocks = set p.blocks b (block_fed i packet (block_now_at p.blocks b)) })) o p)
    (option_map_or (λ packet. gives_out (block_at w.plan b) (gives (kept_at w (block_at w.plan b)) i packet) (on_stream s (taken_to ((stream_at w s).taken + 1)) w)) o w)
feeds-from p w b i s None is fits now fed into within = now
feeds-from p w b i s (Some packet) is fits now fed into within =
    let kept : (block_now_at p.blocks b).kept ≡ kept_at w (block_at w.plan b) = ap (λ (it : BlockNow). it.kept) (now.blocks b) ∙ kept-fed w (block_at w.plan b) fed in
    let after = fed-follows p w b i s packet fits now fed into within is in
    subst (λ (plan : RunPlan). IsNow (gives_out_now (block_at plan b) (gives (block_now_at p.blocks b).kept i packet) (record (on_now s fed_now p) { blocks = set p.blocks b (block_fed i packet (block_now_at p.blocks b)) }))
    (gives_out (block_at w.plan b) (gives (kept_at w (block_at w.plan b)) i packet) (on_stream s (taken_to ((stream_at w s).taken + 1)) w))) (sym now.plan)
    (subst (λ (k : Kept). IsNow (gives_out_now (block_at w.plan b) (gives k i packet) (record (on_now s fed_now p) { blocks = set p.blocks b (block_fed i packet (block_now_at p.blocks b)) }))
    (gives_out (block_at w.plan b) (gives (kept_at w (block_at w.plan b)) i packet) (on_stream s (taken_to ((stream_at w s).taken + 1)) w))) (sym kept)
    (gives-follows _ _ (block_at w.plan b) (gives (kept_at w (block_at w.plan b)) i packet) after))

pub feeds-follows : (p : Present) (w : State) (b i : ℕ) → FitsPresent w → IsNow p w → is_rx (block_at w.plan b).kind ≡ false → b < length w.plan.blocks →
    IsNow (feeds_now b i p) (feeds (block_at w.plan b) i w)
feeds-follows p w b i fits now fed within =
    subst (λ (o : Option ℕ). IsNow (option_map_or (λ s. feeds_from_now b i s p) o p) (feeds (block_at w.plan b) i w))
    (sym (ap (λ (plan : RunPlan). stream_into plan (block_at plan b) i) now.plan)) (by_stream (stream_into w.plan (block_at w.plan b) i) refl)
  where
    first : (s : ℕ) → stream_into w.plan (block_at w.plan b) i ≡ Some s → slice_get (now_at p.streams s).waiting 0 ≡ slice_get (stream_at w s).given (stream_at w s).taken
    first s into = let it = now.streams s in
        ap (λ (t : StreamNow). slice_get t.waiting 0) it.is ∙ get-drop (stream_at w s).given it.handed
        ∙ ap (slice_get (stream_at w s).given) (it.fed (fits.ends.takers b i s into ∙ fed))

    by_stream : (o : Option ℕ) → stream_into w.plan (block_at w.plan b) i ≡ o →
        IsNow (option_map_or (λ s. feeds_from_now b i s p) o p) (option_map_or (λ s. feeds_from (block_at w.plan b) i s w) o w)
    by_stream None into = now
    by_stream (Some s) into =
        subst (λ (packet : Option Packet). IsNow
        (option_map_or (λ packet. gives_out_now (block_at p.plan b) (gives (block_now_at p.blocks b).kept i packet)
        (record (on_now s fed_now p) { blocks = set p.blocks b (block_fed i packet (block_now_at p.blocks b)) })) packet p)
        (feeds_from (block_at w.plan b) i s w)) (sym (first s into))
        (feeds-from p w b i s (slice_get (stream_at w s).given (stream_at w s).taken) refl fits now fed into within)
