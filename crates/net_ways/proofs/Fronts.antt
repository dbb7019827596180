-- What a stream would do depends on its plan and the streams, and not on what stands in queues and nodes.
use Rattle.std.proofs.Common.{◌≡◌, ℕ, zero, suc, false, List, length, refl, if◌then◌else◌}
use Rattle.std.specs.Prelude.{not, ◌==◌, ◌&&◌, ◌||◌}
use Rattle.std.specs.List.{list_all}
use Rattle.std.specs.Option.{option_map_or}
use Rattle.chdr_packets.specs.declared.packet.Body.{Body}
use Rattle.chdr_packets.specs.declared.packet.Body.TheVariants as body
use Rattle.chdr_words.specs.declared.command.CmdOp.{CmdOp}
use Rattle.chdr_words.specs.declared.command.CmdOp.TheVariants.{Init, Ping, Resync, Other}
use Rattle.chdr_words.specs.declared.epid.Epid.{Epid}
use Rattle.net_topology.specs.declared.plan.Plan.{Plan}
use Rattle.stream_endpoint.specs.Counts.{is_none}
use Rattle.stream_endpoint.specs.Sender.{is_running}
use Rattle.net_machine.specs.declared.plan.RunPlan.{RunPlan}
use Rattle.net_machine.specs.declared.plan.StreamPlan.{StreamPlan}
use Rattle.net_machine.specs.Blocks.{drained_by, is_clear, is_closed, is_finished}
use Rattle.net_machine.specs.Conditions.{can_order, is_of, is_opening, is_resyncing, is_stuck, none_under_way}
use Rattle.net_machine.specs.Front.{Front, Queued, StreamFront, front_at}
use Rattle.net_machine.specs.Plans.{block_at, is_tx, plan_at, producer_of, stream_to}
use Rattle.net_machine.specs.State.{Node}
use Rattle.net_ways.specs.Standing.{IsMessage}

-- a front of these
abbrev pub front_of : Plan → RunPlan → List (List Queued) → List Node → List StreamFront → Front
front_of tree plan queues nodes streams = record { tree = tree; plan = plan; queues = queues; nodes = nodes; streams = streams }

-- whether a producer is finished, its streams and the plan tell
finished-same : (tree : Plan) (plan : RunPlan) (streams : List StreamFront) (qs rs : List (List Queued)) (ns ms : List Node) (k b : ℕ) →
    is_finished k (front_of tree plan qs ns streams) b ≡ is_finished k (front_of tree plan rs ms streams) b
finished-same tree plan streams qs rs ns ms zero b = refl
finished-same tree plan streams qs rs ns ms (suc k) b =
    let same = finished-same tree plan streams qs rs ns ms k in
    λ i. if is_tx (block_at plan b).kind
    then list_all (is_clear (front_of tree plan rs ms streams)) (block_at plan b).outs
    else list_all (λ (epid : Epid). option_map_or
    (λ s. drained_by (option_map_or (λ c. same c i) (producer_of plan s) false) (front_at (front_of tree plan rs ms streams) s))
    (stream_to plan epid) false) (block_at plan b).ins

closed-same : (tree : Plan) (plan : RunPlan) (streams : List StreamFront) (qs rs : List (List Queued)) (ns ms : List Node) (s : ℕ) →
    is_closed (front_of tree plan qs ns streams) s ≡ is_closed (front_of tree plan rs ms streams) s
closed-same tree plan streams qs rs ns ms s =
    let same = finished-same tree plan streams qs rs ns ms (length plan.blocks) in
    λ i. option_map_or (λ b. same b i) (producer_of plan s) false

-- where as little of a stream is in queues, its commands depend on its plan and streams alone
pub order-same : (tree : Plan) (plan : RunPlan) (streams : List StreamFront) (qs rs : List (List Queued)) (ns ms : List Node) (s : ℕ) (op : CmdOp) →
    none_under_way qs (plan_at plan s) ≡ none_under_way rs (plan_at plan s) →
    can_order (front_of tree plan qs ns streams) s op ≡ can_order (front_of tree plan rs ms streams) s op
order-same tree plan streams qs rs ns ms s Init under =
    let st = front_at (front_of tree plan rs ms streams) s in
    λ i. is_opening st.state && (not st.commanded || (under i && (not st.due && (st.taken == st.given))))
order-same tree plan streams qs rs ns ms s Ping under =
    let st = front_at (front_of tree plan rs ms streams) s in
    let closed = closed-same tree plan streams qs rs ns ms s in
    λ i. is_running st.state && ((under i && (not st.due && (st.taken == st.given)))
    && (not (is_none st.outstanding) && is_stuck (plan_at plan s).flow st (closed i) st.ready))
order-same tree plan streams qs rs ns ms s Resync under =
    let st = front_at (front_of tree plan rs ms streams) s in
    λ i. is_resyncing st.state && (not st.commanded || (under i && (not st.due && (st.taken == st.given))))
order-same tree plan streams qs rs ns ms s (Other code) under = refl

-- ---- messages are of no stream

pub message-of : (plan : StreamPlan) (dst : Epid) (b : Body) → IsMessage b → is_of plan dst b ≡ false
message-of plan dst (body.Samples time payload) is = absurd is
message-of plan dst (body.Command c) is = absurd is
message-of plan dst (body.Status status) is = absurd is
message-of plan dst (body.Control control) is = refl
message-of plan dst (body.Management m) is = refl
