-- What a net tells of a stream is what the machine tells.
use Rattle.std.proofs.Common.{◌≡◌, ℕ, ◌+◌, ◌-◌, ◌^◌, ◌<◌, ◌≤◌, ◌⊎◌, inl, inr, Bool, true, false, List, length, refl, sym, ◌∙◌, ap, subst, arith}
use Rattle.std.specs.Prelude.{Option, None, Some, if◌then◌else◌}
use Rattle.std.specs.Option.{option_map_or}
use Rattle.std.proofs.lemmas.Bool.{cases_lt, false≢true}
use Rattle.std.proofs.lemmas.List.{length-map}
use Rattle.std.proofs.lemmas.Option.{slice_get_past}
use Rattle.chdr_words.specs.declared.epid.Epid.{Epid}
use Rattle.net_nodes.specs.Table.{exit_of}
use Rattle.net_nodes.specs.declared.table.Place.{Place}
use Rattle.net_topology.specs.Leads.{has_table}
use Rattle.net_topology.specs.declared.plan.NodePlan.{NodePlan}
use Rattle.net_topology.specs.declared.plan.NodePlan.TheVariants.{Crossbar, Adapter, Host, Endpoint}
use Rattle.net_topology.specs.declared.plan.Plan.{Plan}
use Rattle.stream_laws.proofs.Laws.{within_capacity}
use Rattle.stream_laws.specs.Machine.{Core}
use Rattle.chdr_packets.specs.declared.packet.Packet.{Packet}
use Rattle.net_machine.specs.Blocks.{drained_by, is_closed, is_drained}
use Rattle.net_machine.specs.Front.{Front, StreamFront, front}
use Rattle.net_machine.specs.Nodes.{entry_at, exits_of, is_host, is_host_at, is_switch, planned}
use Rattle.net_machine.specs.Plans.{no_epid, plan_at}
use Rattle.net_machine.specs.State.{State, node_in, stream_at}
use Rattle.net_machine.specs.Tallies.{acked_of, end_of, tally_of, undrained}
use Rattle.net_machine.specs.declared.tally.StreamEnd.TheVariants.{Drained}
use Rattle.net_present.proofs.Laws.{fronts_agree}
use Rattle.net_present.specs.Kept.{now_at, stream_now}
use Rattle.net_present.specs.Present.{Present, front_now, front_now_of}
use Rattle.net_streams.specs.Shows.{core_of, load_of, loads_of, terms_of}
use Rattle.net_lawful.specs.Lawful.{Lawful}
use Rattle.fabric_nodes.specs.Shapes.{Ends, Shape, leaves_of, shape_by}
use Rattle.fabric_parts.specs.Streams.{StreamSeen, acked_now, tally_now, undrained_now}
use Rattle.fabric_lists.specs.SitesView.{shape_seen, sites_of}
use Rattle.fabric_lists.specs.StreamsView.{streams_of}
use Rattle.fabric_events.proofs.Laws.{front_of_stream, shape_there}
use Rattle.fabric_events.specs.Fabrics.{IsSound, present_of}
use Rattle.fabric_events.specs.declared.fabric.Fabric.{Fabric}
use Rattle.fabric_net.specs.Standing.{StandsFor}

-- what is sent on a stream is counted from its start on
sent-count : (w : State) (s : ℕ) → s < length w.streams → Lawful w
    → (stream_at w s).sender.sent.packets ≡ (plan_at w.plan s).start + length (stream_at w s).sent
sent-count w s lt lawful =
    let flow = lawful.steady.flows s lt in
    let plan = plan_at w.plan s in
    let within = within_capacity (terms_of plan) flow.state flow.run in
    let counted : flow.state.core.sender.sent.packets ≡ plan.start + length flow.state.core.sent = within.sent_packets in
    let shown : (core_of plan (is_closed (front w) s) (stream_at w s)).sender.sent.packets ≡ plan.start + length (loads_of (stream_at w s).sent) =
    subst (λ (c : Core Packet). c.sender.sent.packets ≡ plan.start + length c.sent) flow.shows.core counted in
    omega (arith, shown, length-map (stream_at w s).sent load_of)

acked-is : (handed offered : ℕ) (w : State) (s : ℕ) → s < length w.streams → Lawful w
    → acked_now (stream_now handed offered (stream_at w s)) ≡ acked_of (plan_at w.plan s) (stream_at w s)
acked-is handed offered w s lt lawful = let counted = sent-count w s lt lawful in omega (arith, counted)

pub tally-is : (p : Present) (w : State) (s : ℕ) → s < length p.streams → StandsFor p w → tally_now (now_at p.streams s) ≡ tally_of w s
tally-is p w s lt stands =
    let is = stands.now.streams s in
    let there : s < length w.streams = let many = stands.now.as_many_streams in omega (arith, lt, many) in
    let st = stream_at w s in
    ap tally_now is.is
    ∙ ap (λ (acked : ℕ). record (tally_of w s) { acked = acked }) (acked-is is.handed is.offered w s there stands.lawful)

drained-same : (p : Present) (w : State) (s : ℕ) → StandsFor p w → is_drained (front_now p) s ≡ is_drained (front w) s
drained-same p w s stands = ap (λ (f : Front). is_drained f s) (fronts_agree p w stands.now)

pub end-drained : (p : Present) (w : State) (s : ℕ) → is_drained (front_now p) s ≡ true → StandsFor p w → Drained ≡ end_of w s
end-drained p w s is stands = let st = stream_at w s in
    ap (λ (b : Bool). if b then Drained else undrained st.receiver.broken (length st.sent) (acked_of (plan_at w.plan s) st)) (sym is ∙ drained-same p w s stands)

pub end-left : (p : Present) (w : State) (s : ℕ) → s < length p.streams → is_drained (front_now p) s ≡ false → StandsFor p w
    → undrained_now (now_at p.streams s) ≡ end_of w s
end-left p w s lt not stands =
    let is = stands.now.streams s in
    let there : s < length w.streams = let many = stands.now.as_many_streams in omega (arith, lt, many) in
    let st = stream_at w s in
    let left = undrained st.receiver.broken (length st.sent) (acked_of (plan_at w.plan s) st) in
    ap undrained_now is.is
    ∙ ap (λ (acked : ℕ). undrained st.receiver.broken (length st.sent) acked) (acked-is is.handed is.offered w s there stands.lawful)
    ∙ ap (λ (b : Bool). if b then Drained else left) (sym not ∙ drained-same p w s stands)

-- no count of RESYNC commands is beyond what a tally can tell
pub few-cuts : (n m : ℕ) → n ≤ m → m ≤ 2 ^ 64 - 2 → n < 2 ^ 64 - 1
few-cuts n m le few = omega (arith, le, few)

-- a host is one of the nodes
pub host-there : (tree : Plan) (x : ℕ) → is_host_at tree x ≡ true → x < length tree.nodes
host-there tree x is = by (cases_lt x (length tree.nodes))
  where
    by : (x < length tree.nodes) ⊎ (length tree.nodes ≤ x) → x < length tree.nodes
    by (inl lt) = lt
    by (inr past) = absurd (false≢true (sym (ap (λ (o : Option NodePlan). option_map_or is_host o false) (slice_get_past tree.nodes x past)) ∙ is))

-- a stream is drained if its producer makes no more and its own part tells it
pub drained-by : (f : Fabric) (s : ℕ) (closed r : Bool) (streams : List StreamSeen) → streams ≡ f.streams.items
    → closed ≡ is_closed (front_now (present_of f)) s → r ≡ drained_by closed (front_now_of (now_at (streams_of streams).now s))
    → is_drained (front_now (present_of f)) s ≡ r
drained-by f s closed r streams are is told =
    let p = present_of f in
    ap (λ (st : StreamFront). drained_by (is_closed (front_now p) s) st) (front_of_stream p s)
    ∙ ap (λ (b : Bool). drained_by b (front_now_of (now_at p.streams s))) (sym is)
    ∙ ap (λ (sts : List StreamSeen). drained_by closed (front_now_of (now_at (streams_of sts).now s))) (sym are)
    ∙ sym told

-- packets leave a crossbar or an adapter by its table
leaves-by : (tree : Plan) (x : ℕ) (o : Option NodePlan) (table : List Place) (dst : Epid) → option_map_or has_table o false ≡ true
    → leaves_of (option_map_or (shape_by tree x) o (Ends (record { instance = x; epid = no_epid }))) table dst ≡ exit_of table dst
leaves-by tree x None table dst is = absurd (false≢true is)
leaves-by tree x (Some (Crossbar ports)) table dst is = refl
leaves-by tree x (Some Adapter) table dst is = refl
leaves-by tree x (Some (Host epid)) table dst is = absurd (false≢true is)
leaves-by tree x (Some (Endpoint epid bank)) table dst is = absurd (false≢true is)

pub entry-is : (f : Fabric) (x : ℕ) (dst : Epid) → IsSound f → x < length f.wires.nodes → is_switch f.wires x ≡ true
    → leaves_of (shape_seen (sites_of f.sites.items).shapes x) (node_in (sites_of f.sites.items).nodes x).table dst
    ≡ entry_at f.wires (present_of f).nodes x dst
entry-is f x dst sound there is =
    let nodes = (present_of f).nodes in
    ap (λ (shape : Shape). leaves_of shape (node_in nodes x).table dst) (shape_there f x sound there)
    ∙ leaves-by f.wires x (planned f.wires x) (node_in nodes x).table dst is
    ∙ ap (λ (b : Bool). if b then exits_of nodes x dst else None) (sym is)
