-- What a Hop and a Lose ask of the parts is there.
use Rattle.std.proofs.Common.{◌≡◌, ℕ, ◌*◌, ◌<◌, ◌≤◌, ◌⊎◌, inl, inr, Bool, true, false, List, [], ◌∷◌, length, map, refl, sym, ◌∙◌, ap, subst, arith, if◌then◌else◌}
use Rattle.std.specs.Prelude.{Option, Some, None, IsSome, nat_lt, not, ◌==◌, is_some}
use Rattle.std.specs.List.{AllByRecursion}
use Rattle.std.specs.Option.{option_and_then, option_map_or}
use Rattle.std.proofs.Math.ListN.{get_or-map}
use Rattle.std.proofs.lemmas.Bool.{cases_Bool, cases_lt, false≢true}
use Rattle.std.proofs.lemmas.List.{get_or_past}
use Rattle.std.proofs.lemmas.List.Quantifiers.{position-Some}
use Rattle.std.proofs.lemmas.Option.{none-some, option_and_then_some, same_Some}
use Rattle.block_library.specs.Within.{IsWithin}
use Rattle.block_library.proofs.Laws.{within_is_small}
use Rattle.chdr_packets.specs.Fits.{FitsBody}
use Rattle.chdr_packets.specs.Length.{length_of, wire_of}
use Rattle.chdr_packets.specs.declared.packet.Body.{Body}
use Rattle.chdr_packets.specs.declared.packet.Body.TheVariants as body
use Rattle.chdr_packets.specs.declared.packet.Packet.{Packet}
use Rattle.chdr_words.specs.declared.epid.Epid.{Epid}
use Rattle.chdr_words.specs.declared.management.Management.{Management}
use Rattle.net_nodes.specs.declared.site.Done.{Done}
use Rattle.net_nodes.specs.declared.site.Done.TheVariants.{Forward, Return, NoSuchPort, Dead}
use Rattle.net_topology.specs.Leads.{Exits, sent_on, turned_to}
use Rattle.net_topology.specs.Links.{end_of, end_port, link_at}
use Rattle.net_topology.specs.declared.plan.Plan.{Plan}
use Rattle.net_topology.proofs.Laws.{links_join_ports}
use Rattle.stream_endpoint.specs.Receiver.{FindsRoom, Receiver}
use Rattle.stream_endpoint.specs.InEnd.{kept_receiver}
use Rattle.endpoint_laws.proofs.Laws.{kept_finds_room}
use Rattle.net_machine.specs.declared.plan.BlockPlan.{BlockPlan}
use Rattle.net_machine.specs.declared.plan.RunPlan.{RunPlan}
use Rattle.net_machine.specs.CanBegin.{may_tell_time, size_from}
use Rattle.net_machine.specs.Conditions.{can_hop, can_lose, has_way, may}
use Rattle.net_machine.specs.Front.{Queued, queued}
use Rattle.net_machine.specs.Nodes.{exits_of, is_switch, own_epid}
use Rattle.net_machine.specs.Passing.{Arrives, Ends, Outcome, Passes, Returns, by_table, goes_on, leaves_by, passing, passing_by, walked_by, walking}
use Rattle.net_machine.specs.Plans.{block_at, block_in, block_out, is_among, is_from, is_to, no_block, no_stream, plan_at, producer_of, stream_from, stream_to}
use Rattle.net_machine.specs.Queues.{channel_of, link_count, link_of_queue}
use Rattle.net_machine.specs.State.{Entry, Node, State, queue_at, stream_at}
use Rattle.net_machine.proofs.Laws.{queues}
use Rattle.net_ways.specs.Standing.{IsMessage, IsPlaced, Stands}
use Rattle.net_present.specs.Kept.{IsNow, now_at}
use Rattle.net_present.specs.Onward.{block_on_now, entries_at}
use Rattle.net_present.specs.Present.{Present, StreamNow, front_now}
use Rattle.net_flows.specs.Forms.{IsPacketOn, Tells}
use Rattle.net_flows.specs.Lasting.{IsSound}
use Rattle.net_lawful.specs.Lawful.{Lawful}
use Rattle.net_lawful.specs.Messages.{IsFit}
use Rattle.net_lawful.specs.Walking.{AreLed, AreStilled, IsNoStreams}
use Rattle.net_needs.specs.Hopping.{BodyNeeds, EndsAtPort, HasFront, HasWayOn, HopNeeds, SamplesNeed}
use Rattle.net_needs.specs.HoppingLaws.{HopIsReady, LoseIsReady}
use Rattle.net_needs.proofs.Ends.{finds-place}
use Rattle.net_needs.proofs.Knowing.{Knows, both-first, both-second, knows, leaving-there, lt-from, queue-within}

-- ---- a queue with an entry is there

front-there : (p : Present) (q : ℕ) (e : Queued) (rest : List Queued) → entries_at p.queues q ≡ e ∷ rest → HasFront p q
front-there p q e rest is = record { there = by_order (cases_lt q (length p.queues)); front = e; rest = rest; is = is }
  where
    none : [] ≡ e ∷ rest → ⊥
    none same = cc

    by_order : (q < length p.queues) ⊎ (length p.queues ≤ q) → q < length p.queues
    by_order (inl lt) = lt
    by_order (inr past) = absurd (none (sym (get_or_past p.queues q [] past) ∙ is))

ends-at-port : (p : Present) (q : ℕ) → Knows p → q < length p.queues → EndsAtPort p (link_of_queue q)
ends-at-port p q known there =
    let link = queues.of p.tree q (subst (λ n. q < n) known.queues there) in
    let joins = links_join_ports p.tree known.tree (link_of_queue q) link in
    record { link = link; node = joins.1; port = joins.3 }

-- ---- where an entry goes on, there is a link

GoesThere : Plan → Outcome → Type 0
GoesThere tree (Passes d packet) = d < link_count tree
GoesThere tree (Returns packet) = Unit {0}
GoesThere tree Arrives = Unit {0}
GoesThere tree Ends = Unit {0}

over-there : (tree : Plan) (packet : Packet) (o : Option ℕ) → ((d : ℕ) → o ≡ Some d → d < link_count tree) →
    GoesThere tree (option_map_or (λ (d : ℕ). Passes d packet) o Ends)
unfolding GoesThere
over-there tree packet None each = tt
over-there tree packet (Some d) each = each d refl

turned-there : (tree : Plan) (d port e : ℕ) → turned_to tree d port ≡ Some e → e < link_count tree
turned-there tree d port e = by_port (port == end_port tree.links d)
  where
    by_port : (b : Bool) → (if b then None else link_at tree.links (end_of tree.links d) port) ≡ Some e → e < link_count tree
    by_port true is = absurd (none-some e is)
    by_port false is = leaving-there tree (end_of tree.links d) port e is

sent-there : (tree : Plan) (exits : Exits) (dst : Epid) (d e : ℕ) → sent_on tree exits dst d ≡ Some e → e < link_count tree
sent-there tree exits dst d e = by_sort (is_switch tree (end_of tree.links d))
  where
    by_sort : (b : Bool) → (if b then option_and_then (turned_to tree d) (exits (end_of tree.links d) dst) else None) ≡ Some e → e < link_count tree
    by_sort true is = option_and_then_some (turned_to tree d) (exits (end_of tree.links d) dst) e is (λ port at turned. turned-there tree d port e turned)
    by_sort false is = absurd (none-some e is)

table-there : (tree : Plan) (nodes : List Node) (d : ℕ) (packet : Packet) → GoesThere tree (goes_on tree nodes d packet).outcome
unfolding GoesThere
table-there tree nodes d packet = by_sort (is_switch tree (end_of tree.links d))
  where
    by_sort : (b : Bool) → GoesThere tree (if b then by_table tree nodes d packet else Arrives)
    by_sort true = over-there tree packet (sent_on tree (exits_of nodes) packet.dst d) (λ e is. sent-there tree (exits_of nodes) packet.dst d e is)
    by_sort false = tt

leaves-there : (tree : Plan) (x : ℕ) (packet : Packet) (m : Management) (exit : Done) → GoesThere tree (leaves_by tree x packet m exit)
unfolding GoesThere
leaves-there tree x packet m (Forward port) = over-there tree (walking packet m) (link_at tree.links x port) (leaving-there tree x port)
leaves-there tree x packet m Return = tt
leaves-there tree x packet m (NoSuchPort port) = tt
leaves-there tree x packet m Dead = tt

passing-there : (tree : Plan) (nodes : List Node) (d : ℕ) (packet : Packet) (b : Body) → GoesThere tree (passing_by tree nodes d packet b).outcome
unfolding GoesThere
passing-there tree nodes d packet (body.Samples time payload) = table-there tree nodes d packet
passing-there tree nodes d packet (body.Status status) = table-there tree nodes d packet
passing-there tree nodes d packet (body.Command c) = table-there tree nodes d packet
passing-there tree nodes d packet (body.Control control) = table-there tree nodes d packet
passing-there tree nodes d packet (body.Management m) = by_epid (packet.dst.0 == 0) (nat_lt (length m.hops) 2)
  where
    by_epid : (b c : Bool) → GoesThere tree (if b
        then (if c then record { outcome = Ends; nodes = nodes } else walked_by tree nodes d packet m)
        else goes_on tree nodes d packet).outcome
    by_epid true true = tt
    by_epid true false = leaves-there tree (end_of tree.links d) packet _ _
    by_epid false c = table-there tree nodes d packet

way-on : (p : Present) (vc : ℕ) (o : Outcome) → Knows p → vc < 2 → GoesThere p.tree o → has_way (front_now p) vc o ≡ true → HasWayOn p vc o
unfolding GoesThere
way-on p vc (Passes d packet) known low there has = record { link = there; queue = queue-within p d vc known low there; room = lt-from _ _ has }
way-on p vc (Returns packet) known low there has = tt
way-on p vc Arrives known low there has = tt
way-on p vc Ends known low there has = tt

-- ---- sizes

short-within : (plan : RunPlan) (producer : Option ℕ) (packet : Packet) (most : ℕ) →
    IsWithin (option_map_or (λ b. (block_at plan b).item) producer 0) (option_map_or (λ b. (block_at plan b).spp * (block_at plan b).item) producer 0)
    (option_map_or (λ b. may_tell_time plan (block_at plan b)) producer false) packet → IsSome producer →
    option_map_or (λ b. size_from plan (block_at plan b)) producer 0 ≤ most → most ≤ 8192 → length_of packet ≤ 65535
short-within plan None packet most form some small low = absurd (false≢true some)
short-within plan (Some b) packet most form some small low =
    let wire : wire_of packet ≤ size_from plan (block_at plan b) = (within_is_small _ _ _ packet form).0 in
    omega (arith, wire, small, low)

pub short-on : (tree : Plan) (plan : RunPlan) (s : ℕ) (packet : Packet) → IsSound tree plan → s < length plan.streams → IsPacketOn plan s packet → length_of packet ≤ 65535
short-on tree plan s packet sound there form =
    short-within plan (producer_of plan s) packet (plan_at plan s).flow.max form (sound.ports s there).0 (sound.small s there) (sound.fits.flows s there).not_long

-- ---- the front entry, as the state has it

record IsEntry (w : State) (q : ℕ) (front : Queued) : Type 0 where
  entry : Entry
  behind : List Entry
  is : queue_at w.queues q ≡ entry ∷ behind
  same : queued entry ≡ front

entry-by : (w : State) (q : ℕ) (entries : List Entry) (front : Queued) (rest : List Queued) → queue_at w.queues q ≡ entries → map queued entries ≡ front ∷ rest → IsEntry w q front
entry-by w q [] front rest is same = cc
entry-by w q (entry ∷ behind) front rest is same = let first : queued entry ≡ front = cc in record { entry = entry; behind = behind; is = is; same = first }

entry-of : (p : Present) (w : State) (q : ℕ) (front : Queued) (rest : List Queued) → IsNow p w → entries_at p.queues q ≡ front ∷ rest → IsEntry w q front
entry-of p w q front rest now is =
    let entries : entries_at p.queues q ≡ map queued (queue_at w.queues q) =
    ap (λ (qs : List (List Queued)). entries_at qs q) now.queues ∙ get_or-map (map queued) w.queues q [] in
    entry-by w q (queue_at w.queues q) front rest refl (sym entries ∙ is)

-- what holds of each entry of a queue holds of its first
first-has : (P : Entry → Type 0) (w : State) (q : ℕ) (entry : Entry) (behind : List Entry) → AllByRecursion P (queue_at w.queues q) → queue_at w.queues q ≡ entry ∷ behind → P entry
first-has P w q entry behind each is = (subst (AllByRecursion P) is each).0

-- ---- what comes to a node

stream-there : (p : Present) (s : ℕ) → Knows p → s < length p.plan.streams → s < length p.streams
stream-there p s known lt = subst (λ n. s < n) (sym known.streams) lt

to-there : (p : Present) (epid : Epid) (s : ℕ) → Knows p → stream_to p.plan epid ≡ Some s → s < length p.streams
to-there p epid s known is = stream-there p s known (position-Some (is_to epid) p.plan.streams s no_stream is).0

from-there : (p : Present) (epid : Epid) (s : ℕ) → Knows p → stream_from p.plan epid ≡ Some s → s < length p.streams
from-there p epid s known is = stream-there p s known (position-Some (is_from epid) p.plan.streams s no_stream is).0

samples-need : (p : Present) (w : State) (q s : ℕ) (entry : Entry) (behind : List Entry) (time : Option ℕ) (payload : List ℕ) → Lawful w → IsNow p w → AreLed w →
    queue_at w.queues q ≡ entry ∷ behind → entry.packet.body ≡ body.Samples time payload →
    is_switch p.tree (end_of p.tree.links (link_of_queue q)) ≡ false → stream_to p.plan (own_epid p.tree (end_of p.tree.links (link_of_queue q))) ≡ Some s →
    SamplesNeed p s entry.packet
samples-need p w q s entry behind time payload lawful now led is samples none at =
    let steady = lawful.steady in
    let link = link_of_queue q in
    let telling = subst (Tells w.plan entry) samples (first-has (λ (e : Entry). Tells w.plan e e.packet.body) w q entry behind (steady.telling q) is) in
    let placed = first-has (IsPlaced w.tree w.plan q) w q entry behind (led.placed q) is in
    let stands = subst (Stands w.tree w.plan q entry.packet.dst) samples placed.stands in
    let switch : is_switch w.tree (end_of w.tree.links link) ≡ false = subst (λ (t : Plan). is_switch t (end_of t.links link) ≡ false) now.tree none in
    let place = finds-place w q entry behind time payload steady led.ways is stands samples telling switch in
    let named : stream_to w.plan (own_epid w.tree (end_of w.tree.links link)) ≡ Some s =
    subst (λ (r : RunPlan). stream_to r (own_epid w.tree (end_of w.tree.links link)) ≡ Some s) now.plan
    (subst (λ (t : Plan). stream_to p.plan (own_epid t (end_of t.links link)) ≡ Some s) now.tree at) in
    let same : place.stream ≡ s = same_Some place.stream s (sym place.mine ∙ named) in
    let here : FindsRoom (plan_at w.plan s).flow (stream_at w s).receiver entry.packet.seq (wire_of entry.packet) =
    subst (λ t. FindsRoom (plan_at w.plan t).flow (stream_at w t).receiver entry.packet.seq (wire_of entry.packet)) same place.room in
    let kept = (kept_finds_room (plan_at w.plan s).flow (stream_at w s).receiver entry.packet.seq (wire_of entry.packet)).1 here in
    let receiver : (now_at p.streams s).receiver ≡ kept_receiver (stream_at w s).receiver = ap (λ (st : StreamNow). st.receiver) (now.streams s).is in
    record {
      there = to-there p (own_epid p.tree (end_of p.tree.links link)) s (knows p w lawful now) at;
      room = subst (λ (r : RunPlan). FindsRoom (plan_at r s).flow (now_at p.streams s).receiver entry.packet.seq (wire_of entry.packet)) (sym now.plan)
          (subst (λ (r : Receiver). FindsRoom (plan_at w.plan s).flow r entry.packet.seq (wire_of entry.packet)) (sym receiver) kept);
      short = short-on w.tree w.plan telling.stream entry.packet steady.plan telling.there telling.form;
    }

-- the block at an EPID is there
block-there : (p : Present) → Knows p → (epid : Epid) (b : ℕ) → block_on_now p epid ≡ Some b → b < length p.blocks
block-there p known epid b = by_side (is_some (block_in p.plan epid))
  where
    by_side : (side : Bool) → (if side then block_in p.plan epid else block_out p.plan epid) ≡ Some b → b < length p.blocks
    by_side true is = subst (λ n. b < n) (sym known.blocks) (position-Some (λ (block : BlockPlan). is_among epid block.ins) p.plan.blocks b no_block is).0
    by_side false is = subst (λ n. b < n) (sym known.blocks) (position-Some (λ (block : BlockPlan). is_among epid block.outs) p.plan.blocks b no_block is).0

-- where no stream has anything under way, no samples come
none-comes : (w : State) (q : ℕ) (entry : Entry) (behind : List Entry) (time : Option ℕ) (payload : List ℕ) → AreStilled w → queue_at w.queues q ≡ entry ∷ behind →
    entry.packet.body ≡ body.Samples time payload → ⊥
none-comes w q entry behind time payload stilled is samples =
    subst IsMessage samples (first-has (λ (e : Entry). IsNoStreams e.tag e.packet) w q entry behind (stilled.queued q) is).body

body-needs : (p : Present) (w : State) (q : ℕ) (entry : Entry) (behind : List Entry) (b : Body) → Lawful w → IsNow p w → queue_at w.queues q ≡ entry ∷ behind →
    entry.packet.body ≡ b → IsFit entry.packet b → BodyNeeds p (end_of p.tree.links (link_of_queue q)) entry.packet b
body-needs p w q entry behind (body.Samples time payload) lawful now is has fit = λ s none at.
    elim (cases_Bool w.walked) [
      | inl walked ↦ absurd (none-comes w q entry behind time payload (lawful.stilled walked) is has)
      | inr calm ↦ samples-need p w q s entry behind time payload lawful now (lawful.led calm) is has none at
    ]
body-needs p w q entry behind (body.Status status) lawful now is has fit = λ s at. from-there p _ s (knows p w lawful now) at
body-needs p w q entry behind (body.Command c) lawful now is has fit = λ s at. to-there p _ s (knows p w lawful now) at
body-needs p w q entry behind (body.Control c) lawful now is has fit = record { fits = subst FitsBody has fit.fits.body; blocks = block-there p (knows p w lawful now) }
body-needs p w q entry behind (body.Management m) lawful now is has fit = record { fits = subst FitsBody has fit.fits.body; answers = fit.answers }

-- ---- Hop and Lose

hop-front : (p : Present) (w : State) (q : ℕ) (front : Queued) (rest : List Queued) → Lawful w → IsNow p w → entries_at p.queues q ≡ front ∷ rest →
    can_hop (front_now p) q (front ∷ rest) ≡ true → HopNeeds p q
unfolding front-there
hop-front p w q front rest lawful now is can =
    let known = knows p w lawful now in
    let queue = front-there p q front rest is in
    let at = entry-of p w q front rest now is in
    let outcome = (passing p.tree p.nodes (link_of_queue q) front.packet).outcome in
    let needs = body-needs p w q at.entry at.behind at.entry.packet.body lawful now at.is refl
    (first-has (λ (e : Entry). IsFit e.packet e.packet.body) w q at.entry at.behind (lawful.messages q) at.is) in
    record {
      queue = queue;
      unmarked = not-true front.marked (both-first (not front.marked) (has_way (front_now p) (channel_of q) outcome) can);
      comes = ends-at-port p q known queue.there;
      goes = way-on p (channel_of q) outcome known (omega arith) (passing-there p.tree p.nodes (link_of_queue q) front.packet front.packet.body)
          (both-second (not front.marked) (has_way (front_now p) (channel_of q) outcome) can);
      body = subst (λ (e : Queued). BodyNeeds p (end_of p.tree.links (link_of_queue q)) e.packet e.packet.body) at.same needs;
    }
  where
    not-true : (b : Bool) → not b ≡ true → b ≡ false
    not-true true is = absurd (false≢true is)
    not-true false is = refl

pub hop-ready : HopIsReady
unfolding may
hop-ready p w q lawful now may_it = by_entries (entries_at p.queues q) refl may_it
  where
    by_entries : (entries : List Queued) → entries_at p.queues q ≡ entries → can_hop (front_now p) q entries ≡ true → HopNeeds p q
    by_entries [] is can = absurd (false≢true can)
    by_entries (front ∷ rest) is can = hop-front p w q front rest lawful now is can

pub lose-ready : LoseIsReady
unfolding may
lose-ready p w q lawful now may_it = by_entries (entries_at p.queues q) refl may_it
  where
    by_entries : (entries : List Queued) → entries_at p.queues q ≡ entries → can_lose entries ≡ true → HasFront p q
    by_entries [] is can = absurd (false≢true can)
    by_entries (front ∷ rest) is can = front-there p q front rest is
