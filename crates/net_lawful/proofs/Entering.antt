-- What holds of each entry as it enters, and of packets as they walk, holds of each entry of each queue.
use Rattle.std.proofs.Common.{◌≡◌, ℕ, ◌+◌, Bool, true, false, List, [], ◌∷◌, ◌++◌, length, refl, subst, if◌then◌else◌}
use Rattle.std.specs.Prelude.{Option, Some, None, slice_get, nat_lt, ◌==◌}
use Rattle.std.specs.Option.{option_map_or}
use Rattle.std.specs.List.{AllByRecursion}
use Rattle.rf_base.proofs.Places.{one-set}
use Rattle.block_library.specs.Memory.{gives}
use Rattle.chdr_packets.specs.declared.packet.Body.{Body}
use Rattle.chdr_packets.specs.declared.packet.Body.TheVariants as body
use Rattle.chdr_packets.specs.declared.packet.Packet.{Packet}
use Rattle.chdr_words.specs.declared.management.Management.{Management}
use Rattle.net_nodes.specs.Perform.{performed, without_first}
use Rattle.net_nodes.specs.declared.site.Done.{Done}
use Rattle.net_nodes.specs.declared.site.Done.TheVariants.{Forward, Return, NoSuchPort, Dead}
use Rattle.net_topology.specs.Leads.{sent_on}
use Rattle.net_topology.specs.Links.{end_of, end_port, link_at}
use Rattle.net_topology.specs.declared.plan.Plan.{Plan}
use Rattle.stream_endpoint.specs.Epochs.{ordered_by, told_by}
use Rattle.stream_endpoint.specs.InEnd.{status_of}
use Rattle.stream_endpoint.specs.OutEnd.{command_of}
use Rattle.net_machine.specs.declared.event.Event.{Event}
use Rattle.net_machine.specs.declared.event.Event.TheVariants.{Enter, Hop, Seen, Feed, Report, Command, Lose, Reply, Ask}
use Rattle.net_machine.specs.declared.plan.BlockPlan.{BlockPlan}
use Rattle.net_machine.specs.Blocks.{kept_at}
use Rattle.net_machine.specs.Effects.{after, answers_host, arrives, asks_first, enters, enters_over, feeds, feeds_from, gives_out, hears_status, hops, joins, leaves, loses_front, on_any_stream, on_node, on_stream, operates, passes, pends, replies_first, stream_of}
use Rattle.net_machine.specs.Nodes.{exits_of, is_host_at, is_switch, own_epid, route_from, site_at}
use Rattle.net_machine.specs.Passing.{Outcome, Passes, Returns, Arrives, Ends, by_table, goes_on, leaves_by, message, passing, passing_by, walked_by, walking}
use Rattle.net_machine.specs.Plans.{block_at, first_link, plan_at, stream_from, stream_into, stream_out_of, stream_to}
use Rattle.net_machine.specs.Queues.{back_vc, channel_of, forward_vc, link_of_queue, queue_of}
use Rattle.net_machine.specs.State.{Entry, Message, Node, Order, Report as Reported, Sample, State, Stream, Tag, node_at, queue_at, stream_at}
use Rattle.net_machine.specs.Streams.{counts_in, entering, gets, gets_order, loses, readies, receiving_of, sending_of, taken_to}
use Rattle.net_lawful.specs.Messages.{EachEntry}

-- the management packet that a node sends on, once it has performed the first hop of one that came over d
abbrev pub walked_on : State → ℕ → Management → Management
walked_on w d m = without_first m
    (performed (site_at w.tree (end_of w.tree.links d) (end_port w.tree.links d)) (node_at w (end_of w.tree.links d)).table m).last

-- what an event puts into a queue has the property
abbrev pub Puts : (Tag → Packet → Type 0) → State → Event → Type 0
Puts P w (Enter s) = (p : Packet) (rest : List Packet) → (stream_at w s).ready ≡ p ∷ rest
    → P (Sample (length (stream_at w s).sent)) (entering (plan_at w.plan s) (stream_at w s).sender p)
Puts P w (Command s op) = P (Order (ordered_by (plan_at w.plan s).flow (stream_at w s).sender op))
    (message forward_vc (plan_at w.plan s).to (body.Command (command_of op (sending_of (plan_at w.plan s) (stream_at w s)))))
Puts P w (Report s) = P (Reported (told_by (stream_at w s).receiver))
    (message back_vc (plan_at w.plan s).from (body.Status (status_of (receiving_of (plan_at w.plan s) (stream_at w s)))))
Puts P w (Seen s n) = Unit {0}
Puts P w (Feed b i) = Unit {0}
Puts P w (Ask x) = (p : Packet) (rest : List Packet) (d : ℕ) → (node_at w x).requests ≡ p ∷ rest → link_at w.tree.links x 0 ≡ Some d → P Message p
Puts P w (Reply x) = (p : Packet) (rest : List Packet) → (node_at w x).pending ≡ p ∷ rest → P Message p
Puts P w (Lose q) = Unit {0}
Puts P w (Hop q) = (e : Entry) (rest : List Entry) (m : Management) → queue_at w.queues q ≡ e ∷ rest → P e.tag e.packet
    → e.packet.body ≡ body.Management m → (e.packet.dst.0 == 0) ≡ true → nat_lt (length m.hops) 2 ≡ false
    → P e.tag (walking e.packet (walked_on w (link_of_queue q) m))

pub more : {A : Type 0} (P : A → Type 0) (xs : List A) (x : A) → AllByRecursion P xs → P x → AllByRecursion P (xs ++ x ∷ [])
more P [] x each here = (here, tt)
more P (y ∷ xs) x each here = (each.0, more P xs x each.1 here)

module _ (P : Tag → Packet → Type 0) where
  abbrev PE : Entry → Type 0
  PE e = P e.tag e.packet

  joins-keep : (r : ℕ) (e : Entry) (w : State) → P e.tag e.packet → EachEntry P w → EachEntry P (joins r e w)
  joins-keep r e w here each =
      one-set {B = ℕ} (λ q es none. AllByRecursion PE es) w.queues [] [] 0 (queue_at w.queues r ++ e ∷ []) r each
      (more PE (queue_at w.queues r) e (each r) here)

  leaves-keep : (q : ℕ) (e : Entry) (rest : List Entry) (w : State) → queue_at w.queues q ≡ e ∷ rest → EachEntry P w → EachEntry P (leaves q rest w)
  leaves-keep q e rest w is each =
      one-set {B = ℕ} (λ r es none. AllByRecursion PE es) w.queues [] [] 0 rest q each (subst (AllByRecursion PE) is (each q)).1

  front-has : (w : State) (q : ℕ) (e : Entry) (rest : List Entry) → queue_at w.queues q ≡ e ∷ rest → EachEntry P w → P e.tag e.packet
  front-has w q e rest is each = (subst (AllByRecursion PE) is (each q)).0

  over-keep : (w : State) (o : Option ℕ) (vc : ℕ) (marked : Bool) (p : Packet) (tag : Tag) → ((d : ℕ) → o ≡ Some d → P tag p) →
      EachEntry P w → EachEntry P (enters_over o vc marked p tag w)
  over-keep w None vc marked p tag here each = each
  over-keep w (Some d) vc marked p tag here each = joins-keep (queue_of d vc) (record { packet = p; marked = marked; tag = tag }) w (here d refl) each

  -- ---- what leaves queues as they are

  any-keep : (o : Option ℕ) (next : Stream → Stream) (w : State) → EachEntry P w → EachEntry P (on_any_stream o next w)
  any-keep None next w each = each
  any-keep (Some s) next w each = each

  pends-keep : (x : ℕ) (p : Packet) (w : State) → EachEntry P w → EachEntry P (pends x p w)
  pends-keep x p w each = by_route (route_from w.tree w.nodes x p.dst)
    where
      by_route : (o : Option ℕ) → EachEntry P (option_map_or (λ (d : ℕ). on_node x (λ (n : Node). record n { pending = n.pending ++ p ∷ [] }) w) o w)
      by_route None = each
      by_route (Some d) = each

  answers-keep : (x : ℕ) (p : Packet) (w : State) → EachEntry P w → EachEntry P (answers_host x p w)
  answers-keep x p w each = by_host (is_host_at w.tree x)
    where
      by_host : (b : Bool) → EachEntry P (if b then on_node x (λ (n : Node). record n { answers = n.answers ++ p ∷ [] }) w else w)
      by_host true = each
      by_host false = each

  heard-keep : (o : Option ℕ) (tag : Tag) (w : State) → EachEntry P w → EachEntry P (option_map_or (λ (s : ℕ). hears_status tag s w) o w)
  heard-keep None tag w each = each
  heard-keep (Some s) tag w each = each

  arrives-keep : (x : ℕ) (e : Entry) (b : Body) (w : State) → EachEntry P w → EachEntry P (arrives x e b w)
  arrives-keep x e (body.Samples time payload) w each = any-keep (stream_to w.plan (own_epid w.tree x)) (gets e.packet) w each
  arrives-keep x e (body.Command c) w each = any-keep (stream_to w.plan (own_epid w.tree x)) (gets_order c.op (counts_in e.tag)) w each
  arrives-keep x e (body.Status status) w each = heard-keep (stream_from w.plan (own_epid w.tree x)) e.tag w each
  arrives-keep x e (body.Control control) w each = by_ack control.ack
    where
      by_ack : (b : Bool) → EachEntry P (if b then answers_host x e.packet w else operates x control w)
      by_ack true = answers-keep x e.packet w each
      by_ack false = pends-keep x _ (record w { banks = _ }) each
  arrives-keep x e (body.Management m) w each = answers-keep x e.packet w each

  feeds-keep : (block : BlockPlan) (i : ℕ) (w : State) → EachEntry P w → EachEntry P (feeds block i w)
  feeds-keep block i w each = by_stream (stream_into w.plan block i)
    where
      by_packet : (s : ℕ) (o : Option Packet) → EachEntry P (option_map_or (λ (p : Packet). gives_out block (gives (kept_at w block) i p) (on_stream s (taken_to ((stream_at w s).taken + 1)) w)) o w)
      by_packet s None = each
      by_packet s (Some p) =
          any-keep (stream_out_of w.plan block 1) (readies (gives (kept_at w block) i p).second) (on_any_stream (stream_out_of w.plan block 0) (readies (gives (kept_at w block) i p).first) (on_stream s (taken_to ((stream_at w s).taken + 1)) w))
          (any-keep (stream_out_of w.plan block 0) (readies (gives (kept_at w block) i p).first) (on_stream s (taken_to ((stream_at w s).taken + 1)) w) each)

      by_stream : (o : Option ℕ) → EachEntry P (option_map_or (λ (s : ℕ). feeds_from block i s w) o w)
      by_stream None = each
      by_stream (Some s) = by_packet s (slice_get (stream_at w s).given (stream_at w s).taken)

  -- ---- a Hop

  -- where an entry goes on, it has the property
  abbrev GoesWell : Tag → Outcome → Type 0
  GoesWell tag (Passes d p) = P tag p
  GoesWell tag (Returns p) = Unit {0}
  GoesWell tag Arrives = Unit {0}
  GoesWell tag Ends = Unit {0}

  by-option : (tag : Tag) (o : Option ℕ) (p : Packet) → P tag p → GoesWell tag (option_map_or (λ (d : ℕ). Passes d p) o Ends)
  by-option tag None p here = tt
  by-option tag (Some d) p here = here

  table-keeps : (w : State) (q : ℕ) (e : Entry) → P e.tag e.packet → GoesWell e.tag (goes_on w.tree w.nodes (link_of_queue q) e.packet).outcome
  table-keeps w q e here = by_sort (is_switch w.tree (end_of w.tree.links (link_of_queue q)))
    where
      by_sort : (b : Bool) → GoesWell e.tag (if b then by_table w.tree w.nodes (link_of_queue q) e.packet else Arrives)
      by_sort true = by-option e.tag (sent_on w.tree (exits_of w.nodes) e.packet.dst (link_of_queue q)) e.packet here
      by_sort false = tt

  exit-keeps : (tree : Plan) (x : ℕ) (e : Entry) (m : Management) (exit : Done) → P e.tag (walking e.packet m) → GoesWell e.tag (leaves_by tree x e.packet m exit)
  exit-keeps tree x e m (Forward port) here = by-option e.tag (link_at tree.links x port) (walking e.packet m) here
  exit-keeps tree x e m Return here = tt
  exit-keeps tree x e m (NoSuchPort port) here = tt
  exit-keeps tree x e m Dead here = tt

  passing-keeps : (w : State) (q : ℕ) (e : Entry) (b : Body) → P e.tag e.packet →
      ((m : Management) → b ≡ body.Management m → (e.packet.dst.0 == 0) ≡ true → nat_lt (length m.hops) 2 ≡ false → P e.tag (walking e.packet (walked_on w (link_of_queue q) m))) →
      GoesWell e.tag (passing_by w.tree w.nodes (link_of_queue q) e.packet b).outcome
  passing-keeps w q e (body.Samples time payload) here walks = table-keeps w q e here
  passing-keeps w q e (body.Status status) here walks = table-keeps w q e here
  passing-keeps w q e (body.Command c) here walks = table-keeps w q e here
  passing-keeps w q e (body.Control control) here walks = table-keeps w q e here
  passing-keeps w q e (body.Management m) here walks = by_epid (e.packet.dst.0 == 0) (nat_lt (length m.hops) 2) (walks m refl)
    where
      by_epid : (b c : Bool) → (b ≡ true → c ≡ false → P e.tag (walking e.packet (walked_on w (link_of_queue q) m))) → GoesWell e.tag (if b
          then (if c then record { outcome = Ends; nodes = w.nodes } else walked_by w.tree w.nodes (link_of_queue q) e.packet m)
          else goes_on w.tree w.nodes (link_of_queue q) e.packet).outcome
      by_epid true true walks = tt
      by_epid true false walks = exit-keeps w.tree (end_of w.tree.links (link_of_queue q)) e (walked_on w (link_of_queue q) m) _ (walks refl refl)
      by_epid false c walks = table-keeps w q e here

  passes-keep : (x vc : ℕ) (e : Entry) (o : Outcome) (v : State) → GoesWell e.tag o → EachEntry P v → EachEntry P (passes x vc e o v)
  passes-keep x vc e (Passes d p) v here each = joins-keep (queue_of d vc) (record e { packet = p }) v here each
  passes-keep x vc e (Returns p) v here each = pends-keep x p v each
  passes-keep x vc e Arrives v here each = arrives-keep x e e.packet.body v each
  passes-keep x vc e Ends v here each = each

  hops-keep : (w : State) (q : ℕ) (entries : List Entry) → queue_at w.queues q ≡ entries → Puts P w (Hop q) → EachEntry P w → EachEntry P (hops q entries w)
  hops-keep w q [] is puts each = each
  hops-keep w q (e ∷ rest) is puts each =
      let passed = passing w.tree w.nodes (link_of_queue q) e.packet in
      let here = front-has w q e rest is each in
      passes-keep (end_of w.tree.links (link_of_queue q)) (channel_of q) e passed.outcome (record (leaves q rest w) { nodes = passed.nodes })
      (passing-keeps w q e e.packet.body here (λ m has epid two. puts e rest m is here has epid two)) (leaves-keep q e rest w is each)

  -- ---- the other events

  enters-keep : (w : State) (s : ℕ) (packets : List Packet) → (stream_at w s).ready ≡ packets → Puts P w (Enter s) → EachEntry P w → EachEntry P (enters s packets w)
  enters-keep w s [] is puts each = each
  enters-keep w s (p ∷ rest) is puts each = over-keep w (first_link w.tree (plan_at w.plan s).from) _ _ _ _ (λ d at. puts p rest is) each

  asks-keep : (w : State) (x : ℕ) (packets : List Packet) → (node_at w x).requests ≡ packets → Puts P w (Ask x) → EachEntry P w → EachEntry P (asks_first x packets w)
  asks-keep w x [] is puts each = each
  asks-keep w x (p ∷ rest) is puts each =
      over-keep (record w { requests = w.requests + 1 }) (link_at w.tree.links x 0) _ _ p Message (λ d at. puts p rest d is at) each

  replies-keep : (w : State) (x : ℕ) (packets : List Packet) → (node_at w x).pending ≡ packets → Puts P w (Reply x) → EachEntry P w → EachEntry P (replies_first x packets w)
  replies-keep w x [] is puts each = each
  replies-keep w x (p ∷ rest) is puts each =
      over-keep (record w { answers = w.answers + 1 }) (route_from w.tree w.nodes x p.dst) _ _ p Message (λ d at. puts p rest is) each

  loses-keep : (w : State) (q : ℕ) (entries : List Entry) → queue_at w.queues q ≡ entries → EachEntry P w → EachEntry P (loses_front q entries w)
  loses-keep w q [] is each = each
  loses-keep w q (e ∷ rest) is each = any-keep (stream_of w e.packet e.packet.body) (loses e) (leaves q rest w) (leaves-keep q e rest w is each)

  pub entries-stay : (w : State) (e : Event) → Puts P w e → EachEntry P w → EachEntry P (after w e)
  unfolding after
  entries-stay w (Enter s) puts each = enters-keep w s (stream_at w s).ready refl puts each
  entries-stay w (Command s op) puts each = over-keep w (first_link w.tree (plan_at w.plan s).from) _ _ _ _ (λ d at. puts) each
  entries-stay w (Report s) puts each = over-keep w (first_link w.tree (plan_at w.plan s).to) _ _ _ _ (λ d at. puts) each
  entries-stay w (Seen s n) puts each = each
  entries-stay w (Feed b i) puts each = feeds-keep (block_at w.plan b) i w each
  entries-stay w (Ask x) puts each = asks-keep w x (node_at w x).requests refl puts each
  entries-stay w (Reply x) puts each = replies-keep w x (node_at w x).pending refl puts each
  entries-stay w (Lose q) puts each = loses-keep w q (queue_at w.queues q) refl each
  entries-stay w (Hop q) puts each = hops-keep w q (queue_at w.queues q) refl puts each
