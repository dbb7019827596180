-- A message that goes on is still the only one, in a network that is settled but for it.
use Rattle.std.proofs.Common.{◌≡◌, ◌==◌, ℕ, ◌+◌, ◌<◌, Bool, true, false, List, [], ◌∷◌, length, refl, ◌∙◌, ap, subst, if◌then◌else◌, arith}
use Rattle.std.specs.Prelude.{Option, Some, None, nat_lt, ◌||◌}
use Rattle.std.specs.List.{fold}
use Rattle.std.specs.Option.{option_map_or}
use Rattle.std.proofs.lemmas.List.{length-set}
use Rattle.std.proofs.lemmas.Nat.{mod_below}
use Rattle.rf_base.proofs.Places.{one-set}
use Rattle.block_registers.specs.Registers.{Registers}
use Rattle.chdr_packets.specs.declared.packet.Body.{Body}
use Rattle.chdr_packets.specs.declared.packet.Body.TheVariants as body
use Rattle.chdr_packets.specs.declared.packet.Packet.{Packet}
use Rattle.chdr_words.specs.Operation.{operation_of}
use Rattle.chdr_words.specs.declared.epid.Epid.{Epid}
use Rattle.chdr_words.specs.declared.management.Management.{Management}
use Rattle.chdr_words.specs.declared.management.MgmtOp.{MgmtOp}
use Rattle.chdr_words.specs.declared.operation.Operation.{Operation}
use Rattle.chdr_words.specs.declared.operation.Operation.TheVariants as op
use Rattle.net_nodes.specs.Perform.{Work, effect, first_hop, last_hop, operated as operated_on, performed, without_first, work_of}
use Rattle.net_nodes.specs.Table.{has_place, with_exit}
use Rattle.net_nodes.specs.declared.site.Done.{Done}
use Rattle.net_nodes.specs.declared.site.Done.TheVariants.{Forward, Return, NoSuchPort, Dead}
use Rattle.net_nodes.specs.declared.site.Site.{Site}
use Rattle.net_nodes.specs.declared.table.Place.{Place}
use Rattle.net_topology.specs.Leads.{sent_on}
use Rattle.net_topology.specs.Links.{end_of, end_port, link_at}
use Rattle.net_topology.specs.declared.plan.Plan.{Plan}
use Rattle.net_topology.proofs.Laws.{links_leave_by_ports}
use Rattle.net_faults.specs.declared.fault.Fault.TheVariants as fault
use Rattle.net_machine.specs.Nodes.{exits_of, is_host_at, is_switch, route_from, site_at}
use Rattle.net_machine.specs.Passing.{Arrives, Ends, Outcome, Passes, Passing, Returns, by_table, goes_on, leaves_by, passing, passing_by, walked_by, walking, walks, with_table}
use Rattle.net_machine.specs.Faults.{is_named}
use Rattle.net_machine.specs.Queues.{back_vc, channel_of, forward_vc, link_count, link_of_queue}
use Rattle.net_machine.specs.State.{Node, State, blank, node_in}
use Rattle.net_machine.proofs.Laws.{queues}
use Rattle.net_ways.specs.Clear.{Follows}
use Rattle.net_ways.specs.Standing.{IsMessage}
use Rattle.net_ways.proofs.Laws.{outcomes_follow}
use Rattle.net_lone.specs.Lone.{acknowledgement, answered_at, answering_at, arrived, entered, goes_on_from, moved_over, operated, passed}
use Rattle.net_lone.specs.Stages.{Answered, Answering, Asking, FitsStage, Gone, IsLone, Lone, Stage, UnderWay, lone}
use Rattle.net_lone.proofs.Bases.{Base, base-of, settled-of}
use Rattle.net_lone.proofs.Only.{field-kept, queue-there, route-link}
use Rattle.net_lone.proofs.Others.{empty-carry, still-with}

-- ---- a settled network whose tables, registers and counts change

record KeepsNodes (old new : List Node) : Type 0 where
  long : length new ≡ length old
  requests : (x : ℕ) → (node_in new x).requests ≡ (node_in old x).requests
  pending : (x : ℕ) → (node_in new x).pending ≡ (node_in old x).pending
  answers : (x : ℕ) → (node_in new x).answers ≡ (node_in old x).answers
  places : (x : ℕ) (epid : Epid) → has_place (node_in new x).table epid ≡ has_place (node_in old x).table epid

nodes-same : (nodes : List Node) → KeepsNodes nodes nodes
nodes-same nodes = record {
  long = refl;
  requests = λ x. refl;
  pending = λ x. refl;
  answers = λ x. refl;
  places = λ x epid. refl;
}

base-moves : (w : State) (nodes : List Node) (banks : List (Option Registers)) (requests answers : ℕ) → Base w → KeepsNodes w.nodes nodes →
    Base (record w { nodes = nodes; banks = banks; requests = requests; answers = answers })
base-moves w nodes banks requests answers base kept = record {
  queues = record {
    tree = base.queues.tree;
    queues = base.queues.queues;
  };
  nodes = kept.long ∙ base.nodes;
  places = λ x z epid switch is. kept.places x epid ∙ base.places x z epid switch is;
  few = base.few;
  empty = base.empty;
  streams = λ e is. still-with w w.queues nodes base (empty-carry w base) e is;
  asks = λ x d is. kept.requests x ∙ base.asks x d is;
  clear = λ x. kept.pending x ∙ base.clear x;
  heard = λ x. kept.answers x ∙ base.heard x;
}

-- ---- what passes a node

exit-places : (table : List Place) (epid other : Epid) (port : ℕ) → has_place (with_exit table epid port) other ≡ has_place table other
exit-places [] epid other port = refl
exit-places (place ∷ places) epid other port = by_test (exit-places places epid other port) (place.epid.0 == epid.0)
  where
    by_test : has_place (with_exit places epid port) other ≡ has_place places other →
        (b : Bool) → has_place (if b then record { epid = place.epid; exit = Some port } ∷ places else place ∷ with_exit places epid port) other
        ≡ has_place (place ∷ places) other
    by_test rest true = refl
    by_test rest false = ap (λ b. (place.epid.0 == other.0) || b) rest

effect-places : (site : Site) (src : Epid) (work : Work) (o : Operation) (other : Epid) →
    has_place (effect site src work o).table other ≡ has_place work.table other
effect-places site src work op.Nop other = refl
effect-places site src work op.Advertise other = exit-places work.table src other site.arrival
effect-places site src work (op.SelectDest port) other = refl
effect-places site src work op.Return other = refl
effect-places site src work op.InfoReq other = refl
effect-places site src work (op.InfoResp info) other = refl
effect-places site src work (op.CfgWrite cfg) other = by_port (nat_lt cfg.value site.ports)
  where
    by_port : (b : Bool) → has_place (if b then record work { table = with_exit work.table (record { 0 = cfg.addr }) cfg.value } else work).table other
        ≡ has_place work.table other
    by_port true = exit-places work.table (record { 0 = cfg.addr }) other cfg.value
    by_port false = refl
effect-places site src work (op.CfgRead addr) other = refl
effect-places site src work (op.CfgReadResp cfg) other = refl
effect-places site src work (op.Other code) other = refl

hop-places : (site : Site) (src : Epid) (work : Work) (hop : List MgmtOp) (other : Epid) →
    has_place (fold (operated_on site src) work hop).table other ≡ has_place work.table other
hop-places site src work [] other = refl
hop-places site src work (word ∷ hop) other =
    hop-places site src (operated_on site src work word) hop other ∙ effect-places site src work (operation_of word) other

-- operations change tables, and nothing else that a node holds
table-kept : (nodes : List Node) (x : ℕ) (table : List Place) → ((epid : Epid) → has_place table epid ≡ has_place (node_in nodes x).table epid) →
    KeepsNodes nodes (with_table nodes x table)
table-kept nodes x table places =
    let n : Node = record (node_in nodes x) { table = table } in
    record {
      long = length-set nodes x n;
      requests = λ y. field-kept (λ (m : Node). m.requests) nodes x y n refl;
      pending = λ y. field-kept (λ (m : Node). m.pending) nodes x y n refl;
      answers = λ y. field-kept (λ (m : Node). m.answers) nodes x y n refl;
      places = λ y epid. one-set {B = Node} (λ z a b. has_place a.table epid ≡ has_place b.table epid) nodes nodes blank blank n x (λ z. refl) (places epid) y;
    }

-- what goes on or comes back is a message
abbrev CarriesOn : Outcome → Type 0
CarriesOn (Passes d on) = IsMessage on.body
CarriesOn (Returns back) = IsMessage back.body
CarriesOn Arrives = Unit {0}
CarriesOn Ends = Unit {0}

record Passed (nodes : List Node) (it : Passing) : Type 0 where
  kept : KeepsNodes nodes it.nodes
  carries : CarriesOn it.outcome

over-carries : (p : Packet) (o : Option ℕ) → IsMessage p.body → CarriesOn (option_map_or (λ (d : ℕ). Passes d p) o Ends)
over-carries p None is = tt
over-carries p (Some d) is = is

goes-passed : (tree : Plan) (nodes : List Node) (d : ℕ) (p : Packet) → IsMessage p.body → Passed nodes (goes_on tree nodes d p)
goes-passed tree nodes d p is = record {
  kept = nodes-same nodes;
  carries = by_sort (is_switch tree (end_of tree.links d));
}
  where
    by_sort : (b : Bool) → CarriesOn (if b then by_table tree nodes d p else Arrives)
    by_sort true = over-carries p (sent_on tree (exits_of nodes) p.dst d) is
    by_sort false = tt

leaves-carries : (tree : Plan) (x : ℕ) (p : Packet) (m : Management) (exit : Done) → CarriesOn (leaves_by tree x p m exit)
leaves-carries tree x p m (Forward port) = over-carries (walking p m) (link_at tree.links x port) tt
leaves-carries tree x p m Return = tt
leaves-carries tree x p m (NoSuchPort port) = tt
leaves-carries tree x p m Dead = tt

walks-passed : (tree : Plan) (nodes : List Node) (d : ℕ) (p : Packet) (m : Management) → Passed nodes (walks tree nodes d p m)
walks-passed tree nodes d p m = by_test (nat_lt (length m.hops) 2)
  where
    site : Site
    site = site_at tree (end_of tree.links d) (end_port tree.links d)

    work : Work
    work = performed site (node_in nodes (end_of tree.links d)).table m

    by_test : (b : Bool) → Passed nodes (if b then record { outcome = Ends; nodes = nodes } else walked_by tree nodes d p m)
    by_test true = record {
      kept = nodes-same nodes;
      carries = tt;
    }
    by_test false = record {
      kept = table-kept nodes (end_of tree.links d) work.table (λ epid. hop-places site m.src (work_of (node_in nodes (end_of tree.links d)).table Dead (last_hop m)) (first_hop m) epid);
      carries = leaves-carries tree (end_of tree.links d) p (without_first m work.last) work.exit;
    }

passing-passed : (tree : Plan) (nodes : List Node) (d : ℕ) (p : Packet) (b : Body) → IsMessage p.body → IsMessage b → Passed nodes (passing_by tree nodes d p b)
passing-passed tree nodes d p (body.Samples time payload) here is = absurd is
passing-passed tree nodes d p (body.Command c) here is = absurd is
passing-passed tree nodes d p (body.Status status) here is = absurd is
passing-passed tree nodes d p (body.Control control) here is = goes-passed tree nodes d p here
passing-passed tree nodes d p (body.Management m) here is = by_epid (p.dst.0 == 0)
  where
    by_epid : (b : Bool) → Passed nodes (if b then walks tree nodes d p m else goes_on tree nodes d p)
    by_epid true = walks-passed tree nodes d p m
    by_epid false = goes-passed tree nodes d p here

-- ---- where it goes

record Alone (l : Lone) : Type 0 where
  base : Base l.rest
  fits : FitsStage l.rest l.stage

entered-alone : (u : State) (vc : ℕ) (marked : Bool) (p : Packet) (o : Option ℕ) → vc < 2 → Base u → IsMessage p.body →
    ((d : ℕ) → o ≡ Some d → d < link_count u.tree) → Alone (entered u vc marked p o)
entered-alone u vc marked p None small base is within = record {
  base = base;
  fits = tt;
}
entered-alone u vc marked p (Some d) small base is within = record {
  base = base;
  fits = (is, queue-there u d vc base (within d refl) small);
}

answering-fits : (u : State) (x : ℕ) (p : Packet) → IsMessage p.body → FitsStage u (answering_at u x p)
answering-fits u x p is = by_route (route_from u.tree u.nodes x p.dst) refl
  where
    by_route : (o : Option ℕ) → route_from u.tree u.nodes x p.dst ≡ o → FitsStage u (option_map_or (λ (d : ℕ). Answering x p) o Gone)
    by_route None at = tt
    by_route (Some d) at = (is, (d, at))

answered-fits : (u : State) (x : ℕ) (p : Packet) → FitsStage u (answered_at u x p)
answered-fits u x p = by_host (is_host_at u.tree x)
  where
    by_host : (b : Bool) → FitsStage u (if b then Answered x p else Gone)
    by_host true = tt
    by_host false = tt

arrived-alone : (u : State) (x : ℕ) (p : Packet) (b : Body) → Base u → IsMessage b → Alone (arrived u x p b)
arrived-alone u x p (body.Samples time payload) base is = absurd is
arrived-alone u x p (body.Command c) base is = absurd is
arrived-alone u x p (body.Status status) base is = absurd is
arrived-alone u x p (body.Control control) base is = by_ack control.ack
  where
    by_ack : (b : Bool) → Alone (if b then lone u (answered_at u x p) else lone (operated u x control) (answering_at u x (acknowledgement u x control)))
    by_ack true = record {
      base = base;
      fits = answered-fits u x p;
    }
    by_ack false = record {
      base = base-moves u u.nodes (operated u x control).banks u.requests u.answers base (nodes-same u.nodes);
      fits = answering-fits (operated u x control) x (acknowledgement u x control) tt;
    }
arrived-alone u x p (body.Management m) base is = record {
  base = base;
  fits = answered-fits u x p;
}

passed-alone : (u : State) (d vc : ℕ) (p : Packet) (outcome : Outcome) → vc < 2 → Base u → IsMessage p.body →
    CarriesOn outcome → Follows u.tree d outcome → Alone (passed u d vc p outcome)
passed-alone u d vc p (Passes e on) small base is carries follows = record {
  base = base;
  fits = (carries, queue-there u e vc base follows.there small);
}
passed-alone u d vc p (Returns back) small base is carries follows = record {
  base = base;
  fits = answering-fits u (end_of u.tree.links d) back carries;
}
passed-alone u d vc p Arrives small base is carries follows = arrived-alone u (end_of u.tree.links d) p p.body base is
passed-alone u d vc p Ends small base is carries follows = record {
  base = base;
  fits = tt;
}

moved-alone : (w : State) (d vc : ℕ) (p : Packet) → vc < 2 → d < link_count w.tree → Base w → IsMessage p.body → Alone (moved_over w d vc p)
moved-alone w d vc p small within base is =
    let work : Passing = passing w.tree w.nodes d p in
    let past = passing-passed w.tree w.nodes d p p.body is is in
    passed-alone (record w { nodes = work.nodes }) d vc p work.outcome small (base-moves w work.nodes w.banks w.requests w.answers base past.kept) is past.carries
    (outcomes_follow w.tree base.queues.tree w.nodes d within p)

route-within : (w : State) (x : ℕ) (p : Packet) (d : ℕ) → route_from w.tree w.nodes x p.dst ≡ Some d → d < link_count w.tree
route-within w x p d is =
    let link = route-link w.tree w.nodes x p.dst d is in (links_leave_by_ports w.tree d x link.0 link.1).2

goes-alone : (w : State) (stage : Stage) → Base w → FitsStage w stage → Alone (goes_on_from w stage)
goes-alone w (Asking x p) base fits =
    entered-alone (record w { requests = w.requests + 1 }) forward_vc (is_named w.faults (fault.Request w.requests)) p (link_at w.tree.links x 0) (omega arith)
    (base-moves w w.nodes w.banks (w.requests + 1) w.answers base (nodes-same w.nodes)) fits.0
    (λ d is. (links_leave_by_ports w.tree d x 0 is).2)
goes-alone w (UnderWay q true p) base fits = record {
  base = base;
  fits = tt;
}
goes-alone w (UnderWay q false p) base fits =
    moved-alone w (link_of_queue q) (channel_of q) p (mod_below q 2 (omega arith)) (queues.of w.tree q (subst (λ n. q < n) base.queues.queues fits.1)) base fits.0
goes-alone w (Answering x p) base fits =
    entered-alone (record w { answers = w.answers + 1 }) back_vc (is_named w.faults (fault.Answer w.answers)) p (route_from w.tree w.nodes x p.dst) (omega arith)
    (base-moves w w.nodes w.banks w.requests (w.answers + 1) base (nodes-same w.nodes)) fits.0
    (λ d is. route-within w x p d is)
goes-alone w (Answered x p) base fits = record {
  base = base;
  fits = tt;
}
goes-alone w Gone base fits = record {
  base = base;
  fits = tt;
}

pub goes-lone : (l : Lone) → IsLone l → IsLone (goes_on_from l.rest l.stage)
goes-lone l is =
    let alone = goes-alone l.rest l.stage (base-of l.rest is.settled) is.fits in
    record {
      settled = settled-of _ alone.base;
      fits = alone.fits;
    }
