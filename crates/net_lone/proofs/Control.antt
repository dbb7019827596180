-- A control request goes by tables to its end, is operated, and its acknowledgement comes back.
use Rattle.std.proofs.Common.{◌≡◌, ℕ, ◌<◌, Bool, true, false, List, [], ◌∷◌, refl, sym, ◌∙◌, ap, subst, if◌then◌else◌, arith}
use Rattle.std.specs.Prelude.{Option, Some, None, unwrap_or, ◌||◌}
use Rattle.std.specs.Option.{option_and_then, option_map_or}
use Rattle.block_registers.specs.Operations.{acknowledgement as acknowledged, answer, outcome}
use Rattle.chdr_packets.specs.declared.packet.Body.{Body}
use Rattle.chdr_packets.specs.declared.packet.Body.TheVariants as body
use Rattle.chdr_packets.specs.declared.packet.Packet.{Packet}
use Rattle.chdr_words.specs.declared.control.Control.{Control}
use Rattle.chdr_words.specs.declared.epid.Epid.{Epid}
use Rattle.net_topology.specs.Leads.{LeadsOver, has_table, sent_on, turned_to}
use Rattle.net_topology.specs.Links.{end_of, link_at}
use Rattle.net_topology.specs.Tree.{IsTree, epid_at, epid_of, node_with}
use Rattle.net_topology.specs.declared.plan.NodePlan.{NodePlan}
use Rattle.net_topology.specs.declared.plan.NodePlan.TheVariants.{Crossbar, Adapter, Host, Endpoint}
use Rattle.net_topology.specs.declared.plan.Plan.{Plan}
use Rattle.net_topology.proofs.Laws.{epids_name_nodes}
use Rattle.net_machine.specs.declared.event.Event.{Event}
use Rattle.net_machine.specs.declared.event.Event.TheVariants.{Hop, Lose, Reply, Ask}
use Rattle.net_machine.specs.Nodes.{exits_of, is_host, is_host_at, is_switch, own_epid, place_at, planned, route_from}
use Rattle.net_machine.specs.Passing.{Arrives, Ends as EndsThere, Passes, Passing, by_table, goes_on, passing_by, walks}
use Rattle.net_machine.specs.Plans.{no_epid}
use Rattle.net_machine.specs.Queues.{back_vc, channel_of, forward_vc, link_of_queue, queue_of}
use Rattle.net_machine.specs.State.{Node, State}
use Rattle.net_machine.proofs.Laws.{queues}
use Rattle.net_ways.specs.Hops.{GoesByTable}
use Rattle.net_lone.specs.Carrying.{AnswersComeBack, ComesOn, MessagesAreCarried, RequestsEnter}
use Rattle.net_lone.specs.Control.{ControlComesBack, IsLedControl, control_end, has_answered, has_asked, loses_answer, loses_request}
use Rattle.net_lone.specs.Lone.{acknowledgement, answered_at, answering_at, arrived, entered, lone_after, moved_over, operated, passed_so}
use Rattle.net_lone.specs.Runs.{Comes, Ends, Goes, has_loss, is_loss}
use Rattle.net_lone.specs.Stages.{Answered, Answering, Asking, Gone, Lone, UnderWay, lone, next_event}
use Rattle.net_lone.proofs.Bases.{some-same}

-- ---- a message goes on

comes-here : (a : Lone) → Comes a a false
unfolding Goes
comes-here a = record {
  journal = [];
  goes = refl;
  loss = refl;
}

pub comes-by : ComesOn
unfolding Goes
comes-by a b c e loss next after keeps later = record {
  journal = e ∷ later.journal;
  goes = (next, subst (λ (l : Lone). Goes l later.journal c) (sym after) later.goes);
  loss = ap (λ t. t || has_loss later.journal) keeps ∙ later.loss;
}

comes-lost : (a b : Lone) (q : ℕ) → next_event a.stage ≡ Some (Lose q) → lone_after a ≡ b → Comes a b true
unfolding Goes
comes-lost a b q next after = record {
  journal = Lose q ∷ [];
  goes = (next, after);
  loss = refl;
}

-- ---- at each node

goes-by_table : (tree : Plan) (nodes : List Node) (d : ℕ) (p : Packet) (b : Body) → GoesByTable p b → passing_by tree nodes d p b ≡ goes_on tree nodes d p
goes-by_table tree nodes d p (body.Samples time payload) here = refl
goes-by_table tree nodes d p (body.Status status) here = refl
goes-by_table tree nodes d p (body.Command c) here = refl
goes-by_table tree nodes d p (body.Control control) here = refl
goes-by_table tree nodes d p (body.Management m) here = ap (λ b. if b then walks tree nodes d p m else goes_on tree nodes d p) here

-- where tables send a packet on, its node has one
switch-of : (tree : Plan) (nodes : List Node) (dst : Epid) (d e : ℕ) → sent_on tree (exits_of nodes) dst d ≡ Some e → is_switch tree (end_of tree.links d) ≡ true
switch-of tree nodes dst d e is = by_sort (is_switch tree (end_of tree.links d)) is
  where
    by_sort : (b : Bool) → (if b then option_and_then (turned_to tree d) (exits_of nodes (end_of tree.links d) dst) else None) ≡ Some e → b ≡ true
    by_sort true h = refl
    by_sort false h = let z : ◌≡◌ {A = Option ℕ} None (Some e) = h in absurd cc

-- it goes on
moves-on : (w : State) (d vc : ℕ) (p : Packet) (e : ℕ) → GoesByTable p p.body → sent_on w.tree (exits_of w.nodes) p.dst d ≡ Some e →
    moved_over w d vc p ≡ lone w (UnderWay (queue_of e vc) false p)
moves-on w d vc p e goes is =
    ap (λ (it : Passing). passed_so w d vc p it) (goes-by_table w.tree w.nodes d p p.body goes)
    ∙ ap (λ b. passed_so w d vc p (record { outcome = if b then by_table w.tree w.nodes d p else Arrives; nodes = w.nodes })) (switch-of w.tree w.nodes p.dst d e is)
    ∙ ap (λ (o : Option ℕ). passed_so w d vc p (record { outcome = option_map_or (λ (l : ℕ). Passes l p) o EndsThere; nodes = w.nodes })) is

-- or comes to an end node
moves-in : (w : State) (d vc : ℕ) (p : Packet) (z : ℕ) → GoesByTable p p.body → end_of w.tree.links d ≡ z → is_switch w.tree z ≡ false →
    moved_over w d vc p ≡ arrived w z p p.body
moves-in w d vc p z goes ends end_node =
    ap (λ (it : Passing). passed_so w d vc p it) (goes-by_table w.tree w.nodes d p p.body goes)
    ∙ ap (λ b. passed_so w d vc p (record { outcome = if b then by_table w.tree w.nodes d p else Arrives; nodes = w.nodes })) (ap (is_switch w.tree) ends ∙ end_node)
    ∙ ap (λ (y : ℕ). arrived w y p p.body) ends

from-queue : (w : State) (d vc : ℕ) (p : Packet) → vc < 2 → moved_over w (link_of_queue (queue_of d vc)) (channel_of (queue_of d vc)) p ≡ moved_over w d vc p
from-queue w d vc p small =
    let link = queues.link d vc small in
    let channel = queues.channel d vc small in
    λ i. moved_over w (link i) (channel i) p

-- ---- along the links over which tables lead

pub carried : MessagesAreCarried
carried w vc p d [] z b loss small goes leads end_node later =
    comes-by (lone w (UnderWay (queue_of d vc) false p)) (arrived w z p p.body) b (Hop (queue_of d vc)) loss refl
    (from-queue w d vc p small ∙ moves-in w d vc p z goes leads end_node) refl later
carried w vc p d (e ∷ ds) z b loss small goes leads end_node later =
    comes-by (lone w (UnderWay (queue_of d vc) false p)) (lone w (UnderWay (queue_of e vc) false p)) b (Hop (queue_of d vc)) loss refl
    (from-queue w d vc p small ∙ moves-on w d vc p e goes leads.0) refl (carried w vc p e ds z b loss small goes leads.1 end_node later)

-- ---- end nodes

end-node : (tree : Plan) (z : ℕ) (epid : Epid) → epid_at tree.nodes z ≡ Some epid → is_switch tree z ≡ false
end-node tree z epid is = by_node (planned tree z) is
  where
    by_node : (o : Option NodePlan) → option_and_then epid_of o ≡ Some epid → option_map_or has_table o false ≡ false
    by_node None h = let x : ◌≡◌ {A = Option Epid} None (Some epid) = h in absurd cc
    by_node (Some (Crossbar ports)) h = let x : ◌≡◌ {A = Option Epid} None (Some epid) = h in absurd cc
    by_node (Some Adapter) h = let x : ◌≡◌ {A = Option Epid} None (Some epid) = h in absurd cc
    by_node (Some (Host own)) h = refl
    by_node (Some (Endpoint own bank)) h = refl

-- a host is found by its EPID
host-epid : (tree : Plan) (x : ℕ) → is_host_at tree x ≡ true → epid_at tree.nodes x ≡ Some (own_epid tree x)
host-epid tree x is = by_node (planned tree x) is
  where
    by_node : (o : Option NodePlan) → option_map_or is_host o false ≡ true → option_and_then epid_of o ≡ Some (unwrap_or (option_and_then epid_of o) no_epid)
    by_node None h = let z : ◌≡◌ {A = Bool} false true = h in absurd cc
    by_node (Some (Crossbar ports)) h = let z : ◌≡◌ {A = Bool} false true = h in absurd cc
    by_node (Some Adapter) h = let z : ◌≡◌ {A = Bool} false true = h in absurd cc
    by_node (Some (Host own)) h = refl
    by_node (Some (Endpoint own bank)) h = let z : ◌≡◌ {A = Bool} false true = h in absurd cc

end-route : (tree : Plan) (nodes : List Node) (z : ℕ) (dst : Epid) (d : ℕ) → is_switch tree z ≡ false → link_at tree.links z 0 ≡ Some d → route_from tree nodes z dst ≡ Some d
end-route tree nodes z dst d end_node is =
    ap (λ b. if b then option_and_then (link_at tree.links z) (exits_of nodes z dst) else link_at tree.links z 0) end_node ∙ is

-- ---- there and back

-- an answer leaves its node, and comes to the host, or is lost
pub answer-comes : AnswersComeBack
answer-comes w x z p d ds goes comes route leads end_there =
    comes-by (lone w (Answering z p)) (lone u (UnderWay (queue_of d back_vc) (loses_answer w) p)) (lone u (if loses_answer w then Gone else Answered x p)) (Reply z) (loses_answer w)
    refl (ap (λ (o : Option ℕ). entered u back_vc (loses_answer w) p o) route) refl (by_loss (loses_answer w))
  where
    u : State
    u = has_answered w

    by_loss : (m : Bool) → Comes (lone u (UnderWay (queue_of d back_vc) m p)) (lone u (if m then Gone else Answered x p)) m
    by_loss true = comes-lost (lone u (UnderWay (queue_of d back_vc) true p)) (lone u Gone) (queue_of d back_vc) refl refl
    by_loss false = carried u back_vc p d ds x (lone u (Answered x p)) false (omega arith) goes leads end_there
        (subst (λ (l : Lone). Comes l (lone u (Answered x p)) false) (sym comes) (comes-here (lone u (Answered x p))))

-- a request leaves its host, or is lost
pub request-enters : RequestsEnter
request-enters w x p d b loss link later =
    comes-by (lone w (Asking x p)) (lone u (UnderWay (queue_of d forward_vc) (loses_request w) p)) (if loses_request w then lone u Gone else b) (Ask x) (loses_request w || loss)
    refl (ap (λ (o : Option ℕ). entered u forward_vc (loses_request w) p o) link) refl (by_loss (loses_request w))
  where
    u : State
    u = has_asked w

    by_loss : (m : Bool) → Comes (lone u (UnderWay (queue_of d forward_vc) m p)) (if m then lone u Gone else b) (m || loss)
    by_loss true = comes-lost (lone u (UnderWay (queue_of d forward_vc) true p)) (lone u Gone) (queue_of d forward_vc) refl refl
    by_loss false = later

ack-is : (me : Epid) (c : Control) (words : Option (List ℕ)) → (acknowledged me c words).ack ≡ true
unfolding acknowledged
ack-is me c words = refl

-- an acknowledgement comes to its host
ack-comes : (u : State) (x : ℕ) (p : Packet) (c : Control) → p.body ≡ body.Control c → c.ack ≡ true → is_host_at u.tree x ≡ true →
    arrived u x p p.body ≡ lone u (Answered x p)
ack-comes u x p c is ack host =
    ap (λ (b : Body). arrived u x p b) is
    ∙ ap (λ b. if b then lone u (answered_at u x p) else lone (operated u x c) (answering_at u x (acknowledgement u x c))) ack
    ∙ ap (λ b. lone u (if b then Answered x p else Gone)) host

-- a request is operated
request-comes : (u : State) (z : ℕ) (p : Packet) (c : Control) (d : ℕ) → p.body ≡ body.Control c → c.ack ≡ false →
    route_from u.tree u.nodes z c.src ≡ Some d → arrived u z p p.body ≡ lone (operated u z c) (Answering z (acknowledgement u z c))
request-comes u z p c d is ack route =
    ap (λ (b : Body). arrived u z p b) is
    ∙ ap (λ b. if b then lone u (answered_at u z p) else lone (operated u z c) (answering_at u z (acknowledgement u z c))) ack
    ∙ ap (λ (o : Option ℕ). lone (operated u z c) (option_map_or (λ (l : ℕ). Answering z (acknowledgement u z c)) o Gone)) route

control-goes : (p : Packet) (c : Control) → p.body ≡ body.Control c → GoesByTable p p.body
control-goes p c is = subst (λ (b : Body). GoesByTable p b) (sym is) tt

ends-of : (w : State) (x z : ℕ) (c : Control) → next_event (control_end w x z c).stage ≡ None
ends-of w x z c = by_loss (loses_request w) (loses_answer w)
  where
    by_loss : (m n : Bool) → next_event (if m then lone (has_asked w) Gone
        else lone (has_answered (operated (has_asked w) z c)) (if n then Gone else Answered x (acknowledgement w z c))).stage ≡ None
    by_loss true n = refl
    by_loss false true = refl
    by_loss false false = refl

-- a host asks over the first link of the way
pub first-link : (w : State) (x z : ℕ) (p : Packet) (c : Control) → IsTree w.tree → (led : IsLedControl w x z p c) → link_at w.tree.links x 0 ≡ Some led.forth.first
first-link w x z p c tree led =
    let own = own_epid w.tree x in
    let found : node_with w.tree.nodes own ≡ Some x = (epids_name_nodes w.tree tree x own).1 (host-epid w.tree x led.host) in
    let starts : led.forth.source ≡ x = some-same led.forth.source x (sym led.forth.from ∙ found) in
    ap (λ (y : ℕ). link_at w.tree.links y 0) (sym starts) ∙ led.forth.out

pub control-back : ControlComesBack
control-back w x z p c settled led =
    let tree = settled.queues.tree in
    let own = own_epid w.tree x in
    let host : epid_at w.tree.nodes x ≡ Some own = host-epid w.tree x led.host in
    let found : node_with w.tree.nodes own ≡ Some x = (epids_name_nodes w.tree tree x own).1 host in
    let there : epid_at w.tree.nodes z ≡ Some p.dst = (epids_name_nodes w.tree tree z p.dst).0 led.target in
    let comes : led.forth.target ≡ z = some-same led.forth.target z (sym led.forth.to ∙ led.target) in
    let leaves : led.back.source ≡ z = some-same led.back.source z (sym led.back.from ∙ led.target) in
    let returns : led.back.target ≡ x = some-same led.back.target x (sym led.back.to ∙ found) in
    let first = first-link w x z p c tree led in
    let last : link_at w.tree.links z 0 ≡ Some led.back.first = ap (λ (y : ℕ). link_at w.tree.links y 0) (sym leaves) ∙ led.back.out in
    let ends_there = end-node w.tree z p.dst there in
    let ends_here = end-node w.tree x own host in
    let route : route_from w.tree w.nodes z c.src ≡ Some led.back.first = end-route w.tree w.nodes z c.src led.back.first ends_there last in
    let ack = acknowledgement w z c in
    let u = operated (has_asked w) z c in
    let back = answer-comes u x z ack led.back.first led.back.links tt
    (ack-comes (has_answered u) x ack (answer (own_epid w.tree z) (place_at w z c.dst_port) c) refl
    (ack-is (own_epid w.tree z) c (outcome (place_at w z c.dst_port) c)) led.host) route
    (subst (λ (y : ℕ). LeadsOver w.tree (exits_of w.nodes) c.src led.back.first led.back.links y) returns
    (subst (λ (e : Epid). LeadsOver w.tree (exits_of w.nodes) e led.back.first led.back.links led.back.target) (sym led.source) led.back.way)) ends_here in
    let end : Lone = lone (has_answered u) (if loses_answer w then Gone else Answered x ack) in
    let forth = request-enters w x p led.forth.first end (loses_answer w) first
    (carried (has_asked w) forward_vc p led.forth.first led.forth.links z end (loses_answer w) (omega arith) (control-goes p c led.body)
    (subst (λ (y : ℕ). LeadsOver w.tree (exits_of w.nodes) p.dst led.forth.first led.forth.links y) comes led.forth.way) ends_there
    (subst (λ (l : Lone). Comes l end (loses_answer w)) (sym (request-comes (has_asked w) z p c led.back.first led.body led.request route)) back)) in
    record {
      journal = forth.journal;
      ends = record {
        goes = forth.goes;
        over = ends-of w x z c;
      };
      loss = forth.loss;
    }
