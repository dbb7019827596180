-- Each move leaves a network lawful.
use Rattle.std.proofs.Common.{◌≡◌, ℕ, ◌<◌, Bool, true, false, IsTrue, List, [], ◌∷◌, ◌++◌, drop, refl, sym, ◌∙◌, subst, set}
use Rattle.std.specs.Prelude.{Option, Some, None, slice_get, unwrap_or, ◌||◌}
use Rattle.std.specs.List.{AllByRecursion}
use Rattle.std.specs.Option.{option_and_then, option_map_or}
use Rattle.std.proofs.lemmas.Bool.{false≢true}
use Rattle.std.proofs.lemmas.Option.{get_or_from_slice_get, slice_get_within}
use Rattle.rf_base.proofs.Places.{one-set}
use Rattle.block_registers.specs.Registers.{Registers}
use Rattle.chdr_packets.specs.declared.packet.Body.{Body}
use Rattle.chdr_packets.specs.declared.packet.Body.TheVariants as body
use Rattle.chdr_packets.specs.declared.packet.Packet.{Packet}
use Rattle.chdr_words.specs.declared.epid.Epid.{Epid}
use Rattle.net_topology.specs.Links.{link_at}
use Rattle.net_topology.specs.Tree.{FitsNode, epid_of}
use Rattle.net_topology.specs.declared.plan.NodePlan.{NodePlan}
use Rattle.net_topology.specs.declared.plan.NodePlan.TheVariants.{Crossbar, Adapter, Host, Endpoint}
use Rattle.net_topology.specs.declared.plan.Plan.{Plan}
use Rattle.net_faults.specs.declared.fault.Fault.{Fault}
use Rattle.net_machine.specs.declared.event.Event.{Event}
use Rattle.net_machine.specs.declared.event.Event.TheVariants.{Enter, Hop, Seen, Feed, Report, Command, Lose, Reply, Ask}
use Rattle.net_machine.specs.Conditions.{enabled}
use Rattle.net_machine.specs.Effects.{after}
use Rattle.net_machine.specs.Faults.{renamed}
use Rattle.net_machine.specs.Moves.{Answered, Asks, CanAsk, Happens, IsAtRest, IsLegal, IsRequest, Loads, Marks, after_all, after_move, answered, asks, is_management}
use Rattle.net_machine.specs.Nodes.{is_host, is_host_at, own_epid}
use Rattle.net_machine.specs.State.{Node, State, blank, node_at, node_in}
use Rattle.net_machine.specs.Plans.{no_epid}
use Rattle.net_machine.proofs.Laws.{shape_stays}
use Rattle.net_ways.specs.Hops.{GoesByTable}
use Rattle.net_ways.specs.Standing.{AreMessages}
use Rattle.net_ways.proofs.Laws.{messages_stay}
use Rattle.net_flows.specs.Flows.{IsSteady, SteadyStays, UnseenFlows}
use Rattle.net_lawful.specs.Lawful.{Lawful}
use Rattle.net_lawful.specs.Laws.{AllAreLawful, LawfulStays}
use Rattle.net_lawful.specs.Made.{HaveMade}
use Rattle.net_lawful.specs.Messages.{AreFit, FitsTree, IsFit, IsNodeFit}
use Rattle.net_lawful.specs.Walking.{AreLed, AreStilled, KeepsTables}
use Rattle.net_lawful.proofs.Calm.{walked-stays}
use Rattle.net_lawful.proofs.Entering.{more}
use Rattle.net_lawful.proofs.Giving.{made-fed}
use Rattle.net_lawful.proofs.Leading.{led-stays, ways-same}
use Rattle.net_lawful.proofs.Making.{made-entered, made-kept, made-seen}
use Rattle.net_lawful.proofs.Messages.{messages-fit, spelled-stays}
use Rattle.net_lawful.proofs.Nodes.{nodes-stay}
use Rattle.net_lawful.proofs.Peaks.{peaks-stay}
use Rattle.net_lawful.proofs.Stilling.{stilled-begins, stilled-same}
use Rattle.net_lawful.proofs.Unseen.{steady-outside, steady-stilled, stilled-stays}

made-stays : (w : State) (e : Event) → IsSteady w → FitsTree w.tree → IsTrue (enabled w e) → HaveMade w → HaveMade (after w e)
made-stays w (Enter s) steady fits may_it made = made-entered w s steady made
made-stays w (Hop q) steady fits may_it made = made-kept w (Hop q) steady tt made
made-stays w (Seen s n) steady fits may_it made = made-seen w s n steady may_it made
made-stays w (Feed b i) steady fits may_it made = made-fed w b i steady fits made
made-stays w (Report s) steady fits may_it made = made-kept w (Report s) steady tt made
made-stays w (Command s op) steady fits may_it made = made-kept w (Command s op) steady tt made
made-stays w (Lose q) steady fits may_it made = made-kept w (Lose q) steady tt made
made-stays w (Reply x) steady fits may_it made = made-kept w (Reply x) steady tt made
made-stays w (Ask x) steady fits may_it made = made-kept w (Ask x) steady tt made

steady-then : SteadyStays → UnseenFlows → (w : State) (e : Event) → Lawful w → IsTrue (enabled w e) → IsSteady (after w e)
steady-then stays unseen w e lawful may_it = by_walked w.walked refl
  where
    by_walked : (b : Bool) → w.walked ≡ b → IsSteady (after w e)
    by_walked false is = let led = lawful.led is in stays w e lawful.steady led.ways led.placed may_it
    by_walked true is = steady-stilled unseen w e lawful.steady may_it (lawful.stilled is)

event-lawful : SteadyStays → UnseenFlows → (w : State) (e : Event) → Lawful w → IsTrue (enabled w e) → Lawful (after w e)
event-lawful stays unseen w e lawful may_it =
    let steady = steady-then stays unseen w e lawful may_it in
    let walked = walked-stays w e in
    record {
      steady = steady;
      tree = subst FitsTree (sym (shape_stays w (Happens e)).tree) lawful.tree;
      nodes = nodes-stay w e lawful.steady.queues lawful.tree lawful.messages lawful.nodes;
      messages = messages-fit w e lawful.steady lawful.tree lawful.nodes lawful.messages;
      spelled = spelled-stays w e lawful.steady may_it lawful.spelled;
      makes = made-stays w e lawful.steady lawful.tree may_it lawful.makes;
      peaks = peaks-stay w e lawful.steady steady lawful.peaks;
      led = λ is. led-stays w e lawful.steady lawful.nodes may_it (lawful.led (sym walked ∙ is));
      stilled = λ is. stilled-stays w e lawful.steady may_it (lawful.stilled (sym walked ∙ is));
    }

-- ---- a request

request-fit : (w : State) (x : ℕ) (p : Packet) (b : Body) → CanAsk w x p → IsRequest w x p b → 0 < (own_epid w.tree x).0 → IsFit p b
request-fit w x p (body.Samples time payload) can is positive = absurd is
request-fit w x p (body.Command c) can is positive = absurd is
request-fit w x p (body.Status status) can is positive = absurd is
request-fit w x p (body.Control control) can is positive =
    record { fits = can.fits; source = λ ack. subst (λ (e : Epid). 0 < e.0) (sym is.1) positive }
request-fit w x p (body.Management m) can is positive =
    record { fits = can.fits; source = subst (λ (e : Epid). 0 < e.0) (sym is.1) positive; answers = is.2 }

-- a host's EPID isn't 0
host-positive : (tree : Plan) (x : ℕ) → FitsTree tree → is_host_at tree x ≡ true → 0 < (own_epid tree x).0
host-positive tree x fits is = by_node (slice_get tree.nodes x) (λ node at.
    subst FitsNode (get_or_from_slice_get tree.nodes x node node at) (fits.plan.nodes x node (slice_get_within tree.nodes x node at))) is
  where
    by_sort : (node : NodePlan) → FitsNode node → is_host node ≡ true → 0 < (unwrap_or (epid_of node) no_epid).0
    by_sort (Crossbar ports) fit is = absurd (false≢true is)
    by_sort Adapter fit is = absurd (false≢true is)
    by_sort (Host epid) fit is = fit
    by_sort (Endpoint epid bank) fit is = absurd (false≢true is)

    by_node : (o : Option NodePlan) → ((node : NodePlan) → o ≡ Some node → FitsNode node) → option_map_or is_host o false ≡ true → 0 < (unwrap_or (option_and_then epid_of o) no_epid).0
    by_node None fit is = absurd (false≢true is)
    by_node (Some node) fit is = by_sort node (fit node refl) is

-- ---- what is done from outside

-- tables and queues stay as they are
led-outside : (w : State) (nodes : List Node) (banks : List (Option Registers)) (faults : List Fault) (requests answers : ℕ) (walked : Bool) →
    ((x : ℕ) → (node_in nodes x).table ≡ (node_at w x).table) →
    ((x d : ℕ) → link_at w.tree.links x 0 ≡ Some d → AllByRecursion KeepsTables (node_in nodes x).requests) → AreLed w →
    AreLed (record w { nodes = nodes; banks = banks; faults = faults; requests = requests; answers = answers; walked = walked })
led-outside w nodes banks faults requests answers walked tables asked led = record {
  ways = ways-same w (record w { nodes = nodes; banks = banks; faults = faults; requests = requests; answers = answers; walked = walked }) refl refl refl tables led.ways;
  placed = led.placed;
  queued = led.queued;
  asked = asked;
}

outside-lawful : UnseenFlows → (w : State) (nodes : List Node) (banks : List (Option Registers)) (faults : List Fault) (requests answers : ℕ) (walked : Bool) → Lawful w →
    AreMessages (record w { nodes = nodes; banks = banks; faults = faults; requests = requests; answers = answers; walked = walked }) →
    ((x : ℕ) → IsNodeFit w.tree x (node_in nodes x)) →
    (walked ≡ false → AreLed (record w { nodes = nodes; banks = banks; faults = faults; requests = requests; answers = answers; walked = walked })) →
    (walked ≡ true → AreStilled w) →
    Lawful (record w { nodes = nodes; banks = banks; faults = faults; requests = requests; answers = answers; walked = walked })
outside-lawful unseen w nodes banks faults requests answers walked lawful messages fit led stilled =
    let v = record w { nodes = nodes; banks = banks; faults = faults; requests = requests; answers = answers; walked = walked } in
    record {
      steady = steady-outside unseen w nodes banks faults requests answers walked messages lawful.steady;
      tree = lawful.tree;
      nodes = fit;
      messages = lawful.messages;
      spelled = lawful.spelled;
      makes = lawful.makes;
      peaks = lawful.peaks;
      led = led;
      stilled = λ is. stilled-same w v refl refl refl (stilled is).queued (stilled is);
    }

-- each node has the property, if those before have it and the new one has
node-set : (P : ℕ → Node → Type 0) (w : State) (x : ℕ) (n : Node) → ((y : ℕ) → P y (node_at w y)) → P x n → (y : ℕ) → P y (node_in (set w.nodes x n) y)
node-set P w x n each here = one-set {B = ℕ} (λ y node none. P y node) w.nodes [] blank 0 n x each here

table-keeps : (p : Packet) (b : Body) → is_management b ≡ false → GoesByTable p b
table-keeps p (body.Samples time payload) is = tt
table-keeps p (body.Status status) is = tt
table-keeps p (body.Command c) is = tt
table-keeps p (body.Control control) is = tt
table-keeps p (body.Management m) is = absurd (false≢true (sym is))

at-rest : (w : State) (x : ℕ) (p : Packet) (b : Body) → is_management b ≡ true → IsRequest w x p b → IsAtRest w
at-rest w x p (body.Samples time payload) is can = absurd can
at-rest w x p (body.Status status) is can = absurd can
at-rest w x p (body.Command c) is can = absurd can
at-rest w x p (body.Control control) is can = absurd (false≢true is)
at-rest w x p (body.Management m) is can = can.3

neither : (a b : Bool) → (a || b) ≡ false → (a ≡ false) × (b ≡ false)
neither true b is = absurd (false≢true (sym is))
neither false b is = (refl, is)

asks-lawful : UnseenFlows → (w : State) (x : ℕ) (p : Packet) → Lawful w → CanAsk w x p → Lawful (asks x p w)
asks-lawful unseen w x p lawful can =
    let n = record (node_at w x) { requests = (node_at w x).requests ++ p ∷ [] } in
    let positive = host-positive w.tree x lawful.tree can.host in
    let here = lawful.nodes x in
    outside-lawful unseen w (set w.nodes x n) w.banks w.faults w.requests w.answers (w.walked || is_management p.body) lawful
    (messages_stay w (Asks x p) can lawful.steady.messages)
    (node-set (IsNodeFit w.tree) w x n lawful.nodes (record {
      table = here.table;
      requests = more (λ (q : Packet). IsFit q q.body) (node_at w x).requests p here.requests (request-fit w x p p.body can can.request positive);
      pending = here.pending;
      answers = here.answers;
    }))
    (λ is.
    let both = neither w.walked (is_management p.body) is in
    let led = lawful.led both.0 in
    led-outside w (set w.nodes x n) w.banks w.faults w.requests w.answers (w.walked || is_management p.body)
    (node-set (λ y node. node.table ≡ (node_at w y).table) w x n (λ y. refl) refl)
    (node-set (λ y node. (d : ℕ) → link_at w.tree.links y 0 ≡ Some d → AllByRecursion KeepsTables node.requests) w x n led.asked
    (λ d at. more KeepsTables (node_at w x).requests p (led.asked x d at) (table-keeps p p.body both.1))) led)
    (λ is. by_walked w.walked refl is)
  where
    by_walked : (b : Bool) → w.walked ≡ b → (b || is_management p.body) ≡ true → AreStilled w
    by_walked true was is = lawful.stilled was
    by_walked false was is = stilled-begins w lawful.steady (lawful.led was) (at-rest w x p p.body is can.request)

rest-fit : (packets : List Packet) → AreFit packets → AreFit (drop 1 packets)
rest-fit [] all = tt
rest-fit (p ∷ packets) all = all.1

answered-lawful : UnseenFlows → (w : State) (x : ℕ) → Lawful w → Lawful (answered x w)
answered-lawful unseen w x lawful =
    let n = record (node_at w x) { answers = drop 1 (node_at w x).answers } in
    let here = lawful.nodes x in
    outside-lawful unseen w (set w.nodes x n) w.banks w.faults w.requests w.answers w.walked lawful
    (messages_stay w (Answered x) tt lawful.steady.messages)
    (node-set (IsNodeFit w.tree) w x n lawful.nodes (record { table = here.table; requests = here.requests; pending = here.pending; answers = rest-fit (node_at w x).answers here.answers }))
    (λ is.
    let led = lawful.led is in
    led-outside w (set w.nodes x n) w.banks w.faults w.requests w.answers w.walked
    (node-set (λ y node. node.table ≡ (node_at w y).table) w x n (λ y. refl) refl)
    (node-set (λ y node. (d : ℕ) → link_at w.tree.links y 0 ≡ Some d → AllByRecursion KeepsTables node.requests) w x n led.asked (led.asked x)) led)
    lawful.stilled

same-nodes : UnseenFlows → (w : State) (banks : List (Option Registers)) (faults : List Fault) (requests answers : ℕ) → Lawful w →
    Lawful (record w { banks = banks; faults = faults; requests = requests; answers = answers })
same-nodes unseen w banks faults requests answers lawful =
    outside-lawful unseen w w.nodes banks faults requests answers w.walked lawful lawful.steady.messages lawful.nodes
    (λ is. let led = lawful.led is in led-outside w w.nodes banks faults requests answers w.walked (λ x. refl) led.asked led) lawful.stilled

pub lawful-stays : SteadyStays → UnseenFlows → LawfulStays
lawful-stays stays unseen w (Happens e) lawful may_it = event-lawful stays unseen w e lawful may_it
lawful-stays stays unseen w (Asks x p) lawful can = asks-lawful unseen w x p lawful can
lawful-stays stays unseen w (Answered x) lawful can = answered-lawful unseen w x lawful
lawful-stays stays unseen w (Marks faults) lawful can = same-nodes unseen w w.banks (renamed w.faults faults) 0 0 lawful
lawful-stays stays unseen w (Loads banks) lawful can = same-nodes unseen w banks w.faults w.requests w.answers lawful

pub all-lawful : SteadyStays → UnseenFlows → AllAreLawful
unfolding IsLegal after_all
all-lawful stays unseen w [] lawful legal = lawful
all-lawful stays unseen w (move ∷ moves) lawful legal =
    all-lawful stays unseen (after_move w move) moves (lawful-stays stays unseen w move lawful legal.0) legal.1
