-- Where one message is under way exactly its next event is enabled.
use Rattle.std.proofs.Common.{◌≡◌, ℕ, ◌<◌, ◌⊎◌, inl, inr, Bool, true, false, IsTrue, List, [], ◌∷◌, ◌++◌, length, map, refl, sym, ◌∙◌, ap, subst, set, if◌then◌else◌}
use Rattle.std.specs.Prelude.{Option, Some, None, not}
use Rattle.std.specs.List.{AllByRecursion}
use Rattle.std.specs.Option.{option_and_then}
use Rattle.std.proofs.lemmas.Bool.{and_from, and_parts, both_ways, not-true}
use Rattle.std.proofs.lemmas.List.{get_or-set_same, length-set}
use Rattle.rf_base.proofs.Places.{one-set}
use Rattle.chdr_packets.specs.declared.packet.Packet.{Packet}
use Rattle.chdr_words.specs.declared.epid.Epid.{Epid}
use Rattle.net_nodes.specs.Table.{exit_of}
use Rattle.net_nodes.specs.declared.table.Place.{Place}
use Rattle.net_topology.specs.Links.{link_at}
use Rattle.net_topology.specs.declared.plan.Plan.{Plan}
use Rattle.net_topology.proofs.Laws.{links_join_ports, links_leave_by_ports}
use Rattle.net_machine.specs.declared.event.Event.{Event}
use Rattle.net_machine.specs.declared.event.Event.TheVariants.{Enter, Hop, Seen, Feed, Report, Command, Lose, Reply, Ask}
use Rattle.net_machine.specs.Blocks.{has_packet}
use Rattle.net_machine.specs.Conditions.{can_hop, can_lose, can_reply, enabled, has_place_over, has_way, may}
use Rattle.net_machine.specs.Front.{front, queued}
use Rattle.net_machine.specs.Nodes.{exits_of, is_switch, route_from}
use Rattle.net_machine.specs.Passing.{passing}
use Rattle.net_machine.specs.Queues.{back_vc, channel_of, forward_vc, link_count, link_of_queue, queue_of}
use Rattle.net_machine.specs.State.{Entry, Message, Node, State, blank, node_at, node_in, queue_at}
use Rattle.net_machine.proofs.Laws.{fronts, queues}
use Rattle.net_ways.specs.Standing.{IsMessage}
use Rattle.net_ways.proofs.Laws.{channels_go_on}
use Rattle.net_lone.specs.Stages.{Answered, Answering, Asking, FitsStage, Gone, Stage, UnderWay, next_event, with_message}
use Rattle.net_lone.proofs.Bases.{Base, IsStreams, no-ask, no-hop, no-lose, no-reply, room-at, some-same, still-of}
use Rattle.net_lone.proofs.Others.{empty-carry, still-with}

-- ---- one node changes

pub field-kept : (f : Node → List Packet) (nodes : List Node) (x y : ℕ) (n : Node) → f n ≡ f (node_in nodes x) →
    f (node_in (set nodes x n) y) ≡ f (node_in nodes y)
field-kept f nodes x y n same = one-set {B = Node} (λ z a b. f a ≡ f b) nodes nodes blank blank n x (λ z. refl) same y

field-else : (f : Node → List Packet) (nodes : List Node) (x y : ℕ) (n : Node) →
    (f (node_in (set nodes x n) y) ≡ f (node_in nodes y)) ⊎ (y ≡ x)
field-else f nodes x y n = one-set {B = Node} (λ z a b. (f a ≡ f b) ⊎ (z ≡ x)) nodes nodes blank blank n x (λ z. inl refl) (inr refl) y

-- ---- one entry joins a queue of a settled network

abbrev pub entry_of : Bool → Packet → Entry
entry_of marked p = record { packet = p; marked = marked; tag = Message }

content : (w : State) (q : ℕ) (e : Entry) → Base w → (r : ℕ) →
    (queue_at (set w.queues q (queue_at w.queues q ++ e ∷ [])) r ≡ []) ⊎ ((r ≡ q) × (queue_at (set w.queues q (queue_at w.queues q ++ e ∷ [])) r ≡ e ∷ []))
content w q e base r =
    one-set {B = List Entry} (λ s es fs. (es ≡ []) ⊎ ((s ≡ q) × (es ≡ e ∷ []))) w.queues w.queues [] [] (queue_at w.queues q ++ e ∷ []) q
    (λ s. inl (base.empty s)) (inr (refl, ap (λ (es : List Entry). es ++ e ∷ []) (base.empty q))) r

pub content-at : (w : State) (q : ℕ) (e : Entry) → Base w → q < length w.queues →
    queue_at (set w.queues q (queue_at w.queues q ++ e ∷ [])) q ≡ e ∷ []
content-at w q e base lt =
    get_or-set_same w.queues q (queue_at w.queues q ++ e ∷ []) [] lt ∙ ap (λ (es : List Entry). es ++ e ∷ []) (base.empty q)

carry-with : (w : State) (q : ℕ) (e : Entry) → Base w → IsMessage e.packet.body → (r : ℕ) →
    AllByRecursion (λ (f : Entry). IsMessage f.packet.body) (queue_at (set w.queues q (queue_at w.queues q ++ e ∷ [])) r)
carry-with w q e base message r = elim (content w q e base r) [
  | inl none ↦ rw none tt
  | inr here ↦ rw here.1 (message, tt)
]

-- ---- where messages can go

pub node-there : (w : State) (x port d : ℕ) → Base w → link_at w.tree.links x port ≡ Some d → x < length w.nodes
node-there w x port d base is =
    let leaves = links_leave_by_ports w.tree d x port is in
    let joins = links_join_ports w.tree base.queues.tree d leaves.2 in
    subst (λ n. x < n) (sym base.nodes) (subst (λ y. y < length w.tree.nodes) leaves.0 joins.0)

pub queue-there : (w : State) (d vc : ℕ) → Base w → d < link_count w.tree → vc < 2 → queue_of d vc < length w.queues
queue-there w d vc base lt small = subst (λ n. queue_of d vc < n) (sym base.queues.queues) (queues.within w.tree d vc lt small)

pub route-link : (tree : Plan) (nodes : List Node) (x : ℕ) (dst : Epid) (d : ℕ) → route_from tree nodes x dst ≡ Some d →
    (port : ℕ) × (link_at tree.links x port ≡ Some d)
route-link tree nodes x dst d is = by_sort (is_switch tree x) is
  where
    by_exit : (o : Option ℕ) → option_and_then (link_at tree.links x) o ≡ Some d → (port : ℕ) × (link_at tree.links x port ≡ Some d)
    by_exit None h = let z : ◌≡◌ {A = Option ℕ} None (Some d) = h in absurd cc
    by_exit (Some port) h = (port, h)

    by_sort : (b : Bool) → (if b then option_and_then (link_at tree.links x) (exits_of nodes x dst) else link_at tree.links x 0) ≡ Some d →
        (port : ℕ) × (link_at tree.links x port ≡ Some d)
    by_sort true h = by_exit (exits_of nodes x dst) h
    by_sort false h = (0, h)

pub route-same : (tree : Plan) (ns ms : List Node) (x : ℕ) (dst : Epid) → (node_in ns x).table ≡ (node_in ms x).table →
    route_from tree ns x dst ≡ route_from tree ms x dst
route-same tree ns ms x dst same =
    ap (λ (table : List Place). if is_switch tree x then option_and_then (link_at tree.links x) (exit_of table dst) else link_at tree.links x 0) same

-- ---- no other event is enabled

only-by : (v : State) (next : Option Event) →
    ((e : Event) → IsStreams e → enabled v e ≡ false) →
    ((x : ℕ) → IsTrue (enabled v (Ask x)) → next ≡ Some (Ask x)) →
    ((x : ℕ) → IsTrue (enabled v (Reply x)) → next ≡ Some (Reply x)) →
    ((q : ℕ) → IsTrue (enabled v (Lose q)) → next ≡ Some (Lose q)) →
    ((q : ℕ) → IsTrue (enabled v (Hop q)) → next ≡ Some (Hop q)) →
    (e : Event) → IsTrue (enabled v e) → next ≡ Some e
only-by v next streams asks replies loses hops (Enter s) may_it = absurd (both_ways (enabled v (Enter s)) (streams (Enter s) tt) may_it)
only-by v next streams asks replies loses hops (Hop q) may_it = hops q may_it
only-by v next streams asks replies loses hops (Seen s n) may_it = absurd (both_ways (enabled v (Seen s n)) (streams (Seen s n) tt) may_it)
only-by v next streams asks replies loses hops (Feed b i) may_it = absurd (both_ways (enabled v (Feed b i)) (streams (Feed b i) tt) may_it)
only-by v next streams asks replies loses hops (Report s) may_it = absurd (both_ways (enabled v (Report s)) (streams (Report s) tt) may_it)
only-by v next streams asks replies loses hops (Command s op) may_it = absurd (both_ways (enabled v (Command s op)) (streams (Command s op) tt) may_it)
only-by v next streams asks replies loses hops (Lose q) may_it = loses q may_it
only-by v next streams asks replies loses hops (Reply x) may_it = replies x may_it
only-by v next streams asks replies loses hops (Ask x) may_it = asks x may_it

lost-here : (q r : ℕ) (marked : Bool) (p : Packet) → r ≡ q → marked ≡ true → next_event (UnderWay q marked p) ≡ Some (Lose r)
lost-here q r marked p same is = ap (λ b. Some (if b then Lose q else Hop q)) is ∙ ap (λ z. Some (Lose z)) (sym same)

hops-here : (q r : ℕ) (marked : Bool) (p : Packet) → r ≡ q → marked ≡ false → next_event (UnderWay q marked p) ≡ Some (Hop r)
hops-here q r marked p same is = ap (λ b. Some (if b then Lose q else Hop q)) is ∙ ap (λ z. Some (Hop z)) (sym same)

only-loses : (w : State) (q : ℕ) (marked : Bool) (p : Packet) (r : ℕ) → Base w →
    IsTrue (enabled (with_message w (UnderWay q marked p)) (Lose r)) → next_event (UnderWay q marked p) ≡ Some (Lose r)
unfolding may
only-loses w q marked p r base may_it =
    let v = with_message w (UnderWay q marked p) in
    elim (content w q (entry_of marked p) base r) [
      | inl none ↦ absurd (no-lose v r none may_it)
      | inr here ↦ lost-here q r marked p here.0 (sym (ap can_lose (fronts.queue v r ∙ ap (map queued) here.1)) ∙ may_it)
    ]

only-hops : (w : State) (q : ℕ) (marked : Bool) (p : Packet) (r : ℕ) → Base w →
    IsTrue (enabled (with_message w (UnderWay q marked p)) (Hop r)) → next_event (UnderWay q marked p) ≡ Some (Hop r)
unfolding may
only-hops w q marked p r base may_it =
    let v = with_message w (UnderWay q marked p) in
    elim (content w q (entry_of marked p) base r) [
      | inl none ↦ absurd (no-hop v r none may_it)
      | inr here ↦ hops-here q r marked p here.0 (not-true marked (and_parts (not marked) (has_way (front v) (channel_of r) (passing w.tree w.nodes (link_of_queue r) p).outcome)
          (sym (ap (can_hop (front v) r) (fronts.queue v r ∙ ap (map queued) here.1)) ∙ may_it)).0)
    ]

pub only : (w : State) (stage : Stage) (e : Event) → Base w → FitsStage w stage → IsTrue (enabled (with_message w stage) e) → next_event stage ≡ Some e
only w (Asking x p) e base fits may_it =
    let v = with_message w (Asking x p) in
    let n : Node = record (node_at w x) { requests = (node_at w x).requests ++ p ∷ [] } in
    only-by v (Some (Ask x)) (still-with w w.queues v.nodes base (empty-carry w base))
    (λ y asks. elim (field-else (λ (m : Node). m.requests) w.nodes x y n) [
      | inl same ↦ absurd (no-ask v y (λ d is. same ∙ base.asks y d is) asks)
      | inr here ↦ ap (λ z. Some (Ask z)) (sym here)
    ])
    (λ y replies. absurd (no-reply v y (field-kept (λ (m : Node). m.pending) w.nodes x y n refl ∙ base.clear y) replies))
    (λ q loses. absurd (no-lose v q (base.empty q) loses))
    (λ q hops. absurd (no-hop v q (base.empty q) hops))
    e may_it
only w (UnderWay q marked p) e base fits may_it =
    let v = with_message w (UnderWay q marked p) in
    only-by v (next_event (UnderWay q marked p)) (still-with w v.queues w.nodes base (carry-with w q (entry_of marked p) base fits.0))
    (λ y asks. absurd (no-ask v y (base.asks y) asks))
    (λ y replies. absurd (no-reply v y (base.clear y) replies))
    (λ r loses. only-loses w q marked p r base loses)
    (λ r hops. only-hops w q marked p r base hops)
    e may_it
only w (Answering x p) e base fits may_it =
    let v = with_message w (Answering x p) in
    let n : Node = record (node_at w x) { pending = (node_at w x).pending ++ p ∷ [] } in
    only-by v (Some (Reply x)) (still-with w w.queues v.nodes base (empty-carry w base))
    (λ y asks. absurd (no-ask v y (λ d is. field-kept (λ (m : Node). m.requests) w.nodes x y n refl ∙ base.asks y d is) asks))
    (λ y replies. elim (field-else (λ (m : Node). m.pending) w.nodes x y n) [
      | inl same ↦ absurd (no-reply v y (same ∙ base.clear y) replies)
      | inr here ↦ ap (λ z. Some (Reply z)) (sym here)
    ])
    (λ q loses. absurd (no-lose v q (base.empty q) loses))
    (λ q hops. absurd (no-hop v q (base.empty q) hops))
    e may_it
only w (Answered x p) e base fits may_it =
    let v = with_message w (Answered x p) in
    let n : Node = record (node_at w x) { answers = (node_at w x).answers ++ p ∷ [] } in
    only-by v None (still-with w w.queues v.nodes base (empty-carry w base))
    (λ y asks. absurd (no-ask v y (λ d is. field-kept (λ (m : Node). m.requests) w.nodes x y n refl ∙ base.asks y d is) asks))
    (λ y replies. absurd (no-reply v y (field-kept (λ (m : Node). m.pending) w.nodes x y n refl ∙ base.clear y) replies))
    (λ q loses. absurd (no-lose v q (base.empty q) loses))
    (λ q hops. absurd (no-hop v q (base.empty q) hops))
    e may_it
only w Gone e base fits may_it = absurd (both_ways (enabled w e) (still-of w base e) may_it)

-- ---- and the next one is

asks-there : (w : State) (x : ℕ) (p : Packet) (d : ℕ) → Base w → link_at w.tree.links x 0 ≡ Some d → IsTrue (enabled (with_message w (Asking x p)) (Ask x))
unfolding may
asks-there w x p d base is =
    let v = with_message w (Asking x p) in
    let n : Node = record (node_at w x) { requests = (node_at w x).requests ++ p ∷ [] } in
    let at : node_at v x ≡ n = get_or-set_same w.nodes x n blank (node-there w x 0 d base is) in
    and_from (has_packet (node_at v x).requests) (has_place_over (front v) forward_vc (link_at w.tree.links x 0))
    (ap (λ (m : Node). has_packet m.requests) at ∙ ap (λ (ps : List Packet). has_packet (ps ++ p ∷ [])) (base.asks x d is))
    (ap (has_place_over (front v) forward_vc) is ∙ room-at v (queue_of d forward_vc) base.queues.tree (base.empty (queue_of d forward_vc)))

replies-there : (w : State) (x : ℕ) (p : Packet) (d : ℕ) → Base w → route_from w.tree w.nodes x p.dst ≡ Some d → IsTrue (enabled (with_message w (Answering x p)) (Reply x))
unfolding may
replies-there w x p d base is =
    let v = with_message w (Answering x p) in
    let n : Node = record (node_at w x) { pending = (node_at w x).pending ++ p ∷ [] } in
    let link = route-link w.tree w.nodes x p.dst d is in
    let at : node_at v x ≡ n = get_or-set_same w.nodes x n blank (node-there w x link.0 d base link.1) in
    let route : route_from w.tree v.nodes x p.dst ≡ Some d = route-same w.tree v.nodes w.nodes x p.dst (ap (λ (m : Node). m.table) at) ∙ is in
    ap (λ (m : Node). can_reply (front v) x m.pending) at ∙ ap (λ (ps : List Packet). can_reply (front v) x (ps ++ p ∷ [])) (base.clear x)
    ∙ ap (has_place_over (front v) back_vc) route ∙ room-at v (queue_of d back_vc) base.queues.tree (base.empty (queue_of d back_vc))

under_way-there : (w : State) (q : ℕ) (marked : Bool) (p : Packet) (e : Event) → Base w → FitsStage w (UnderWay q marked p) →
    next_event (UnderWay q marked p) ≡ Some e → IsTrue (enabled (with_message w (UnderWay q marked p)) e)
under_way-there w q marked p e base fits is =
    let v = with_message w (UnderWay q marked p) in
    let on = channels_go_on v q (entry_of marked p) [] (record {
      tree = base.queues.tree;
      queues = length-set w.queues q (queue_at w.queues q ++ entry_of marked p ∷ []) ∙ base.queues.queues;
    }) (content-at w q (entry_of marked p) base fits.1) in
    elim on.enabled [
      | inl hops ↦ subst (λ f. IsTrue (enabled v f)) (some-same (Hop on.queue) e (sym (only w (UnderWay q marked p) (Hop on.queue) base fits hops) ∙ is)) hops
      | inr loses ↦ subst (λ f. IsTrue (enabled v f)) (some-same (Lose on.queue) e (sym (only w (UnderWay q marked p) (Lose on.queue) base fits loses) ∙ is)) loses
    ]

pub there : (w : State) (stage : Stage) (e : Event) → Base w → FitsStage w stage → next_event stage ≡ Some e → IsTrue (enabled (with_message w stage) e)
there w (Asking x p) e base fits is =
    subst (λ f. IsTrue (enabled (with_message w (Asking x p)) f)) (some-same (Ask x) e is) (asks-there w x p fits.1.0 base fits.1.1)
there w (UnderWay q marked p) e base fits is = under_way-there w q marked p e base fits is
there w (Answering x p) e base fits is =
    subst (λ f. IsTrue (enabled (with_message w (Answering x p)) f)) (some-same (Reply x) e is) (replies-there w x p fits.1.0 base fits.1.1)
there w (Answered x p) e base fits is = let z : ◌≡◌ {A = Option Event} None (Some e) = is in absurd cc
there w Gone e base fits is = let z : ◌≡◌ {A = Option Event} None (Some e) = is in absurd cc
