-- What an event by which something enters asks of the parts is there.
use Rattle.std.proofs.Common.{◌≡◌, ℕ, ◌<◌, ◌≤◌, ◌⊎◌, inl, inr, Bool, true, false, List, [], ◌∷◌, length, refl, sym, ◌∙◌, ap, subst, arith, if◌then◌else◌}
use Rattle.std.specs.Prelude.{Option, Some, nat_lt, nat_le}
use Rattle.std.specs.Option.{option_and_then}
use Rattle.std.proofs.lemmas.Bool.{cases_lt, false≢true}
use Rattle.std.proofs.lemmas.Bool.Decides.{nat_tests}
use Rattle.std.proofs.lemmas.List.{get_or_past}
use Rattle.std.proofs.lemmas.Option.{option_and_then_some}
use Rattle.chdr_packets.specs.declared.packet.Packet.{Packet}
use Rattle.chdr_words.specs.declared.command.CmdOp.{CmdOp}
use Rattle.chdr_words.specs.declared.command.CmdOp.TheVariants.{Init, Ping, Resync, Other}
use Rattle.chdr_words.specs.declared.epid.Epid.{Epid}
use Rattle.net_topology.specs.Links.{link_at}
use Rattle.net_topology.specs.declared.plan.Plan.{Plan}
use Rattle.stream_endpoint.specs.Sender.{is_running, state_of}
use Rattle.stream_endpoint.specs.declared.state.OutState.{OutState}
use Rattle.stream_endpoint.specs.declared.state.OutState.TheVariants.{Opening, Running, Halted, Resyncing}
use Rattle.net_machine.specs.Blocks.{has_packet}
use Rattle.net_machine.specs.Conditions.{can_order, can_ping, can_repeat, can_reply, can_see, can_send, ends_at_rx, has_place_over, is_opening, is_resyncing, may}
use Rattle.net_machine.specs.Front.{StreamFront, front_at}
use Rattle.net_machine.specs.Nodes.{exits_of, is_switch, route_from}
use Rattle.net_machine.specs.Plans.{first_link, plan_at}
use Rattle.net_machine.specs.Queues.{back_vc, forward_vc, link_count}
use Rattle.net_machine.specs.State.{Node, blank, node_in}
use Rattle.net_present.specs.Kept.{now_at}
use Rattle.net_present.specs.Present.{Present, front_now, front_now_of}
use Rattle.net_needs.specs.Entering.{AskNeeds, ReplyNeeds}
use Rattle.net_needs.specs.EnteringLaws.{AskIsReady, CommandIsReady, EnterIsReady, ReplyIsReady, ReportIsReady, SeenIsReady}
use Rattle.net_needs.proofs.Knowing.{both-first, both-second, first-there, front-is, knows, leaving-there, lt-from, room-over, there-by}

-- ---- Enter

pub enter-ready : EnterIsReady
unfolding may
enter-ready p w s lawful now may_it =
    let known = knows p w lawful now in
    let flow = (plan_at p.plan s).flow in
    let link = first_link p.tree (plan_at p.plan s).from in
    let credit : can_send flow (front_now_of (now_at p.streams s)) (now_at p.streams s).ready ≡ true =
    subst (λ (st : StreamFront). can_send flow st st.ready ≡ true) (front-is p s) (both-first _ (has_place_over (front_now p) forward_vc link) may_it) in
    record {
      there = there-by p s (λ (st : StreamFront). can_send flow st st.ready) refl credit;
      credit = credit;
      room = room-over p forward_vc link known (omega arith) (first-there p.tree (plan_at p.plan s).from) (both-second (can_send flow (front_at (front_now p) s) (front_at (front_now p) s).ready) _ may_it);
    }

-- ---- Command

opening-is : (state : OutState) → is_opening state ≡ true → Some Opening ≡ Some state
opening-is Opening is = refl
opening-is Running is = absurd (false≢true is)
opening-is Halted is = absurd (false≢true is)
opening-is Resyncing is = absurd (false≢true is)

running-is : (state : OutState) → is_running state ≡ true → Some Running ≡ Some state
running-is Opening is = absurd (false≢true is)
running-is Running is = refl
running-is Halted is = absurd (false≢true is)
running-is Resyncing is = absurd (false≢true is)

resyncing-is : (state : OutState) → is_resyncing state ≡ true → Some Resyncing ≡ Some state
resyncing-is Opening is = absurd (false≢true is)
resyncing-is Running is = absurd (false≢true is)
resyncing-is Halted is = absurd (false≢true is)
resyncing-is Resyncing is = refl

order-state : (p : Present) (s : ℕ) (op : CmdOp) → can_order (front_now p) s op ≡ true → state_of op ≡ Some (now_at p.streams s).sender.state
order-state p s Init is =
    opening-is _ (subst (λ (st : StreamFront). is_opening st.state ≡ true) (front-is p s) (both-first _ (can_repeat (front_now p) s) is))
order-state p s Ping is =
    running-is _ (subst (λ (st : StreamFront). is_running st.state ≡ true) (front-is p s) (both-first _ (can_ping (front_now p) s) is))
order-state p s Resync is =
    resyncing-is _ (subst (λ (st : StreamFront). is_resyncing st.state ≡ true) (front-is p s) (both-first _ (can_repeat (front_now p) s) is))
order-state p s (Other code) is = absurd (false≢true is)

-- a sender that is halted sends no command
is_awake : OutState → Bool
is_awake Opening = true
is_awake Running = true
is_awake Halted = false
is_awake Resyncing = true

awake-by : (op : CmdOp) (state : OutState) → state_of op ≡ Some state → is_awake state ≡ true
unfolding is_awake
awake-by op Opening is = refl
awake-by op Running is = refl
awake-by Init Halted is = cc
awake-by Ping Halted is = cc
awake-by Resync Halted is = cc
awake-by (Other code) Halted is = cc
awake-by op Resyncing is = refl

pub command-ready : CommandIsReady
unfolding may is_awake
command-ready p w s op lawful now may_it =
    let known = knows p w lawful now in
    let link = first_link p.tree (plan_at p.plan s).from in
    let state = order-state p s op (both-first _ (has_place_over (front_now p) forward_vc link) may_it) in
    record {
      there = there-by p s (λ (st : StreamFront). is_awake st.state) refl (awake-by op _ state);
      state = state;
      room = room-over p forward_vc link known (omega arith) (first-there p.tree (plan_at p.plan s).from) (both-second (can_order (front_now p) s op) _ may_it);
    }

-- ---- Report and Seen

pub report-ready : ReportIsReady
unfolding may
report-ready p w s lawful now may_it =
    let known = knows p w lawful now in
    let link = first_link p.tree (plan_at p.plan s).to in
    let due : (front_now_of (now_at p.streams s)).due ≡ true =
    subst (λ (st : StreamFront). st.due ≡ true) (front-is p s) (both-first _ (has_place_over (front_now p) back_vc link) may_it) in
    record {
      there = there-by p s (λ (st : StreamFront). st.due) refl due;
      due = due;
      room = room-over p back_vc link known (omega arith) (first-there p.tree (plan_at p.plan s).to) (both-second (front_at (front_now p) s).due _ may_it);
    }

le-from : (a b : ℕ) → nat_le a b ≡ true → a ≤ b
le-from a b is = grind (arith, nat_tests)

pub seen-ready : SeenIsReady
unfolding may
seen-ready p w s n lawful now may_it =
    let st = now_at p.streams s in
    let sees : can_see (front_now_of st) n ≡ true =
    subst (λ (f : StreamFront). can_see f n ≡ true) (front-is p s) (both-second (ends_at_rx p.plan s) _ may_it) in
    let more = lt-from st.taken n (both-first (nat_lt st.taken n) (nat_le n st.given) sees) in
    let given = le-from n st.given (both-second (nat_lt st.taken n) (nat_le n st.given) sees) in
    record {
      there = there-by p s (λ (f : StreamFront). nat_lt 0 f.given) refl (positive n st.taken st.given more given);
      more = more;
      given = given;
    }
  where
    positive : (n taken given : ℕ) → taken < n → n ≤ given → nat_lt 0 given ≡ true
    positive n taken given more most = grind (arith, nat_tests)

-- ---- Ask and Reply

-- a node with something in a list is there
node-there : (nodes : List Node) (x : ℕ) (list : Node → List Packet) (packet : Packet) (rest : List Packet) → list blank ≡ [] → list (node_in nodes x) ≡ packet ∷ rest → x < length nodes
node-there nodes x list packet rest empty is = by_order (cases_lt x (length nodes))
  where
    none : [] ≡ packet ∷ rest → ⊥
    none e = cc

    by_order : (x < length nodes) ⊎ (length nodes ≤ x) → x < length nodes
    by_order (inl lt) = lt
    by_order (inr past) = absurd (none (sym empty ∙ ap list (sym (get_or_past nodes x blank past)) ∙ is))

pub ask-ready : AskIsReady
unfolding may
ask-ready p w x lawful now may_it =
    by_requests (node_in p.nodes x).requests refl (both-first _ (has_place_over (front_now p) forward_vc link) may_it)
  where
    link : Option ℕ
    link = link_at p.tree.links x 0

    by_requests : (packets : List Packet) → (node_in p.nodes x).requests ≡ packets → has_packet packets ≡ true → AskNeeds p x
    by_requests [] is has = absurd (false≢true has)
    by_requests (packet ∷ rest) is has = record {
      there = node-there p.nodes x (λ (n : Node). n.requests) packet rest refl is;
      packet = packet;
      rest = rest;
      is = is;
      room = room-over p forward_vc link (knows p w lawful now) (omega arith) (leaving-there p.tree x 0) (both-second (has_packet (node_in p.nodes x).requests) _ may_it);
    }

route-there : (tree : Plan) (nodes : List Node) (x d : ℕ) (dst : Epid) → route_from tree nodes x dst ≡ Some d → d < link_count tree
route-there tree nodes x d dst = by_sort (is_switch tree x)
  where
    by_sort : (b : Bool) → (if b then option_and_then (link_at tree.links x) (exits_of nodes x dst) else link_at tree.links x 0) ≡ Some d → d < link_count tree
    by_sort true is = option_and_then_some (link_at tree.links x) (exits_of nodes x dst) d is (λ port at out. leaving-there tree x port d out)
    by_sort false is = leaving-there tree x 0 d is

pub reply-ready : ReplyIsReady
unfolding may
reply-ready p w x lawful now may_it = by_pending (node_in p.nodes x).pending refl may_it
  where
    by_pending : (packets : List Packet) → (node_in p.nodes x).pending ≡ packets → can_reply (front_now p) x packets ≡ true → ReplyNeeds p x
    by_pending [] is has = absurd (false≢true has)
    by_pending (packet ∷ rest) is has = record {
      there = node-there p.nodes x (λ (n : Node). n.pending) packet rest refl is;
      packet = packet;
      rest = rest;
      is = is;
      room = room-over p back_vc (route_from p.tree p.nodes x packet.dst) (knows p w lawful now) (omega arith) (λ d at. route-there p.tree p.nodes x d packet.dst at) has;
    }
