-- A control request where tables lead there and back: it may be asked, and what it leaves.
use Rattle.std.proofs.Common.{◌≡◌, ℕ, ◌+◌, ◌*◌, ◌/◌, ◌<◌, ◌≤◌, ◌^◌, ◌⊎◌, inl, inr, Bool, true, false, List, [], ◌∷◌, ◌++◌, length, refl, sym, ◌∙◌, ap, subst, arith, if◌then◌else◌}
use Rattle.std.specs.Prelude.{◌↔◌, IsTrue, Option, None, Some, IsSome, is_none, is_some, unwrap_or, ◌||◌}
use Rattle.std.specs.Option.{option_and_then, option_map_or}
use Rattle.std.proofs.lemmas.Bool.{both_ways}
use Rattle.block_registers.specs.Operations.{answer}
use Rattle.block_registers.specs.Registers.{Registers}
use Rattle.chdr_packets.specs.Fits.{FitsPacket}
use Rattle.chdr_packets.specs.Length.{body_length}
use Rattle.chdr_packets.specs.declared.packet.Body.TheVariants as body
use Rattle.chdr_packets.specs.declared.packet.Packet.{Packet}
use Rattle.chdr_words.specs.Control.{FitsControl}
use Rattle.chdr_words.specs.Wire.{time_bytes, wire_size_of}
use Rattle.chdr_words.specs.declared.control.Control.{Control}
use Rattle.chdr_words.specs.declared.epid.Epid.{Epid}
use Rattle.net_topology.specs.Leads.{Leads}
use Rattle.net_topology.specs.Links.{link_at}
use Rattle.net_topology.specs.Tree.{IsTree, epid_at, node_with}
use Rattle.net_topology.specs.declared.plan.Plan.{Plan}
use Rattle.net_topology.proofs.Laws.{epids_name_nodes}
use Rattle.net_machine.specs.declared.event.Event.{Event}
use Rattle.net_machine.specs.Nodes.{exits_of, host_at, host_with, is_host_at, own_epid, place_at}
use Rattle.net_machine.specs.Plans.{no_epid}
use Rattle.net_machine.specs.State.{Node, State, node_in}
use Rattle.net_present.specs.Present.{Present}
use Rattle.net_ways.specs.Ways.{IsLedTo}
use Rattle.net_lone.specs.Control.{IsLedControl, loses_answer, loses_request}
use Rattle.net_lone.specs.Lone.{acknowledgement}
use Rattle.net_lone.specs.Runs.{has_loss}
use Rattle.net_lone.specs.Stages.{IsSettled}
use Rattle.net_lone.specs.Talks.{IsControlTalk, control_answer, control_left}
use Rattle.net_lone.proofs.Laws.{control_talks, no_request_waits}
use Rattle.fabric_net.specs.Asking.{CanAskNow}
use Rattle.fabric_net.specs.NetView.{NetSeen}
use Rattle.fabric_net.specs.Standing.{StandsFor}
use Rattle.host_talk.specs.Settled.{IsSettledNow}
use Rattle.host_talk.specs.Talking.{HasTalked}
use Rattle.host_talk.proofs.Laws.{settled_nets, settled_states}
use Rattle.ctrl_transactions.specs.Requests.{HostSeen, asked_as, control_in, next_host, request_of}
use Rattle.ctrl_transactions.specs.Transactions.{Desk, HasAsked, IsAsked, IsLed, IsUnled, reply}

some-same : {A : Type 0} (x y : A) → ◌≡◌ {A = Option A} (Some x) (Some y) → x ≡ y
some-same x y is = ap (λ o. unwrap_or o x) is

-- ---- a request fits its Length

short : (time : Option ℕ) (n : ℕ) → n ≤ 15 → 8 + 8 * 0 + wire_size_of (12 + time_bytes time + 4 * n) ≤ 65535
short None n few = omega arith
short (Some time) n few = omega arith

pub request-fits : (host : HostSeen) (dst : Epid) (request : Control) → host.seq < 64 → FitsControl request → FitsPacket (request_of host dst request)
request-fits host dst request seq fits = record {
  vc = omega arith;
  mdata = omega arith;
  body = record {
    seq = seq;
    src_port = fits.src_port;
    dst_port = fits.dst_port;
    op = fits.op;
    enables = fits.enables;
    addr = fits.addr;
    words = fits.words;
  };
  len = short request.time (length request.words) fits.words;
}

-- ---- the host's node

-- node x is the host of an EPID
pub record IsHostNode (tree : Plan) (epid : Epid) (x : ℕ) : Type 0 where
  pub node : node_with tree.nodes epid ≡ Some x
  pub host : is_host_at tree x ≡ true

pub host-node : (tree : Plan) (epid : Epid) (x : ℕ) (linked : Bool) → host_with tree epid ≡ Some (x, linked) → IsHostNode tree epid x
host-node tree epid x linked is = by_node (node_with tree.nodes epid) refl is
  where
    found_at : ℕ → Bool → Option (ℕ × Bool)
    found_at y b = if◌then◌else◌ {A = Option (ℕ × Bool)} b (Some (y, is_some (link_at tree.links y 0))) None

    by_host : (y : ℕ) (b : Bool) → is_host_at tree y ≡ b → node_with tree.nodes epid ≡ Some y → found_at y b ≡ Some (x, linked) → IsHostNode tree epid x
    by_host y true host at h =
        let same : y ≡ x = ap (λ (it : ℕ × Bool). it.0) (some-same (y, is_some (link_at tree.links y 0)) (x, linked) h) in
        record {
          node = at ∙ ap (λ z. Some z) same;
          host = ap (is_host_at tree) (sym same) ∙ host;
        }
    by_host y false host at h = let z : ◌≡◌ {A = Option (ℕ × Bool)} None (Some (x, linked)) = h in absurd cc

    by_node : (o : Option ℕ) → node_with tree.nodes epid ≡ o → option_and_then (host_at tree) o ≡ Some (x, linked) → IsHostNode tree epid x
    by_node None at h = let z : ◌≡◌ {A = Option (ℕ × Bool)} None (Some (x, linked)) = h in absurd cc
    by_node (Some y) at h = by_host y (is_host_at tree y) refl at h

own-is : (tree : Plan) (epid : Epid) (x : ℕ) → IsTree tree → node_with tree.nodes epid ≡ Some x → own_epid tree x ≡ epid
own-is tree epid x is node = ap (λ (o : Option Epid). unwrap_or o no_epid) ((epids_name_nodes tree is x epid).0 node)

-- ---- it may be asked

first-there : (p : Present) (epid dst : Epid) (x : ℕ) → node_with p.tree.nodes epid ≡ Some x → (led : IsLed p epid dst) → link_at p.tree.links x 0 ≡ Some led.first
first-there p epid dst x node led =
    let same : led.source ≡ x = some-same led.source x (sym led.from ∙ node) in
    ap (λ (y : ℕ). link_at p.tree.links y 0) (sym same) ∙ led.out

some-there : (o : Option ℕ) (d : ℕ) → o ≡ Some d → IsSome o
some-there o d is = rw is refl

pub linked-there : (p : Present) (epid dst : Epid) (x : ℕ) → IsHostNode p.tree epid x → IsLed p epid dst → IsSome (link_at p.tree.links x 0)
linked-there p epid dst x host led = some-there (link_at p.tree.links x 0) led.first (first-there p epid dst x host.node led)

pub may-ask : (p : Present) (w : State) (host : HostSeen) (dst : Epid) (request : Control) (x : ℕ) → StandsFor p w → IsSettledNow p → host.seq < 64 →
    FitsControl request → request.ack ≡ false → IsHostNode p.tree host.epid x → IsLed p host.epid dst → CanAskNow p x (request_of host dst request)
may-ask p w host dst request x stands settled seq fits asks node led =
    let tree : IsTree p.tree = subst (λ (t : Plan). IsTree t) (sym stands.now.tree) stands.lawful.steady.queues.tree in
    let link : link_at w.tree.links x 0 ≡ Some led.first = ap (λ (t : Plan). link_at t.links x 0) (sym stands.now.tree) ∙ first-there p host.epid dst x node.node led in
    let none : (node_in p.nodes x).requests ≡ [] =
    ap (λ (ns : List Node). (node_in ns x).requests) stands.now.nodes ∙ no_request_waits w x led.first (settled_states p w stands settled) link in
    record {
      host = node.host;
      few = subst (λ (ps : List Packet). length ps < 8) (sym none) (omega arith);
      fits = request-fits host dst request seq fits;
      channel = refl;
      request = (asks, sym (own-is p.tree host.epid x tree node.node));
    }

-- ---- what it leaves

-- the control payload of what comes back
reply-is : (w : State) (z : ℕ) (dst : Epid) (c : Control) → own_epid w.tree z ≡ dst → option_and_then control_in (control_answer w z c) ≡ reply w z dst c
reply-is w z dst c own = by_loss (loses_request w || loses_answer w)
  where
    by_loss : (b : Bool) → option_and_then control_in (if b then None else Some (acknowledgement w z c)) ≡ (if b then None else Some (answer dst (place_at w z c.dst_port) c))
    by_loss true = refl
    by_loss false = ap (λ (epid : Epid). Some (answer epid (place_at w z c.dst_port) c)) own

lost-is : (w : State) (z : ℕ) (dst : Epid) (c : Control) → (loses_request w || loses_answer w) ≡ is_none (reply w z dst c)
lost-is w z dst c = by_loss (loses_request w || loses_answer w)
  where
    by_loss : (b : Bool) → b ≡ is_none (if b then None else Some (answer dst (place_at w z c.dst_port) c))
    by_loss true = refl
    by_loss false = refl

-- the way and the nodes, as they are in a state for which the net stands
led-control : (p : Present) (w : State) (host : HostSeen) (dst : Epid) (request : Control) (x z : ℕ) → StandsFor p w → request.ack ≡ false →
    IsHostNode p.tree host.epid x → node_with p.tree.nodes dst ≡ Some z → IsLed p host.epid dst → IsLed p dst host.epid →
    IsLedControl w x z (request_of host dst request) (asked_as host request)
led-control p w host dst request x z stands asks node target forth back =
    let tree = stands.now.tree in
    let nodes = stands.now.nodes in
    let own : host.epid ≡ own_epid w.tree x =
    sym (own-is w.tree host.epid x stands.lawful.steady.queues.tree (ap (λ (t : Plan). node_with t.nodes host.epid) (sym tree) ∙ node.node)) in
    let here : (a b : Epid) → IsLed p a b → IsLedTo w a b = λ a b led. subst (λ (t : Plan). Leads t (exits_of w.nodes) a b) tree
    (subst (λ (ns : List Node). Leads p.tree (exits_of ns) a b) nodes led) in
    record {
      body = refl;
      request = asks;
      source = own;
      host = ap (λ (t : Plan). is_host_at t x) (sym tree) ∙ node.host;
      target = ap (λ (t : Plan). node_with t.nodes dst) (sym tree) ∙ target;
      forth = subst (λ (epid : Epid). IsLedTo w epid dst) own (here host.epid dst forth);
      back = subst (λ (epid : Epid). IsLedTo w dst epid) own (here dst host.epid back);
    }

-- in a state for which the net stood
record AskedIn (before after : Desk) (dst : Epid) (request : Control) (x z : ℕ) (journal : List Event) (ack : Option Control) (w : State) : Type 0 where
  asked : IsAsked w x z before dst request journal ack after
  lost : has_loss journal ≡ is_none ack
  settled : IsSettledNow after.net.present

asked-in : (before after : Desk) (dst : Epid) (request : Control) (x z : ℕ) (found : Option Packet) (ack : Option Control) →
    IsSettledNow before.net.present → request.ack ≡ false → IsHostNode before.net.present.tree before.host.epid x →
    node_with before.net.present.tree.nodes dst ≡ Some z →
    IsLed before.net.present before.host.epid dst → IsLed before.net.present dst before.host.epid →
    (talked : HasTalked before.net before.banks x (request_of before.host dst request) found after.net after.banks) →
    ack ≡ option_and_then control_in found → (w : State) → StandsFor before.net.present w → w.banks ≡ before.banks →
    AskedIn before after dst request x z talked.journal ack w
asked-in before after dst request x z found ack settled asks node target forth back talked is w stands same =
    let p = before.net.present in
    let c = asked_as before.host request in
    let one = talked.each w stands same in
    let led = led-control p w before.host dst request x z stands asks node target forth back in
    let control = control_talks w x z (request_of before.host dst request) c talked.journal found one.state (settled_states p w stands settled) led one.talk in
    let own : own_epid w.tree z ≡ dst = own-is w.tree dst z stands.lawful.steady.queues.tree led.target in
    let ack_is : ack ≡ reply w z dst c = is ∙ ap (λ (o : Option Packet). option_and_then control_in o) control.answer ∙ reply-is w z dst c own in
    let now : StandsFor after.net.present (control_left w z c) = subst (λ (v : State). StandsFor after.net.present v) control.leaves one.stands in
    record {
      asked = record {
        first = one.talk.first;
        ack = ack_is;
        stands = now;
        banks = ap (λ (v : State). v.banks) (sym control.leaves) ∙ one.banks;
      };
      lost = control.loss ∙ lost-is w z dst c ∙ ap (λ (o : Option Control). is_none o) (sym ack_is);
      settled = settled_nets after.net.present (control_left w z c) now (subst (λ (v : State). IsSettled v) control.leaves control.settled);
    }

pub asked : (before after : Desk) (dst : Epid) (request : Control) (x : ℕ) (found : Option Packet) (ack : Option Control) →
    ((banks : List (Option Registers)) → (w : State) × StandsFor before.net.present w × (w.banks ≡ banks)) →
    IsSettledNow before.net.present → request.ack ≡ false → IsHostNode before.net.present.tree before.host.epid x →
    IsLed before.net.present before.host.epid dst → IsLed before.net.present dst before.host.epid →
    HasTalked before.net before.banks x (request_of before.host dst request) found after.net after.banks →
    ack ≡ option_and_then control_in found → after.host ≡ next_host before.host → HasAsked before dst request ack after
asked before after dst request x found ack some settled asks node forth back talked is counts =
    let here = λ (w : State) (stands : StandsFor before.net.present w) (same : w.banks ≡ before.banks).
    asked-in before after dst request x forth.target found ack settled asks node forth.to forth back talked is w stands same in
    let one = some before.banks in
    let it = here one.0 one.1 one.2 in
    record {
      forth = forth;
      back = back;
      node = x;
      host = node.node;
      target = forth.target;
      destination = forth.to;
      journal = talked.journal;
      written = talked.written;
      lost = it.lost;
      each = λ w stands same. (here w stands same).asked;
      settled = it.settled;
      counted = counts;
    }

-- ---- where tables don't lead

pub unled-forth : (p : Present) (host dst : Epid) (t : Bool) → t ≡ false → (IsTrue t ↔ IsLed p host dst) → IsUnled p host dst dst
unled-forth p host dst t is iff = inl ((λ led. both_ways t is (iff.1 led)), refl)

pub unled-back : (p : Present) (host dst : Epid) (s t : Bool) → s ≡ true → t ≡ false → (IsTrue s ↔ IsLed p host dst) → (IsTrue t ↔ IsLed p dst host) →
    IsUnled p host dst host
unled-back p host dst s t leads is forth back = inr (forth.0 leads, (λ led. both_ways t is (back.1 led)), refl)

-- ---- the host as the call keeps it, and as contracts see it

pub may-ask-as : (p : Present) (w : State) (host seen : HostSeen) (dst : Epid) (request : Control) (x : ℕ) → host ≡ seen → StandsFor p w → IsSettledNow p → host.seq < 64 →
    FitsControl request → request.ack ≡ false → IsHostNode p.tree host.epid x → IsLed p host.epid dst → CanAskNow p x (request_of seen dst request)
may-ask-as p w host seen dst request x same stands settled seq fits asks node led =
    subst (λ (it : HostSeen). CanAskNow p x (request_of it dst request)) same (may-ask p w host dst request x stands settled seq fits asks node led)

pub asked-as : (host seen : HostSeen) (old new : NetSeen) (banks left : List (Option Registers)) (dst : Epid) (request : Control) (x : ℕ) (packet : Packet) (found : Option Packet) (ack : Option Control) →
    host ≡ seen → ((slots : List (Option Registers)) → (w : State) × StandsFor old.present w × (w.banks ≡ slots)) →
    IsSettledNow old.present → request.ack ≡ false → IsHostNode old.present.tree host.epid x → IsLed old.present host.epid dst → IsLed old.present dst host.epid →
    packet ≡ request_of seen dst request → HasTalked old banks x packet found new left → ack ≡ option_and_then control_in found →
    HasAsked (record { host = seen; net = old; banks = banks }) dst request ack (record { host = next_host host; net = new; banks = left })
asked-as host seen old new banks left dst request x packet found ack same some settled asks node forth back is talked ack_is =
    subst (λ (it : HostSeen). HasAsked (record { host = it; net = old; banks = banks }) dst request ack (record { host = next_host host; net = new; banks = left })) same
    (asked (record { host = host; net = old; banks = banks }) (record { host = next_host host; net = new; banks = left }) dst request x found ack some settled asks node forth back
    (subst (λ (p : Packet). HasTalked old banks x p found new left) (is ∙ ap (λ (it : HostSeen). request_of it dst request) (sym same)) talked) ack_is refl)
