-- A control request of a command, in each state for which the net stands.
use Rattle.std.proofs.Common.{◌≡◌, ◌∙◌, ℕ, inl, inr, Bool, true, false, List, Option, None, Some, refl, sym, ap, subst, arith, if◌then◌else◌}
use Rattle.std.specs.Prelude.{IfOk, Result, Ok, Err, IsSome, is_none, is_some, unwrap_or, slice_get}
use Rattle.std.specs.Option.{option_and_then, option_map_or}
use Rattle.block_registers.specs.Registers.{Registers}
use Rattle.chdr_packets.specs.declared.packet.Body.TheVariants as body
use Rattle.chdr_words.specs.Control.{FitsControl, FitsCtrlOp}
use Rattle.chdr_words.specs.declared.control.Control.{Control}
use Rattle.chdr_words.specs.declared.control.CtrlOp.{CtrlOp}
use Rattle.chdr_words.specs.declared.control.CtrlOp.TheVariants as op
use Rattle.chdr_words.specs.declared.epid.Epid.{Epid}
use Rattle.ctrl_transactions.specs.Requests.{HostSeen, asked_as}
use Rattle.ctrl_transactions.specs.Transactions.{Desk, HasAsked, IsUnled, reply}
use Rattle.fabric_net.specs.Asking.{marked_now}
use Rattle.fabric_net.specs.NetView.{NetSeen}
use Rattle.fabric_net.specs.Standing.{StandsFor}
use Rattle.host_talk.proofs.Laws.{settled_states}
use Rattle.host_talk.specs.Settled.{IsSettledNow}
use Rattle.net_lone.proofs.Laws.{control_talks}
use Rattle.net_lone.specs.Control.{IsLedControl, has_answered, has_asked, loses_request}
use Rattle.net_lone.specs.Lone.{operated}
use Rattle.net_lone.specs.Runs.{IsFirst, has_loss}
use Rattle.net_lone.specs.Talks.{control_left}
use Rattle.net_machine.specs.Moves.{after_journal, answered, asks, marked}
use Rattle.net_machine.specs.Nodes.{exits_of, host_at, host_with, is_host_at, own_epid}
use Rattle.net_machine.specs.Passing.{message}
use Rattle.net_machine.specs.Plans.{no_epid}
use Rattle.net_machine.specs.Queues.{forward_vc}
use Rattle.net_machine.specs.State.{Node, State, node_at}
use Rattle.net_machine.specs.declared.event.Event.{Event}
use Rattle.net_present.specs.Present.{Present}
use Rattle.net_topology.proofs.Laws.{epids_name_nodes}
use Rattle.net_topology.specs.Leads.{Leads}
use Rattle.net_topology.specs.Links.{link_at}
use Rattle.net_topology.specs.Tree.{IsTree, node_with}
use Rattle.net_topology.specs.declared.plan.Plan.{Plan}
use Rattle.rf_base.specs.declared.memory.Memory.{Memory}
use Rattle.rf_script_types.specs.Fits as script
use Rattle.rf_script_types.specs.declared.command.ScriptCommand.TheVariants as command
use Rattle.script_books.specs.declared.book.Book.{Book}
use Rattle.script_books.specs.declared.book.Book.TheVariants as book
use Rattle.script_books.specs.declared.refusal.Refusal.{Refusal}
use Rattle.script_books.specs.declared.refusal.Refusal.TheVariants as refusal
use Rattle.net_faults.specs.declared.fault.Fault.{Fault}
use Rattle.script_worlds.specs.WorldView.{WorldSeen}
use Rattle.script_runner.specs.Controls.{IsControlAsked, IsControlCause, IsControlled, IsFirstRequest, IsRouteCause, control_of, control_past, was_asked}
use Rattle.script_runner.specs.ScriptWorlds.{ScriptWorld}
use Rattle.script_runner.specs.Standing.{AreToldFound, HasTold, IsTold, Performs, Talks, WorldStandsFor}
use Rattle.script_runner.specs.Talks.{OnHost, OnHostNode}

-- ---- the request of a command fits

named-fits : (o : CtrlOp) → script.IsNamed o → FitsCtrlOp o
named-fits op.Sleep is = tt
named-fits op.Write is = tt
named-fits op.Read is = tt
named-fits op.ReadWrite is = tt
named-fits op.BlockWrite is = tt
named-fits op.BlockRead is = tt
named-fits op.Poll is = tt
named-fits (op.Other code) is = absurd is
named-fits (op.User code) is = absurd is

request-fits : (version : ℕ) (host to : Epid) (port : ℕ) (o : CtrlOp) (addr : ℕ) (words : List ℕ) (enables : ℕ) (lose : List Fault)
    → script.FitsControl version host to port o addr words enables lose → FitsControl (control_of host port o addr words enables)
request-fits version host to port o addr words enables lose fits = record {
  seq = omega arith;
  src_port = omega arith;
  dst_port = omega (arith, fits.port_is_in.1);
  op = named-fits o fits.op_is_named;
  enables = omega (arith, fits.enables_are_in.1);
  addr = omega (arith, fits.addr_is_in.1);
  words = fits.words_fit.0;
}

pub request-first : (version : ℕ) (host to : Epid) (port : ℕ) (o : CtrlOp) (addr : ℕ) (words : List ℕ) (enables : ℕ) (lose : List Fault)
    → script.FitsControl version host to port o addr words enables lose → IsFirstRequest (control_of host port o addr words enables)
request-first version host to port o addr words enables lose fits = record {
  fits = request-fits version host to port o addr words enables lose fits;
  first = refl;
  asks = refl;
}

-- ---- why it isn't asked

-- a host's EPID
pub on-host : (tree : Plan) (host : Epid) (rest : Option Refusal → Type 0) (cause : Option Refusal) → is_some (host_with tree host) ≡ true
    → rest cause → OnHost tree host rest cause
on-host tree host rest cause some is = by_node (host_with tree host) some
  where
    by_node : (o : Option (ℕ × Bool)) → is_some o ≡ true → OnHostNode o host rest cause
    by_node None none = absurd cc
    by_node (Some node) is_there = is

-- nothing refuses it, and so tables lead there and back
free-leads : (tree : Plan) (nodes : List Node) (host dst : Epid) → IsControlCause tree nodes host dst None
    → IsRouteCause tree nodes host dst None
free-leads tree nodes host dst free = by_node (host_with tree host) free
  where
    by_node : (o : Option (ℕ × Bool)) → OnHostNode o host (IsRouteCause tree nodes host dst) None → IsRouteCause tree nodes host dst None
    by_node None none = absurd cc
    by_node (Some node) is = is

-- and a host has the EPID
host-there : (tree : Plan) (rest : Option Refusal → Type 0) (host : Epid) (x : ℕ) → OnHost tree host rest None → node_with tree.nodes host ≡ Some x
    → is_host_at tree x ≡ true
host-there tree rest host x free node =
    by_host (is_host_at tree x) (subst (λ (o : Option ℕ). OnHostNode (option_and_then (host_at tree) o) host rest None) node free)
  where
    by_host : (b : Bool) → OnHostNode (if◌then◌else◌ {A = Option (ℕ × Bool)} b (Some (x, is_some (link_at tree.links x 0))) None) host rest None → b ≡ true
    by_host true is = refl
    by_host false is = absurd cc

pub free-has-host : (tree : Plan) (nodes : List Node) (host dst : Epid) → IsControlCause tree nodes host dst None → IsSome (host_with tree host)
free-has-host tree nodes host dst free = by_node (host_with tree host) free
  where
    by_node : (o : Option (ℕ × Bool)) → OnHostNode o host (IsRouteCause tree nodes host dst) None → IsSome o
    by_node None none = absurd cc
    by_node (Some node) is = refl

-- the transaction doesn't refuse it, whatever it loses
pub never-unled : (old new : Present) (lose : List Fault) (host dst epid : Epid) → IsControlCause old.tree old.nodes host dst None
    → new ≡ marked_now lose old → IsUnled new host dst epid → ⊥
never-unled old new lose host dst epid free same unled =
    by_way (subst (λ (p : Present). IsUnled p host dst epid) same unled) (free-leads old.tree old.nodes host dst free)
  where
    by_way : IsUnled (marked_now lose old) host dst epid → IsRouteCause old.tree old.nodes host dst None → ⊥
    by_way (inl forth) leads = forth.0 leads.0
    by_way (inr back) leads = back.1 leads.1

-- ---- what it leaves

left-tree : (w : State) (z : ℕ) (c : Control) → (control_left w z c).tree ≡ w.tree
left-tree w z c = by_loss (loses_request w)
  where
    by_loss : (b : Bool) → (if b then has_asked w else has_answered (operated (has_asked w) z c)).tree ≡ w.tree
    by_loss true = refl
    by_loss false = refl

own-is : (tree : Plan) (epid : Epid) (x : ℕ) → IsTree tree → node_with tree.nodes epid ≡ Some x → own_epid tree x ≡ epid
own-is tree epid x is node = ap (λ (o : Option Epid). unwrap_or o no_epid) ((epids_name_nodes tree is x epid).0 node)

-- in one state
record Asked (w : State) (dst : Epid) (request : Control) (lose : List Fault) (found : Option Control) (new : Present) (left : List (Option Registers)) : Type 0 where
  asked : IsControlAsked w dst request lose found
  stands : StandsFor new (control_past dst request (marked lose w))
  banks : (control_past dst request (marked lose w)).banks ≡ left

-- the host that asks its first request
abbrev pub new_host : Epid → HostSeen
new_host epid = record { epid = epid; seq = 0 }

-- the request as the host asks it is led there and back
led-so : (w : State) (dst : Epid) (c : Control) (lose : List Fault) (x z : ℕ) → IsTree w.tree → c.ack ≡ false
    → IsControlCause w.tree w.nodes c.src dst None → node_with w.tree.nodes c.src ≡ Some x → node_with w.tree.nodes dst ≡ Some z
    → IsLedControl (marked lose w) x z (message forward_vc dst (body.Control c)) c
led-so w dst c lose x z tree asks free host target =
    let own : c.src ≡ own_epid w.tree x = sym (own-is w.tree c.src x tree host) in
    let leads = free-leads w.tree w.nodes c.src dst free in
    record {
      body = refl;
      request = asks;
      source = own;
      host = host-there w.tree (IsRouteCause w.tree w.nodes c.src dst) c.src x free host;
      target = target;
      forth = subst (λ (epid : Epid). Leads w.tree (exits_of w.nodes) epid dst) own leads.0;
      back = subst (λ (epid : Epid). Leads w.tree (exits_of w.nodes) dst epid) own leads.1;
    }

asked-so : (w : State) (mid new : Present) (left : List (Option Registers)) (dst : Epid) (c : Control) (lose : List Fault) (found : Option Control)
    (x z : ℕ) (journal : List Event) → StandsFor mid (marked lose w) → IsSettledNow mid → c.ack ≡ false
    → IsControlCause w.tree w.nodes c.src dst None → node_with w.tree.nodes c.src ≡ Some x → node_with w.tree.nodes dst ≡ Some z
    → IsFirst (asks x (message forward_vc dst (body.Control c)) (marked lose w)) journal → found ≡ reply (marked lose w) z dst c
    → StandsFor new (control_left (marked lose w) z c) → (control_left (marked lose w) z c).banks ≡ left → has_loss journal ≡ is_none found
    → Asked w dst c lose found new left
asked-so w mid new left dst c lose found x z journal stands settled asks_it free host target first ack now banks lost =
    let v = marked lose w in
    let p = message forward_vc dst (body.Control c) in
    let led = led-so w dst c lose x z stands.lawful.steady.queues.tree asks_it free host target in
    let end = after_journal (asks x p v) journal in
    let it = control_talks v x z p c journal (slice_get (node_at end x).answers 0) (answered x end) (settled_states mid v stands settled) led
    (record { first = first; answer = refl; leaves = refl }) in
    let past : control_past dst c v ≡ control_left v z c = ap (λ (o : Option ℕ). option_map_or (λ y. control_left v y c) o v) target in
    record {
      asked = record {
        free = free;
        node = x;
        host = host;
        target = z;
        destination = target;
        journal = journal;
        talk = record { first = first; answer = sym it.answer; leaves = past ∙ sym it.leaves };
        ack = ack;
        lost = lost;
      };
      stands = subst (λ (u : State). StandsFor new u) (sym past) now;
      banks = ap (λ (u : State). u.banks) past ∙ banks;
    }

-- a cause in a net is one in each state for which it stands
cause-in : (p : Present) (w : State) (host dst : Epid) (cause : Option Refusal) → StandsFor p w → IsControlCause p.tree p.nodes host dst cause
    → IsControlCause w.tree w.nodes host dst cause
cause-in p w host dst cause stands is =
    subst (λ (t : Plan). IsControlCause t w.nodes host dst cause) stands.now.tree
    (subst (λ (ns : List Node). IsControlCause p.tree ns host dst cause) stands.now.nodes is)

-- the request, as a new host asks it, is what it is
same-request : (request : Control) → request.seq ≡ 0 → asked_as (new_host request.src) request ≡ request
same-request request seq = ap (λ (n : ℕ). record request { seq = n }) (sym seq)

abbrev desk_of : Epid → NetSeen → List (Option Registers) → Desk
desk_of epid net banks = record { host = new_host epid; net = net; banks = banks }

asked-in : (old mid new : NetSeen) (slots left : List (Option Registers)) (dst : Epid) (request : Control) (lose : List Fault) (found : Option Control)
    (host : HostSeen) → IsSettledNow mid.present → request.seq ≡ 0 → request.ack ≡ false
    → IsControlCause old.present.tree old.present.nodes request.src dst None
    → ((w : State) → StandsFor old.present w → StandsFor mid.present (marked lose w))
    → HasAsked (desk_of request.src mid slots) dst request found (record { host = host; net = new; banks = left })
    → (w : State) → StandsFor old.present w → w.banks ≡ slots → Asked w dst request lose found new.present left
asked-in old mid new slots left dst request lose found host settled seq asks_it free names asked w stands same =
    let v = marked lose w in
    let marks = names w stands in
    let it = asked.each v marks same in
    subst (λ (c : Control). Asked w dst c lose found new.present left) (same-request request seq)
    (asked-so w mid.present new.present left dst (asked_as (new_host request.src) request) lose found asked.node asked.target asked.journal
    marks settled asks_it (cause-in old.present w request.src dst None stands free)
    (ap (λ (t : Plan). node_with t.nodes request.src) (sym marks.now.tree) ∙ asked.host)
    (ap (λ (t : Plan). node_with t.nodes dst) (sym marks.now.tree) ∙ asked.destination)
    it.first it.ack it.stands it.banks asked.lost)

-- the book of what was found
abbrev pub asked_book : Option Control → Book
asked_book None = book.Refused refusal.NoAck
asked_book (Some ack) = book.Control ack

-- it tells of no nodes
asked-found : (tree : Plan) (o : Option Control) → AreToldFound tree (asked_book o)
asked-found tree None = tt
asked-found tree (Some ack) = tt

-- a request that was asked is told so
told-in : (w : State) (dst : Epid) (request : Control) (lose : List Fault) (found : Option Control) (new : Present) (left : List (Option Registers))
    → Asked w dst request lose found new left → IsTold (IsControlled dst request lose) w (asked_book found) new left
told-in w dst request lose None new left asked = record {
  end = control_past dst request (marked lose w);
  tells = record { book = inr (asked.asked, refl); left = refl };
  stands = asked.stands;
  banks = asked.banks;
}
told-in w dst request lose (Some ack) new left asked = record {
  end = control_past dst request (marked lose w);
  tells = record { book = asked.asked; left = refl };
  stands = asked.stands;
  banks = asked.banks;
}

same-tree : (w : State) (dst : Epid) (request : Control) → (control_past dst request w).tree ≡ w.tree
same-tree w dst request = by_node (node_with w.tree.nodes dst)
  where
    by_node : (o : Option ℕ) → (option_map_or (λ y. control_left w y request) o w).tree ≡ w.tree
    by_node None = refl
    by_node (Some z) = left-tree w z request

pub control-told : (old mid new : NetSeen) (slots left : List (Option Registers)) (dst : Epid) (request : Control) (lose : List Fault)
    (found : Option Control) (host : HostSeen) → ((banks : List (Option Registers)) → (w : State) × StandsFor old.present w × (w.banks ≡ banks))
    → IsSettledNow mid.present → request.seq ≡ 0 → request.ack ≡ false
    → IsControlCause old.present.tree old.present.nodes request.src dst None
    → ((w : State) → StandsFor old.present w → StandsFor mid.present (marked lose w))
    → HasAsked (desk_of request.src mid slots) dst request found (record { host = host; net = new; banks = left })
    → HasTold (IsControlled dst request lose) old slots (asked_book found) new left
control-told old mid new slots left dst request lose found host some settled seq asks_it free names asked =
    let here = asked-in old mid new slots left dst request lose found host settled seq asks_it free names asked in
    let one = some slots in
    record {
      tree = (here one.0 one.1 one.2).stands.now.tree ∙ same-tree (marked lose one.0) dst request ∙ sym one.1.now.tree;
      settled = asked.settled;
      found = asked-found old.present.tree found;
      each = λ w stands same. told-in w dst request lose found new.present left (here w stands same);
    }

-- what refuses a request before it is asked tells that it wasn't
was_cause : Option Refusal → Bool
was_cause None = false
was_cause (Some why) = was_asked (book.Refused why)

not-asked : (tree : Plan) (nodes : List Node) (o : Option (ℕ × Bool)) (host dst : Epid) (why : Refusal)
    → OnHostNode o host (IsRouteCause tree nodes host dst) (Some why) → was_asked (book.Refused why) ≡ false
unfolding was_cause
not-asked tree nodes None host dst why is = ap was_cause is
not-asked tree nodes (Some node) host dst why (inl forth) = ap (λ (r : Refusal). was_asked (book.Refused r)) forth.1
not-asked tree nodes (Some node) host dst why (inr back) = ap (λ (r : Refusal). was_asked (book.Refused r)) back.2

refused-in : (p : Present) (slots : List (Option Registers)) (dst : Epid) (request : Control) (lose : List Fault) (why : Refusal) (w : State)
    → StandsFor p w → w.banks ≡ slots → IsControlCause w.tree w.nodes request.src dst (Some why)
    → IsTold (IsControlled dst request lose) w (book.Refused why) p slots
refused-in p slots dst request lose why w stands same cause =
    let stays : was_asked (book.Refused why) ≡ false = not-asked w.tree w.nodes (host_with w.tree request.src) request.src dst why cause in
    record {
      end = w;
      tells = record {
        book = inl cause;
        left = ap (λ (b : Bool). if b then control_past dst request (marked lose w) else w) (sym stays);
      };
      stands = stands;
      banks = same;
    }

-- a request that is refused leaves the net
pub control-refused : (net : NetSeen) (slots : List (Option Registers)) (dst : Epid) (request : Control) (lose : List Fault) (why : Refusal)
    → IsSettledNow net.present → IsControlCause net.present.tree net.present.nodes request.src dst (Some why)
    → HasTold (IsControlled dst request lose) net slots (book.Refused why) net slots
control-refused net slots dst request lose why settled is = record {
  tree = refl;
  settled = settled;
  found = tt;
  each = λ w stands same. refused-in net.present slots dst request lose why w stands same (cause-in net.present w request.src dst (Some why) stands is);
}

-- ---- in the worlds of the laws

control-performs : (world : ScriptWorld) (host to : Epid) (port : ℕ) (o : CtrlOp) (addr : ℕ) (words : List ℕ) (enables : ℕ) (lose : List Fault)
    (request : Control) (told : Book) (seen : WorldSeen) (slots : List (Option Registers)) → request ≡ control_of host port o addr words enables
    → Talks (IsControlled to request lose) world told seen slots
    → Performs world (command.Control host to port o addr words enables lose) told seen slots
control-performs world host to port o addr words enables lose request told seen slots is talks =
    let it : Talks (IsControlled to (control_of host port o addr words enables) lose) world told seen slots =
    subst (λ (c : Control). Talks (IsControlled to c lose) world told seen slots) is talks in
    record { next = it.next; performed = record { done = it.talk; setup = it.setup; banks = it.banks }; stands = it.stands }

pub control-done : (old new : WorldSeen) (slots left : List (Option Registers)) (host to : Epid) (port : ℕ) (o : CtrlOp) (addr : ℕ) (words : List ℕ)
    (enables : ℕ) (lose : List Fault) (request : Control) (told : Result Book Memory) → request ≡ control_of host port o addr words enables
    → IfOk told (λ book. (w : ScriptWorld) → WorldStandsFor old slots w → Talks (IsControlled to request lose) w book new left)
    → IfOk told (λ book. (w : ScriptWorld) → WorldStandsFor old slots w
    → Performs w (command.Control host to port o addr words enables lose) book new left)
control-done old new slots left host to port o addr words enables lose request (Err memory) is done = tt
control-done old new slots left host to port o addr words enables lose request (Ok book) is done = λ w stands.
    control-performs w host to port o addr words enables lose request book new left is (done w stands)
