-- Messages stay fit in queues, and commands and statuses spell what their tags tell.
use Rattle.std.proofs.Common.{◌≡◌, ℕ, ◌≤◌, ◌<◌, ◌⊎◌, inl, inr, Bool, true, false, IsTrue, List, [], ◌∷◌, length, refl, sym, ◌∙◌, ap, subst}
use Rattle.std.specs.Prelude.{◌&&◌}
use Rattle.std.specs.List.{All, AllByRecursion}
use Rattle.std.proofs.lemmas.Bool.{cases_lt, false≢true}
use Rattle.std.proofs.lemmas.List.{get_or_past}
use Rattle.std.proofs.lemmas.List.Elements.{All-head}
use Rattle.block_library.specs.Blocks.{HoldsSamples}
use Rattle.chdr_packets.specs.declared.packet.Body.{Body}
use Rattle.chdr_packets.specs.declared.packet.Body.TheVariants as body
use Rattle.chdr_packets.specs.declared.packet.Packet.{Packet}
use Rattle.chdr_words.specs.declared.command.CmdOp.{CmdOp}
use Rattle.chdr_words.specs.declared.command.CmdOp.TheVariants.{Init, Ping, Resync, Other}
use Rattle.stream_endpoint.specs.Receiver.{Receiver}
use Rattle.endpoint_laws.proofs.Laws.{command_means, status_spells}
use Rattle.stream_laws.specs.Machine.{Core}
use Rattle.stream_laws.proofs.Laws.{held_within}
use Rattle.net_machine.specs.declared.event.Event.{Event}
use Rattle.net_machine.specs.declared.event.Event.TheVariants.{Enter, Hop, Seen, Feed, Report, Command, Lose, Reply, Ask}
use Rattle.net_machine.specs.Conditions.{can_order, enabled, has_place_from, may}
use Rattle.net_machine.specs.Effects.{after}
use Rattle.net_machine.specs.Front.{StreamFront, front, front_at, stream_front}
use Rattle.net_machine.specs.Plans.{plan_at}
use Rattle.net_machine.specs.Queues.{back_vc, forward_vc}
use Rattle.net_machine.specs.State.{Message, Sample, State, Stream, Tag, idle, node_at, stream_at}
use Rattle.net_machine.specs.Streams.{receiving_of, sending_of}
use Rattle.net_machine.proofs.Laws.{fronts}
use Rattle.net_present.specs.Fits.{Spells}
use Rattle.net_ways.specs.Standing.{IsMessage, IsMessageOn}
use Rattle.net_streams.specs.Shows.{terms_of}
use Rattle.net_flows.specs.Flows.{IsSteady}
use Rattle.net_flows.specs.Forms.{IsPacketOn, item_on}
use Rattle.net_lawful.specs.Messages.{AreEntriesFit, AreFit, AreNodesFit, AreSpelled, FitsTree, IsAnswerFit, IsFit}
use Rattle.net_lawful.proofs.Entering.{Puts, entries-stay}
use Rattle.net_lawful.proofs.Nodes.{link-there, performed-at}

-- ---- streams that are there

-- a stream with something ready is there
pub ready-there : (w : State) (s : ℕ) (p : Packet) (rest : List Packet) → (stream_at w s).ready ≡ p ∷ rest → s < length w.streams
ready-there w s p rest is = by_order (cases_lt s (length w.streams))
  where
    none : [] ≡ p ∷ rest → ⊥
    none e = cc

    by_order : (s < length w.streams) ⊎ (length w.streams ≤ s) → s < length w.streams
    by_order (inl lt) = lt
    by_order (inr past) = absurd (none (ap (λ (st : Stream). st.ready) (sym (get_or_past w.streams s idle past)) ∙ is))

-- what a stream that isn't there shows
shown-past : (w : State) (s : ℕ) → length w.streams ≤ s → front_at (front w) s ≡ stream_front idle
shown-past w s past = fronts.stream w s ∙ ap stream_front (get_or_past w.streams s idle past)

pub order-past : (w : State) (s : ℕ) (op : CmdOp) → length w.streams ≤ s → can_order (front w) s op ≡ false
order-past w s Init past = rw (shown-past w s past) refl
order-past w s Ping past = rw (shown-past w s past) refl
order-past w s Resync past = rw (shown-past w s past) refl
order-past w s (Other code) past = refl

pub due-past : (w : State) (s : ℕ) → length w.streams ≤ s → (front_at (front w) s).due ≡ false
due-past w s past = ap (λ (st : StreamFront). st.due) (shown-past w s past)

pub first-true : (a b : Bool) → (a && b) ≡ true → a ≡ true
first-true true b h = refl
first-true false b h = h

order-there : (w : State) (s : ℕ) (op : CmdOp) → IsTrue (enabled w (Command s op)) → s < length w.streams
unfolding may
order-there w s op may_it =
    elim (cases_lt s (length w.streams)) [
      | inl lt ↦ lt
      | inr past ↦ absurd (false≢true (sym (order-past w s op past) ∙ first-true (can_order (front w) s op) (has_place_from (front w) forward_vc (plan_at w.plan s).from) may_it))
    ]

report-there : (w : State) (s : ℕ) → IsTrue (enabled w (Report s)) → s < length w.streams
unfolding may
report-there w s may_it =
    elim (cases_lt s (length w.streams)) [
      | inl lt ↦ lt
      | inr past ↦ absurd (false≢true (sym (due-past w s past) ∙ first-true (front_at (front w) s).due (has_place_from (front w) back_vc (plan_at w.plan s).to) may_it))
    ]

-- ---- samples and messages have either property

samples-fit : (item : ℕ) (p : Packet) (b : Body) → HoldsSamples item b → IsFit p b
samples-fit item p (body.Samples time payload) is = tt
samples-fit item p (body.Status status) is = absurd is
samples-fit item p (body.Command c) is = absurd is
samples-fit item p (body.Control control) is = absurd is
samples-fit item p (body.Management m) is = absurd is

samples-spell : (item : ℕ) (tag : Tag) (b : Body) → HoldsSamples item b → Spells tag b
samples-spell item tag (body.Samples time payload) is = tt
samples-spell item tag (body.Status status) is = absurd is
samples-spell item tag (body.Command c) is = absurd is
samples-spell item tag (body.Control control) is = absurd is
samples-spell item tag (body.Management m) is = absurd is

message-spells : (tag : Tag) (b : Body) → IsMessage b → Spells tag b
message-spells tag (body.Samples time payload) is = absurd is
message-spells tag (body.Status status) is = absurd is
message-spells tag (body.Command c) is = absurd is
message-spells tag (body.Control control) is = tt
message-spells tag (body.Management m) is = tt

-- the first ready packet holds samples
pub ready-samples : (w : State) (s : ℕ) (p : Packet) (rest : List Packet) → IsSteady w → (stream_at w s).ready ≡ p ∷ rest → HoldsSamples (item_on w.plan s) p.body
ready-samples w s p rest steady is =
    let forms = (steady.forms s (ready-there w s p rest is)).ready in
    (All-head (IsPacketOn w.plan s) p rest (subst (All (IsPacketOn w.plan s)) is forms)).feed.body

-- the first request and the first answer of a node are messages
pub request-is : (w : State) (x : ℕ) (p : Packet) (rest : List Packet) → IsSteady w → (node_at w x).requests ≡ p ∷ rest → IsMessage p.body
request-is w x p rest steady is = (subst (AllByRecursion (IsMessageOn forward_vc)) is (steady.messages x).requests).0.1

pub answer-is : (w : State) (x : ℕ) (p : Packet) (rest : List Packet) → IsSteady w → (node_at w x).pending ≡ p ∷ rest → IsMessage p.body
answer-is w x p rest steady is = (subst (AllByRecursion (IsMessageOn back_vc)) is (steady.messages x).pending).0.1

-- ---- messages stay fit

puts-fit : (w : State) (e : Event) → IsSteady w → FitsTree w.tree → AreNodesFit w → Puts (λ tag p. IsFit p p.body) w e
puts-fit w (Enter s) steady tree nodes = λ p rest is. samples-fit (item_on w.plan s) _ p.body (ready-samples w s p rest steady is)
puts-fit w (Command s op) steady tree nodes = tt
puts-fit w (Report s) steady tree nodes = tt
puts-fit w (Seen s n) steady tree nodes = tt
puts-fit w (Feed b i) steady tree nodes = tt
puts-fit w (Ask x) steady tree nodes = λ p rest d is at. (subst AreFit is (nodes x).requests).0
puts-fit w (Reply x) steady tree nodes = λ p rest is. (subst (AllByRecursion IsAnswerFit) is (nodes x).pending).0.fit
puts-fit w (Lose q) steady tree nodes = tt
puts-fit w (Hop q) steady tree nodes = λ e rest m is fit has epid two.
    (performed-at w.tree w.nodes _ e.packet m steady.queues.tree tree (link-there w q e rest steady.queues is) nodes has (subst (IsFit e.packet) has fit) two).goes_on

pub messages-fit : (w : State) (e : Event) → IsSteady w → FitsTree w.tree → AreNodesFit w → AreEntriesFit w → AreEntriesFit (after w e)
messages-fit w e steady tree nodes each = entries-stay (λ tag p. IsFit p p.body) w e (puts-fit w e steady tree nodes) each

-- ---- what is spelled stays so

puts-spelled : (w : State) (e : Event) → IsSteady w → IsTrue (enabled w e) → Puts (λ tag p. Spells tag p.body) w e
puts-spelled w (Enter s) steady may_it = λ p rest is. samples-spell (item_on w.plan s) (Sample (length (stream_at w s).sent)) p.body (ready-samples w s p rest steady is)
puts-spelled w (Command s op) steady may_it =
    let there : s < length w.plan.streams = subst (λ n. s < n) steady.as_many (order-there w s op may_it) in
    command_means op (sending_of (plan_at w.plan s) (stream_at w s)) (steady.plan.fits.flows s there)
puts-spelled w (Report s) steady may_it =
    let flow = steady.flows s (report-there w s may_it) in
    let held = held_within (terms_of (plan_at w.plan s)) flow.state flow.run in
    let same : flow.state.core.receiver ≡ (stream_at w s).receiver = ap (λ (c : Core Packet). c.receiver) flow.shows.core in
    status_spells (receiving_of (plan_at w.plan s) (stream_at w s))
    (subst (λ (r : Receiver). r.buffered.packets ≤ r.reached.packets) same held.reached_packets)
    (subst (λ (r : Receiver). r.buffered.bytes ≤ r.reached.bytes) same held.reached_bytes)
puts-spelled w (Seen s n) steady may_it = tt
puts-spelled w (Feed b i) steady may_it = tt
puts-spelled w (Ask x) steady may_it = λ p rest d is at. message-spells Message p.body (request-is w x p rest steady is)
puts-spelled w (Reply x) steady may_it = λ p rest is. message-spells Message p.body (answer-is w x p rest steady is)
puts-spelled w (Lose q) steady may_it = tt
puts-spelled w (Hop q) steady may_it = λ e rest m is spells has epid two. tt

pub spelled-stays : (w : State) (e : Event) → IsSteady w → IsTrue (enabled w e) → AreSpelled w → AreSpelled (after w e)
spelled-stays w e steady may_it each = entries-stay (λ tag p. Spells tag p.body) w e (puts-spelled w e steady may_it) each
