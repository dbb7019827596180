-- A Hop and a Lose keep what holds of a network's streams.
use Rattle.std.proofs.Common.{◌≡◌, ◌≢◌, ℕ, ◌==◌, ◌<◌, ◌⊎◌, inl, inr, true, false, List, [], ◌∷◌, ◌++◌, length, refl, sym, ◌∙◌, ap, subst, eq-eqb}
use Rattle.std.specs.Prelude.{Option, None, Some}
use Rattle.std.specs.List.{All, AllByRecursion}
use Rattle.std.proofs.lemmas.Bool.{cases_Bool, eqb-true, false≢true}
use Rattle.std.proofs.lemmas.List.Elements.{All-push}
use Rattle.std.proofs.lemmas.List.Quantifiers.{position-Some}
use Rattle.chdr_packets.specs.declared.packet.Body.{Body}
use Rattle.chdr_packets.specs.declared.packet.Body.TheVariants as body
use Rattle.chdr_packets.specs.declared.packet.Packet.{Packet}
use Rattle.chdr_words.specs.declared.command.Command.{Command}
use Rattle.chdr_words.specs.declared.epid.Epid.{Epid}
use Rattle.chdr_words.specs.declared.status.Status.{Status}
use Rattle.stream_endpoint.specs.Receiver.{arrival, expected}
use Rattle.stream_endpoint.specs.declared.state.Arrived.{Arrived}
use Rattle.stream_endpoint.specs.declared.state.Arrived.TheVariants.{Kept as IsKept, Discarded, Gap as GapAt}
use Rattle.stream_laws.specs.Laws.{IsRun}
use Rattle.stream_laws.specs.Machine.{State as OneStream, number_at}
use Rattle.net_topology.specs.Links.{end_of}
use Rattle.net_machine.specs.declared.event.Event.TheVariants as event
use Rattle.net_machine.specs.declared.plan.RunPlan.{RunPlan}
use Rattle.net_machine.specs.Blocks.{is_closed}
use Rattle.net_machine.specs.Effects.{after, hops, leaves, loses_front, on_any_stream, stream_of}
use Rattle.net_machine.specs.Front.{front}
use Rattle.net_machine.specs.Plans.{is_from, is_to, no_stream, plan_at}
use Rattle.net_machine.specs.Queues.{link_of_queue}
use Rattle.net_machine.specs.State.{Entry, Message, State, Stream, queue_at, stream_at}
use Rattle.net_machine.specs.Streams.{counts_in, gets, gets_order, gets_status, kept_by, loses, told_in}
use Rattle.net_ways.proofs.Laws.{commands_come, hops_ahead, hops_back, hops_unseen, joins_unseen, leaves_unseen, losses_unseen, samples_come, statuses_come, streams_unseen, unseen_twice}
use Rattle.net_ways.specs.Hops.{GoesAhead, GoesBack, IsUnseen, StaysOnWay, moved, taken_in}
use Rattle.net_ways.specs.Standing.{ArePlaced, HasWays, HaveWays, IsMessage, IsPlaced, Stands, StandsAhead, StandsBack}
use Rattle.net_ways.specs.Unseen.{IsElsewhere, IsForeign}
use Rattle.net_ways.specs.Ways.{back_way, forward_way}
use Rattle.net_streams.proofs.Laws.{commands_act, commands_lost, samples_act, samples_lost, statuses_act, statuses_lost}
use Rattle.net_streams.specs.Acting.{Acts}
use Rattle.net_streams.specs.Shows.{Shows, terms_of}
use Rattle.net_flows.specs.Flows.{IsSteady}
use Rattle.net_flows.specs.Forms.{IsPacketOn, Tells, TellsOrder, TellsPlace, TellsReport}
use Rattle.net_flows.proofs.Entering.{ways-of}
use Rattle.net_flows.proofs.Following.{none-flows, one-flows}
use Rattle.net_flows.proofs.Keeping.{KeepsForm, Steps, TellingBy, foreign-from, foreign-message, foreign-to, kept-on, kept-same, kept-self, some-same, steps-kept, steps-self, steps-unseen}
use Rattle.net_flows.proofs.Telling.{telling-any, telling-front, telling-joins, telling-leaves, telling-message}

-- the run of stream t goes on by an act
abbrev ActsAt : State → State → ℕ → Type 0
ActsAt w v t = t < length w.streams → (st : OneStream Packet) → IsRun (terms_of (plan_at w.plan t)) st → Shows w t (is_closed (front w) t) st → Acts w v t (is_closed (front w) t) st

-- an entry is no other stream's
abbrev IsOnly : State → ℕ → Entry → Type 0
IsOnly w t e = (s : ℕ) → s < length w.streams → s ≢ t → IsForeign (plan_at w.plan s) e

-- the front entry comes to stream t
came-steps : (w : State) (q t : ℕ) (e : Entry) (rest : List Entry) (next : Stream → Stream) → queue_at w.queues q ≡ e ∷ rest → TellingBy w.plan w → IsOnly w t e →
    KeepsForm w.plan t (stream_at w t) (next (stream_at w t)) → after w (event.Hop q) ≡ taken_in w t q rest next → ActsAt w (after w (event.Hop q)) t → Steps w (after w (event.Hop q))
came-steps w q t e rest next is telling only kept comes itself =
    subst (Steps w) (sym comes)
    (steps-kept w (taken_in w t q rest next)
    (one-flows (is_closed (front w)) w (taken_in w t q rest next) t
    (λ s here other. unseen_twice w (leaves q rest w) (taken_in w t q rest next) s (leaves_unseen w s q e rest is (only s here other)) (streams_unseen (leaves q rest w) t s next other))
    (λ here st run shows. subst (λ (v : State). Acts w v t (is_closed (front w) t) st) comes (itself here st run shows)))
    (telling-leaves w.plan q e rest w is telling) (kept-on w t next kept))

not-same : (s t : ℕ) → s ≡ t → (s == t) ≡ false → ⊥
not-same s t same differs = false≢true (sym differs ∙ eq-eqb s t same)

-- the front entry goes on, on the way of stream t
moved-steps : (w : State) (q r t : ℕ) (e : Entry) (rest : List Entry) → queue_at w.queues q ≡ e ∷ rest → TellingBy w.plan w → IsOnly w t e → Tells w.plan e e.packet.body →
    StaysOnWay w t q r e rest → Steps w (after w (event.Hop q))
moved-steps w q r t e rest is telling only tells stays =
    subst (Steps w) (sym stays.moves)
    (steps-kept w (moved w q r e rest) (none-flows (is_closed (front w)) w (moved w q r e rest) unseen)
    (telling-joins w.plan r e (leaves q rest w) tells (telling-leaves w.plan q e rest w is telling)) (λ s. kept-self w.plan s (stream_at w s)))
  where
    by_number : (s : ℕ) → s < length w.streams → ((s == t) ≡ true) ⊎ ((s == t) ≡ false) → IsUnseen w (moved w q r e rest) s
    by_number s here (inl same) = subst (IsUnseen w (moved w q r e rest)) (sym (eqb-true s t same)) (subst (λ (v : State). IsUnseen w v t) stays.moves stays.unseen)
    by_number s here (inr differs) =
        let foreign = only s here (λ same. not-same s t same differs) in
        unseen_twice w (leaves q rest w) (moved w q r e rest) s (leaves_unseen w s q e rest is foreign) (joins_unseen (leaves q rest w) s r e foreign)

    unseen : (s : ℕ) → s < length w.streams → IsUnseen w (moved w q r e rest) s
    unseen s here = by_number s here (cases_Bool (s == t))

-- ---- where an entry stands

ways-ahead : (w : State) (q : ℕ) (dst : Epid) → HaveWays w → (stands : StandsAhead w.tree w.plan q dst) → HasWays w stands.stream
ways-ahead w q dst ways stands = ways.each stands.stream (position-Some (is_to dst) w.plan.streams stands.stream no_stream stands.mine).0

ways-back : (w : State) (q : ℕ) (dst : Epid) → HaveWays w → (stands : StandsBack w.tree w.plan q dst) → HasWays w stands.stream
ways-back w q dst ways stands = ways.each stands.stream (position-Some (is_from dst) w.plan.streams stands.stream no_stream stands.mine).0

only-ahead : (w : State) (q : ℕ) (e : Entry) → HaveWays w → GoesAhead e.packet.body → (stands : StandsAhead w.tree w.plan q e.packet.dst) → IsOnly w stands.stream e
only-ahead w q e ways goes stands s here other = foreign-to w.plan stands.stream s e goes stands.mine (ways-of w s ways here).to other

only-back : (w : State) (q : ℕ) (e : Entry) → HaveWays w → GoesBack e.packet.body → (stands : StandsBack w.tree w.plan q e.packet.dst) → IsOnly w stands.stream e
only-back w q e ways goes stands s here other = foreign-from w.plan stands.stream s e goes stands.mine (ways-of w s ways here).from other

-- ---- samples

-- what comes has the form of the stream to which it comes
kept-form : (plan : RunPlan) (t : ℕ) (a : Arrived) (p : Packet) (given : List Packet) → IsPacketOn plan t p → All (IsPacketOn plan t) given → All (IsPacketOn plan t) (kept_by a p given)
kept-form plan t IsKept p given here each = All-push (IsPacketOn plan t) given p each here
kept-form plan t (GapAt wanted got) p given here each = each
kept-form plan t Discarded p given here each = each

got-kept : (plan : RunPlan) (t : ℕ) (p : Packet) (st : Stream) → IsPacketOn plan t p → KeepsForm plan t st (gets p st)
got-kept plan t p st here = record {
  form = λ h. record { ready = h.ready; given = kept-form plan t (arrival st.receiver.broken (expected st.receiver) p.seq) p st.given here h.given };
  clear = λ h. h;
}

samples-hop : (w : State) (q : ℕ) (e : Entry) (rest : List Entry) (time : Option ℕ) (payload : List ℕ) → IsSteady w → HaveWays w → queue_at w.queues q ≡ e ∷ rest →
    StandsAhead w.tree w.plan q e.packet.dst → e.packet.body ≡ body.Samples time payload → TellsPlace w.plan e → Steps w (after w (event.Hop q))
samples-hop w q e rest time payload steady ways is stands is_samples tells = by_behind stands.on.behind stands.on.way
  where
    t : ℕ
    t = stands.stream

    way : HasWays w t
    way = ways-ahead w q e.packet.dst ways stands

    goes : GoesAhead e.packet.body
    goes = subst GoesAhead (sym is_samples) tt

    same : tells.stream ≡ t
    same = some-same (sym tells.mine ∙ stands.mine)

    number : e.packet.seq ≡ number_at (terms_of (plan_at w.plan t)) tells.place
    number = tells.number ∙ ap (λ (k : ℕ). number_at (terms_of (plan_at w.plan k)) tells.place) same

    by_behind : (behind : List ℕ) → forward_way w.tree (plan_at w.plan t) ≡ stands.on.before ++ q ∷ behind → Steps w (after w (event.Hop q))
    by_behind [] last =
        came-steps w q t e rest (gets e.packet) is steady.telling (only-ahead w q e ways goes stands)
        (got-kept w.plan t e.packet (stream_at w t) (subst (λ (k : ℕ). IsPacketOn w.plan k e.packet) same tells.form))
        (samples_come w t q stands.on.before e rest time payload steady.queues way.forth way.to is last is_samples (sym stands.to)).comes
        (λ here st run shows. samples_act w t q (is_closed (front w) t) st e rest time payload tells.place
        (record { there = here; queues = steady.queues; shows = shows })
        (record { forth = way.forth; mine = way.to; front = is; before = stands.on.before; way = last; dst = sym stands.to })
        is_samples tells.tag number)
    by_behind (r ∷ behind) on =
        moved-steps w q r t e rest is steady.telling (only-ahead w q e ways goes stands) (subst (Tells w.plan e) (sym is_samples) tells)
        (hops_ahead w t q r stands.on.before behind e rest steady.queues way.forth is on goes (sym stands.to))

-- ---- commands

commands-hop : (w : State) (q : ℕ) (e : Entry) (rest : List Entry) (c : Command) → IsSteady w → HaveWays w → queue_at w.queues q ≡ e ∷ rest →
    StandsAhead w.tree w.plan q e.packet.dst → e.packet.body ≡ body.Command c → TellsOrder e c → Steps w (after w (event.Hop q))
commands-hop w q e rest c steady ways is stands is_command tells = by_behind stands.on.behind stands.on.way
  where
    t : ℕ
    t = stands.stream

    way : HasWays w t
    way = ways-ahead w q e.packet.dst ways stands

    goes : GoesAhead e.packet.body
    goes = subst GoesAhead (sym is_command) tt

    by_behind : (behind : List ℕ) → forward_way w.tree (plan_at w.plan t) ≡ stands.on.before ++ q ∷ behind → Steps w (after w (event.Hop q))
    by_behind [] last =
        came-steps w q t e rest (gets_order c.op (counts_in e.tag)) is steady.telling (only-ahead w q e ways goes stands)
        (kept-same w.plan t (stream_at w t) (gets_order c.op (counts_in e.tag) (stream_at w t)) refl refl)
        (commands_come w t q stands.on.before e rest c steady.queues way.forth way.to is last is_command (sym stands.to)).comes
        (λ here st run shows. commands_act w t q (is_closed (front w) t) st e rest c tells.counts
        (record { there = here; queues = steady.queues; shows = shows })
        (record { forth = way.forth; mine = way.to; front = is; before = stands.on.before; way = last; dst = sym stands.to })
        is_command tells.tag tells.op)
    by_behind (r ∷ behind) on =
        moved-steps w q r t e rest is steady.telling (only-ahead w q e ways goes stands) (subst (Tells w.plan e) (sym is_command) tells)
        (hops_ahead w t q r stands.on.before behind e rest steady.queues way.forth is on goes (sym stands.to))

-- ---- statuses

statuses-hop : (w : State) (q : ℕ) (e : Entry) (rest : List Entry) (status : Status) → IsSteady w → HaveWays w → queue_at w.queues q ≡ e ∷ rest →
    StandsBack w.tree w.plan q e.packet.dst → e.packet.body ≡ body.Status status → TellsReport e → Steps w (after w (event.Hop q))
statuses-hop w q e rest status steady ways is stands is_status tells = by_behind stands.on.behind stands.on.way
  where
    t : ℕ
    t = stands.stream

    way : HasWays w t
    way = ways-back w q e.packet.dst ways stands

    goes : GoesBack e.packet.body
    goes = subst GoesBack (sym is_status) tt

    by_behind : (behind : List ℕ) → back_way w.tree (plan_at w.plan t) ≡ stands.on.before ++ q ∷ behind → Steps w (after w (event.Hop q))
    by_behind [] last =
        came-steps w q t e rest (gets_status (plan_at w.plan t) (told_in e.tag)) is steady.telling (only-back w q e ways goes stands)
        (kept-same w.plan t (stream_at w t) (gets_status (plan_at w.plan t) (told_in e.tag) (stream_at w t)) refl refl)
        (statuses_come w t q stands.on.before e rest status steady.queues way.back way.from is last is_status (sym stands.from)).comes
        (λ here st run shows. statuses_act w t q (is_closed (front w) t) st e rest status tells.told
        (record { there = here; queues = steady.queues; shows = shows })
        (record { back = way.back; mine = way.from; front = is; before = stands.on.before; way = last; dst = sym stands.from })
        is_status tells.tag)
    by_behind (r ∷ behind) on =
        moved-steps w q r t e rest is steady.telling (only-back w q e ways goes stands) (subst (Tells w.plan e) (sym is_status) tells)
        (hops_back w t q r stands.on.before behind e rest steady.queues way.back is on goes (sym stands.from))

-- ---- what is no stream's

message-elsewhere : (w : State) (x t : ℕ) (b : Body) → IsMessage b → IsElsewhere w x t b
message-elsewhere w x t (body.Samples time payload) kind = absurd kind
message-elsewhere w x t (body.Command c) kind = absurd kind
message-elsewhere w x t (body.Status status) kind = absurd kind
message-elsewhere w x t (body.Control control) kind = tt
message-elsewhere w x t (body.Management m) kind = tt

message-hop : (w : State) (q : ℕ) (e : Entry) (rest : List Entry) → IsSteady w → queue_at w.queues q ≡ e ∷ rest → IsMessage e.packet.body → e.tag ≡ Message → Steps w (after w (event.Hop q))
unfolding after
message-hop w q e rest steady is kind tag =
    steps-unseen w (after w (event.Hop q))
    (λ t. hops_unseen w t q e rest is (foreign-message (plan_at w.plan t) e kind)
    (λ end. message-elsewhere w (end_of w.tree.links (link_of_queue q)) t e.packet.body kind))
    (subst (λ (es : List Entry). TellingBy w.plan (hops q es w)) (sym is) (telling-message w.plan w q e rest is tag kind steady.telling))

-- ---- a Hop

hop-by : (w : State) (q : ℕ) (e : Entry) (rest : List Entry) (b : Body) → IsSteady w → HaveWays w → queue_at w.queues q ≡ e ∷ rest → e.packet.body ≡ b →
    Stands w.tree w.plan q e.packet.dst b → Tells w.plan e b → Steps w (after w (event.Hop q))
hop-by w q e rest (body.Samples time payload) steady ways is here stands tells = samples-hop w q e rest time payload steady ways is stands here tells
hop-by w q e rest (body.Command c) steady ways is here stands tells = commands-hop w q e rest c steady ways is stands here tells
hop-by w q e rest (body.Status status) steady ways is here stands tells = statuses-hop w q e rest status steady ways is stands here tells
hop-by w q e rest (body.Control control) steady ways is here stands tells = message-hop w q e rest steady is (subst IsMessage (sym here) tt) tells
hop-by w q e rest (body.Management m) steady ways is here stands tells = message-hop w q e rest steady is (subst IsMessage (sym here) tt) tells

placed-front : (w : State) (q : ℕ) (e : Entry) (rest : List Entry) → queue_at w.queues q ≡ e ∷ rest → ArePlaced w → IsPlaced w.tree w.plan q e
placed-front w q e rest is placed = (subst (AllByRecursion (IsPlaced w.tree w.plan q)) is (placed q)).0

hop-any : (w : State) (q : ℕ) (entries : List Entry) → queue_at w.queues q ≡ entries → IsSteady w → HaveWays w → ArePlaced w → Steps w (after w (event.Hop q))
unfolding after
hop-any w q [] is steady ways placed = subst (λ (es : List Entry). Steps w (hops q es w)) (sym is) (steps-self w steady.telling)
hop-any w q (e ∷ rest) is steady ways placed =
    hop-by w q e rest e.packet.body steady ways is refl (placed-front w q e rest is placed).stands (telling-front w.plan w q e rest is steady.telling).0

pub hop-steps : (w : State) (q : ℕ) → IsSteady w → HaveWays w → ArePlaced w → Steps w (after w (event.Hop q))
hop-steps w q steady ways placed = hop-any w q (queue_at w.queues q) refl steady ways placed

-- ---- a Lose

any-kept : (w : State) (o : Option ℕ) (e : Entry) → (s : ℕ) → KeepsForm w.plan s (stream_at w s) (stream_at (on_any_stream o (loses e) w) s)
any-kept w None e s = kept-self w.plan s (stream_at w s)
any-kept w (Some t) e s = kept-on w t (loses e) (kept-same w.plan t (stream_at w t) (loses e (stream_at w t)) refl refl) s

lost-kept : (w : State) (q : ℕ) (e : Entry) (rest : List Entry) → queue_at w.queues q ≡ e ∷ rest → (s : ℕ) → KeepsForm w.plan s (stream_at w s) (stream_at (after w (event.Lose q)) s)
unfolding after
lost-kept w q e rest is s =
    subst (λ (es : List Entry). KeepsForm w.plan s (stream_at w s) (stream_at (loses_front q es w) s)) (sym is)
    (any-kept (leaves q rest w) (stream_of w e.packet e.packet.body) e s)

lost-telling : (w : State) (q : ℕ) (e : Entry) (rest : List Entry) → queue_at w.queues q ≡ e ∷ rest → TellingBy w.plan w → TellingBy w.plan (after w (event.Lose q))
unfolding after
lost-telling w q e rest is telling =
    subst (λ (es : List Entry). TellingBy w.plan (loses_front q es w)) (sym is)
    (telling-any w.plan (stream_of w e.packet e.packet.body) (loses e) (leaves q rest w) (telling-leaves w.plan q e rest w is telling))

lost-steps : (w : State) (q t : ℕ) (e : Entry) (rest : List Entry) → queue_at w.queues q ≡ e ∷ rest → TellingBy w.plan w → IsOnly w t e → ActsAt w (after w (event.Lose q)) t → Steps w (after w (event.Lose q))
lost-steps w q t e rest is telling only itself =
    steps-kept w (after w (event.Lose q))
    (one-flows (is_closed (front w)) w (after w (event.Lose q)) t (λ s here other. losses_unseen w s q e rest is (only s here other)) itself)
    (lost-telling w q e rest is telling) (lost-kept w q e rest is)

message-lost : (w : State) (q : ℕ) (e : Entry) (rest : List Entry) → queue_at w.queues q ≡ e ∷ rest → TellingBy w.plan w → IsMessage e.packet.body → Steps w (after w (event.Lose q))
message-lost w q e rest is telling kind =
    steps-kept w (after w (event.Lose q))
    (none-flows (is_closed (front w)) w (after w (event.Lose q)) (λ s here. losses_unseen w s q e rest is (foreign-message (plan_at w.plan s) e kind)))
    (lost-telling w q e rest is telling) (lost-kept w q e rest is)

lose-by : (w : State) (q : ℕ) (e : Entry) (rest : List Entry) (b : Body) → IsSteady w → HaveWays w → queue_at w.queues q ≡ e ∷ rest → e.packet.body ≡ b →
    Stands w.tree w.plan q e.packet.dst b → Tells w.plan e b → Steps w (after w (event.Lose q))
lose-by w q e rest (body.Samples time payload) steady ways is here stands tells =
    let way = ways-ahead w q e.packet.dst ways stands in
    lost-steps w q stands.stream e rest is steady.telling (only-ahead w q e ways (subst GoesAhead (sym here) tt) stands)
    (λ there st run shows. samples_lost w stands.stream q (is_closed (front w) stands.stream) st e rest time payload tells.place
    (record { there = there; queues = steady.queues; shows = shows })
    (record { forth = way.forth; mine = way.to; front = is; before = stands.on.before; behind = stands.on.behind; way = stands.on.way; dst = sym stands.to })
    here tells.tag)
lose-by w q e rest (body.Command c) steady ways is here stands tells =
    let way = ways-ahead w q e.packet.dst ways stands in
    lost-steps w q stands.stream e rest is steady.telling (only-ahead w q e ways (subst GoesAhead (sym here) tt) stands)
    (λ there st run shows. commands_lost w stands.stream q (is_closed (front w) stands.stream) st e rest c tells.counts
    (record { there = there; queues = steady.queues; shows = shows })
    (record { forth = way.forth; mine = way.to; front = is; before = stands.on.before; behind = stands.on.behind; way = stands.on.way; dst = sym stands.to })
    here tells.tag)
lose-by w q e rest (body.Status status) steady ways is here stands tells =
    let way = ways-back w q e.packet.dst ways stands in
    lost-steps w q stands.stream e rest is steady.telling (only-back w q e ways (subst GoesBack (sym here) tt) stands)
    (λ there st run shows. statuses_lost w stands.stream q (is_closed (front w) stands.stream) st e rest status tells.told
    (record { there = there; queues = steady.queues; shows = shows })
    (record { back = way.back; mine = way.from; front = is; before = stands.on.before; behind = stands.on.behind; way = stands.on.way; dst = sym stands.from })
    here tells.tag)
lose-by w q e rest (body.Control control) steady ways is here stands tells = message-lost w q e rest is steady.telling (subst IsMessage (sym here) tt)
lose-by w q e rest (body.Management m) steady ways is here stands tells = message-lost w q e rest is steady.telling (subst IsMessage (sym here) tt)

lose-any : (w : State) (q : ℕ) (entries : List Entry) → queue_at w.queues q ≡ entries → IsSteady w → HaveWays w → ArePlaced w → Steps w (after w (event.Lose q))
unfolding after
lose-any w q [] is steady ways placed = subst (λ (es : List Entry). Steps w (loses_front q es w)) (sym is) (steps-self w steady.telling)
lose-any w q (e ∷ rest) is steady ways placed =
    lose-by w q e rest e.packet.body steady ways is refl (placed-front w q e rest is placed).stands (telling-front w.plan w q e rest is steady.telling).0

pub lose-steps : (w : State) (q : ℕ) → IsSteady w → HaveWays w → ArePlaced w → Steps w (after w (event.Lose q))
lose-steps w q steady ways placed = lose-any w q (queue_at w.queues q) refl steady ways placed
