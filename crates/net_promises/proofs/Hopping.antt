-- A Hop raises nothing that is outstanding, nor does any other event but an Enter.
use Rattle.std.proofs.Common.{◌≡◌, ℕ, ◌<◌, inl, inr, Bool, true, false, List, [], ◌∷◌, ◌++◌, length, refl, sym, ◌∙◌, ap, subst, eq-eqb}
use Rattle.std.specs.Prelude.{◌==◌}
use Rattle.std.specs.List.{AllByRecursion}
use Rattle.std.proofs.lemmas.Bool.{cases_Bool, eqb-true, false≢true}
use Rattle.std.proofs.lemmas.List.{get_or-set_other}
use Rattle.std.proofs.lemmas.List.Quantifiers.{position-Some}
use Rattle.rf_base.proofs.Places.{one-set}
use Rattle.chdr_packets.specs.declared.packet.Body.{Body}
use Rattle.chdr_packets.specs.declared.packet.Body.TheVariants as body
use Rattle.chdr_words.specs.declared.status.Status.{Status}
use Rattle.net_topology.specs.Links.{end_of}
use Rattle.net_machine.specs.declared.event.Event.{Event}
use Rattle.net_machine.specs.declared.event.Event.TheVariants.{Enter, Hop, Seen, Feed, Report, Command, Lose, Reply, Ask}
use Rattle.net_machine.specs.Blocks.{is_closed}
use Rattle.net_machine.specs.Effects.{after, hops, leaves}
use Rattle.net_machine.specs.Front.{front}
use Rattle.net_machine.specs.Plans.{first_link, is_from, is_to, no_stream, plan_at}
use Rattle.net_machine.specs.Queues.{link_of_queue}
use Rattle.net_machine.specs.State.{Entry, State, Stream, idle, node_at, queue_at, stream_at}
use Rattle.net_machine.specs.Streams.{counts_in, gets, gets_order, gets_status, sends_order, sends_status, taken_to, told_in}
use Rattle.net_ways.specs.Hops.{GoesAhead, GoesBack, moved, taken_in}
use Rattle.net_ways.specs.Standing.{HasWays, IsMessage, IsPlaced, Stands, StandsAhead, StandsBack}
use Rattle.net_ways.specs.Unseen.{IsElsewhere}
use Rattle.net_ways.specs.Ways.{back_way, forward_way}
use Rattle.net_ways.proofs.Laws.{commands_come, hops_ahead, hops_back, hops_unseen, samples_come, statuses_come}
use Rattle.net_streams.proofs.Laws.{statuses_act}
use Rattle.net_flows.specs.Forms.{Tells, TellsReport}
use Rattle.net_lawful.specs.Lawful.{Lawful}
use Rattle.net_lawful.specs.Walking.{AreLed, IsNoStreams}
use Rattle.net_promises.proofs.Falling.{Falls, act-falls, asks-fall, changed, feeds-fall, loses-fall, order-keeps, over-changed, replies-fall, same}

-- a stream's entry is queued only as long as tables lead
led-of : (w : State) (q : ℕ) (e : Entry) (rest : List Entry) → Lawful w → queue_at w.queues q ≡ e ∷ rest → (IsMessage e.packet.body → ⊥) → AreLed w
led-of w q e rest lawful is none = by_walked w.walked refl
  where
    by_walked : (b : Bool) → w.walked ≡ b → AreLed w
    by_walked false walked = lawful.led walked
    by_walked true walked =
        absurd (none (subst (AllByRecursion (λ (f : Entry). IsNoStreams f.tag f.packet)) is ((lawful.stilled walked).queued q)).0.body)

stands-at : (w : State) (q : ℕ) (e : Entry) (rest : List Entry) (b : Body) → AreLed w → queue_at w.queues q ≡ e ∷ rest → e.packet.body ≡ b → Stands w.tree w.plan q e.packet.dst b
stands-at w q e rest b led is has = subst (Stands w.tree w.plan q e.packet.dst) has (subst (AllByRecursion (IsPlaced w.tree w.plan q)) is (led.placed q)).0.stands

taken-falls : (w : State) (u q : ℕ) (rest : List Entry) (next : Stream → Stream) (t : ℕ) → ((st : Stream) → (next st).sender.outstanding ≡ st.sender.outstanding) → Falls w (taken_in w u q rest next) t
taken-falls w u q rest next t keeps = let f = changed (leaves q rest w) u next t (keeps (stream_at w u)) in record { packets = f.packets; bytes = f.bytes }

module _ (w : State) (q t : ℕ) (e : Entry) (rest : List Entry) (lawful : Lawful w) (is : queue_at w.queues q ≡ e ∷ rest) where
  ahead-falls : (next : Stream → Stream) → ((st : Stream) → (next st).sender.outstanding ≡ st.sender.outstanding) → GoesAhead e.packet.body → AreLed w → (stands : StandsAhead w.tree w.plan q e.packet.dst) →
      ((before : List ℕ) → HasWays w stands.stream → forward_way w.tree (plan_at w.plan stands.stream) ≡ before ++ q ∷ [] → after w (Hop q) ≡ taken_in w stands.stream q rest next) → Falls w (after w (Hop q)) t
  ahead-falls next keeps goes led stands comes = by_behind stands.on.behind stands.on.way
    where
      ways : HasWays w stands.stream
      ways = led.ways.each stands.stream (position-Some (is_to e.packet.dst) w.plan.streams stands.stream no_stream stands.mine).0

      by_behind : (behind : List ℕ) → forward_way w.tree (plan_at w.plan stands.stream) ≡ stands.on.before ++ q ∷ behind → Falls w (after w (Hop q)) t
      by_behind [] way = subst (λ v. Falls w v t) (sym (comes stands.on.before ways way)) (taken-falls w stands.stream q rest next t keeps)
      by_behind (r ∷ behind) way =
          let stay = hops_ahead w stands.stream q r stands.on.before behind e rest lawful.steady.queues ways.forth is way goes (sym stands.to) in
          subst (λ v. Falls w v t) (sym stay.moves) (same w (moved w q r e rest) t refl)

  status-falls : (status : Status) → e.packet.body ≡ body.Status status → Falls w (after w (Hop q)) t
  status-falls status has = by_behind stands.on.behind stands.on.way
    where
      led : AreLed w
      led = led-of w q e rest lawful is (λ message. subst IsMessage has message)

      stands : StandsBack w.tree w.plan q e.packet.dst
      stands = stands-at w q e rest (body.Status status) led is has

      there : stands.stream < length w.plan.streams
      there = (position-Some (is_from e.packet.dst) w.plan.streams stands.stream no_stream stands.mine).0

      ways : HasWays w stands.stream
      ways = led.ways.each stands.stream there

      lt : stands.stream < length w.streams
      lt = subst (λ n. stands.stream < n) (sym lawful.steady.as_many) there

      tells : TellsReport e
      tells = subst (Tells w.plan e) has (subst (AllByRecursion (λ (f : Entry). Tells w.plan f f.packet.body)) is (lawful.steady.telling q)).0

      goes : GoesBack e.packet.body
      goes = subst GoesBack (sym has) tt

      next : Stream → Stream
      next = gets_status (plan_at w.plan stands.stream) (told_in e.tag)

      mine : back_way w.tree (plan_at w.plan stands.stream) ≡ stands.on.before ++ q ∷ [] → after w (Hop q) ≡ taken_in w stands.stream q rest next → Falls w (after w (Hop q)) stands.stream
      mine way comes =
          act-falls w (after w (Hop q)) stands.stream lawful lt
          (subst (λ v. (stream_at v stands.stream).sent ≡ (stream_at w stands.stream).sent) (sym comes)
          (one-set {B = ℕ} (λ r st none. st.sent ≡ (stream_at w r).sent) w.streams [] idle 0 (next (stream_at w stands.stream)) stands.stream (λ r. refl) refl stands.stream))
          (statuses_act w stands.stream q (is_closed (front w) stands.stream) (lawful.steady.flows stands.stream lt).state e rest status tells.told
          (record { there = lt; queues = lawful.steady.queues; shows = (lawful.steady.flows stands.stream lt).shows })
          (record { back = ways.back; mine = ways.from; front = is; before = stands.on.before; way = way; dst = sym stands.from }) has tells.tag)

      by_behind : (behind : List ℕ) → back_way w.tree (plan_at w.plan stands.stream) ≡ stands.on.before ++ q ∷ behind → Falls w (after w (Hop q)) t
      by_behind [] way =
          let comes = (statuses_come w stands.stream q stands.on.before e rest status lawful.steady.queues ways.back ways.from is way has (sym stands.from)).comes in
          elim (cases_Bool (t == stands.stream)) [
            | inl one ↦ subst (λ r. Falls w (after w (Hop q)) r) (sym (eqb-true t stands.stream one)) (mine way comes)
            | inr other ↦
                subst (λ v. Falls w v t) (sym comes) (same w (taken_in w stands.stream q rest next) t
                (ap (λ (st : Stream). st.sender.outstanding) (get_or-set_other w.streams stands.stream t (next (stream_at w stands.stream)) idle (λ is_it. false≢true (sym other ∙ eq-eqb t stands.stream is_it)))))
          ]
      by_behind (r ∷ behind) way =
          let stay = hops_back w stands.stream q r stands.on.before behind e rest lawful.steady.queues ways.back is way goes (sym stands.from) in
          subst (λ v. Falls w v t) (sym stay.moves) (same w (moved w q r e rest) t refl)

  entry-falls : Falls w (after w (Hop q)) t
  entry-falls = by_body e.packet.body refl
    where
      by_body : (b : Body) → e.packet.body ≡ b → Falls w (after w (Hop q)) t
      by_body (body.Samples time payload) has =
          let led = led-of w q e rest lawful is (λ message. subst IsMessage has message) in
          let stands = stands-at w q e rest (body.Samples time payload) led is has in
          ahead-falls (gets e.packet) (λ st. refl) (subst GoesAhead (sym has) tt) led stands (λ before ways way.
          (samples_come w stands.stream q before e rest time payload lawful.steady.queues ways.forth ways.to is way has (sym stands.to)).comes)
      by_body (body.Command c) has =
          let led = led-of w q e rest lawful is (λ message. subst IsMessage has message) in
          let stands = stands-at w q e rest (body.Command c) led is has in
          ahead-falls (gets_order c.op (counts_in e.tag)) (λ st. refl) (subst GoesAhead (sym has) tt) led stands (λ before ways way.
          (commands_come w stands.stream q before e rest c lawful.steady.queues ways.forth ways.to is way has (sym stands.to)).comes)
      by_body (body.Status status) has = status-falls status has
      by_body (body.Control control) has =
          let unseen = hops_unseen w t q e rest is (record { ahead = rw has refl; back = rw has refl }) (λ ends. subst (IsElsewhere w (end_of w.tree.links (link_of_queue q)) t) (sym has) tt) in
          same w (after w (Hop q)) t (ap (λ (st : Stream). st.sender.outstanding) unseen.stream)
      by_body (body.Management m) has =
          let unseen = hops_unseen w t q e rest is (record { ahead = rw has refl; back = rw has refl }) (λ ends. subst (IsElsewhere w (end_of w.tree.links (link_of_queue q)) t) (sym has) tt) in
          same w (after w (Hop q)) t (ap (λ (st : Stream). st.sender.outstanding) unseen.stream)

hop-falls : (w : State) (q t : ℕ) (entries : List Entry) → queue_at w.queues q ≡ entries → Lawful w → Falls w (after w (Hop q)) t
unfolding after
hop-falls w q t [] is lawful = subst (λ v. Falls w v t) (sym (ap (λ es. hops q es w) is)) (same w w t refl)
hop-falls w q t (e ∷ rest) is lawful = entry-falls w q t e rest lawful is

-- an event sends nothing
abbrev pub SendsNone : Event → Type 0
SendsNone (Enter s) = ⊥
SendsNone (Hop q) = Unit {0}
SendsNone (Seen s n) = Unit {0}
SendsNone (Feed b i) = Unit {0}
SendsNone (Report s) = Unit {0}
SendsNone (Command s op) = Unit {0}
SendsNone (Lose q) = Unit {0}
SendsNone (Reply x) = Unit {0}
SendsNone (Ask x) = Unit {0}

pub event-falls : (w : State) (e : Event) (t : ℕ) → SendsNone e → Lawful w → Falls w (after w e) t
unfolding after
event-falls w (Enter s) t none lawful = absurd none
event-falls w (Hop q) t none lawful = hop-falls w q t (queue_at w.queues q) refl lawful
event-falls w (Seen s n) t none lawful = changed w s (taken_to n) t refl
event-falls w (Feed b i) t none lawful = feeds-fall w b i t
event-falls w (Report s) t none lawful = over-changed w (first_link w.tree (plan_at w.plan s).to) _ _ _ _ s sends_status t refl
event-falls w (Command s op) t none lawful = over-changed w (first_link w.tree (plan_at w.plan s).from) _ _ _ _ s (sends_order op) t (order-keeps op (stream_at w s))
event-falls w (Lose q) t none lawful = loses-fall w q (queue_at w.queues q) t
event-falls w (Reply x) t none lawful = replies-fall w x (node_at w x).pending t
event-falls w (Ask x) t none lawful = asks-fall w x (node_at w x).requests t
