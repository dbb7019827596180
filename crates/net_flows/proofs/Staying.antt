-- What lasts of a network and its streams stays, whatever event happens.
use Rattle.std.proofs.Common.{◌≡◌, ℕ, ◌<◌, IsTrue, [], ◌∷◌, length, sym, ◌∙◌, ap, subst}
use Rattle.std.specs.Prelude.{not}
use Rattle.std.specs.List.{AllByRecursion, list_all}
use Rattle.stream_laws.specs.Laws.{IsRun}
use Rattle.stream_laws.specs.Machine.{Terms}
use Rattle.net_topology.specs.declared.plan.Plan.{Plan}
use Rattle.net_machine.specs.declared.event.Event.{Event}
use Rattle.net_machine.specs.declared.event.Event.TheVariants.{Enter, Hop, Seen, Feed, Report, Command, Lose, Reply, Ask}
use Rattle.net_machine.specs.declared.plan.RunPlan.{RunPlan}
use Rattle.net_machine.specs.Blocks.{has_packet, is_clear, is_closed}
use Rattle.net_machine.specs.Conditions.{enabled}
use Rattle.net_machine.specs.Effects.{after}
use Rattle.net_machine.specs.Front.{StreamFront, front, front_at}
use Rattle.net_machine.specs.Laws.{KeepsShape}
use Rattle.net_machine.specs.Moves.{Happens, after_all}
use Rattle.net_machine.specs.Plans.{block_at, is_tx, plan_at, stream_from}
use Rattle.net_machine.specs.State.{Entry, State, queue_at, stream_at}
use Rattle.net_machine.proofs.Laws.{fronts, shape_stays}
use Rattle.net_ways.proofs.Laws.{messages_stay, queues_stay}
use Rattle.net_ways.specs.Standing.{ArePlaced, HaveWays}
use Rattle.net_ways.specs.Ways.{HasQueues}
use Rattle.net_streams.specs.Shows.{terms_of}
use Rattle.net_flows.specs.Closing.{EventsKeepEnds, KeepsEnds}
use Rattle.net_flows.specs.Going.{EachGoesOn, EventsGoOn, UnseenGoesOn}
use Rattle.net_flows.specs.Flows.{IsFlow, IsSteady, SteadyStays, UnseenFlows}
use Rattle.net_flows.specs.Forms.{HasForm, Tells}
use Rattle.net_flows.specs.Lasting.{IsSound}
use Rattle.net_flows.proofs.Closing.{all-more, closed_stays, some-more}
use Rattle.net_flows.proofs.Entering.{ask-steps, command-steps, enter-steps, reply-steps, report-steps, seen-steps}
use Rattle.net_flows.proofs.Feeding.{feed-steps}
use Rattle.net_flows.proofs.Following.{FlowsTo, flow-of, none-flows, stays-drained}
use Rattle.net_flows.proofs.Hopping.{hop-steps, lose-steps}
use Rattle.net_flows.proofs.Keeping.{Steps, clear_in, kept-unseen}

steps-of : (w : State) (e : Event) → IsSteady w → HaveWays w → ArePlaced w → IsTrue (enabled w e) → Steps w (after w e)
steps-of w (Enter s) steady ways placed may_it = enter-steps w s steady ways may_it
steps-of w (Command s op) steady ways placed may_it = command-steps w s op steady ways may_it
steps-of w (Report s) steady ways placed may_it = report-steps w s steady ways may_it
steps-of w (Seen s n) steady ways placed may_it = seen-steps w s n steady may_it
steps-of w (Feed b i) steady ways placed may_it = feed-steps w b i steady may_it
steps-of w (Ask x) steady ways placed may_it = ask-steps w x steady
steps-of w (Reply x) steady ways placed may_it = reply-steps w x steady
steps-of w (Lose q) steady ways placed may_it = lose-steps w q steady ways placed
steps-of w (Hop q) steady ways placed may_it = hop-steps w q steady ways placed

-- ---- each stream goes on as a run

-- the front tells what is clear
clear-shown : (w : State) (b : ℕ) → IsTrue (list_all (is_clear (front w)) (block_at w.plan b).outs) → IsTrue (list_all (clear_in w.plan w) (block_at w.plan b).outs)
clear-shown w b =
    all-more (is_clear (front w)) (clear_in w.plan w) (block_at w.plan b).outs
    (λ e. some-more (λ s. not (has_packet (front_at (front w) s).ready)) (λ s. not (has_packet (stream_at w s).ready)) (stream_from w.plan e)
    (λ s h. subst (λ (t : StreamFront). IsTrue (not (has_packet t.ready))) (fronts.stream w s) h))

clear-front : (v : State) (plan : RunPlan) (b : ℕ) → v.plan ≡ plan → IsTrue (list_all (clear_in plan v) (block_at plan b).outs) → IsTrue (list_all (is_clear (front v)) (block_at plan b).outs)
clear-front v plan b same =
    subst (λ (p : RunPlan). IsTrue (list_all (clear_in p v) (block_at plan b).outs) → IsTrue (list_all (is_clear (front v)) (block_at plan b).outs)) same
    (all-more (clear_in v.plan v) (is_clear (front v)) (block_at plan b).outs
    (λ e. some-more (λ s. not (has_packet (stream_at v s).ready)) (λ s. not (has_packet (front_at (front v) s).ready)) (stream_from v.plan e)
    (λ s h. subst (λ (t : StreamFront). IsTrue (not (has_packet t.ready))) (sym (fronts.stream v s)) h)))

-- what a Tx used up stays so
abbrev UsedUp : State → State → Type 0
UsedUp w v = (b : ℕ) → IsTrue (is_tx (block_at w.plan b).kind) → IsTrue (list_all (clear_in w.plan w) (block_at w.plan b).outs) → IsTrue (list_all (clear_in w.plan v) (block_at w.plan b).outs)

ends-kept : (w v : State) → v.plan ≡ w.plan → FlowsTo w v → UsedUp w v → ((s : ℕ) → s < length w.streams → IsFlow w s) → KeepsEnds (front w) (front v)
ends-kept w v plan flows used_up each = record {
  plan = plan;
  used_up = λ b tx clear. clear-front v w.plan b plan (used_up b tx (clear-shown w b clear));
  drained = stays-drained w v flows each;
}

flows-stay : (w v : State) → v.plan ≡ w.plan → length v.streams ≡ length w.streams → FlowsTo w v → UsedUp w v → ((s : ℕ) → s < length w.streams → IsFlow w s) →
    (s : ℕ) → s < length v.streams → IsFlow v s
flows-stay w v plan as_many flows used_up each s there =
    let before : s < length w.streams = subst (λ (n : ℕ). s < n) as_many there in
    let flow = each s before in
    let went = flows s before flow.state flow.run flow.shows in
    let same : terms_of (plan_at w.plan s) ≡ terms_of (plan_at v.plan s) = ap (λ (p : RunPlan). terms_of (plan_at p s)) (sym plan) in
    flow-of v s (is_closed (front w) s) went.state (closed_stays (front w) (front v) s (ends-kept w v plan flows used_up each))
    (subst (λ (t : Terms). IsRun t went.state) same went.run) went.shows

pub events_keep_ends : EventsKeepEnds
events_keep_ends w e steady ways placed may_it =
    let steps = steps-of w e steady ways placed may_it in
    ends-kept w (after w e) (shape_stays w (Happens e)).plan steps.flows steps.used_up steady.flows

goes-on : (w v : State) → FlowsTo w v → EachGoesOn w v
goes-on w v flows s there st run shows =
    let went = flows s there st run shows in record { state = went.state; leads = went.leads; shows = went.shows }

pub events_go_on : EventsGoOn
events_go_on w e steady ways placed may_it = goes-on w (after w e) (steps-of w e steady ways placed may_it).flows

pub unseen_goes_on : UnseenGoesOn
unseen_goes_on w v unseen = goes-on w v (none-flows (is_closed (front w)) w v (λ s there. unseen s))

pub unseen_flows : UnseenFlows
unseen_flows w v as_many unseen each =
    flows-stay w v (unseen 0).plan as_many (none-flows (is_closed (front w)) w v (λ s there. unseen s))
    (λ b tx. all-more (clear_in w.plan w) (clear_in w.plan v) (block_at w.plan b).outs
    (λ e. some-more (λ s. not (has_packet (stream_at w s).ready)) (λ s. not (has_packet (stream_at v s).ready)) (stream_from w.plan e) (λ s. (kept-unseen w v s (unseen s)).clear))) each

-- ---- all that lasts

sound-still : (t u : Plan) (p q : RunPlan) → u ≡ t → q ≡ p → IsSound t p → IsSound u q
sound-still t u p q tree plan sound = subst (λ (x : Plan). IsSound x q) (sym tree) (subst (IsSound t) (sym plan) sound)

queues-still : (w : State) (e : Event) → HasQueues w → HasQueues (after w e)
unfolding after_all
queues-still w e has = queues_stay w (Happens e ∷ []) has

pub steady_stays : SteadyStays
steady_stays w e steady ways placed may_it =
    let v = after w e in
    let shape : KeepsShape w v = shape_stays w (Happens e) in
    let steps = steps-of w e steady ways placed may_it in
    record {
      queues = queues-still w e steady.queues;
      plan = sound-still w.tree v.tree w.plan v.plan shape.tree shape.plan steady.plan;
      as_many = shape.streams ∙ steady.as_many ∙ ap (λ (p : RunPlan). length p.streams) (sym shape.plan);
      messages = messages_stay w (Happens e) may_it steady.messages;
      telling = subst (λ (p : RunPlan). (q : ℕ) → AllByRecursion (λ (f : Entry). Tells p f f.packet.body) (queue_at v.queues q)) (sym shape.plan) steps.telling;
      forms = λ s there. subst (λ (p : RunPlan). HasForm p s (stream_at v s)) (sym shape.plan) (steps.forms s (steady.forms s (subst (λ (n : ℕ). s < n) shape.streams there)));
      flows = flows-stay w v shape.plan shape.streams steps.flows steps.used_up steady.flows;
    }
