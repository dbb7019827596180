-- How the run of a stream goes on as the network changes.
use Rattle.std.proofs.Common.{◌≡◌, ◌≢◌, ℕ, ◌==◌, ◌≤◌, ◌<◌, ◌⊎◌, inl, inr, Bool, true, false, IsTrue, List, [], ◌∷◌, length, refl, sym, ◌∙◌, ap, subst, eq-eqb}
use Rattle.std.specs.Prelude.{◌&&◌, not}
use Rattle.std.proofs.lemmas.Bool.{cases_Bool, cases_lt, eqb-true}
use Rattle.std.proofs.lemmas.List.{get_or_past, length-map}
use Rattle.chdr_packets.specs.declared.packet.Packet.{Packet}
use Rattle.stream_endpoint.specs.Counts.{is_none}
use Rattle.stream_endpoint.specs.Sender.{is_covered, is_running}
use Rattle.stream_endpoint.specs.declared.state.OutState.{OutState}
use Rattle.stream_endpoint.specs.declared.state.OutState.TheVariants.{Opening, Running, Halted, Resyncing}
use Rattle.stream_laws.proofs.Laws.{goes_on, joins, stays_drained}
use Rattle.stream_laws.specs.Acts.{Close, Leads, after as act_after}
use Rattle.stream_laws.specs.Effects.{closes_core}
use Rattle.stream_laws.specs.Ends.{IsDrained}
use Rattle.stream_laws.specs.Laws.{IsRun}
use Rattle.stream_laws.specs.Machine.{Core, State as OneStream, Terms, opens}
use Rattle.net_machine.specs.declared.plan.RunPlan.{RunPlan}
use Rattle.net_machine.specs.declared.plan.StreamPlan.{StreamPlan}
use Rattle.net_machine.specs.Blocks.{drained_by, has_packet, is_closed, is_drained}
use Rattle.net_machine.specs.Front.{StreamFront, front, front_at, stream_front}
use Rattle.net_machine.specs.Plain.{numbered_from}
use Rattle.net_machine.specs.Plans.{plan_at}
use Rattle.net_machine.specs.State.{State, Stream, idle, stream_at}
use Rattle.net_machine.proofs.Laws.{fronts}
use Rattle.net_ways.specs.Hops.{IsUnseen}
use Rattle.net_streams.proofs.Laws.{unseen_shows}
use Rattle.net_streams.specs.Acting.{Acts}
use Rattle.net_streams.specs.Shows.{Shows, load_of, loads_of, terms_of}
use Rattle.net_flows.specs.Flows.{IsFlow}
use Rattle.net_flows.proofs.Closing.{both, joined}

-- the run of a stream goes on to a state that v shows, and stays drained if it was
pub record Went (terms : Terms) (v : State) (s : ℕ) (closed : Bool) (st : OneStream Packet) : Type 0 where
  pub state : OneStream Packet
  pub run : IsRun terms state
  pub shows : Shows v s closed state
  pub leads : Leads terms st state
  pub drained : IsDrained st → IsDrained state

pub went-by : (w v : State) (s : ℕ) (closed : Bool) (st : OneStream Packet) → IsRun (terms_of (plan_at w.plan s)) st → Acts w v s closed st → Went (terms_of (plan_at w.plan s)) v s closed st
went-by w v s closed st run acts =
    let terms = terms_of (plan_at w.plan s) in
    record {
      state = act_after terms st acts.act;
      run = record { valid = run.valid; run = goes_on terms (opens terms) st acts.act run.run acts.allowed };
      shows = acts.shows;
      leads = record { acts = acts.act ∷ []; legal = (acts.allowed, tt); there = refl };
      drained = λ d. stays_drained terms st run d acts.act acts.allowed;
    }

pub went-unseen : (terms : Terms) (w v : State) (s : ℕ) (closed : Bool) (st : OneStream Packet) → IsRun terms st → Shows w s closed st → IsUnseen w v s → Went terms v s closed st
went-unseen terms w v s closed st run shows unseen = record {
  state = st;
  run = run;
  shows = unseen_shows w v s closed st unseen shows;
  leads = record { acts = []; legal = tt; there = refl };
  drained = λ d. d;
}

pub went-on : (terms : Terms) (v u : State) (s : ℕ) (closed : Bool) (st : OneStream Packet) → (went : Went terms v s closed st) → Went terms u s closed went.state → Went terms u s closed st
went-on terms v u s closed st went further = record {
  state = further.state;
  run = further.run;
  shows = further.shows;
  leads = joins terms st went.state further.state went.leads further.leads;
  drained = λ d. further.drained (went.drained d);
}

-- the runs of all streams do, whose producers were finished or not
abbrev pub FlowsBy : (ℕ → Bool) → State → State → Type 0
FlowsBy closed w v = (s : ℕ) → s < length w.streams → (st : OneStream Packet) → IsRun (terms_of (plan_at w.plan s)) st → Shows w s (closed s) st →
    Went (terms_of (plan_at w.plan s)) v s (closed s) st

abbrev pub FlowsTo : State → State → Type 0
FlowsTo w v = FlowsBy (is_closed (front w)) w v

pub none-flows : (closed : ℕ → Bool) (w v : State) → ((s : ℕ) → s < length w.streams → IsUnseen w v s) → FlowsBy closed w v
none-flows closed w v unseen s there st run shows = went-unseen (terms_of (plan_at w.plan s)) w v s (closed s) st run shows (unseen s there)

not-both : (b : Bool) → b ≡ true → b ≡ false → ⊥
not-both true g h = cc
not-both false g h = cc

-- only stream t sees a change
pub one-flows : (closed : ℕ → Bool) (w v : State) (t : ℕ) → ((s : ℕ) → s < length w.streams → s ≢ t → IsUnseen w v s) →
    (t < length w.streams → (st : OneStream Packet) → IsRun (terms_of (plan_at w.plan t)) st → Shows w t (closed t) st → Acts w v t (closed t) st) → FlowsBy closed w v
one-flows closed w v t others itself s = by_number (cases_Bool (s == t))
  where
    by_number : ((s == t) ≡ true) ⊎ ((s == t) ≡ false) → s < length w.streams → (st : OneStream Packet) → IsRun (terms_of (plan_at w.plan s)) st → Shows w s (closed s) st →
        Went (terms_of (plan_at w.plan s)) v s (closed s) st
    by_number (inl same) =
        subst (λ (k : ℕ). k < length w.streams → (st : OneStream Packet) → IsRun (terms_of (plan_at w.plan k)) st → Shows w k (closed k) st → Went (terms_of (plan_at w.plan k)) v k (closed k) st)
        (sym (eqb-true s t same))
        (λ there st run shows. went-by w v t (closed t) st run (itself there st run shows))
    by_number (inr differ) = λ there st run shows.
        went-unseen (terms_of (plan_at w.plan s)) w v s (closed s) st run shows (others s there (λ e. absurd (not-both (s == t) (eq-eqb s t e) differ)))

-- both changes, one after the other
pub flows-on : (closed : ℕ → Bool) (w v u : State) → v.plan ≡ w.plan → length v.streams ≡ length w.streams → FlowsBy closed w v → FlowsBy closed v u → FlowsBy closed w u
flows-on closed w v u plan as_many first second s there st run shows =
    let terms = terms_of (plan_at w.plan s) in
    let went = first s there st run shows in
    let same : terms ≡ terms_of (plan_at v.plan s) = ap (λ (p : RunPlan). terms_of (plan_at p s)) (sym plan) in
    let there_then : s < length v.streams = subst (λ (n : ℕ). s < n) (sym as_many) there in
    went-on terms v u s (closed s) st went
    (subst (λ (t : Terms). Went t u s (closed s) went.state) (sym same) (second s there_then went.state (subst (λ (t : Terms). IsRun t went.state) same went.run) went.shows))

-- ---- drained streams

running-is : (o : OutState) → IsTrue (is_running o) → o ≡ Running
running-is Opening h = cc
running-is Running h = refl
running-is Halted h = cc
running-is Resyncing h = cc

none-ready : (ready : List Packet) → IsTrue (not (has_packet ready)) → ready ≡ []
none-ready [] h = refl
none-ready (p ∷ ps) h = cc

no-packet : (plan : StreamPlan) (place : ℕ) (ready : List Packet) → loads_of (numbered_from plan place ready) ≡ [] → IsTrue (not (has_packet ready))
no-packet plan place [] h = refl
no-packet plan place (p ∷ ps) h = cc

-- what the network finds drained is drained, and shows so
drained-shown : (w : State) (s : ℕ) (closed : Bool) (st : OneStream Packet) → Shows w s closed st → IsTrue (drained_by closed (stream_front (stream_at w s))) → IsDrained st
drained-shown w s closed st shows h =
    let plan = plan_at w.plan s in
    let old = stream_at w s in
    let a = both closed (not (has_packet old.ready) && (is_running old.sender.state && (is_none old.sender.outstanding && (old.taken == length old.given)))) h in
    let b = both (not (has_packet old.ready)) (is_running old.sender.state && (is_none old.sender.outstanding && (old.taken == length old.given))) a.1 in
    let c = both (is_running old.sender.state) (is_none old.sender.outstanding && (old.taken == length old.given)) b.1 in
    let d = both (is_none old.sender.outstanding) (old.taken == length old.given) c.1 in
    record {
      closed = ap (λ (k : Core Packet). k.closed) shows.core ∙ a.0;
      none_ready = ap (λ (k : Core Packet). k.ready) shows.core
          ∙ ap (λ (ready : List Packet). loads_of (numbered_from plan (length old.sent) ready)) (none-ready old.ready b.0);
      running = ap (λ (k : Core Packet). k.sender.state) shows.core ∙ running-is old.sender.state c.0;
      covered = ap (λ (k : Core Packet). is_covered k.sender) shows.core ∙ d.0;
      all_taken = ap (λ (k : Core Packet). k.taken) shows.core ∙ eqb-true old.taken (length old.given) d.1
          ∙ sym (ap (λ (k : Core Packet). length k.given) shows.core ∙ length-map old.given load_of);
    }

drained-tests : (v : State) (s : ℕ) (closed : Bool) (st : OneStream Packet) → Shows v s closed st → IsDrained st → IsTrue (drained_by true (stream_front (stream_at v s)))
drained-tests v s closed st shows drained =
    let plan = plan_at v.plan s in
    let new = stream_at v s in
    let ready : IsTrue (not (has_packet new.ready)) =
    no-packet plan (length new.sent) new.ready (sym (ap (λ (k : Core Packet). k.ready) shows.core) ∙ drained.none_ready) in
    let running : IsTrue (is_running new.sender.state) =
    ap is_running (sym (ap (λ (k : Core Packet). k.sender.state) shows.core) ∙ drained.running) in
    let covered : IsTrue (is_none new.sender.outstanding) = sym (ap (λ (k : Core Packet). is_covered k.sender) shows.core) ∙ drained.covered in
    let taken : new.taken ≡ length new.given =
    sym (ap (λ (k : Core Packet). k.taken) shows.core) ∙ drained.all_taken ∙ ap (λ (k : Core Packet). length k.given) shows.core ∙ length-map new.given load_of in
    joined (not (has_packet new.ready)) _ ready
    (joined (is_running new.sender.state) _ running
    (joined (is_none new.sender.outstanding) _ covered (eq-eqb new.taken (length new.given) taken)))

pub stays-drained : (w v : State) → FlowsTo w v → ((s : ℕ) → s < length w.streams → IsFlow w s) → (s : ℕ) → IsTrue (is_drained (front w) s) → IsTrue (drained_by true (front_at (front v) s))
stays-drained w v flows each s h = by_order (cases_lt s (length w.streams))
  where
    here : IsTrue (drained_by (is_closed (front w) s) (stream_front (stream_at w s)))
    here = subst (λ (t : StreamFront). IsTrue (drained_by (is_closed (front w) s) t)) (fronts.stream w s) h

    never : (closed : Bool) → IsTrue (drained_by closed (stream_front idle)) → ⊥
    never true g = cc
    never false g = cc

    by_order : (s < length w.streams) ⊎ (length w.streams ≤ s) → IsTrue (drained_by true (front_at (front v) s))
    by_order (inl there) =
        let flow = each s there in
        let went = flows s there flow.state flow.run flow.shows in
        subst (λ (t : StreamFront). IsTrue (drained_by true t)) (sym (fronts.stream v s))
        (drained-tests v s (is_closed (front w) s) went.state went.shows (went.drained (drained-shown w s (is_closed (front w) s) flow.state flow.shows here)))
    by_order (inr past) =
        absurd (never (is_closed (front w) s) (subst (λ (it : Stream). IsTrue (drained_by (is_closed (front w) s) (stream_front it))) (get_or_past w.streams s idle past) here))

-- ---- the producer makes no more

record IsFlowWith (v : State) (s : ℕ) (closed : Bool) : Type 0 where
  state : OneStream Packet
  run : IsRun (terms_of (plan_at v.plan s)) state
  shows : Shows v s closed state

closes : (v : State) (s : ℕ) (before now : Bool) (st : OneStream Packet) → (IsTrue before → IsTrue now) → IsRun (terms_of (plan_at v.plan s)) st → Shows v s before st → IsFlowWith v s now
closes v s true true st stays run shows = record { state = st; run = run; shows = shows }
closes v s false false st stays run shows = record { state = st; run = run; shows = shows }
closes v s true false st stays run shows = absurd (no (stays refl))
  where
    no : IsTrue false → ⊥
    no h = cc
closes v s false true st stays run shows =
    let terms = terms_of (plan_at v.plan s) in
    record {
      state = act_after terms st Close;
      run = record { valid = run.valid; run = goes_on terms (opens terms) st Close run.run tt };
      shows = record { core = ap closes_core shows.core; forward = shows.forward; back = shows.back };
    }

-- each stream shows a run then, whose producer is finished or not
pub flow-of : (v : State) (s : ℕ) (before : Bool) (st : OneStream Packet) → (IsTrue before → IsTrue (is_closed (front v) s)) → IsRun (terms_of (plan_at v.plan s)) st → Shows v s before st → IsFlow v s
flow-of v s before st stays run shows =
    let with_it = closes v s before (is_closed (front v) s) st stays run shows in
    record { state = with_it.state; run = with_it.run; shows = with_it.shows }
