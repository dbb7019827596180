-- How the potentials of a network's streams follow its events.
use Rattle.std.proofs.Common.{◌≡◌, ℕ, ◌+◌, ◌-◌, ◌≤◌, ◌<◌, Bool, List, length, sym, ◌∙◌, ap, subst, arith}
use Rattle.std.specs.List.{flat_map}
use Rattle.std.proofs.lemmas.List.{length-map}
use Rattle.chdr_packets.specs.declared.packet.Packet.{Packet}
use Rattle.stream_endpoint.specs.Counts.{count}
use Rattle.stream_endpoint.specs.Epochs.{Told}
use Rattle.stream_laws.specs.Acts.{after as act_after}
use Rattle.stream_laws.specs.Chains.{flying}
use Rattle.stream_laws.specs.Laws.{IsRun}
use Rattle.stream_laws.specs.Machine.{Core, Entry as Flight, State as OneStream, Terms, opens}
use Rattle.stream_laws.specs.Potential.{potential}
use Rattle.stream_laws.specs.Talk.{Holds}
use Rattle.stream_laws.proofs.Laws.{holds_run, is_low, joins}
use Rattle.net_machine.specs.Blocks.{is_closed}
use Rattle.net_machine.specs.Front.{front}
use Rattle.net_machine.specs.Plans.{plan_at}
use Rattle.net_machine.specs.State.{State, stream_at}
use Rattle.net_ways.specs.Ways.{ahead, back}
use Rattle.net_streams.specs.Acting.{Acts}
use Rattle.net_streams.specs.Shows.{Shows, core_of, flight_of, load_of, terms_of, told_of}
use Rattle.net_flows.specs.Flows.{IsFlow, IsSteady}
use Rattle.net_weights.specs.Charge.{potential_at}
use Rattle.net_flows.specs.Going.{EachGoesOn}
use Rattle.net_weights.proofs.Acting.{act-run, command-lowers, leads-low}

-- the potential, by what it reads
reads : Core Packet → List (Flight Packet) → List Told → ℕ → ℕ
reads core forward back missing = potential (record { core = core; forward = forward; back = back; next = 0; missing = count missing 0 })

-- what is missing is what was sent, and neither came nor is under way
missing-is : (a b c m : ℕ) → a + b + m ≡ c → m ≡ c - (a + b)
missing-is a b c m is = omega arith

-- a state that the network shows has the potential that the network tells
pub potential-shown : (terms : Terms) (w : State) (s : ℕ) (closed : Bool) (st : OneStream Packet) → Holds terms st → Shows w s closed st → potential st ≡ potential_at w s
unfolding reads potential_at
potential-shown terms w s closed st holds shows =
    let core = core_of (plan_at w.plan s) closed (stream_at w s) in
    let forward = flat_map flight_of (ahead w s) in
    let back = flat_map told_of (back w s) in
    let balance : st.core.receiver.reached.packets + (flying st.forward).packets + st.missing.packets ≡ st.core.sender.sent.packets = holds.balanced.packets in
    let missing : st.missing.packets ≡ core.sender.sent.packets - (core.receiver.reached.packets + (flying forward).packets) =
    missing-is st.core.receiver.reached.packets (flying st.forward).packets st.core.sender.sent.packets st.missing.packets balance
    ∙ ap (λ (c : Core Packet). c.sender.sent.packets - (c.receiver.reached.packets + (flying st.forward).packets)) shows.core
    ∙ ap (λ (es : List (Flight Packet)). core.sender.sent.packets - (core.receiver.reached.packets + (flying es).packets)) shows.forward in
    ap (λ (c : Core Packet). reads c st.forward st.back st.missing.packets) shows.core
    ∙ ap (λ (es : List (Flight Packet)). reads core es st.back st.missing.packets) shows.forward
    ∙ ap (λ (ts : List Told). reads core forward ts st.missing.packets) shows.back
    ∙ ap (λ (m : ℕ). reads core forward back m) missing

-- ---- one stream

-- no potential is above 11
pub potential-low : (v : State) (s : ℕ) → IsFlow v s → potential_at v s ≤ 11
potential-low v s flow =
    let terms = terms_of (plan_at v.plan s) in
    subst (λ (n : ℕ). n ≤ 11) (potential-shown terms v s (is_closed (front v) s) flow.state (holds_run terms flow.state flow.run) flow.shows) (is_low terms flow.state flow.run)

sent-shown : (w : State) (s : ℕ) (closed : Bool) (st : OneStream Packet) → Shows w s closed st → length st.core.sent ≡ length (stream_at w s).sent
sent-shown w s closed st shows = ap (λ (c : Core Packet). length c.sent) shows.core ∙ length-map (stream_at w s).sent load_of

losses-shown : (w : State) (s : ℕ) (closed : Bool) (st : OneStream Packet) → Shows w s closed st → st.core.losses ≡ (stream_at w s).losses
losses-shown w s closed st shows = ap (λ (c : Core Packet). c.losses) shows.core

-- a stream that neither sends nor loses has no greater potential
pub potential-stays : (w v : State) (s : ℕ) → s < length w.streams → IsSteady w → EachGoesOn w v → length (stream_at v s).sent ≤ length (stream_at w s).sent → (stream_at v s).losses ≤ (stream_at w s).losses →
    potential_at v s ≤ potential_at w s
potential-stays w v s there steady each sent losses =
    let terms = terms_of (plan_at w.plan s) in
    let closed = is_closed (front w) s in
    let flow = steady.flows s there in
    let goes = each s there flow.state flow.run flow.shows in
    let run : IsRun terms goes.state = record { valid = flow.run.valid; run = joins terms (opens terms) flow.state goes.state flow.run.run goes.leads } in
    let old = potential-shown terms w s closed flow.state (holds_run terms flow.state flow.run) flow.shows in
    let new = potential-shown terms v s closed goes.state (holds_run terms goes.state run) goes.shows in
    let sent_old = sent-shown w s closed flow.state flow.shows in
    let sent_new = sent-shown v s closed goes.state goes.shows in
    let losses_old = losses-shown w s closed flow.state flow.shows in
    let losses_new = losses-shown v s closed goes.state goes.shows in
    let low = leads-low terms flow.state goes.state flow.run goes.leads
    (least _ _ _ _ sent_new sent_old sent) (least _ _ _ _ losses_new losses_old losses) in
    least _ _ _ _ (sym new) (sym old) low
  where
    least : (a b c d : ℕ) → a ≡ b → c ≡ d → b ≤ d → a ≤ c
    least a b c d is same le = omega arith

-- a stream that gives a command, which is under way then, has a lower one
pub command-potential : (w v : State) (s : ℕ) → s < length w.streams → (flow : IsFlow w s) → Acts w v s (is_closed (front w) s) flow.state → length (stream_at v s).sent ≤ length (stream_at w s).sent →
    length (flat_map flight_of (ahead w s)) < length (flat_map flight_of (ahead v s)) → potential_at v s < potential_at w s
command-potential w v s there flow acts sent more =
    let terms = terms_of (plan_at w.plan s) in
    let closed = is_closed (front w) s in
    let next = act_after terms flow.state acts.act in
    let run = act-run terms flow.state acts.act flow.run acts.allowed in
    let old = potential-shown terms w s closed flow.state (holds_run terms flow.state flow.run) flow.shows in
    let new = potential-shown terms v s closed next (holds_run terms next run) acts.shows in
    let ways_old = ap (λ (es : List (Flight Packet)). length es) flow.shows.forward in
    let ways_new = ap (λ (es : List (Flight Packet)). length es) acts.shows.forward in
    let less = command-lowers terms flow.state acts.act flow.run acts.allowed
    (least _ _ _ _ (sent-shown v s closed next acts.shows) (sent-shown w s closed flow.state flow.shows) sent)
    (fewer _ _ _ _ ways_old ways_new more) in
    fewer _ _ _ _ (sym new) (sym old) less
  where
    least : (a b c d : ℕ) → a ≡ b → c ≡ d → b ≤ d → a ≤ c
    least a b c d is same le = omega arith

    fewer : (a b c d : ℕ) → a ≡ b → c ≡ d → b < d → a < c
    fewer a b c d is same lt = omega arith
