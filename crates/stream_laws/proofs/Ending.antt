-- How a stream comes to rest.
use Rattle.std.proofs.Common.{◌≡◌, ℕ, zero, suc, ◌+◌, ◌<◌, ◌≤◌, ◌==◌, ◌&&◌, not, cond, ◌⊎◌, inl, inr, Bool, true, false, Option, Some, None, List, [], ◌∷◌, length, take, slice_get, refl, ap, sym, ◌∙◌, subst, arith}
use Rattle.std.specs.List.{AllByRecursion}
use Rattle.std.proofs.lemmas.Bool.{cases_Bool, cases_lt}
use Rattle.std.proofs.lemmas.Bool.Decides.{nat_tests}
use Rattle.std.proofs.Math.Seq.{take-length}
use Rattle.chdr_words.specs.declared.command.CmdOp.{CmdOp}
use Rattle.chdr_words.specs.declared.command.CmdOp.TheVariants.{Init, Ping, Resync, Other}
use Rattle.stream_endpoint.specs.declared.count.Count.{Count}
use Rattle.stream_endpoint.specs.declared.flow.Policy.{Policy}
use Rattle.stream_endpoint.specs.declared.flow.Flow.{Flow}
use Rattle.stream_endpoint.specs.declared.state.Arrived.TheVariants.{Kept, Gap as GapAt}
use Rattle.stream_endpoint.specs.declared.state.Gap.{Gap}
use Rattle.stream_endpoint.specs.declared.state.OutState.{OutState}
use Rattle.stream_endpoint.specs.declared.state.OutState.TheVariants.{Opening, Running, Halted, Resyncing}
use Rattle.stream_endpoint.specs.Counts.{is_none, minus}
use Rattle.stream_endpoint.specs.Flow.{HasCredit, IsValid}
use Rattle.stream_endpoint.specs.InEnd.{code_by}
use Rattle.stream_endpoint.specs.Receiver.{expected, is_due, transferred}
use Rattle.stream_endpoint.specs.Sender.{Sender, after_okay, has_missed, hears_left, is_covered, known, learns}
use Rattle.stream_laws.specs.Machine.{Cut, Entry, Data, Command, Load, State, Terms, Told, number_at}
use Rattle.stream_laws.specs.Acts.{Act, Allowed, IsQuiet, IsStuck, after, Fill, Close, Enter, Order, Keep, Break, Discard, Obey, Renew, Take, Report, Hear, LosePacket, LoseCommand, LoseStatus}
use Rattle.stream_laws.specs.Chains.{Rises, badness, bad_told, flying, orders, packets_told}
use Rattle.stream_laws.specs.Ends.{EndsWell, GivesAll, IsDrained, IsHalted, IsOwn, IsQuietAtRest, StaysDrained, Waits}
use Rattle.stream_laws.specs.Epochs.{EachEpoch, IsEpoch, begun, reach}
use Rattle.stream_laws.specs.Invariant.{Rising}
use Rattle.stream_laws.specs.Laws.{IsRun}
use Rattle.stream_laws.specs.Talk.{Holds, Talk}
use Rattle.stream_laws.proofs.Chains.{flying_packets-append, orders-append, rises_le}
use Rattle.stream_laws.proofs.Consequences.{holds_run}
use Rattle.stream_laws.proofs.StepsBack.{read_back}

both_true : (a b : Bool) → (a && b) ≡ true → (a ≡ true) × (b ≡ true)
both_true true true e = (refl, refl)
both_true true false e = absurd (cc e)
both_true false b e = absurd (cc e)

is_zero : (n : ℕ) → (n == 0) ≡ true → n ≡ 0
is_zero n e = grind (arith, nat_tests)

pub none_means : (p b : ℕ) → ((p == 0) && (b == 0)) ≡ true → (p ≡ 0) × (b ≡ 0)
none_means p b e = let both = both_true (p == 0) (b == 0) e in (is_zero p both.0, is_zero b both.1)

-- what is left of a drained stream: nothing is under way but statuses
pub record IsSettled {A : Type 0} (st : State A) : Type 0 where
  pub nothing_owed : st.core.sender.outstanding.packets ≡ 0
  pub no_bytes_owed : st.core.sender.outstanding.bytes ≡ 0
  pub no_data : (flying st.forward).packets ≡ 0
  pub none_missing : st.missing.packets ≡ 0
  pub all_reached : st.core.receiver.reached.packets ≡ st.core.sender.sent.packets

pub settled : {A : Type 0} (terms : Terms) (st : State A) → Holds terms st → is_covered st.core.sender ≡ true → IsSettled st
settled terms st h covered =
    let zero' = none_means _ _ covered in
    let p = zero'.0 in
    let b = zero'.1 in
    let known' = rises_le packets_told _ st.back _ h.rising.packets in
    let balance = h.balanced.packets in
    record { nothing_owed = p; no_bytes_owed = b; no_data = omega arith; none_missing = omega arith; all_reached = omega arith }

same_by_get : {X : Type 0} (xs ys : List X) → ((k : ℕ) → k < length xs → slice_get xs k ≡ slice_get ys k) → length xs ≡ length ys → xs ≡ ys
same_by_get [] [] same le = refl
same_by_get [] (y ∷ ys) same le = absurd (omega arith)
same_by_get (x ∷ xs) [] same le = absurd (omega arith)
same_by_get (x ∷ xs) (y ∷ ys) same le =
    let first : Some x ≡ Some y = same zero (omega arith) in
    let rest = same_by_get xs ys (λ k below. same (suc k) (omega arith)) (omega arith) in
    cc (first, rest)

no_cuts : (cuts : List Cut) → length cuts ≡ 0 → cuts ≡ []
no_cuts [] e = refl
no_cuts (cut ∷ cuts) e = absurd (omega arith)

pub gives_all : {A : Type 0} (terms : Terms) (st : State A) → IsRun terms st → GivesAll terms st
gives_all {A} terms st run drained none_lost =
    let h = holds_run terms st run in
    let s = settled terms st h drained.covered in
    let unlost = ap length none_lost in
    let uncut : length st.core.cuts ≡ 0 = (elim (cases_lt 0 (length st.core.cuts)) [ inl some ↦ (let n = h.unhurt.none_cut some in absurd (omega arith)) | inr low ↦ omega arith ]) in
    let bare = no_cuts st.core.cuts uncut in
    let epoch = subst (λ cuts. EachEpoch (IsEpoch st.core.sent st.core.given st.core.lost) cuts (reach st.core.sent st.core.given)) bare h.epochs in
    let from : ((begun st.core.cuts).sent ≡ 0) × ((begun st.core.cuts).given ≡ 0) = (ap (λ cuts. (begun cuts).sent) bare, ap (λ cuts. (begun cuts).given) bare) in
    let reached_is = h.received.reached_is in
    let total = h.counted.sent_packets in
    let all = s.all_reached in
    let long : length st.core.given ≡ length st.core.sent = omega arith in
    let same : st.core.given ≡ st.core.sent = same_by_get st.core.given st.core.sent (λ k below. (
    let e : 0 + k ≡ k = omega arith in
    subst (λ n. slice_get st.core.given n ≡ slice_get st.core.sent n) e (epoch.same k (omega arith))
    )) long in
    (same, subst (λ n. take n st.core.given ≡ st.core.sent) (sym drained.all_taken) (take-length st.core.given ∙ same))

-- in Running no command is under way if all is known
running_still : {A : Type 0} (terms : Terms) (st : State A) (state : OutState) → state ≡ Running → is_covered st.core.sender ≡ true → Talk terms state st
    → (orders st.forward ≡ 0) × Rises bad_told 0 st.back (badness st.core.receiver.broken) × (badness st.core.receiver.broken ≤ st.missing.packets)
running_still terms st Opening is covered h = absurd (cc is)
running_still terms st Running is covered h = (idle (cases_Bool st.core.sender.pinging), h.worse, h.some_missing)
  where
    idle : (st.core.sender.pinging ≡ true) ⊎ (st.core.sender.pinging ≡ false) → orders st.forward ≡ 0
    idle (inl p) = absurd (let owing = (h.asked p).owing in cc (owing, covered))
    idle (inr q) = h.unasked q
running_still terms st Halted is covered h = absurd (cc is)
running_still terms st Resyncing is covered h = absurd (cc is)

-- an OKAY that covers what was sent leaves a running sender running
okay_stays : (policy : Policy) (left : Count) (s : Sender) (state : OutState) (missed : Bool) → state ≡ Running → missed ≡ false
    → after_okay state policy missed (learns left s) ≡ learns left s
okay_stays policy left s Opening missed is no' = absurd (cc is)
okay_stays policy left s Running true is no' = absurd (cc no')
okay_stays policy left s Running false is no' = refl
okay_stays policy left s Halted missed is no' = absurd (cc is)
okay_stays policy left s Resyncing missed is no' = absurd (cc is)

heard_stays : (policy : Policy) (left : Count) (s : Sender) (gap : Option Gap) → s.state ≡ Running → badness gap ≡ 0 → is_none left ≡ true
    → hears_left policy (code_by gap) left s ≡ learns left s
heard_stays policy left s None is good none' = okay_stays policy left s s.state (has_missed left s) is (missed s.pinging (is_none left) none')
  where
    missed : (a b : Bool) → b ≡ true → (a && not b) ≡ false
    missed true true e = refl
    missed true false e = absurd (cc e)
    missed false b e = refl
heard_stays policy left s (Some gap) is good none' = absurd (omega arith)

pub none_left : (p b : ℕ) → p ≡ 0 → b ≡ 0 → ((p == 0) && (b == 0)) ≡ true
none_left p b zp zb = rw (zp, zb) refl

drained_hear : {A : Type 0} (terms : Terms) (st : State A) (s : Told) (rest : List Told) → IsValid terms.flow → Holds terms st → IsDrained st
    → st.back ≡ s ∷ rest → IsDrained (after terms st (Hear s rest))
drained_hear {A} terms st s rest valid h d e =
    let settled' = settled terms st h d.covered in
    let still = running_still terms st st.core.sender.state d.running d.covered h.talk in
    let rising = subst (Rising (known st.core.sender) (transferred st.core.receiver)) e h.rising in
    let worse = subst (λ ss. Rises bad_told 0 ss (badness st.core.receiver.broken)) e still.1 in
    let up = rises_le bad_told _ rest _ worse.1 in
    let some = still.2 in
    let none' = settled'.none_missing in
    let owed = settled'.nothing_owed in
    let bytes_owed = settled'.no_bytes_owed in
    let first = rising.packets.0 in
    let second = rising.bytes.0 in
    let good : badness s.gap ≡ 0 = omega arith in
    let left : Count = minus st.core.sender.sent s.told in
    let zero' : is_none left ≡ true = none_left left.packets left.bytes (omega arith) (omega arith) in
    let hearing : Sender → State A = λ later. record st { core = record (st.core) { sender = later }; back = rest } in
    let stays : IsDrained (hearing (learns left st.core.sender)) = record {
      closed = d.closed;
      none_ready = d.none_ready;
      running = d.running;
      covered = zero';
      all_taken = d.all_taken;
    } in
    let done : IsDrained (hearing (hears_left terms.policy (code_by s.gap) left st.core.sender)) =
    subst (λ later. IsDrained (hearing later)) (sym (heard_stays terms.policy left st.core.sender s.gap d.running good zero')) stays in
    subst (λ c. IsDrained (hearing (hears_left terms.policy (code_by s.gap) c st.core.sender))) (sym (read_back terms st s rest valid h e)) done

no_packet : {A : Type 0} (es : List (Entry A)) (place : ℕ) (load : Load A) (rest : List (Entry A)) → (flying es).packets ≡ 0 → es ≡ Data place load ∷ rest → ⊥
no_packet es place load rest zero' e = let p = ap (λ fs. (flying fs).packets) e in omega arith

no_command : {A : Type 0} (es : List (Entry A)) (op : CmdOp) (told : Count) (rest : List (Entry A)) → orders es ≡ 0 → es ≡ Command op told ∷ rest → ⊥
no_command es op told rest zero' e = let o = ap orders e in omega arith

drained_after : {A : Type 0} (terms : Terms) (st : State A) → IsValid terms.flow → Holds terms st → IsDrained st → IsSettled st → orders st.forward ≡ 0
    → (act : Act A) → Allowed terms st act → IsDrained (after terms st act)
drained_after terms st valid h d s idle (Fill loads) allowed = absurd (let c = d.closed in let o = allowed.0 in cc (c, o))
drained_after terms st valid h d s idle Close allowed = record { closed = refl; none_ready = d.none_ready; running = d.running; covered = d.covered; all_taken = d.all_taken }
drained_after terms st valid h d s idle (Enter load rest) allowed = absurd (let r = d.none_ready in let o = allowed.0 in cc (r, o))
drained_after terms st valid h d s idle (Order Init) allowed = absurd (let r = d.running in let o = allowed.0 in cc (r, o))
drained_after terms st valid h d s idle (Order Ping) allowed = absurd (let c = d.covered in let o = allowed.not_covered in cc (c, o))
drained_after terms st valid h d s idle (Order Resync) allowed = absurd (let r = d.running in let o = allowed.0 in cc (r, o))
drained_after terms st valid h d s idle (Order (Other code)) allowed = absurd allowed
drained_after terms st valid h d s idle (Keep place load rest) allowed = absurd (no_packet _ place load rest s.no_data allowed.0)
drained_after terms st valid h d s idle (Break place load rest) allowed = absurd (no_packet _ place load rest s.no_data allowed.0)
drained_after terms st valid h d s idle (Discard place load rest) allowed = absurd (no_packet _ place load rest s.no_data allowed.0)
drained_after terms st valid h d s idle (Obey op told rest) allowed = absurd (no_command _ op told rest idle allowed.0)
drained_after terms st valid h d s idle (Renew told rest) allowed = absurd (no_command _ Resync told rest idle allowed)
drained_after terms st valid h d s idle (Take n) allowed = absurd (let a = d.all_taken in let b = allowed.0 in let c = allowed.1 in omega arith)
drained_after terms st valid h d s idle Report allowed = record { closed = d.closed; none_ready = d.none_ready; running = d.running; covered = d.covered; all_taken = d.all_taken }
drained_after terms st valid h d s idle (Hear status rest) allowed = drained_hear terms st status rest valid h d allowed
drained_after terms st valid h d s idle (LosePacket before place load behind) allowed =
    absurd (let p = ap (λ fs. (flying fs).packets) allowed ∙ flying_packets-append before (Data place load ∷ behind) in let n = s.no_data in omega arith)
drained_after terms st valid h d s idle (LoseCommand before op told behind) allowed =
    absurd (let p = ap orders allowed ∙ orders-append before (Command op told ∷ behind) in omega arith)
drained_after terms st valid h d s idle (LoseStatus before status behind) allowed = record { closed = d.closed; none_ready = d.none_ready; running = d.running; covered = d.covered; all_taken = d.all_taken }

pub stays_drained : {A : Type 0} (terms : Terms) (st : State A) → IsRun terms st → StaysDrained terms st
stays_drained terms st run d act allowed =
    let h = holds_run terms st run in
    drained_after terms st run.valid h d (settled terms st h d.covered) (running_still terms st st.core.sender.state d.running d.covered h.talk).0 act allowed

-- whatever stands first on its way arrives
data_arrives : {A : Type 0} (terms : Terms) (st : State A) (place : ℕ) (load : Load A) (rest : List (Entry A)) (broken : Option Gap) (b : Bool)
    → st.forward ≡ Data place load ∷ rest → st.core.receiver.broken ≡ broken → (number_at terms place == expected st.core.receiver) ≡ b
    → (act : Act A) × IsOwn act × Allowed terms st act
data_arrives terms st place load rest None true e is test =
    (Keep place load rest, tt, (e, rw is (ap (λ (t : Bool). cond t Kept (GapAt (expected st.core.receiver) (number_at terms place))) test)))
data_arrives terms st place load rest None false e is test =
    (Break place load rest, tt, (e, rw is (ap (λ (t : Bool). cond t Kept (GapAt (expected st.core.receiver) (number_at terms place))) test)))
data_arrives terms st place load rest (Some gap) b e is test = (Discard place load rest, tt, (e, rw is refl))

command_arrives : {A : Type 0} (terms : Terms) (st : State A) (op : CmdOp) (told : Count) (rest : List (Entry A)) → st.forward ≡ Command op told ∷ rest
    → (act : Act A) × IsOwn act × Allowed terms st act
command_arrives terms st Init told rest e = (Obey Init told rest, tt, (e, λ is. absurd (cc is)))
command_arrives terms st Ping told rest e = (Obey Ping told rest, tt, (e, λ is. absurd (cc is)))
command_arrives terms st Resync told rest e = (Renew told rest, tt, e)
command_arrives terms st (Other code) told rest e = (Obey (Other code) told rest, tt, (e, λ is. absurd (cc is)))

first_arrives : {A : Type 0} (terms : Terms) (st : State A) (e : Entry A) (rest : List (Entry A)) → st.forward ≡ e ∷ rest
    → (act : Act A) × IsOwn act × Allowed terms st act
first_arrives terms st (Data place load) rest is = data_arrives terms st place load rest st.core.receiver.broken (number_at terms place == expected st.core.receiver) is refl refl
first_arrives terms st (Command op told) rest is = command_arrives terms st op told rest is

pub quiet_at_rest : {A : Type 0} (terms : Terms) (st : State A) → IsRun terms st → IsQuietAtRest terms st
quiet_at_rest {A} terms st run rest = record {
  none_forward = ahead st.forward refl;
  none_back = behind st.back refl;
  none_due = due (cases_Bool (is_due st.core.receiver));
  all_taken = taken (cases_lt st.core.taken (length st.core.given));
}
  where
    ahead : (es : List (Entry A)) → st.forward ≡ es → es ≡ []
    ahead [] is = refl
    ahead (e ∷ es) is = let go = first_arrives terms st e es is in absurd (rest go.0 go.1 go.2)

    behind : (ss : List Told) → st.back ≡ ss → ss ≡ []
    behind [] is = refl
    behind (s ∷ ss) is = absurd (rest (Hear s ss) tt is)

    due : (is_due st.core.receiver ≡ true) ⊎ (is_due st.core.receiver ≡ false) → is_due st.core.receiver ≡ false
    due (inl yes') = absurd (rest Report tt yes')
    due (inr no') = no'

    taken : (st.core.taken < length st.core.given) ⊎ (length st.core.given ≤ st.core.taken) → st.core.taken ≡ length st.core.given
    taken (inl minus') = absurd (rest (Take 1) tt (omega arith, omega arith))
    taken (inr all) = let held = (holds_run terms st run).counted.held_packets in omega arith

credit_or : (flow : Flow) (owed : Count) (wire : ℕ) → HasCredit flow owed wire ⊎ (HasCredit flow owed wire → ⊥)
credit_or flow owed wire = go (cases_lt flow.cap_bytes (owed.bytes + wire)) (cases_lt flow.cap_packets (owed.packets + 1))
  where
    go : (flow.cap_bytes < owed.bytes + wire) ⊎ (owed.bytes + wire ≤ flow.cap_bytes)
        → (flow.cap_packets < owed.packets + 1) ⊎ (owed.packets + 1 ≤ flow.cap_packets)
        → HasCredit flow owed wire ⊎ (HasCredit flow owed wire → ⊥)
    go (inl many) q = inr (λ c. (let b = c.0 in omega arith))
    go (inr few) (inl many) = inr (λ c. (let p = c.1 in omega arith))
    go (inr few) (inr minus') = inl (few, minus')

-- a running stream that is stuck: either it is covered, or a PING is called for
running_ends : {A : Type 0} (terms : Terms) (st : State A) → IsValid terms.flow → Holds terms st → st.core.sender.state ≡ Running → IsQuiet st
    → ((load : Load A) (rest : List (Load A)) → Allowed terms st (Enter load rest) → ⊥) → ((op : CmdOp) → Allowed terms st (Order op) → ⊥)
    → (closed : Bool) → st.core.closed ≡ closed → (ready : List (Load A)) → st.core.ready ≡ ready
    → (is_covered st.core.sender ≡ true) ⊎ (is_covered st.core.sender ≡ false)
    → IsDrained st ⊎ (IsHalted terms st ⊎ Waits st)
running_ends terms st valid h run quiet no_enter no_order true c [] r (inl covered) =
    inl (record { closed = c; none_ready = r; running = run; covered = covered; all_taken = quiet.all_taken })
running_ends terms st valid h run quiet no_enter no_order true c [] r (inr owing) =
    absurd (no_order Ping (record {
      running = run;
      quiet = quiet;
      not_covered = owing;
      stuck = subst (λ ps. IsStuck terms.flow st.core.sender.outstanding st.core.closed ps) (sym r) c;
    }))
running_ends terms st valid h run quiet no_enter no_order false c [] r covered = inr (inr (record { running = run; none_ready = r; goes_on = c }))
running_ends {A} terms st valid h run quiet no_enter no_order closed c (p ∷ ps) r (inl covered) =
    let s = settled terms st h covered in
    let small = (subst (AllByRecursion (λ (load : Load A). load.wire ≤ terms.flow.cap_bytes)) r h.small).0 in
    let a = valid.some_packets in
    let b = valid.enough_packets in
    let op = s.nothing_owed in
    let ob = s.no_bytes_owed in
    absurd (no_enter p ps (r, (run, (omega arith, omega arith))))
running_ends {A} terms st valid h run quiet no_enter no_order closed c (p ∷ ps) r (inr owing) =
    absurd (no_order Ping (record {
      running = run;
      quiet = quiet;
      not_covered = owing;
      stuck = subst (λ qs. IsStuck terms.flow st.core.sender.outstanding st.core.closed qs) (sym r) (stuck (credit_or terms.flow st.core.sender.outstanding p.wire));
    }))
  where
    stuck : HasCredit terms.flow st.core.sender.outstanding p.wire ⊎ (HasCredit terms.flow st.core.sender.outstanding p.wire → ⊥)
        → HasCredit terms.flow st.core.sender.outstanding p.wire → ⊥
    stuck (inl credit) = absurd (no_enter p ps (r, (run, credit)))
    stuck (inr none') = none'

ends_by : {A : Type 0} (terms : Terms) (st : State A) → IsValid terms.flow → Holds terms st → (state : OutState) → st.core.sender.state ≡ state → IsQuiet st
    → ((load : Load A) (rest : List (Load A)) → Allowed terms st (Enter load rest) → ⊥) → ((op : CmdOp) → Allowed terms st (Order op) → ⊥)
    → Talk terms state st → IsDrained st ⊎ (IsHalted terms st ⊎ Waits st)
ends_by terms st valid h Opening is quiet no_enter no_order talk = absurd (no_order Init (is, inr quiet))
ends_by terms st valid h Running is quiet no_enter no_order talk =
    running_ends terms st valid h is quiet no_enter no_order st.core.closed refl st.core.ready refl (cases_Bool (is_covered st.core.sender))
ends_by terms st valid h Halted is quiet no_enter no_order talk = inr (inl (record { state = is; off = talk.off; some_lost = h.unhurt.not_halted is }))
ends_by terms st valid h Resyncing is quiet no_enter no_order talk = absurd (no_order Resync (is, inr quiet))

pub ends_well : {A : Type 0} (terms : Terms) (st : State A) → IsRun terms st → EndsWell terms st
ends_well terms st run quiet no_enter no_order =
    let h = holds_run terms st run in ends_by terms st run.valid h st.core.sender.state refl quiet no_enter no_order h.talk
