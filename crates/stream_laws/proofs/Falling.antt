-- How the potential of a stream falls.
use Rattle.std.proofs.Common.{◌≡◌, ℕ, zero, suc, ◌+◌, ◌*◌, ◌<◌, ◌≤◌, ◌%◌, ◌^◌, inl, inr, Bool, true, false, List, [], ◌∷◌, ◌++◌, length, take, drop, refl, ap, sym, subst, arith, length-append}
use Rattle.std.proofs.lemmas.Bool.{cases_Bool}
use Rattle.chdr_words.specs.declared.command.CmdOp.{CmdOp}
use Rattle.chdr_words.specs.declared.command.CmdOp.TheVariants.{Init, Ping, Resync, Other}
use Rattle.stream_endpoint.specs.declared.count.Count.{Count}
use Rattle.stream_endpoint.specs.declared.state.OutState.{OutState}
use Rattle.stream_endpoint.specs.declared.state.OutState.TheVariants.{Opening, Running, Halted, Resyncing}
use Rattle.stream_endpoint.specs.Counts.{none, one_of, plus}
use Rattle.stream_endpoint.specs.Flow.{IsValid, frequency}
use Rattle.stream_endpoint.specs.Receiver.{Receiver, expected, is_due, takes}
use Rattle.stream_endpoint.specs.Sender.{is_covered}
use Rattle.stream_laws.specs.Machine.{Entry, Data, Command, Load, State, Terms, count_of, number_at, told_by}
use Rattle.stream_laws.specs.Acts.{Allowed, after, Keep, Break, Discard, Obey, Renew, Take, Report}
use Rattle.stream_laws.specs.Chains.{EndsWith, flying, goodness, orders}
use Rattle.stream_laws.specs.Epochs.{begun}
use Rattle.stream_laws.specs.Invariant.{Received, dues, goods}
use Rattle.stream_laws.specs.Laws.{IsRun}
use Rattle.stream_laws.specs.Potential.{IsLow, asked, asked_by, phase, phase_by, potential, unasked}
use Rattle.stream_laws.specs.Talk.{Holds, Talk, traffic}
use Rattle.stream_laws.proofs.Marks.{arrives_broken, arrives_discarded, arrives_kept, discarded_is, due_stays, gap_is, goods-append, kept_is}
use Rattle.stream_laws.proofs.StepsAhead.{arriving}
use Rattle.stream_laws.proofs.StepsSender.{renew_talk}

pub unasked_few : (n : ℕ) → unasked n ≤ 1
unasked_few zero = omega arith
unasked_few (suc n) = omega arith

pub unasked_some : (n : ℕ) → 1 ≤ n → unasked n ≡ 0
unasked_some zero some = absurd (omega arith)
unasked_some (suc n) some = refl

pub unasked_more : (n m : ℕ) → n ≤ m → unasked m ≤ unasked n
unasked_more zero m le = unasked_few m
unasked_more (suc n) zero le = absurd (omega arith)
unasked_more (suc n) (suc m) le = omega arith

pub running_missing : (n : ℕ) (covered : Bool) → 1 ≤ n → phase_by Running n covered ≡ 4
running_missing zero covered some = absurd (omega arith)
running_missing (suc n) covered some = refl

pub running_low : (n : ℕ) (covered : Bool) → n ≡ 0 → phase_by Running n covered ≤ 1
running_low zero true none' = omega arith
running_low zero false none' = omega arith
running_low (suc n) covered none' = absurd (omega arith)

pub running_most : (n : ℕ) (covered : Bool) → phase_by Running n covered ≤ 4
running_most zero true = omega arith
running_most zero false = omega arith
running_most (suc n) covered = omega arith

-- knowing more lowers the phase
pub running_known : (n : ℕ) (covered covers : Bool) → (covered ≡ true → covers ≡ true) → phase_by Running n covers ≤ phase_by Running n covered
running_known zero true true on = omega arith
running_known zero true false on = absurd (let e = on refl in cc e)
running_known zero false true on = omega arith
running_known zero false false on = omega arith
running_known (suc n) covered covers on = omega arith

pub resyncing_missing : (n : ℕ) (covered : Bool) → 1 ≤ n → phase_by Resyncing n covered ≡ 3
resyncing_missing zero covered some = absurd (omega arith)
resyncing_missing (suc n) covered some = refl

pub resyncing_none : (n : ℕ) (covered : Bool) → n ≡ 0 → phase_by Resyncing n covered ≡ 2
resyncing_none zero covered none' = refl
resyncing_none (suc n) covered none' = absurd (omega arith)

pub asked_missing : (n : ℕ) (pinging : Bool) (t o a : ℕ) → 1 ≤ n → asked_by Resyncing n pinging t o a ≡ o
asked_missing zero pinging t o a some = absurd (omega arith)
asked_missing (suc n) pinging t o a some = refl

pub asked_none : (n : ℕ) (pinging : Bool) (t o a : ℕ) → n ≡ 0 → asked_by Resyncing n pinging t o a ≡ o + a
asked_none zero pinging t o a none' = refl
asked_none (suc n) pinging t o a none' = absurd (omega arith)

pub asked_idle : (n : ℕ) (pinging : Bool) (t o a : ℕ) → pinging ≡ false → asked_by Running n pinging t o a ≡ 0
asked_idle n true t o a no' = absurd (cc no')
asked_idle n false t o a no' = refl

pub asked_pinging : (n : ℕ) (pinging : Bool) (t o a : ℕ) → pinging ≡ true → asked_by Running n pinging t o a ≡ t
asked_pinging n true t o a yes' = refl
asked_pinging n false t o a yes' = absurd (cc yes')

same_running : (n : ℕ) (pinging : Bool) (t o a b : ℕ) → asked_by Running n pinging t o a ≡ asked_by Running n pinging t o b
same_running n true t o a b = refl
same_running n false t o a b = refl

-- the phase and the potential, of the parts that make them
abbrev pub value : OutState → ℕ → Bool → Bool → ℕ → ℕ → ℕ → ℕ
value state missing covered pinging t o a = 2 * phase_by state missing covered + unasked (asked_by state missing pinging t o a)

phase_most : (state : OutState) (missing : ℕ) (covered : Bool) → phase_by state missing covered ≤ 5
phase_most Opening missing covered = omega arith
phase_most Running missing covered = let m = running_most missing covered in omega arith
phase_most Halted missing covered = omega arith
phase_most Resyncing zero covered = omega arith
phase_most Resyncing (suc n) covered = omega arith

pub is_low : {A : Type 0} (terms : Terms) (st : State A) → IsRun terms st → IsLow terms st
is_low terms st run =
    let p = phase_most st.core.sender.state st.missing.packets (is_covered st.core.sender) in
    let u = unasked_few (asked st) in
    omega arith

-- neither the phase nor the potential is raised
pub record IsFalling (state later : OutState) (missing misses : ℕ) (covered covers : Bool) (pinging pings : Bool) (t u o p a b : ℕ) : Type 0 where
  pub phase : phase_by later misses covers ≤ phase_by state missing covered
  pub potential : value later misses covers pings u p b ≤ value state missing covered pinging t o a

-- a packet that isn't kept: it was already known of one that something is missing, and the sender isn't pinging
miss_falls : {A : Type 0} (terms : Terms) (st : State A) (state : OutState) (place : ℕ) (load : Load A) (rest : List (Entry A)) (u p b : ℕ)
    → st.forward ≡ Data place load ∷ rest → 1 ≤ st.missing.packets → orders st.forward ≡ p → Talk terms state st
    → (covered : Bool) (t a : ℕ) → IsFalling state state st.missing.packets (st.missing.packets + 1) covered covered st.core.sender.pinging st.core.sender.pinging t u (orders st.forward) p a b
miss_falls terms st Opening place load rest u p b e some same h covered t a =
    absurd (let f = ap (λ es. (flying es).packets) e in let n = h.no_data in omega arith)
miss_falls terms st Running place load rest u p b e some same h covered t a =
    let f = ap (λ es. (flying es).packets) e in
    let before = running_missing st.missing.packets covered some in
    let behind = running_missing (st.missing.packets + 1) covered (omega arith) in
    let quiet : st.core.sender.pinging ≡ false = (elim (cases_Bool st.core.sender.pinging) [
      | inl yes' ↦ (let n = (h.asked yes').no_data in absurd (omega arith))
      | inr no' ↦ no'
    ]) in
    let x = ap unasked (asked_idle st.missing.packets st.core.sender.pinging t (orders st.forward) a quiet) in
    let y = ap unasked (asked_idle (st.missing.packets + 1) st.core.sender.pinging u p b quiet) in
    record { phase = omega arith; potential = omega arith }
miss_falls terms st Halted place load rest u p b e some same h covered t a = record { phase = omega arith; potential = omega arith }
miss_falls terms st Resyncing place load rest u p b e some same h covered t a =
    let before = resyncing_missing st.missing.packets covered some in
    let behind = resyncing_missing (st.missing.packets + 1) covered (omega arith) in
    let x = ap unasked (asked_missing st.missing.packets st.core.sender.pinging t (orders st.forward) a some) in
    let y = ap unasked (asked_missing (st.missing.packets + 1) st.core.sender.pinging u p b (omega arith)) in
    let z = ap unasked same in
    record { phase = omega arith; potential = omega arith }

pub calm_break : {A : Type 0} (terms : Terms) (st : State A) (place : ℕ) (load : Load A) (rest : List (Entry A)) → IsValid terms.flow → Holds terms st
    → Allowed terms st (Break place load rest) → (phase (after terms st (Break place load rest)) ≤ phase st) × (potential (after terms st (Break place load rest)) ≤ potential st)
calm_break {A} terms st place load rest valid h allowed =
    let e = allowed.0 in
    let is = gap_is st.core.receiver.broken (expected st.core.receiver) (number_at terms place) allowed.1 in
    let a = arriving terms st place load rest valid h e in
    let other : terms.start.packets + place ≡ st.core.receiver.reached.packets → ⊥ = λ same. is.1 (ap (λ n. n % 2 ^ 16) same) in
    let later : st.core.receiver.reached.packets < terms.start.packets + place = (let at = a.at in omega arith) in
    let breaking : Receiver → State A = λ r. record st { core = record (st.core) { receiver = r }; forward = rest; next = place + 1; missing = plus st.missing (one_of load.wire) } in
    let falls = miss_falls terms st st.core.sender.state place load rest _ (orders rest) _ e (a.some later) (ap orders e) h.talk _ _ _ in
    subst (λ r. (phase (breaking r) ≤ phase st) × (potential (breaking r) ≤ potential st))
    (sym (arrives_broken st.core.receiver (number_at terms place) load.wire is.0 is.1)) (falls.phase, falls.potential)

pub calm_discard : {A : Type 0} (terms : Terms) (st : State A) (place : ℕ) (load : Load A) (rest : List (Entry A)) → IsValid terms.flow → Holds terms st
    → Allowed terms st (Discard place load rest) → (phase (after terms st (Discard place load rest)) ≤ phase st) × (potential (after terms st (Discard place load rest)) ≤ potential st)
calm_discard {A} terms st place load rest valid h allowed =
    let e = allowed.0 in
    let is = discarded_is st.core.receiver.broken (expected st.core.receiver) (number_at terms place) allowed.1 in
    let a = arriving terms st place load rest valid h e in
    let received = subst (λ g. Received terms.start.packets st.core.receiver.reached.packets st.next st.core.given st.core.lost (begun st.core.cuts) g) is.1 h.received in
    let later : st.core.receiver.reached.packets < terms.start.packets + place = (
    let first = received.shape.later in
    let passed = received.shape.arrived in
    let behind = a.behind in
    omega arith
    ) in
    let discarding : Receiver → State A = λ r. record st { core = record (st.core) { receiver = r }; forward = rest; next = place + 1; missing = plus st.missing (one_of load.wire) } in
    let falls = miss_falls terms st st.core.sender.state place load rest _ (orders rest) _ e (a.some later) (ap orders e) h.talk _ _ _ in
    subst (λ r. (phase (discarding r) ≤ phase st) × (potential (discarding r) ≤ potential st))
    (sym (arrives_discarded st.core.receiver (number_at terms place) load.wire is.0 is.1)) (falls.phase, falls.potential)

pub calm_keep : {A : Type 0} (terms : Terms) (st : State A) (place : ℕ) (load : Load A) (rest : List (Entry A)) → Allowed terms st (Keep place load rest)
    → (phase (after terms st (Keep place load rest)) ≤ phase st) × (potential (after terms st (Keep place load rest)) ≤ potential st)
calm_keep {A} terms st place load rest allowed =
    let is = kept_is st.core.receiver.broken (expected st.core.receiver) (number_at terms place) allowed.1 in
    let o : orders st.forward ≡ orders rest = ap orders allowed.0 in
    let due = dues (is_due st.core.receiver) in
    let asks : ℕ → ℕ = λ n. 2 * phase st + unasked (asked_by st.core.sender.state st.missing.packets st.core.sender.pinging (n + due + length st.back) n (goods st.back + due)) in
    let same = ap asks o in
    let keeping : Receiver → State A = λ r. record st { core = record (st.core) { receiver = r; given = st.core.given ++ load ∷ [] }; forward = rest; next = place + 1 } in
    subst (λ r. (phase (keeping r) ≤ phase st) × (potential (keeping r) ≤ potential st))
    (sym (arrives_kept st.core.receiver (number_at terms place) load.wire is.0 is.1)) (omega arith, omega arith)

-- an INIT or a PING arrives, and makes a status due
obey_falls : {A : Type 0} (terms : Terms) (st : State A) (state : OutState) (op : CmdOp) (told : Count) (rest : List (Entry A)) (b : ℕ)
    → st.forward ≡ Command op told ∷ rest → (op ≡ Resync → ⊥) → Talk terms state st
    → (covered : Bool) → IsFalling state state st.missing.packets st.missing.packets covered covered st.core.sender.pinging st.core.sender.pinging
    (traffic st.forward (is_due st.core.receiver) st.back) (traffic rest true st.back) (orders st.forward) (orders rest)
    (goods st.back + dues (is_due st.core.receiver)) b
obey_falls terms st Opening op told rest b e other h covered =
    let o = ap orders e in
    let x = unasked_some (traffic st.forward (is_due st.core.receiver) st.back) (omega arith) in
    let y = unasked_some (traffic rest true st.back) (omega arith) in
    record { phase = omega arith; potential = omega arith }
obey_falls terms st Running op told rest b e other h covered =
    let o = ap orders e in
    let asked' : st.core.sender.pinging ≡ true = (elim (cases_Bool st.core.sender.pinging) [
      | inl yes' ↦ yes'
      | inr no' ↦ (let n = h.unasked no' in absurd (omega arith))
    ]) in
    let x = unasked_some (traffic rest true st.back) (omega arith) in
    let y = asked_pinging st.missing.packets st.core.sender.pinging (traffic rest true st.back) (orders rest) b asked' in
    let z = ap unasked y in
    record { phase = omega arith; potential = omega arith }
obey_falls terms st Halted op told rest b e other h covered = record { phase = omega arith; potential = omega arith }
obey_falls terms st Resyncing op told rest b e other h covered =
    let last = subst (EndsWith Resync st.core.sender.sent) e h.order in absurd (other last.0)

never_other : {A : Type 0} (terms : Terms) (st : State A) (state : OutState) (code : ℕ) (told : Count) (rest : List (Entry A))
    → st.forward ≡ Command (Other code) told ∷ rest → Talk terms state st → ⊥
never_other terms st Opening code told rest e h = let last = subst (EndsWith Init (frequency terms.flow)) e h.order in cc (last.0)
never_other terms st Running code told rest e h = let last = subst (EndsWith Ping none) e h.order in cc (last.0)
never_other terms st Halted code told rest e h = let o = ap orders e in let n = h.no_order in omega arith
never_other terms st Resyncing code told rest e h = let last = subst (EndsWith Resync st.core.sender.sent) e h.order in cc (last.0)

pub calm_obey : {A : Type 0} (terms : Terms) (st : State A) (op : CmdOp) (told : Count) (rest : List (Entry A)) → Holds terms st → Allowed terms st (Obey op told rest)
    → (phase (after terms st (Obey op told rest)) ≤ phase st) × (potential (after terms st (Obey op told rest)) ≤ potential st)
calm_obey terms st Init told rest h allowed =
    let f = obey_falls terms st st.core.sender.state Init told rest (goods st.back + 1) allowed.0 allowed.1 h.talk (is_covered st.core.sender) in (f.phase, f.potential)
calm_obey terms st Ping told rest h allowed =
    let f = obey_falls terms st st.core.sender.state Ping told rest (goods st.back + 1) allowed.0 allowed.1 h.talk (is_covered st.core.sender) in (f.phase, f.potential)
calm_obey terms st Resync told rest h allowed = absurd (allowed.1 refl)
calm_obey terms st (Other code) told rest h allowed = absurd (never_other terms st st.core.sender.state code told rest allowed.0 h.talk)

pub calm_renew : {A : Type 0} (terms : Terms) (st : State A) (told : Count) (rest : List (Entry A)) → Holds terms st → Allowed terms st (Renew told rest)
    → (phase (after terms st (Renew told rest)) ≤ phase st) × (potential (after terms st (Renew told rest)) ≤ potential st)
calm_renew terms st told rest h e =
    let t = renew_talk terms st told rest st.core.sender.state e h.talk in
    let o = ap orders e in
    renew_falls st.core.sender.state st.missing.packets (is_covered st.core.sender) st.core.sender.pinging _ _ _ _ _ _ t.0 (omega arith) (omega arith)
  where
    renew_falls : (state : OutState) (missing : ℕ) (covered pinging : Bool) (t u o p a b : ℕ) → state ≡ Resyncing → 1 ≤ o → 1 ≤ b
        → (phase_by state 0 covered ≤ phase_by state missing covered) × (value state 0 covered pinging u p b ≤ value state missing covered pinging t o a)
    renew_falls Opening missing covered pinging t u o p a b is so sb = absurd (cc is)
    renew_falls Running missing covered pinging t u o p a b is so sb = absurd (cc is)
    renew_falls Halted missing covered pinging t u o p a b is so sb = absurd (cc is)
    renew_falls Resyncing zero covered pinging t u o p a b is so sb = let x = unasked_some (p + b) (omega arith) in (omega arith, omega arith)
    renew_falls Resyncing (suc missing) covered pinging t u o p a b is so sb = let x = unasked_some (p + b) (omega arith) in (omega arith, omega arith)

-- a status may become due while packets are taken
take_falls : {A : Type 0} (terms : Terms) (st : State A) (state : OutState) (d : ℕ) → 1 ≤ st.core.receiver.buffered.packets → 1 ≤ length st.core.given
    → dues (is_due st.core.receiver) ≤ d → Talk terms state st → (covered : Bool)
    → IsFalling state state st.missing.packets st.missing.packets covered covered st.core.sender.pinging st.core.sender.pinging
    (traffic st.forward (is_due st.core.receiver) st.back) (orders st.forward + d + length st.back) (orders st.forward) (orders st.forward)
    (goods st.back + dues (is_due st.core.receiver)) (goods st.back + d)
take_falls terms st Opening d some given le h covered = absurd (let n = h.none_given in omega arith)
take_falls terms st Running d some given le h covered =
    let quiet : st.core.sender.pinging ≡ false = (elim (cases_Bool st.core.sender.pinging) [
      | inl yes' ↦ (let n = (h.asked yes').all_taken in absurd (omega arith))
      | inr no' ↦ no'
    ]) in
    let x = ap unasked (asked_idle st.missing.packets st.core.sender.pinging (traffic st.forward (is_due st.core.receiver) st.back) (orders st.forward) (goods st.back + dues (is_due st.core.receiver)) quiet) in
    let y = ap unasked (asked_idle st.missing.packets st.core.sender.pinging (orders st.forward + d + length st.back) (orders st.forward) (goods st.back + d) quiet) in
    record { phase = omega arith; potential = omega arith }
take_falls terms st Halted d some given le h covered = record { phase = omega arith; potential = omega arith }
take_falls terms st Resyncing d some given le h covered = more st.missing.packets
  where
    more : (missing : ℕ) → IsFalling Resyncing Resyncing missing missing covered covered st.core.sender.pinging st.core.sender.pinging
        (traffic st.forward (is_due st.core.receiver) st.back) (orders st.forward + d + length st.back) (orders st.forward) (orders st.forward)
        (goods st.back + dues (is_due st.core.receiver)) (goods st.back + d)
    more zero =
        let x = unasked_more (orders st.forward + (goods st.back + dues (is_due st.core.receiver))) (orders st.forward + (goods st.back + d)) (omega arith) in
        record { phase = omega arith; potential = omega arith }
    more (suc n) = record { phase = omega arith; potential = omega arith }

pub calm_take : {A : Type 0} (terms : Terms) (st : State A) (n : ℕ) → Holds terms st → Allowed terms st (Take n)
    → (phase (after terms st (Take n)) ≤ phase st) × (potential (after terms st (Take n)) ≤ potential st)
calm_take terms st n h allowed =
    let some = allowed.0 in
    let within = allowed.1 in
    let held = h.counted.held_packets in
    let stays = due_stays st.core.receiver.frequency (count_of (take n (drop st.core.taken st.core.given))) st.core.receiver.notice in
    let f = take_falls terms st st.core.sender.state (dues (is_due (takes (count_of (take n (drop st.core.taken st.core.given))) st.core.receiver))) (omega arith) (omega arith) stays h.talk (is_covered st.core.sender) in
    (f.phase, f.potential)

report_falls : {A : Type 0} (terms : Terms) (st : State A) (state : OutState) (u b : ℕ) → Talk terms state st → u ≡ traffic st.forward true st.back
    → b ≡ goods st.back + goodness st.core.receiver.broken → (covered : Bool)
    → IsFalling state state st.missing.packets st.missing.packets covered covered st.core.sender.pinging st.core.sender.pinging
    (traffic st.forward true st.back) u (orders st.forward) (orders st.forward) (goods st.back + 1) b
report_falls terms st Opening u b h e f covered = let x = ap unasked e in record { phase = omega arith; potential = omega arith }
report_falls terms st Running u b h e f covered =
    let x = ap (λ n. unasked (asked_by Running st.missing.packets st.core.sender.pinging n (orders st.forward) b)) e in
    let y = same_running st.missing.packets st.core.sender.pinging (traffic st.forward true st.back) (orders st.forward) b (goods st.back + 1) in
    let z = ap unasked y in
    record { phase = omega arith; potential = omega arith }
report_falls terms st Halted u b h e f covered = record { phase = omega arith; potential = omega arith }
report_falls terms st Resyncing u b h e f covered = go st.missing.packets refl
  where
    go : (missing : ℕ) → st.missing.packets ≡ missing → IsFalling Resyncing Resyncing missing missing covered covered st.core.sender.pinging st.core.sender.pinging
        (traffic st.forward true st.back) u (orders st.forward) (orders st.forward) (goods st.back + 1) b
    go zero z =
        let g = (h.behind z).good in
        let x = unasked_more (orders st.forward + (goods st.back + 1)) (orders st.forward + b) (omega arith) in
        record { phase = omega arith; potential = omega arith }
    go (suc n) z = record { phase = omega arith; potential = omega arith }

pub calm_report : {A : Type 0} (terms : Terms) (st : State A) → Holds terms st → Allowed terms st Report
    → (phase (after terms st Report) ≤ phase st) × (potential (after terms st Report) ≤ potential st)
calm_report terms st h due =
    let d = ap dues due in
    let l = length-append st.back (told_by st.core.receiver ∷ []) in
    let g = goods-append st.back (told_by st.core.receiver) in
    let f = report_falls terms st st.core.sender.state (traffic st.forward false (st.back ++ told_by st.core.receiver ∷ []))
    (goods (st.back ++ told_by st.core.receiver ∷ []) + 0) h.talk (omega arith) (omega arith) (is_covered st.core.sender) in
    let x = ap (λ n. unasked (asked_by st.core.sender.state st.missing.packets st.core.sender.pinging (orders st.forward + n + length st.back) (orders st.forward) (goods st.back + n))) d in
    (f.phase, (let p = f.potential in omega arith))
