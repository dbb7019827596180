-- How the potential of a stream falls by a status that arrives and by a command that is sent.
use Rattle.std.proofs.Common.{◌≡◌, ℕ, zero, suc, ◌+◌, ◌*◌, ◌<◌, ◌≤◌, ◌&&◌, not, ◌⊎◌, inl, inr, Bool, true, false, Option, Some, None, List, [], ◌∷◌, ◌++◌, refl, ap, sym, ◌∙◌, subst, arith}
use Rattle.std.proofs.lemmas.Bool.{cases_Bool}
use Rattle.chdr_words.specs.declared.command.CmdOp.TheVariants.{Init, Ping, Resync, Other}
use Rattle.stream_endpoint.specs.declared.count.Count.{Count}
use Rattle.stream_endpoint.specs.declared.flow.Policy.{Policy}
use Rattle.stream_endpoint.specs.declared.flow.Policy.TheVariants.{Auto, Off}
use Rattle.stream_endpoint.specs.declared.state.Gap.{Gap}
use Rattle.stream_endpoint.specs.declared.state.OutState.{OutState}
use Rattle.stream_endpoint.specs.declared.state.OutState.TheVariants.{Opening, Running, Halted, Resyncing}
use Rattle.stream_endpoint.specs.Counts.{is_none, minus, none}
use Rattle.stream_endpoint.specs.Flow.{IsValid, frequency}
use Rattle.stream_endpoint.specs.InEnd.{code_by}
use Rattle.stream_endpoint.specs.Receiver.{is_due, transferred}
use Rattle.stream_endpoint.specs.Sender.{Sender, after_gap, after_okay, enters, fallen, has_missed, hears_left, is_covered, known, learns}
use Rattle.stream_laws.specs.Machine.{Command, State, Terms, Told}
use Rattle.stream_laws.specs.Acts.{Allowed, IsQuiet, after, Fill, Close, Enter, Order, Keep, Break, Discard, Obey, Renew, Take, Report, Hear, LosePacket, LoseCommand, LoseStatus}
use Rattle.stream_laws.specs.Chains.{badness, goodness, orders, packets_told}
use Rattle.stream_laws.specs.Invariant.{Rising, dues, goods}
use Rattle.stream_laws.specs.Laws.{IsRun}
use Rattle.stream_laws.specs.Potential.{Lowers, StaysLow, asked, asked_by, phase, phase_by, potential, unasked}
use Rattle.stream_laws.specs.Talk.{Holds, InRunning, Talk, traffic}
use Rattle.stream_laws.proofs.Chains.{orders-append, rises_le}
use Rattle.stream_laws.proofs.Consequences.{holds_run}
use Rattle.stream_laws.proofs.Ending.{none_means, none_left}
use Rattle.stream_laws.proofs.Falling.{asked_idle, asked_missing, asked_none, calm_break, calm_discard, calm_keep, calm_obey, calm_renew, calm_report, calm_take, resyncing_missing, resyncing_none, running_known, running_low, running_missing, running_most, unasked_few}
use Rattle.stream_laws.proofs.Numbers.{held_even}
use Rattle.stream_laws.proofs.StepsBack.{read_back}
use Rattle.stream_laws.proofs.StepsHear.{both_of, not_none}
use Rattle.stream_laws.proofs.StepsSender.{quiet_traffic}
use Rattle.stream_laws.proofs.TalkHear.{falls_by_gap, falls_by_ping, opening_hear, resyncing_hear_good}

-- the phase and the potential of a state are no more than these, whose sender is in this state
pub record IsCalm {A : Type 0} (state : OutState) (before later : State A) : Type 0 where
  pub phase : phase later ≤ phase_by state before.missing.packets (is_covered before.core.sender)
  pub potential : potential later ≤ 2 * phase_by state before.missing.packets (is_covered before.core.sender)
      + unasked (asked_by state before.missing.packets before.core.sender.pinging (traffic before.forward (is_due before.core.receiver) before.back)
      (orders before.forward) (goods before.back + dues (is_due before.core.receiver)))

abbrev hearing : {A : Type 0} → State A → List Told → Sender → State A
hearing st rest later = record st { core = record (st.core) { sender = later }; back = rest }

-- the sender falls out of Running
fall_calms : {A : Type 0} (st : State A) (left : Count) (rest : List Told) (policy : Policy) → 1 ≤ st.missing.packets
    → IsCalm Running st (hearing st rest (enters (fallen policy) (learns left st.core.sender)))
fall_calms st left rest Auto some =
    let before = running_missing st.missing.packets (is_covered st.core.sender) some in
    let behind = resyncing_missing st.missing.packets (is_none left) some in
    let u = unasked_few (asked_by Resyncing st.missing.packets false (traffic st.forward (is_due st.core.receiver) rest) (orders st.forward) (goods rest + dues (is_due st.core.receiver))) in
    record { phase = omega arith; potential = omega arith }
fall_calms st left rest Off some =
    let before = running_missing st.missing.packets (is_covered st.core.sender) some in record { phase = omega arith; potential = omega arith }

-- what a PING's answer covers was not lost
covered_whole : {A : Type 0} (terms : Terms) (st : State A) (s : Told) (rest : List Told) → Holds terms st → st.back ≡ s ∷ rest
    → is_none (minus st.core.sender.sent s.told) ≡ true → st.missing.packets ≡ 0
covered_whole terms st s rest h e covered =
    let zero' = none_means (minus st.core.sender.sent s.told).packets (minus st.core.sender.sent s.told).bytes covered in
    let rising = subst (Rising (known st.core.sender) (transferred st.core.receiver)) e h.rising in
    let up = rises_le packets_told _ rest _ rising.packets.1 in
    let balance = h.balanced.packets in
    let p = zero'.0 in
    omega arith

-- what was covered stays so
covers_on : {A : Type 0} (terms : Terms) (st : State A) (s : Told) (rest : List Told) → Holds terms st → st.back ≡ s ∷ rest
    → is_none st.core.sender.outstanding ≡ true → is_none (minus st.core.sender.sent s.told) ≡ true
covers_on terms st s rest h e covered =
    let zero' = none_means st.core.sender.outstanding.packets st.core.sender.outstanding.bytes covered in
    let rising = subst (Rising (known st.core.sender) (transferred st.core.receiver)) e h.rising in
    let first = rising.packets.0 in
    let second = rising.bytes.0 in
    let p = zero'.0 in
    let b = zero'.1 in
    none_left (minus st.core.sender.sent s.told).packets (minus st.core.sender.sent s.told).bytes (omega arith) (omega arith)

-- a status by which a sender keeps running
runs_on : {A : Type 0} (terms : Terms) (st : State A) (s : Told) (rest : List Told) (pinging : Bool) → Holds terms st → st.back ≡ s ∷ rest → st.core.sender.state ≡ Running
    → st.core.sender.pinging ≡ pinging → (pinging && not (is_none (minus st.core.sender.sent s.told))) ≡ false
    → (pinging ≡ true → is_none st.core.sender.outstanding ≡ false)
    → IsCalm Running st (hearing st rest (learns (minus st.core.sender.sent s.told) st.core.sender))
runs_on {A} terms st s rest false h e is p m owing =
    let stay = running_known st.missing.packets (is_covered st.core.sender) (is_none (minus st.core.sender.sent s.told)) (covers_on terms st s rest h e) in
    let x = ap unasked (asked_idle st.missing.packets st.core.sender.pinging (traffic st.forward (is_due st.core.receiver) st.back) (orders st.forward) (goods st.back + dues (is_due st.core.receiver)) p) in
    let calm : IsCalm Running st (hearing st rest (record (learns (minus st.core.sender.sent s.told) st.core.sender) { state = Running })) =
    record { phase = omega arith; potential = omega arith } in
    subst (λ q. IsCalm Running st (hearing st rest (record (learns (minus st.core.sender.sent s.told) st.core.sender) { state = q }))) (sym is) calm
runs_on {A} terms st s rest true h e is p m owing =
    let covered : is_none (minus st.core.sender.sent s.told) ≡ true = (elim (cases_Bool (is_none (minus st.core.sender.sent s.told))) [
      | inl yes' ↦ yes'
      | inr no' ↦ absurd (let t : not (is_none (minus st.core.sender.sent s.told)) ≡ true = ap not no' in cc (t, m))
    ]) in
    let whole = covered_whole terms st s rest h e covered in
    let before : phase_by Running st.missing.packets (is_covered st.core.sender) ≡ 1 = low st.missing.packets (is_covered st.core.sender) whole (owing refl) in
    let behind : phase_by Running st.missing.packets (is_none (minus st.core.sender.sent s.told)) ≡ 0 = lowest st.missing.packets (is_none (minus st.core.sender.sent s.told)) whole covered in
    let calm : IsCalm Running st (hearing st rest (record (learns (minus st.core.sender.sent s.told) st.core.sender) { state = Running })) =
    record { phase = omega arith; potential = omega arith } in
    subst (λ q. IsCalm Running st (hearing st rest (record (learns (minus st.core.sender.sent s.told) st.core.sender) { state = q }))) (sym is) calm
  where
    low : (n : ℕ) (c : Bool) → n ≡ 0 → c ≡ false → phase_by Running n c ≡ 1
    low zero true z f = absurd (cc f)
    low zero false z f = refl
    low (suc n) c z f = absurd (omega arith)

    lowest : (n : ℕ) (c : Bool) → n ≡ 0 → c ≡ true → phase_by Running n c ≡ 0
    lowest zero true z f = refl
    lowest zero false z f = absurd (cc f)
    lowest (suc n) c z f = absurd (omega arith)

-- in a state in which statuses change no more than the counts
stays_calm : {A : Type 0} (st : State A) (s : Told) (rest : List Told) (left : Count) (state : OutState) → st.back ≡ s ∷ rest → st.core.sender.state ≡ state
    → (state ≡ Halted) ⊎ ((state ≡ Resyncing) × (goods (s ∷ rest) ≡ goods rest))
    → IsCalm state st (hearing st rest (learns left st.core.sender))
stays_calm {A} st s rest left state e is why =
    subst (λ q. IsCalm state st (hearing st rest (record (learns left st.core.sender) { state = q }))) (sym is) (go state why)
  where
    go : (q : OutState) → (q ≡ Halted) ⊎ ((q ≡ Resyncing) × (goods (s ∷ rest) ≡ goods rest))
        → IsCalm q st (hearing st rest (record (learns left st.core.sender) { state = q }))
    go Opening (inl h) = absurd (cc h)
    go Opening (inr r) = absurd (let x = r.0 in cc x)
    go Running (inl h) = absurd (cc h)
    go Running (inr r) = absurd (let x = r.0 in cc x)
    go Halted why' = record { phase = omega arith; potential = omega arith }
    go Resyncing (inl h) = absurd (cc h)
    go Resyncing (inr r) = same st.missing.packets refl
      where
        fewer : goods st.back ≡ goods rest
        fewer = ap goods e ∙ r.1

        same : (n : ℕ) → st.missing.packets ≡ n → IsCalm Resyncing st (hearing st rest (record (learns left st.core.sender) { state = Resyncing }))
        same zero z =
            let a = resyncing_none st.missing.packets (is_covered st.core.sender) z in
            let b = resyncing_none st.missing.packets (is_none left) z in
            let x = asked_none st.missing.packets st.core.sender.pinging (traffic st.forward (is_due st.core.receiver) st.back) (orders st.forward) (goods st.back + dues (is_due st.core.receiver)) z in
            let y = asked_none st.missing.packets false (traffic st.forward (is_due st.core.receiver) rest) (orders st.forward) (goods rest + dues (is_due st.core.receiver)) z in
            let u = ap unasked (x ∙ (ap (λ g. orders st.forward + (g + dues (is_due st.core.receiver))) fewer ∙ sym y)) in
            record { phase = omega arith; potential = omega arith }
        same (suc n) z =
            let some : 1 ≤ st.missing.packets = omega arith in
            let a = resyncing_missing st.missing.packets (is_covered st.core.sender) some in
            let b = resyncing_missing st.missing.packets (is_none left) some in
            let x = asked_missing st.missing.packets st.core.sender.pinging (traffic st.forward (is_due st.core.receiver) st.back) (orders st.forward) (goods st.back + dues (is_due st.core.receiver)) some in
            let y = asked_missing st.missing.packets false (traffic st.forward (is_due st.core.receiver) rest) (orders st.forward) (goods rest + dues (is_due st.core.receiver)) some in
            let u = ap unasked (x ∙ sym y) in
            record { phase = omega arith; potential = omega arith }

okay_calms : {A : Type 0} (terms : Terms) (st : State A) (s : Told) (rest : List Told) (state : OutState) (missed : Bool) → Holds terms st
    → st.core.sender.state ≡ state → st.back ≡ s ∷ rest → s.gap ≡ None → has_missed (minus st.core.sender.sent s.told) st.core.sender ≡ missed → Talk terms state st
    → IsCalm state st (hearing st rest (after_okay state terms.policy missed (learns (minus st.core.sender.sent s.told) st.core.sender)))
okay_calms terms st s rest Opening missed holds is e good m h =
    let u = running_most st.missing.packets (is_none (minus st.core.sender.sent s.told)) in record { phase = omega arith; potential = omega arith }
okay_calms terms st s rest Running true holds is e good m h =
    let both = both_of st.core.sender.pinging (is_none (minus st.core.sender.sent s.told)) m in
    let asked' = subst (λ p. InRunning terms.flow st.core.sender.outstanding (transferred st.core.receiver) st.core.receiver.buffered st.core.closed st.core.ready st.forward st.back (is_due st.core.receiver) st.core.receiver.broken st.missing.packets p) both.0 h in
    let f = falls_by_ping _ _ _ _ _ _ _ _ _ _ rest s _ _ e holds.balanced (held_even _ _ _ _ _ _ holds.counted) (λ z. not_none _ _ both.1 z.0 z.1) asked' in
    fall_calms st _ rest terms.policy f.some
okay_calms terms st s rest Running false holds is e good m h =
    runs_on terms st s rest st.core.sender.pinging holds e is refl m (λ p. (h.asked p).owing)
okay_calms terms st s rest Halted missed holds is e good m h = stays_calm st s rest _ Halted e is (inl refl)
okay_calms terms st s rest Resyncing missed holds is e good m h =
    let none' = (resyncing_hear_good _ _ _ _ _ rest s _ _ _ _ _ terms.flow (minus st.core.sender.sent s.told) (transferred st.core.receiver) st.core.closed st.core.ready e (ap goodness good) h).0 in
    let a = resyncing_none st.missing.packets (is_covered st.core.sender) none' in
    let b = running_low st.missing.packets (is_none (minus st.core.sender.sent s.told)) none' in
    record { phase = omega arith; potential = omega arith }

gap_calms : {A : Type 0} (terms : Terms) (st : State A) (s : Told) (rest : List Told) (gap : Gap) (state : OutState)
    → st.core.sender.state ≡ state → st.back ≡ s ∷ rest → s.gap ≡ Some gap → Talk terms state st
    → IsCalm state st (hearing st rest (after_gap state terms.policy (learns (minus st.core.sender.sent s.told) st.core.sender)))
gap_calms terms st s rest gap Opening is e bad h =
    let zero' = (opening_hear _ _ _ _ _ rest s _ _ _ _ (minus st.core.sender.sent s.told) (transferred st.core.receiver) st.core.receiver.buffered st.core.closed st.core.ready e h).0 in
    let one = ap badness bad in absurd (omega arith)
gap_calms terms st s rest gap Running is e bad h =
    fall_calms st _ rest terms.policy (falls_by_gap _ _ _ _ _ _ _ _ rest s _ _ _ _ e (ap badness bad) h).some
gap_calms terms st s rest gap Halted is e bad h = stays_calm st s rest _ Halted e is (inl refl)
gap_calms terms st s rest gap Resyncing is e bad h =
    let zero' = ap goodness bad in stays_calm st s rest _ Resyncing e is (inr (refl, omega arith))

code_calms : {A : Type 0} (terms : Terms) (st : State A) (s : Told) (rest : List Told) (gap : Option Gap) → s.gap ≡ gap → Holds terms st → st.back ≡ s ∷ rest
    → IsCalm st.core.sender.state st (hearing st rest (hears_left terms.policy (code_by gap) (minus st.core.sender.sent s.told) st.core.sender))
code_calms terms st s rest None is h e =
    okay_calms terms st s rest st.core.sender.state (has_missed (minus st.core.sender.sent s.told) st.core.sender) h refl e is refl h.talk
code_calms terms st s rest (Some gap) is h e = gap_calms terms st s rest gap st.core.sender.state refl e is h.talk

calm_hear : {A : Type 0} (terms : Terms) (st : State A) (s : Told) (rest : List Told) → IsValid terms.flow → Holds terms st → Allowed terms st (Hear s rest)
    → (phase (after terms st (Hear s rest)) ≤ phase st) × (potential (after terms st (Hear s rest)) ≤ potential st)
calm_hear {A} terms st s rest valid h e =
    let calm = code_calms terms st s rest s.gap refl h e in
    subst (λ c. (phase (hearing st rest (hears_left terms.policy (code_by s.gap) c st.core.sender)) ≤ phase st)
    × (potential (hearing st rest (hears_left terms.policy (code_by s.gap) c st.core.sender)) ≤ potential st))
    (sym (read_back terms st s rest valid h e)) (calm.phase, calm.potential)

pub stays_low : {A : Type 0} (terms : Terms) (st : State A) → IsRun terms st → StaysLow terms st
stays_low terms st run (Fill loads) plain allowed = (omega arith, omega arith)
stays_low terms st run Close plain allowed = (omega arith, omega arith)
stays_low terms st run (Enter load rest) plain allowed = absurd plain
stays_low terms st run (Order op) plain allowed = absurd plain
stays_low terms st run (Keep place load rest) plain allowed = calm_keep terms st place load rest allowed
stays_low terms st run (Break place load rest) plain allowed = calm_break terms st place load rest run.valid (holds_run terms st run) allowed
stays_low terms st run (Discard place load rest) plain allowed = calm_discard terms st place load rest run.valid (holds_run terms st run) allowed
stays_low terms st run (Obey op told rest) plain allowed = calm_obey terms st op told rest (holds_run terms st run) allowed
stays_low terms st run (Renew told rest) plain allowed = calm_renew terms st told rest (holds_run terms st run) allowed
stays_low terms st run (Take n) plain allowed = calm_take terms st n (holds_run terms st run) allowed
stays_low terms st run Report plain allowed = calm_report terms st (holds_run terms st run) allowed
stays_low terms st run (Hear status rest) plain allowed = calm_hear terms st status rest run.valid (holds_run terms st run) allowed
stays_low terms st run (LosePacket before place load behind) plain allowed = absurd plain
stays_low terms st run (LoseCommand before op told behind) plain allowed = absurd plain
stays_low terms st run (LoseStatus before status behind) plain allowed = absurd plain

-- a command is under way once it is sent, and none was before
order_lowers : (n : ℕ) (asked asks : ℕ) → asked ≡ 0 → 1 ≤ asks → 2 * n + unasked asks < 2 * n + unasked asked
order_lowers n zero zero e some = absurd (omega arith)
order_lowers n zero (suc asks) e some = omega arith
order_lowers n (suc asked) asks e some = absurd (omega arith)

init_lowers : {A : Type 0} (terms : Terms) (st : State A) (state : OutState) → state ≡ Opening → (st.core.sender.commanded ≡ false) ⊎ IsQuiet st → Talk terms state st
    → (t' o' : ℕ) → 1 ≤ t' → (c : Bool) (a : ℕ)
    → 2 * phase_by state st.missing.packets c + unasked (asked_by state st.missing.packets st.core.sender.pinging t' o' a)
    < 2 * phase_by state st.missing.packets c + unasked (asked_by state st.missing.packets st.core.sender.pinging (traffic st.forward (is_due st.core.receiver) st.back) (orders st.forward) a)
init_lowers terms st Opening is (inl first) h t' o' some c a = order_lowers 5 (traffic st.forward (is_due st.core.receiver) st.back) t' (h.silent first) some
init_lowers terms st Opening is (inr quiet) h t' o' some c a = order_lowers 5 (traffic st.forward (is_due st.core.receiver) st.back) t' (quiet_traffic st quiet) some
init_lowers terms st Running is may h t' o' some c a = absurd (cc is)
init_lowers terms st Halted is may h t' o' some c a = absurd (cc is)
init_lowers terms st Resyncing is may h t' o' some c a = absurd (cc is)

ping_lowers : {A : Type 0} (st : State A) (state : OutState) → state ≡ Running → traffic st.forward (is_due st.core.receiver) st.back ≡ 0
    → (t' o' : ℕ) → 1 ≤ t' → (c : Bool) (a : ℕ)
    → 2 * phase_by state st.missing.packets c + unasked (asked_by state st.missing.packets true t' o' a)
    < 2 * phase_by state st.missing.packets c + unasked (asked_by state st.missing.packets st.core.sender.pinging (traffic st.forward (is_due st.core.receiver) st.back) (orders st.forward) a)
ping_lowers st Opening is quiet t' o' some c a = absurd (cc is)
ping_lowers st Running is quiet t' o' some c a =
    order_lowers (phase_by Running st.missing.packets c)
    (asked_by Running st.missing.packets st.core.sender.pinging (traffic st.forward (is_due st.core.receiver) st.back) (orders st.forward) a) t' (none' st.core.sender.pinging) some
  where
    none' : (p : Bool) → asked_by Running st.missing.packets p (traffic st.forward (is_due st.core.receiver) st.back) (orders st.forward) a ≡ 0
    none' true = quiet
    none' false = refl
ping_lowers st Halted is quiet t' o' some c a = absurd (cc is)
ping_lowers st Resyncing is quiet t' o' some c a = absurd (cc is)

resync_lowers : {A : Type 0} (terms : Terms) (st : State A) (state : OutState) → state ≡ Resyncing → (st.core.sender.commanded ≡ false) ⊎ IsQuiet st → Talk terms state st
    → (t' o' : ℕ) → 1 ≤ o' → (c : Bool)
    → 2 * phase_by state st.missing.packets c + unasked (asked_by state st.missing.packets st.core.sender.pinging t' o' (goods st.back + dues (is_due st.core.receiver)))
    < 2 * phase_by state st.missing.packets c + unasked (asked_by state st.missing.packets st.core.sender.pinging (traffic st.forward (is_due st.core.receiver) st.back) (orders st.forward) (goods st.back + dues (is_due st.core.receiver)))
resync_lowers terms st Opening is may h t' o' some c = absurd (cc is)
resync_lowers terms st Running is may h t' o' some c = absurd (cc is)
resync_lowers terms st Halted is may h t' o' some c = absurd (cc is)
resync_lowers {A} terms st Resyncing is may h t' o' some c = go st.missing.packets refl may
  where
    go : (n : ℕ) → st.missing.packets ≡ n → (st.core.sender.commanded ≡ false) ⊎ IsQuiet st
        → 2 * phase_by Resyncing n c + unasked (asked_by Resyncing n st.core.sender.pinging t' o' (goods st.back + dues (is_due st.core.receiver)))
        < 2 * phase_by Resyncing n c + unasked (asked_by Resyncing n st.core.sender.pinging (traffic st.forward (is_due st.core.receiver) st.back) (orders st.forward) (goods st.back + dues (is_due st.core.receiver)))
    go zero z (inl first) = absurd (let w = (h.behind z).was_sent in cc (w, first))
    go zero z (inr quiet) =
        let t = quiet_traffic st quiet in
        let g = ap goods quiet.none_back in
        order_lowers 2 (orders st.forward + (goods st.back + dues (is_due st.core.receiver))) (o' + (goods st.back + dues (is_due st.core.receiver))) (omega arith) (omega arith)
    go (suc n) z (inl first) = order_lowers 3 (orders st.forward) o' ((h.before (omega arith)).unsent first) some
    go (suc n) z (inr quiet) = let t = quiet_traffic st quiet in order_lowers 3 (orders st.forward) o' (omega arith) some

pub lowers : {A : Type 0} (terms : Terms) (st : State A) → IsRun terms st → Lowers terms st
lowers terms st run Init may =
    let o = orders-append st.forward (Command Init (frequency terms.flow) ∷ []) in (
      refl,
      init_lowers terms st st.core.sender.state may.0 may.1 (holds_run terms st run).talk
          (traffic (st.forward ++ Command Init (frequency terms.flow) ∷ []) (is_due st.core.receiver) st.back) _ (omega arith) _ _,
    )
lowers terms st run Ping may =
    let o = orders-append st.forward (Command Ping none ∷ []) in (
      refl,
      ping_lowers st st.core.sender.state may.running (quiet_traffic st may.quiet)
          (traffic (st.forward ++ Command Ping none ∷ []) (is_due st.core.receiver) st.back) _ (omega arith) _ _,
    )
lowers terms st run Resync may =
    let o = orders-append st.forward (Command Resync st.core.sender.sent ∷ []) in (
      refl,
      resync_lowers terms st st.core.sender.state may.0 may.1 (holds_run terms st run).talk _
          (orders (st.forward ++ Command Resync st.core.sender.sent ∷ [])) (omega arith) _,
    )
lowers terms st run (Other code) may = absurd may
