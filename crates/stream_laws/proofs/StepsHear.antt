-- The invariant is kept by each status that arrives.
use Rattle.std.proofs.Common.{◌≡◌, ℕ, ◌≤◌, ◌==◌, ◌&&◌, not, inl, inr, Bool, true, false, Option, Some, None, List, ◌∷◌, refl, ap, sym, ◌∙◌, subst, arith}
use Rattle.stream_endpoint.specs.declared.count.Count.{Count}
use Rattle.stream_endpoint.specs.declared.flow.Policy.{Policy}
use Rattle.stream_endpoint.specs.declared.flow.Policy.TheVariants.{Auto, Off}
use Rattle.stream_endpoint.specs.declared.state.Gap.{Gap}
use Rattle.stream_endpoint.specs.declared.state.OutState.{OutState}
use Rattle.stream_endpoint.specs.declared.state.OutState.TheVariants.{Opening, Running, Halted, Resyncing}
use Rattle.stream_endpoint.specs.Counts.{is_none, minus}
use Rattle.stream_endpoint.specs.Flow.{IsValid}
use Rattle.stream_endpoint.specs.InEnd.{code_by}
use Rattle.stream_endpoint.specs.Receiver.{is_due, transferred}
use Rattle.stream_endpoint.specs.Sender.{Sender, after_gap, after_okay, enters, fallen, has_missed, hears_left, known, learns}
use Rattle.stream_laws.specs.Machine.{State, Terms, Told}
use Rattle.stream_laws.specs.Acts.{Allowed, after, Hear}
use Rattle.stream_laws.specs.Chains.{badness, flying, goodness}
use Rattle.stream_laws.specs.Invariant.{Balanced, Paid, Rising, goods}
use Rattle.stream_laws.specs.Talk.{Holds, InHalted, InResyncing, InRunning, Talk}
use Rattle.stream_laws.proofs.Marks.{paid_hear, unhurt_hear}
use Rattle.stream_laws.proofs.Numbers.{credited_hear, held_even, rising_hear, started_hear}
use Rattle.stream_laws.proofs.StepsBack.{IsHeard, read_back}
use Rattle.stream_laws.proofs.TalkHear.{Falls, falls_auto, falls_by_gap, falls_by_ping, falls_off, opening_hear, resyncing_hear_bad, resyncing_hear_good, running_hear}

pub not_none : (p b : ℕ) → ((p == 0) && (b == 0)) ≡ false → p ≡ 0 → b ≡ 0 → ⊥
not_none p b e zp zb = let e' : ((0 == 0) && (0 == 0)) ≡ false = rw (zp, zb) at e in cc e'

pub both_of : (a b : Bool) → (a && not b) ≡ true → (a ≡ true) × (b ≡ false)
both_of true true e = absurd (cc e)
both_of true false e = (refl, refl)
both_of false b e = absurd (cc e)

-- the sender falls out of Running
fall : {A : Type 0} (terms : Terms) (st : State A) (left : Count) (s : Told) (rest : List Told) (policy : Policy) → terms.policy ≡ policy
    → Falls st.forward rest (is_due st.core.receiver) st.core.receiver.buffered.packets st.core.receiver.broken st.missing.packets
    → IsHeard terms st Running left s rest (enters (fallen policy) (learns left st.core.sender))
fall terms st left s rest Auto is f = record {
  outstanding = refl;
  sent = refl;
  resyncing = λ r. ((λ z. absurd (let some = f.some in omega arith)), inr f.some);
  halted = λ r. absurd (cc r);
  talk = subst (λ p. InResyncing p st.core.sender.sent st.core.receiver.buffered st.forward rest (is_due st.core.receiver) st.core.receiver.broken st.missing.packets false false)
      (sym is) (falls_auto st.core.sender.sent st.core.receiver.buffered st.forward rest (is_due st.core.receiver) st.core.receiver.broken st.missing.packets f);
}
fall terms st left s rest Off is f = record {
  outstanding = refl;
  sent = refl;
  resyncing = λ r. absurd (cc r);
  halted = λ r. inr f.some;
  talk = subst (λ p. InHalted p st.forward st.missing.packets)
      (sym is) (falls_off st.forward rest (is_due st.core.receiver) st.core.receiver.buffered.packets st.core.receiver.broken st.missing.packets f);
}

-- a status by which the sender stays in its state
stay : {A : Type 0} (terms : Terms) (st : State A) (state : OutState) (left : Count) (s : Told) (rest : List Told) → st.core.sender.state ≡ state
    → (state ≡ Resyncing → goods (s ∷ rest) ≡ goods rest)
    → Talk terms state (record st { core = record (st.core) { sender = learns left st.core.sender }; back = rest })
    → IsHeard terms st state left s rest (learns left st.core.sender)
stay terms st state left s rest is same talk = record {
  outstanding = refl;
  sent = refl;
  resyncing = λ r. ((λ z. (sym is ∙ r, same (sym is ∙ r))), inl (sym is ∙ r));
  halted = λ r. inl (sym is ∙ r);
  talk = subst (λ q. Talk terms q (record st { core = record (st.core) { sender = learns left st.core.sender }; back = rest })) (sym is) talk;
}

-- the sender begins to run
run : {A : Type 0} (terms : Terms) (st : State A) (state : OutState) (left : Count) (s : Told) (rest : List Told)
    → Talk terms Running (record st { core = record (st.core) { sender = enters Running (learns left st.core.sender) }; back = rest })
    → IsHeard terms st state left s rest (enters Running (learns left st.core.sender))
run terms st state left s rest talk = record {
  outstanding = refl;
  sent = refl;
  resyncing = λ r. absurd (cc r);
  halted = λ r. absurd (cc r);
  talk = talk;
}

okay_heard : {A : Type 0} (terms : Terms) (st : State A) (s : Told) (rest : List Told) (state : OutState) (missed : Bool)
    → st.core.sender.state ≡ state → st.back ≡ s ∷ rest → s.gap ≡ None → has_missed (minus st.core.sender.sent s.told) st.core.sender ≡ missed
    → Balanced st.core.sender.sent st.core.receiver.reached st.core.receiver.buffered (flying st.forward) st.missing
    → (st.core.receiver.buffered.packets ≡ 0 → st.core.receiver.buffered.bytes ≡ 0)
    → Talk terms state st
    → IsHeard terms st state (minus st.core.sender.sent s.told) s rest (after_okay state terms.policy missed (learns (minus st.core.sender.sent s.told) st.core.sender))
okay_heard terms st s rest Opening missed is e good m balanced even h =
    run terms st Opening _ s rest (opening_hear _ _ _ _ _ rest s _ _ _ _ (minus st.core.sender.sent s.told) (transferred st.core.receiver) st.core.receiver.buffered st.core.closed st.core.ready e h).1
okay_heard terms st s rest Running true is e good m balanced even h =
    let both = both_of st.core.sender.pinging (is_none (minus st.core.sender.sent s.told)) m in
    let asked = subst (λ p. InRunning terms.flow st.core.sender.outstanding (transferred st.core.receiver) st.core.receiver.buffered st.core.closed st.core.ready st.forward st.back (is_due st.core.receiver) st.core.receiver.broken st.missing.packets p) both.0 h in
    fall terms st _ s rest terms.policy refl
    (falls_by_ping _ _ _ _ _ _ _ _ _ _ rest s _ _ e balanced even (λ z. not_none _ _ both.1 z.0 z.1) asked)
okay_heard terms st s rest Running false is e good m balanced even h =
    stay terms st Running _ s rest is (λ r. absurd (cc r)) (running_hear _ _ (minus st.core.sender.sent s.told) _ _ _ _ _ _ rest s _ _ _ _ e h)
okay_heard terms st s rest Halted missed is e good m balanced even h = stay terms st Halted _ s rest is (λ r. absurd (cc r)) h
okay_heard terms st s rest Resyncing missed is e good m balanced even h =
    run terms st Resyncing _ s rest (resyncing_hear_good _ _ _ _ _ rest s _ _ _ _ _ terms.flow (minus st.core.sender.sent s.told) (transferred st.core.receiver) st.core.closed st.core.ready e (ap goodness good) h).1

gap_heard : {A : Type 0} (terms : Terms) (st : State A) (s : Told) (rest : List Told) (gap : Gap) (state : OutState)
    → st.core.sender.state ≡ state → st.back ≡ s ∷ rest → s.gap ≡ Some gap → Talk terms state st
    → IsHeard terms st state (minus st.core.sender.sent s.told) s rest (after_gap state terms.policy (learns (minus st.core.sender.sent s.told) st.core.sender))
gap_heard terms st s rest gap Opening is e bad h =
    let zero' = (opening_hear _ _ _ _ _ rest s _ _ _ _ (minus st.core.sender.sent s.told) (transferred st.core.receiver) st.core.receiver.buffered st.core.closed st.core.ready e h).0 in
    let one = ap badness bad in absurd (omega arith)
gap_heard terms st s rest gap Running is e bad h =
    fall terms st _ s rest terms.policy refl (falls_by_gap _ _ _ _ _ _ _ _ rest s _ _ _ _ e (ap badness bad) h)
gap_heard terms st s rest gap Halted is e bad h = stay terms st Halted _ s rest is (λ r. absurd (cc r)) h
gap_heard terms st s rest gap Resyncing is e bad h =
    let zero' = ap goodness bad in
    stay terms st Resyncing _ s rest is (λ r. omega arith) (resyncing_hear_bad _ _ _ _ _ rest s _ _ _ _ _ e h)

code_heard : {A : Type 0} (terms : Terms) (st : State A) (s : Told) (rest : List Told) (gap : Option Gap) → s.gap ≡ gap → Holds terms st → st.back ≡ s ∷ rest
    → IsHeard terms st st.core.sender.state (minus st.core.sender.sent s.told) s rest (hears_left terms.policy (code_by gap) (minus st.core.sender.sent s.told) st.core.sender)
code_heard terms st s rest None is h e =
    okay_heard terms st s rest st.core.sender.state (has_missed (minus st.core.sender.sent s.told) st.core.sender) refl e is refl h.balanced
    (held_even _ _ _ _ _ _ h.counted) h.talk
code_heard terms st s rest (Some gap) is h e = gap_heard terms st s rest gap st.core.sender.state refl e is h.talk

pub holds_hear : {A : Type 0} (terms : Terms) (st : State A) (s : Told) (rest : List Told)
    → IsValid terms.flow → Holds terms st → Allowed terms st (Hear s rest) → Holds terms (after terms st (Hear s rest))
holds_hear {A} terms st s rest valid h e =
    let left : Count = minus st.core.sender.sent s.told in
    let heard = code_heard terms st s rest s.gap refl h e in
    let later : Sender = hears_left terms.policy (code_by s.gap) left st.core.sender in
    let rising = subst (Rising (known st.core.sender) (transferred st.core.receiver)) e h.rising in
    let balance = h.balanced in
    let p : (transferred st.core.receiver).packets ≤ st.core.sender.sent.packets = omega arith in
    let b : (transferred st.core.receiver).bytes ≤ st.core.sender.sent.bytes = omega arith in
    let paid = subst (λ ss. Paid st.core.sender.state st.missing.packets st.core.cuts ss (is_due st.core.receiver) st.core.losses) e h.paid in
    let hearing : Count → State A = λ c. record st { core = record (st.core) { sender = hears_left terms.policy (code_by s.gap) c st.core.sender }; back = rest } in
    let done : Holds terms (hearing left) = record {
      small = h.small;
      counted = rw heard.sent h.counted;
      balanced = rw heard.sent h.balanced;
      credited = rw (heard.sent, heard.outstanding) (credited_hear terms.flow _ _ _ s rest rising h.credited);
      started = rw (heard.sent, heard.outstanding) (started_hear _ _ _ _ s rest p b rising h.started);
      rising = rw (heard.sent, heard.outstanding) (rising_hear _ _ _ s rest p b rising);
      ordered = h.ordered;
      received = h.received;
      epochs = h.epochs;
      paid = paid_hear _ _ _ _ _ rest _ _ (λ r z. (heard.resyncing r).0 z) paid;
      unhurt = unhurt_hear _ _ _ _ _ (λ r. (heard.resyncing r).1) heard.halted h.unhurt;
      talk = heard.talk;
    } in
    subst (λ c. Holds terms (hearing c)) (sym (read_back terms st s rest valid h e)) done
