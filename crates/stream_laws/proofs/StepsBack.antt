-- The invariant is kept by taking, by reports, and by the statuses that arrive or are lost.
use Rattle.std.proofs.Common.{◌≡◌, ℕ, ◌+◌, ◌≤◌, ◌⊎◌, true, List, [], ◌∷◌, ◌++◌, length, take, drop, subst, arith}
use Rattle.stream_endpoint.specs.declared.count.Count.{Count}
use Rattle.stream_endpoint.specs.declared.state.OutState.{OutState}
use Rattle.stream_endpoint.specs.declared.state.OutState.TheVariants.{Opening, Running, Halted, Resyncing}
use Rattle.stream_endpoint.specs.Counts.{minus, spelled_minus}
use Rattle.stream_endpoint.specs.Flow.{IsValid}
use Rattle.stream_endpoint.specs.Receiver.{is_due, reports, takes, transferred}
use Rattle.stream_endpoint.specs.Sender.{Sender, known}
use Rattle.stream_laws.specs.Machine.{State, Terms, Told, count_of, told_by}
use Rattle.stream_laws.specs.Acts.{Allowed, after, Take, Report, LoseStatus}
use Rattle.stream_laws.specs.Chains.{bytes_told, goodness, packets_told}
use Rattle.stream_laws.specs.Invariant.{Paid, Rising, goods}
use Rattle.stream_laws.specs.Talk.{Holds, InOpening, InResyncing, InRunning, Talk}
use Rattle.stream_laws.proofs.Chains.{rises_le}
use Rattle.stream_laws.proofs.Marks.{due_stays, paid_due, paid_lose, paid_report}
use Rattle.stream_laws.proofs.Numbers.{balanced_take, bytes_back, counted_take, packets_back, rising_lose, rising_move, rising_report}
use Rattle.stream_laws.proofs.TalkBack.{opening_lose, opening_report, resyncing_lose, resyncing_report, resyncing_take, running_lose, running_report, running_take}

take_talk : {A : Type 0} (terms : Terms) (st : State A) (taken : Count) (more : ℕ) (state : OutState) → 1 ≤ st.core.receiver.buffered.packets → 1 ≤ length st.core.given
    → Talk terms state st → Talk terms state (record st { core = record (st.core) { receiver = takes taken st.core.receiver; taken = more } })
take_talk terms st taken more Opening some given h = absurd (let n = h.none_given in omega arith)
take_talk terms st taken more Running some given h = running_take _ _ _ _ _ _ _ _ _ _ _ _ _ _ _ some h
take_talk terms st taken more Halted some given h = h
take_talk terms st taken more Resyncing some given h = resyncing_take _ _ _ _ _ _ _ _ _ _ _ _ some h

pub holds_take : {A : Type 0} (terms : Terms) (st : State A) (n : ℕ)
    → Holds terms st → Allowed terms st (Take n) → Holds terms (after terms st (Take n))
holds_take terms st n h allowed =
    let some = allowed.0 in
    let within = allowed.1 in
    let held = h.counted.held_packets in
    record {
      small = h.small;
      counted = counted_take _ _ _ _ _ _ n h.counted within;
      balanced = balanced_take _ _ _ _ _ (count_of (take n (drop st.core.taken st.core.given))) h.balanced;
      credited = h.credited;
      started = h.started;
      rising = rising_move _ _ _ _ (omega arith) (omega arith) h.rising;
      ordered = h.ordered;
      received = h.received;
      epochs = h.epochs;
      paid = paid_due _ _ _ _ _ _ _ (due_stays st.core.receiver.frequency (count_of (take n (drop st.core.taken st.core.given))) st.core.receiver.notice) h.paid;
      unhurt = h.unhurt;
      talk = take_talk terms st (count_of (take n (drop st.core.taken st.core.given))) (st.core.taken + n) st.core.sender.state (omega arith) (omega arith) h.talk;
    }

-- the receiver is good once a RESYNC has arrived
good_then : {A : Type 0} (terms : Terms) (st : State A) (state : OutState) → Talk terms state st
    → state ≡ Resyncing → st.missing.packets ≡ 0 → goodness st.core.receiver.broken ≡ 1
good_then terms st Opening h is z = absurd (cc is)
good_then terms st Running h is z = absurd (cc is)
good_then terms st Halted h is z = absurd (cc is)
good_then terms st Resyncing h is z = (h.behind z).good

report_talk : {A : Type 0} (terms : Terms) (st : State A) (state : OutState) → is_due st.core.receiver ≡ true
    → Talk terms state st → Talk terms state (record st { core = record (st.core) { receiver = reports st.core.receiver }; back = st.back ++ told_by st.core.receiver ∷ [] })
report_talk terms st Opening due h = opening_report _ _ _ _ st.back (told_by st.core.receiver) _ _
    (subst (λ d. InOpening terms.flow st.core.sent st.core.given st.forward st.back d st.core.receiver.broken st.missing.packets st.core.sender.commanded) due h)
report_talk terms st Running due h = running_report _ _ _ _ _ _ st.back (told_by st.core.receiver) _ _
    (subst (λ d. InRunning terms.flow st.core.sender.outstanding (transferred st.core.receiver) st.core.receiver.buffered st.core.closed st.core.ready st.forward st.back d st.core.receiver.broken st.missing.packets st.core.sender.pinging) due h)
report_talk terms st Halted due h = h
report_talk terms st Resyncing due h = resyncing_report _ _ _ _ st.back (told_by st.core.receiver) _ _ _
    (subst (λ d. InResyncing terms.policy st.core.sender.sent st.core.receiver.buffered st.forward st.back d st.core.receiver.broken st.missing.packets st.core.sender.pinging st.core.sender.commanded) due h)

pub holds_report : {A : Type 0} (terms : Terms) (st : State A) → Holds terms st → Allowed terms st Report → Holds terms (after terms st Report)
holds_report terms st h due = record {
  small = h.small;
  counted = h.counted;
  balanced = h.balanced;
  credited = h.credited;
  started = h.started;
  rising = rising_report _ st.back (told_by st.core.receiver) h.rising;
  ordered = h.ordered;
  received = h.received;
  epochs = h.epochs;
  paid = paid_report _ _ _ st.back (told_by st.core.receiver) _ (good_then terms st st.core.sender.state h.talk) (subst (λ d. Paid st.core.sender.state st.missing.packets st.core.cuts st.back d st.core.losses) due h.paid);
  unhurt = h.unhurt;
  talk = report_talk terms st st.core.sender.state due h.talk;
}

lose_talk : {A : Type 0} (terms : Terms) (st : State A) (before : List Told) (s : Told) (behind : List Told) (state : OutState) → st.back ≡ before ++ s ∷ behind
    → Talk terms state st → Talk terms state (record st { core = record (st.core) { losses = st.core.losses + 1 }; back = before ++ behind })
lose_talk terms st before s behind Opening e h = opening_lose _ _ _ _ _ before s behind _ _ _ _ e h
lose_talk terms st before s behind Running e h = running_lose _ _ _ _ _ _ _ _ before s behind _ _ _ _ e h
lose_talk terms st before s behind Halted e h = h
lose_talk terms st before s behind Resyncing e h = resyncing_lose _ _ _ _ _ before s behind _ _ _ _ _ e h

pub holds_lose_status : {A : Type 0} (terms : Terms) (st : State A) (before : List Told) (s : Told) (behind : List Told)
    → Holds terms st → Allowed terms st (LoseStatus before s behind) → Holds terms (after terms st (LoseStatus before s behind))
holds_lose_status terms st before s behind h e = record {
  small = h.small;
  counted = h.counted;
  balanced = h.balanced;
  credited = h.credited;
  started = h.started;
  rising = rising_lose _ _ before s behind (subst (Rising (known st.core.sender) (transferred st.core.receiver)) e h.rising);
  ordered = h.ordered;
  received = h.received;
  epochs = h.epochs;
  paid = paid_lose _ _ _ _ _ _ _ _ h.paid;
  unhurt = h.unhurt;
  talk = lose_talk terms st before s behind st.core.sender.state e h.talk;
}

-- what a status leaves outstanding is what was sent past it
pub read_back : {A : Type 0} (terms : Terms) (st : State A) (s : Told) (rest : List Told) → IsValid terms.flow → Holds terms st → st.back ≡ s ∷ rest
    → spelled_minus st.core.sender.sent s.told ≡ minus st.core.sender.sent s.told
read_back terms st s rest valid h e =
    let rising = subst (Rising (known st.core.sender) (transferred st.core.receiver)) e h.rising in
    let p = rises_le packets_told _ rest _ rising.packets.1 in
    let b = rises_le bytes_told _ rest _ rising.bytes.1 in
    let credit = h.credited in
    let balance = h.balanced in
    let few = valid.few_packets in
    let small = valid.few_bytes in
    let first = rising.packets.0 in
    let second = rising.bytes.0 in
    let sp = packets_back st.core.sender.sent.packets s.told.packets (omega arith) (omega arith) in
    let sb = bytes_back st.core.sender.sent.bytes s.told.bytes (omega arith) (omega arith) in
    λ i. record { packets = sp i; bytes = sb i }

-- a status leaves a sender in another state
pub record IsHeard {A : Type 0} (terms : Terms) (st : State A) (state : OutState) (left : Count) (s : Told) (rest : List Told) (later : Sender) : Type 0 where
  pub outstanding : later.outstanding ≡ left
  pub sent : later.sent ≡ st.core.sender.sent
  pub resyncing : later.state ≡ Resyncing → (st.missing.packets ≡ 0 → (state ≡ Resyncing) × (goods (s ∷ rest) ≡ goods rest)) × ((state ≡ Resyncing) ⊎ (1 ≤ st.missing.packets))
  pub halted : later.state ≡ Halted → (state ≡ Halted) ⊎ (1 ≤ st.missing.packets)
  pub talk : Talk terms later.state (record st { core = record (st.core) { sender = later }; back = rest })
