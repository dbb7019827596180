-- The invariant is kept by each act of the producer, by each command, and by each packet that arrives or is lost.
use Rattle.std.proofs.Common.{◌≡◌, ℕ, ◌+◌, ◌<◌, ◌≤◌, ◌%◌, ◌^◌, Some, None, List, [], ◌∷◌, ◌++◌, length, slice_get, ap, sym, subst, arith}
use Rattle.chdr_words.specs.declared.command.CmdOp.{CmdOp}
use Rattle.stream_endpoint.specs.declared.count.Count.{Count}
use Rattle.stream_endpoint.specs.declared.state.Gap.{Gap}
use Rattle.stream_endpoint.specs.declared.state.OutState.{OutState}
use Rattle.stream_endpoint.specs.declared.state.OutState.TheVariants.{Opening, Running, Halted, Resyncing}
use Rattle.stream_endpoint.specs.Counts.{one_of, plus}
use Rattle.stream_endpoint.specs.Flow.{IsValid}
use Rattle.stream_endpoint.specs.Receiver.{Receiver, breaks, expected, is_due, keeps}
use Rattle.stream_laws.specs.Machine.{Entry, Data, Command, Load, State, Terms, number_at}
use Rattle.stream_laws.specs.Acts.{Allowed, after, Keep, Break, Discard, LosePacket, LoseCommand}
use Rattle.stream_laws.specs.Chains.{AllLost, AreSent, IsLost, Stand, badness, flying, packets_told}
use Rattle.stream_laws.specs.Epochs.{begun}
use Rattle.stream_laws.specs.Invariant.{Ordered, Received}
use Rattle.stream_laws.specs.Talk.{Holds, InResyncing, Talk}
use Rattle.stream_laws.proofs.Chains.{rises_le, stand_count, stand_place}
use Rattle.stream_laws.proofs.Marks.{arrives_broken, arrives_discarded, arrives_kept, discarded_is, gap_is, kept_is, paid_lose, paid_miss, unhurt_lose, unhurt_miss}
use Rattle.stream_laws.proofs.Numbers.{balanced_keep, balanced_lose, balanced_lose_command, balanced_miss, counted_keep, rising_move}
use Rattle.stream_laws.proofs.Places.{epochs_keep, epochs_lose, near, ordered_arrive, ordered_lose, ordered_lose_command, received_break, received_discard, received_keep, received_lose}
use Rattle.stream_laws.proofs.TalkForward.{halted_less, opening_command, opening_data, resyncing_data, resyncing_data_good, resyncing_lose_command, running_command, running_data, shorter_data, shorter_lose, shorter_lose_command}

-- what is known of a packet that arrives
pub record Arriving {A : Type 0} (terms : Terms) (st : State A) (place : ℕ) (load : Load A) : Type 0 where
  pub behind : st.next ≤ place
  pub all : AllLost st.core.lost st.next place
  pub fresh : IsLost st.core.lost place → ⊥
  pub sent : place < length st.core.sent
  pub same : slice_get st.core.sent place ≡ Some load
  -- at the expected place, or near behind it
  pub at : st.core.receiver.reached.packets ≤ terms.start.packets + place
  pub few : terms.start.packets + place < st.core.receiver.reached.packets + 65536
  -- past the expected place something is missing
  pub some : st.core.receiver.reached.packets < terms.start.packets + place → 1 ≤ st.missing.packets

pub arriving : {A : Type 0} (terms : Terms) (st : State A) (place : ℕ) (load : Load A) (rest : List (Entry A))
    → IsValid terms.flow → Holds terms st → st.forward ≡ Data place load ∷ rest → Arriving terms st place load
arriving terms st place load rest valid h e =
    let stand = subst (λ es. Stand st.core.lost st.next es (length st.core.sent)) e h.ordered.stand in
    let count = stand_count st.core.lost (place + 1) rest (length st.core.sent) stand.3 in
    let flight = ap (λ es. (flying es).packets) e in
    let balance = h.balanced.packets in
    let total = h.counted.sent_packets in
    let passed = h.received.passed in
    let known' = rises_le packets_told _ st.back _ h.rising.packets in
    let credit = h.credited.packets in
    let within = h.credited.sent_packets in
    let cap = valid.few_packets in
    record {
      behind = stand.0;
      all = stand.1;
      fresh = stand.2;
      sent = omega arith;
      same = (subst (AreSent st.core.sent) e h.ordered.same).0;
      at = omega arith;
      few = omega arith;
      some = λ later. omega arith;
    }

keep_talk : {A : Type 0} (terms : Terms) (st : State A) (place : ℕ) (load : Load A) (rest : List (Entry A)) (state : OutState)
    → st.forward ≡ Data place load ∷ rest → st.core.receiver.broken ≡ None → Talk terms state st
    → Talk terms state (record st { core = record (st.core) { receiver = keeps load.wire st.core.receiver; given = st.core.given ++ load ∷ [] }; forward = rest; next = place + 1 })
keep_talk terms st place load rest Opening e good h = absurd (opening_data _ _ _ _ _ _ _ _ _ _ (shorter_data _ place load rest e) h)
keep_talk terms st place load rest Running e good h =
    running_data _ _ _ _ _ _ _ _ _ _ _ _ _ _ _ _ _ _ (shorter_data _ place load rest e) (omega arith) h.some_missing h
keep_talk terms st place load rest Halted e good h = halted_less _ _ _ _ _ _ _ (shorter_data _ place load rest e) (omega arith) h
keep_talk terms st place load rest Resyncing e good h =
    absurd (resyncing_data_good _ _ _ _ _ _ _ _ _ _ (shorter_data _ place load rest e)
    (subst (λ g. InResyncing terms.policy st.core.sender.sent st.core.receiver.buffered st.forward st.back (is_due st.core.receiver) g st.missing.packets st.core.sender.pinging st.core.sender.commanded) good h))

pub holds_keep : {A : Type 0} (terms : Terms) (st : State A) (place : ℕ) (load : Load A) (rest : List (Entry A))
    → IsValid terms.flow → Holds terms st → Allowed terms st (Keep place load rest) → Holds terms (after terms st (Keep place load rest))
holds_keep {A} terms st place load rest valid h allowed =
    let e = allowed.0 in
    let is = kept_is st.core.receiver.broken (expected st.core.receiver) (number_at terms place) allowed.1 in
    let a = arriving terms st place load rest valid h e in
    let here : terms.start.packets + place ≡ st.core.receiver.reached.packets = near _ _ a.at a.few is.1 in
    let received = subst (λ g. Received terms.start.packets st.core.receiver.reached.packets st.next st.core.given st.core.lost (begun st.core.cuts) g) is.0 h.received in
    let reached_is = h.received.reached_is in
    let keeping : Receiver → State A = λ r. record st { core = record (st.core) { receiver = r; given = st.core.given ++ load ∷ [] }; forward = rest; next = place + 1 } in
    let kept : Holds terms (keeping (keeps load.wire st.core.receiver)) = record {
      small = h.small;
      counted = counted_keep _ _ _ _ _ _ load h.counted;
      balanced = balanced_keep _ _ _ _ st.forward place load rest e h.balanced;
      credited = h.credited;
      started = h.started;
      rising = rising_move _ _ _ _ (let b = h.balanced in omega arith) (let b = h.balanced in omega arith) h.rising;
      ordered = ordered_arrive _ _ _ place load rest (subst (Ordered st.core.sent st.core.lost st.next) e h.ordered);
      received = subst (λ g. Received terms.start.packets (st.core.receiver.reached.packets + 1) (place + 1) (st.core.given ++ load ∷ []) st.core.lost (begun st.core.cuts) g)
          (sym is.0) (received_keep _ _ _ place _ _ _ load here received);
      epochs = epochs_keep st.core.sent st.core.given st.core.lost load place st.core.cuts (omega arith) a.same a.fresh h.epochs;
      paid = h.paid;
      unhurt = h.unhurt;
      talk = keep_talk terms st place load rest st.core.sender.state e is.0 h.talk;
    } in
    subst (λ r. Holds terms (keeping r)) (sym (arrives_kept st.core.receiver (number_at terms place) load.wire is.0 is.1)) kept

break_talk : {A : Type 0} (terms : Terms) (st : State A) (place : ℕ) (load : Load A) (rest : List (Entry A)) (state : OutState)
    → st.forward ≡ Data place load ∷ rest → st.core.receiver.broken ≡ None → Talk terms state st
    → Talk terms state (record st { core = record (st.core) { receiver = breaks (number_at terms place) st.core.receiver }; forward = rest; next = place + 1; missing = plus st.missing (one_of load.wire) })
break_talk terms st place load rest Opening e good h = absurd (opening_data _ _ _ _ _ _ _ _ _ _ (shorter_data _ place load rest e) h)
break_talk terms st place load rest Running e good h =
    let zero' = ap badness good in
    running_data _ _ _ _ _ _ _ _ _ _ _ _ _ _ _ _ _ _ (shorter_data _ place load rest e) (omega arith) (omega arith) h
break_talk terms st place load rest Halted e good h = halted_less _ _ _ _ _ _ _ (shorter_data _ place load rest e) (omega arith) h
break_talk terms st place load rest Resyncing e good h =
    absurd (resyncing_data_good _ _ _ _ _ _ _ _ _ _ (shorter_data _ place load rest e)
    (subst (λ g. InResyncing terms.policy st.core.sender.sent st.core.receiver.buffered st.forward st.back (is_due st.core.receiver) g st.missing.packets st.core.sender.pinging st.core.sender.commanded) good h))

pub holds_break : {A : Type 0} (terms : Terms) (st : State A) (place : ℕ) (load : Load A) (rest : List (Entry A))
    → IsValid terms.flow → Holds terms st → Allowed terms st (Break place load rest) → Holds terms (after terms st (Break place load rest))
holds_break {A} terms st place load rest valid h allowed =
    let e = allowed.0 in
    let is = gap_is st.core.receiver.broken (expected st.core.receiver) (number_at terms place) allowed.1 in
    let a = arriving terms st place load rest valid h e in
    let other : terms.start.packets + place ≡ st.core.receiver.reached.packets → ⊥ = λ same. is.1 (ap (λ n. n % 2 ^ 16) same) in
    let later : st.core.receiver.reached.packets < terms.start.packets + place = (let at = a.at in omega arith) in
    let received = subst (λ g. Received terms.start.packets st.core.receiver.reached.packets st.next st.core.given st.core.lost (begun st.core.cuts) g) is.0 h.received in
    let breaking : Receiver → State A = λ r. record st { core = record (st.core) { receiver = r }; forward = rest; next = place + 1; missing = plus st.missing (one_of load.wire) } in
    let broken : Holds terms (breaking (breaks (number_at terms place) st.core.receiver)) = record {
      small = h.small;
      counted = h.counted;
      balanced = balanced_miss _ _ _ _ st.forward place load rest e h.balanced;
      credited = h.credited;
      started = h.started;
      rising = h.rising;
      ordered = ordered_arrive _ _ _ place load rest (subst (Ordered st.core.sent st.core.lost st.next) e h.ordered);
      received = received_break _ _ _ place _ _ _ later a.behind a.all a.fresh received;
      epochs = h.epochs;
      paid = paid_miss _ _ _ _ _ _ _ _ (a.some later) (omega arith) h.paid;
      unhurt = unhurt_miss _ _ _ _ _ (a.some later) h.unhurt;
      talk = break_talk terms st place load rest st.core.sender.state e is.0 h.talk;
    } in
    subst (λ r. Holds terms (breaking r)) (sym (arrives_broken st.core.receiver (number_at terms place) load.wire is.0 is.1)) broken

discard_talk : {A : Type 0} (terms : Terms) (st : State A) (place : ℕ) (load : Load A) (rest : List (Entry A)) (gap : Gap) (state : OutState)
    → st.forward ≡ Data place load ∷ rest → st.core.receiver.broken ≡ Some gap → Talk terms state st
    → Talk terms state (record st { forward = rest; next = place + 1; missing = plus st.missing (one_of load.wire) })
discard_talk terms st place load rest gap Opening e bad h = absurd (opening_data _ _ _ _ _ _ _ _ _ _ (shorter_data _ place load rest e) h)
discard_talk terms st place load rest gap Running e bad h =
    let m = h.some_missing in
    running_data _ _ _ _ _ _ _ _ _ _ _ _ _ _ _ _ _ _ (shorter_data _ place load rest e) (omega arith) (omega arith) h
discard_talk terms st place load rest gap Halted e bad h = halted_less _ _ _ _ _ _ _ (shorter_data _ place load rest e) (omega arith) h
discard_talk terms st place load rest gap Resyncing e bad h = resyncing_data _ _ _ _ _ _ _ _ _ _ _ (shorter_data _ place load rest e) h

pub holds_discard : {A : Type 0} (terms : Terms) (st : State A) (place : ℕ) (load : Load A) (rest : List (Entry A))
    → IsValid terms.flow → Holds terms st → Allowed terms st (Discard place load rest) → Holds terms (after terms st (Discard place load rest))
holds_discard {A} terms st place load rest valid h allowed =
    let e = allowed.0 in
    let is = discarded_is st.core.receiver.broken (expected st.core.receiver) (number_at terms place) allowed.1 in
    let a = arriving terms st place load rest valid h e in
    let received = subst (λ g. Received terms.start.packets st.core.receiver.reached.packets st.next st.core.given st.core.lost (begun st.core.cuts) g) is.1 h.received in
    let later : st.core.receiver.reached.packets < terms.start.packets + place = (
    let first = received.shape.later in
    let passed = received.shape.arrived in
    let behind = a.behind in
    omega arith
    ) in
    let discarding : Receiver → State A = λ r. record st { core = record (st.core) { receiver = r }; forward = rest; next = place + 1; missing = plus st.missing (one_of load.wire) } in
    let discarded : Holds terms (discarding st.core.receiver) = record {
      small = h.small;
      counted = h.counted;
      balanced = balanced_miss _ _ _ _ st.forward place load rest e h.balanced;
      credited = h.credited;
      started = h.started;
      rising = h.rising;
      ordered = ordered_arrive _ _ _ place load rest (subst (Ordered st.core.sent st.core.lost st.next) e h.ordered);
      received = subst (λ g. Received terms.start.packets st.core.receiver.reached.packets (place + 1) st.core.given st.core.lost (begun st.core.cuts) g) (sym is.1)
          (received_discard _ _ _ place _ _ _ is.0 a.behind received);
      epochs = h.epochs;
      paid = paid_miss _ _ _ _ _ _ _ _ (a.some later) (omega arith) h.paid;
      unhurt = unhurt_miss _ _ _ _ _ (a.some later) h.unhurt;
      talk = discard_talk terms st place load rest is.0 st.core.sender.state e is.1 h.talk;
    } in
    subst (λ r. Holds terms (discarding r)) (sym (arrives_discarded st.core.receiver (number_at terms place) load.wire is.0 is.1)) discarded

lose_talk : {A : Type 0} (terms : Terms) (st : State A) (before : List (Entry A)) (place : ℕ) (load : Load A) (behind : List (Entry A)) (state : OutState)
    → st.forward ≡ before ++ Data place load ∷ behind → Talk terms state st
    → Talk terms state (record st { core = record (st.core) { lost = place ∷ st.core.lost; losses = st.core.losses + 1 }; forward = before ++ behind; missing = plus st.missing (one_of load.wire) })
lose_talk terms st before place load behind Opening e h = absurd (opening_data _ _ _ _ _ _ _ _ _ _ (shorter_lose _ before place load behind e) h)
lose_talk terms st before place load behind Running e h =
    let m = h.some_missing in
    running_data _ _ _ _ _ _ _ _ _ _ _ _ _ _ _ _ _ _ (shorter_lose _ before place load behind e) (omega arith) (omega arith) h
lose_talk terms st before place load behind Halted e h = halted_less _ _ _ _ _ _ _ (shorter_lose _ before place load behind e) (omega arith) h
lose_talk terms st before place load behind Resyncing e h = resyncing_data _ _ _ _ _ _ _ _ _ _ _ (shorter_lose _ before place load behind e) h

pub holds_lose : {A : Type 0} (terms : Terms) (st : State A) (before : List (Entry A)) (place : ℕ) (load : Load A) (behind : List (Entry A))
    → Holds terms st → Allowed terms st (LosePacket before place load behind) → Holds terms (after terms st (LosePacket before place load behind))
holds_lose terms st before place load behind h e =
    let ordered = subst (Ordered st.core.sent st.core.lost st.next) e h.ordered in
    let within = stand_place st.core.lost st.next before place load behind (length st.core.sent) ordered.stand in
    let reached_is = h.received.reached_is in
    let from_here = h.received.from_here in
    let passed = h.received.passed in
    record {
      small = h.small;
      counted = h.counted;
      balanced = balanced_lose _ _ _ _ st.forward before place load behind e h.balanced;
      credited = h.credited;
      started = h.started;
      rising = h.rising;
      ordered = ordered_lose _ _ _ before place load behind ordered;
      received = received_lose _ _ _ place _ _ _ _ within.0 h.received;
      epochs = epochs_lose _ _ _ place st.core.cuts _ (omega arith) (omega arith) h.epochs;
      paid = paid_lose _ _ _ _ _ _ _ _ h.paid;
      unhurt = unhurt_lose _ st.missing.packets _ _ _ place;
      talk = lose_talk terms st before place load behind st.core.sender.state e h.talk;
    }

lose_command_talk : {A : Type 0} (terms : Terms) (st : State A) (before : List (Entry A)) (op : CmdOp) (told : Count) (behind : List (Entry A)) (state : OutState)
    → st.forward ≡ before ++ Command op told ∷ behind → Talk terms state st
    → Talk terms state (record st { core = record (st.core) { losses = st.core.losses + 1 }; forward = before ++ behind })
lose_command_talk terms st before op told behind Opening e h = opening_command _ _ _ _ _ _ _ _ _ _ _ (shorter_lose_command _ before op told behind e) (omega arith) h
lose_command_talk terms st before op told behind Running e h = running_command _ _ _ _ _ _ _ _ _ _ _ _ _ _ (shorter_lose_command _ before op told behind e) (omega arith) h
lose_command_talk terms st before op told behind Halted e h = halted_less _ _ _ _ _ _ _ (shorter_lose_command _ before op told behind e) (omega arith) h
lose_command_talk terms st before op told behind Resyncing e h = resyncing_lose_command _ _ _ _ _ _ _ _ _ _ _ (shorter_lose_command _ before op told behind e) h

pub holds_lose_command : {A : Type 0} (terms : Terms) (st : State A) (before : List (Entry A)) (op : CmdOp) (told : Count) (behind : List (Entry A))
    → Holds terms st → Allowed terms st (LoseCommand before op told behind) → Holds terms (after terms st (LoseCommand before op told behind))
holds_lose_command terms st before op told behind h e = record {
  small = h.small;
  counted = h.counted;
  balanced = balanced_lose_command _ _ _ _ st.forward before op told behind e h.balanced;
  credited = h.credited;
  started = h.started;
  rising = h.rising;
  ordered = ordered_lose_command _ _ _ before op told behind (subst (Ordered st.core.sent st.core.lost st.next) e h.ordered);
  received = h.received;
  epochs = h.epochs;
  paid = paid_lose _ _ _ _ _ _ _ _ h.paid;
  unhurt = h.unhurt;
  talk = lose_command_talk terms st before op told behind st.core.sender.state e h.talk;
}
