-- The invariant is kept by the producer, by what the sender sends, and by each command.
use Rattle.std.proofs.Common.{◌≡◌, ℕ, ◌+◌, ◌≤◌, ◌⊎◌, inl, inr, Bool, true, false, List, [], ◌∷◌, ◌++◌, length, refl, ap, sym, subst, arith}
use Rattle.std.specs.List.{AllByRecursion}
use Rattle.chdr_words.specs.declared.command.CmdOp.{CmdOp}
use Rattle.chdr_words.specs.declared.command.CmdOp.TheVariants.{Init, Ping, Resync, Other}
use Rattle.stream_endpoint.specs.declared.count.Count.{Count}
use Rattle.stream_endpoint.specs.declared.state.OutState.{OutState}
use Rattle.stream_endpoint.specs.declared.state.OutState.TheVariants.{Opening, Running, Halted, Resyncing}
use Rattle.stream_endpoint.specs.Counts.{none}
use Rattle.stream_endpoint.specs.Flow.{HasCredit, frequency}
use Rattle.stream_endpoint.specs.Receiver.{Receiver, is_due, obeys}
use Rattle.stream_endpoint.specs.Sender.{commands, sends}
use Rattle.stream_laws.specs.Machine.{Entry, Data, Command, Load, State, Terms, Told}
use Rattle.stream_laws.specs.Acts.{Allowed, IsQuiet, MayOrder, after, Fill, Close, Enter, Order, Obey, Renew}
use Rattle.stream_laws.specs.Chains.{EndsWith, orders}
use Rattle.stream_laws.specs.Epochs.{reach}
use Rattle.stream_laws.specs.Invariant.{Ordered, Paid, Unhurt, dues, goods}
use Rattle.stream_laws.specs.Talk.{Holds, Talk, traffic}
use Rattle.stream_laws.proofs.Marks.{paid_due, paid_renew, unhurt_renew}
use Rattle.stream_laws.proofs.Numbers.{balanced_enter, balanced_obey, balanced_order, balanced_renew, counted_enter, credited_enter, rising_enter, rising_move, started_enter}
use Rattle.stream_laws.proofs.Places.{epochs_enter, epochs_renew, ordered_enter, ordered_obey, ordered_order, ordered_renew, received_renew}
use Rattle.stream_laws.proofs.TalkForward.{halted_less, opening_command, opening_order, resyncing_order, resyncing_renew, running_command, running_enter, running_order, running_ready, shorter_command, stuck_close, stuck_fill}

all_append : {X : Type 0} (P : X → Type 0) (xs ys : List X) → AllByRecursion P xs → AllByRecursion P ys → AllByRecursion P (xs ++ ys)
all_append P [] ys hx hy = hy
all_append P (x ∷ xs) ys hx hy = (hx.0, all_append P xs ys hx.1 hy)

fill_talk : {A : Type 0} (terms : Terms) (st : State A) (loads : List (Load A)) (state : OutState) → st.core.closed ≡ false
    → Talk terms state st → Talk terms state (record st { core = record (st.core) { ready = st.core.ready ++ loads } })
fill_talk terms st loads Opening open' h = h
fill_talk terms st loads Running open' h = running_ready _ _ _ _ _ _ _ _ _ _ _ _ _ _ (stuck_fill terms.flow st.core.sender.outstanding st.core.closed st.core.ready loads open') h
fill_talk terms st loads Halted open' h = h
fill_talk terms st loads Resyncing open' h = h

pub holds_fill : {A : Type 0} (terms : Terms) (st : State A) (loads : List (Load A))
    → Holds terms st → Allowed terms st (Fill loads) → Holds terms (after terms st (Fill loads))
holds_fill {A} terms st loads h allowed = record {
  small = all_append (λ (load : Load A). load.wire ≤ terms.flow.cap_bytes) st.core.ready loads h.small allowed.1;
  counted = h.counted;
  balanced = h.balanced;
  credited = h.credited;
  started = h.started;
  rising = h.rising;
  ordered = h.ordered;
  received = h.received;
  epochs = h.epochs;
  paid = h.paid;
  unhurt = h.unhurt;
  talk = fill_talk terms st loads st.core.sender.state allowed.0 h.talk;
}

close_talk : {A : Type 0} (terms : Terms) (st : State A) (state : OutState) → Talk terms state st → Talk terms state (record st { core = record (st.core) { closed = true } })
close_talk terms st Opening h = h
close_talk terms st Running h = running_ready _ _ _ _ _ _ _ _ _ _ _ _ _ _ (stuck_close terms.flow st.core.sender.outstanding st.core.closed st.core.ready) h
close_talk terms st Halted h = h
close_talk terms st Resyncing h = h

pub holds_close : {A : Type 0} (terms : Terms) (st : State A) → Holds terms st → Holds terms (after terms st Close)
holds_close terms st h = record {
  small = h.small;
  counted = h.counted;
  balanced = h.balanced;
  credited = h.credited;
  started = h.started;
  rising = h.rising;
  ordered = h.ordered;
  received = h.received;
  epochs = h.epochs;
  paid = h.paid;
  unhurt = h.unhurt;
  talk = close_talk terms st st.core.sender.state h.talk;
}

enter_talk : {A : Type 0} (terms : Terms) (st : State A) (load : Load A) (rest : List (Load A)) (state : OutState) → state ≡ Running
    → st.core.ready ≡ load ∷ rest → HasCredit terms.flow st.core.sender.outstanding load.wire → Talk terms state st
    → Talk terms state (record st { core = record (st.core) { ready = rest; sent = st.core.sent ++ load ∷ []; sender = sends load.wire st.core.sender }; forward = st.forward ++ Data (length st.core.sent) load ∷ [] })
enter_talk terms st load rest Opening is e credit h = absurd (cc is)
enter_talk terms st load rest Running is e credit h = running_enter _ _ _ _ _ _ _ load rest _ _ _ _ _ _ _ e credit h
enter_talk terms st load rest Halted is e credit h = absurd (cc is)
enter_talk terms st load rest Resyncing is e credit h = absurd (cc is)

pub holds_enter : {A : Type 0} (terms : Terms) (st : State A) (load : Load A) (rest : List (Load A))
    → Holds terms st → Allowed terms st (Enter load rest) → Holds terms (after terms st (Enter load rest))
holds_enter {A} terms st load rest h allowed =
    let e = allowed.0 in
    let may = allowed.1 in
    record {
      small = (subst (AllByRecursion (λ (l : Load A). l.wire ≤ terms.flow.cap_bytes)) e h.small).1;
      counted = counted_enter _ _ _ _ _ _ load h.counted;
      balanced = balanced_enter _ _ _ _ st.forward (length st.core.sent) load h.balanced;
      credited = credited_enter _ _ _ load.wire may.1 h.credited;
      started = started_enter terms.flow terms.start _ _ load.wire h.credited h.started;
      rising = rising_enter terms.flow _ _ _ _ load.wire h.credited h.rising;
      ordered = ordered_enter _ _ _ st.forward load h.ordered;
      received = h.received;
      epochs = epochs_enter _ _ _ load _ h.ordered.past h.epochs;
      paid = h.paid;
      unhurt = h.unhurt;
      talk = enter_talk terms st load rest st.core.sender.state may.0 e may.1 h.talk;
    }

-- a quiet stream
pub quiet_traffic : {A : Type 0} (st : State A) → IsQuiet st → traffic st.forward (is_due st.core.receiver) st.back ≡ 0
quiet_traffic st q =
    let o = ap orders q.none_forward in let d = ap dues q.none_due in let b = ap length q.none_back in omega arith

init_traffic : {A : Type 0} (terms : Terms) (st : State A) → (st.core.sender.commanded ≡ false) ⊎ IsQuiet st → Talk terms Opening st
    → traffic st.forward (is_due st.core.receiver) st.back ≡ 0
init_traffic terms st (inl first) h = h.silent first
init_traffic terms st (inr quiet) h = quiet_traffic st quiet

resync_idle : {A : Type 0} (terms : Terms) (st : State A) → Holds terms st → (st.core.sender.commanded ≡ false) ⊎ IsQuiet st
    → (st.core.sender.commanded ≡ false) ⊎ (orders st.forward + dues (is_due st.core.receiver) + length st.back + st.core.receiver.buffered.packets ≡ 0)
resync_idle terms st h (inl first) = inl first
resync_idle terms st h (inr quiet) =
    inr (let t = quiet_traffic st quiet in let c = h.counted.held_packets in let all = quiet.all_taken in omega arith)

init_talk : {A : Type 0} (terms : Terms) (st : State A) (state : OutState) → state ≡ Opening → (st.core.sender.commanded ≡ false) ⊎ IsQuiet st → Talk terms state st
    → Talk terms state (record st { core = record (st.core) { sender = commands Init st.core.sender }; forward = st.forward ++ Command Init (frequency terms.flow) ∷ [] })
init_talk terms st Opening is may h = opening_order _ _ _ _ _ _ _ _ _ (init_traffic terms st may h) h
init_talk terms st Running is may h = absurd (cc is)
init_talk terms st Halted is may h = absurd (cc is)
init_talk terms st Resyncing is may h = absurd (cc is)

ping_talk : {A : Type 0} (terms : Terms) (st : State A) (state : OutState) → state ≡ Running → MayOrder terms st Ping → st.core.receiver.buffered.packets ≡ 0
    → Talk terms state st → Talk terms state (record st { core = record (st.core) { sender = commands Ping st.core.sender }; forward = st.forward ++ Command Ping none ∷ [] })
ping_talk terms st Opening is may all h = absurd (cc is)
ping_talk terms st Running is may all h =
    running_order _ _ _ _ _ _ _ _ _ _ _ _ may.quiet.none_forward may.quiet.none_back may.quiet.none_due all may.not_covered may.stuck h
ping_talk terms st Halted is may all h = absurd (cc is)
ping_talk terms st Resyncing is may all h = absurd (cc is)

resync_talk : {A : Type 0} (terms : Terms) (st : State A) (state : OutState) → state ≡ Resyncing
    → (st.core.sender.commanded ≡ false) ⊎ (orders st.forward + dues (is_due st.core.receiver) + length st.back + st.core.receiver.buffered.packets ≡ 0)
    → Talk terms state st
    → Talk terms state (record st { core = record (st.core) { sender = commands Resync st.core.sender }; forward = st.forward ++ Command Resync st.core.sender.sent ∷ [] })
resync_talk terms st Opening is may h = absurd (cc is)
resync_talk terms st Running is may h = absurd (cc is)
resync_talk terms st Halted is may h = absurd (cc is)
resync_talk terms st Resyncing is may h = resyncing_order _ _ _ _ _ _ _ _ _ _ may h

pub holds_order : {A : Type 0} (terms : Terms) (st : State A) (op : CmdOp)
    → Holds terms st → Allowed terms st (Order op) → Holds terms (after terms st (Order op))
holds_order terms st Init h may = record {
  small = h.small;
  counted = h.counted;
  balanced = balanced_order _ _ _ _ st.forward Init (frequency terms.flow) h.balanced;
  credited = h.credited;
  started = h.started;
  rising = h.rising;
  ordered = ordered_order _ _ _ st.forward Init (frequency terms.flow) h.ordered;
  received = h.received;
  epochs = h.epochs;
  paid = h.paid;
  unhurt = h.unhurt;
  talk = init_talk terms st st.core.sender.state may.0 may.1 h.talk;
}
holds_order terms st Ping h may = record {
  small = h.small;
  counted = h.counted;
  balanced = balanced_order _ _ _ _ st.forward Ping none h.balanced;
  credited = h.credited;
  started = h.started;
  rising = h.rising;
  ordered = ordered_order _ _ _ st.forward Ping none h.ordered;
  received = h.received;
  epochs = h.epochs;
  paid = h.paid;
  unhurt = h.unhurt;
  talk = ping_talk terms st st.core.sender.state may.running may (let c = h.counted.held_packets in let all = may.quiet.all_taken in omega arith) h.talk;
}
holds_order terms st Resync h may = record {
  small = h.small;
  counted = h.counted;
  balanced = balanced_order _ _ _ _ st.forward Resync st.core.sender.sent h.balanced;
  credited = h.credited;
  started = h.started;
  rising = h.rising;
  ordered = ordered_order _ _ _ st.forward Resync st.core.sender.sent h.ordered;
  received = h.received;
  epochs = h.epochs;
  paid = h.paid;
  unhurt = h.unhurt;
  talk = resync_talk terms st st.core.sender.state may.0 (resync_idle terms st h may.1) h.talk;
}
holds_order terms st (Other code) h may = absurd may

-- a command other than RESYNC that arrives is the one of the sender's state
obey_talk : {A : Type 0} (terms : Terms) (st : State A) (op : CmdOp) (told : Count) (rest : List (Entry A)) (later : Receiver) (state : OutState)
    → st.forward ≡ Command op told ∷ rest → (op ≡ Resync → ⊥)
    → later.broken ≡ st.core.receiver.broken → later.buffered ≡ st.core.receiver.buffered → later.reached ≡ st.core.receiver.reached
    → dues (is_due later) ≤ dues (is_due st.core.receiver) + 1
    → Talk terms state st → Talk terms state (record st { core = record (st.core) { receiver = later }; forward = rest })
obey_talk terms st op told rest later Opening e other broken buffered reached due h =
    rw broken (opening_command _ _ _ _ _ _ _ _ _ _ _ (shorter_command _ op told rest e) due h)
obey_talk terms st op told rest later Running e other broken buffered reached due h =
    rw (broken, buffered, reached) (running_command _ _ _ _ _ _ _ _ _ _ _ _ _ _ (shorter_command _ op told rest e) due h)
obey_talk terms st op told rest later Halted e other broken buffered reached due h =
    halted_less _ _ _ _ _ _ _ (shorter_command _ op told rest e) (omega arith) h
obey_talk terms st op told rest later Resyncing e other broken buffered reached due h =
    let last = subst (EndsWith Resync st.core.sender.sent) e h.order in absurd (other last.0)

few_due : (b : Bool) → dues b ≤ 1
few_due true = omega arith
few_due false = omega arith

obeying : {A : Type 0} (terms : Terms) (st : State A) (op : CmdOp) (told : Count) (rest : List (Entry A)) (later : Receiver)
    → st.forward ≡ Command op told ∷ rest → (op ≡ Resync → ⊥)
    → later.broken ≡ st.core.receiver.broken → later.buffered ≡ st.core.receiver.buffered → later.reached ≡ st.core.receiver.reached
    → dues (is_due later) ≤ dues (is_due st.core.receiver) + 1 → dues (is_due st.core.receiver) ≤ dues (is_due later)
    → Holds terms st → Holds terms (record st { core = record (st.core) { receiver = later }; forward = rest })
obeying terms st op told rest later e other broken buffered reached due more h = record {
  small = h.small;
  counted = rw buffered h.counted;
  balanced = rw (buffered, reached) (balanced_obey _ _ _ _ st.forward op told rest e h.balanced);
  credited = h.credited;
  started = h.started;
  rising = rw (buffered, reached) h.rising;
  ordered = ordered_obey _ _ _ op told rest (subst (Ordered st.core.sent st.core.lost st.next) e h.ordered);
  received = rw (broken, reached) h.received;
  epochs = h.epochs;
  paid = paid_due _ _ _ _ _ _ _ more h.paid;
  unhurt = h.unhurt;
  talk = obey_talk terms st op told rest later st.core.sender.state e other broken buffered reached due h.talk;
}

-- what an INIT or a PING leaves of a receiver
obeyed : (op : CmdOp) (told : Count) (r : Receiver) → (op ≡ Resync → ⊥)
    → ((obeys op told r).broken ≡ r.broken) × ((obeys op told r).buffered ≡ r.buffered) × ((obeys op told r).reached ≡ r.reached)
    × (dues (is_due (obeys op told r)) ≤ dues (is_due r) + 1) × (dues (is_due r) ≤ dues (is_due (obeys op told r)))
obeyed Init told r other = (refl, refl, refl, omega arith, few_due (is_due r))
obeyed Ping told r other = (refl, refl, refl, omega arith, few_due (is_due r))
obeyed Resync told r other = absurd (other refl)
obeyed (Other code) told r other = (refl, refl, refl, omega arith, omega arith)

pub holds_obey : {A : Type 0} (terms : Terms) (st : State A) (op : CmdOp) (told : Count) (rest : List (Entry A))
    → Holds terms st → Allowed terms st (Obey op told rest) → Holds terms (after terms st (Obey op told rest))
holds_obey {A} terms st op told rest h allowed =
    let e = allowed.0 in
    let is = obeyed op told st.core.receiver allowed.1 in
    let later : Receiver = obeys op told st.core.receiver in
    obeying terms st op told rest later e allowed.1 is.0 is.1 is.2 is.3 is.4 h

-- a RESYNC arrives
pub renew_talk : {A : Type 0} (terms : Terms) (st : State A) (told : Count) (rest : List (Entry A)) (state : OutState)
    → st.forward ≡ Command Resync told ∷ rest → Talk terms state st
    → (state ≡ Resyncing) × (told ≡ st.core.sender.sent) × (rest ≡ []) × (st.missing.packets ≡ 0 → goods st.back + dues (is_due st.core.receiver) ≡ 0)
    × Talk terms Resyncing (record st { core = record (st.core) { receiver = obeys Resync told st.core.receiver; cuts = record { sent = length st.core.sent; given = length st.core.given } ∷ st.core.cuts }; forward = rest; next = length st.core.sent; missing = none })
renew_talk terms st told rest Opening e h = absurd (let last = subst (EndsWith Init (frequency terms.flow)) e h.order in cc (last.0))
renew_talk terms st told rest Running e h = absurd (let last = subst (EndsWith Ping none) e h.order in cc (last.0))
renew_talk terms st told rest Halted e h = absurd (let o = ap orders e in let n = h.no_order in omega arith)
renew_talk terms st told rest Resyncing e h =
    let last = subst (EndsWith Resync st.core.sender.sent) e h.order in
    let o = ap orders e in (
      refl,
      last.1,
      last.2,
      λ z. (let a = (h.behind z).again (omega arith) in no_goods st.back (dues (is_due st.core.receiver)) (omega arith) (omega arith)),
      resyncing_renew _ _ _ told _ rest _ _ _ _ _ _ e h,
    )
  where
    no_goods : (ss : List Told) (d : ℕ) → length ss ≡ 0 → d ≡ 0 → goods ss + d ≡ 0
    no_goods [] d l z = omega arith
    no_goods (s ∷ ss) d l z = absurd (omega arith)

pub holds_renew : {A : Type 0} (terms : Terms) (st : State A) (told : Count) (rest : List (Entry A))
    → Holds terms st → Allowed terms st (Renew told rest) → Holds terms (after terms st (Renew told rest))
holds_renew {A} terms st told rest h e =
    let t = renew_talk terms st told rest st.core.sender.state e h.talk in
    let total = h.counted.sent_packets in
    let paid = subst (λ s. Paid s st.missing.packets st.core.cuts st.back (is_due st.core.receiver) st.core.losses) t.0 h.paid in
    let unhurt = subst (λ s. Unhurt s st.missing.packets st.core.cuts st.core.lost) t.0 h.unhurt in
    let renewing : Count → State A = λ c. record st { core = record (st.core) { receiver = obeys Resync c st.core.receiver; cuts = record { sent = length st.core.sent; given = length st.core.given } ∷ st.core.cuts }; forward = rest; next = length st.core.sent; missing = none } in
    let renewed : Holds terms (renewing st.core.sender.sent) = record {
      small = h.small;
      counted = h.counted;
      balanced = balanced_renew _ _ _ _ st.forward rest t.2 h.balanced;
      credited = h.credited;
      started = h.started;
      rising = rising_move _ _ _ _ (let b = h.balanced in omega arith) (let b = h.balanced in omega arith) h.rising;
      ordered = ordered_renew _ _ st.next st.forward rest t.2 h.ordered;
      received = received_renew _ _ _ _ _ total;
      epochs = epochs_renew _ _ _ _ h.epochs;
      paid = subst (λ s. Paid s 0 (reach st.core.sent st.core.given ∷ st.core.cuts) st.back true st.core.losses) (sym t.0) (paid_renew _ _ _ _ _ _ t.3 paid);
      unhurt = subst (λ s. Unhurt s 0 (reach st.core.sent st.core.given ∷ st.core.cuts) st.core.lost) (sym t.0) (unhurt_renew _ _ _ _ unhurt);
      talk = subst (λ s. Talk terms s (renewing st.core.sender.sent)) (sym t.0) (subst (λ c. Talk terms Resyncing (renewing c)) t.1 t.4);
    } in
    subst (λ c. Holds terms (renewing c)) (sym t.1) renewed
