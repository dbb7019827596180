-- How the acts on what is under way to the consumer keep the talk of both ends.
use Rattle.std.proofs.Common.{◌≡◌, ℕ, ◌+◌, ◌<◌, ◌≤◌, ◌⊎◌, inl, inr, Bool, true, false, Option, None, List, [], ◌∷◌, ◌++◌, length, refl, ap, ◌∙◌, subst, arith}
use Rattle.std.proofs.lemmas.Bool.{cases_Bool, cases_lt}
use Rattle.chdr_words.specs.declared.command.CmdOp.{CmdOp}
use Rattle.chdr_words.specs.declared.command.CmdOp.TheVariants.{Init, Ping, Resync}
use Rattle.stream_endpoint.specs.declared.count.Count.{Count}
use Rattle.stream_endpoint.specs.declared.flow.Flow.{Flow}
use Rattle.stream_endpoint.specs.declared.flow.Policy.{Policy}
use Rattle.stream_endpoint.specs.declared.state.Gap.{Gap}
use Rattle.stream_endpoint.specs.Counts.{is_none, none}
use Rattle.stream_endpoint.specs.Flow.{HasCredit, frequency}
use Rattle.stream_laws.specs.Machine.{Entry, Data, Command, Load, Told}
use Rattle.stream_laws.specs.Acts.{IsStuck}
use Rattle.stream_laws.specs.Chains.{EndsWith, Rises, badness, bad_told, flying, good_told, orders}
use Rattle.stream_laws.specs.Invariant.{dues}
use Rattle.stream_laws.specs.Talk.{InHalted, InOpening, InResyncing, InRunning, traffic}
use Rattle.stream_laws.proofs.Chains.{ends_none, ends_order, ends_without, flying_packets-append, orders-append, rises_to}

-- one entry is taken out: the packets and the commands that are left
pub record IsShorter {A : Type 0} (es rest : List (Entry A)) (packets commands : ℕ) : Type 0 where
  pub flight : (flying es).packets ≡ packets + (flying rest).packets
  pub fewer : orders es ≡ commands + orders rest
  pub ends : (op : CmdOp) (told : Count) → EndsWith op told es → EndsWith op told rest

pub shorter_data : {A : Type 0} (es : List (Entry A)) (place : ℕ) (load : Load A) (rest : List (Entry A)) → es ≡ Data place load ∷ rest → IsShorter es rest 1 0
shorter_data es place load rest e = record {
  flight = ap (λ fs. (flying fs).packets) e;
  fewer = (let o = ap orders e in omega arith);
  ends = λ op told h. subst (EndsWith op told) e h;
}

pub shorter_command : {A : Type 0} (es : List (Entry A)) (op : CmdOp) (told : Count) (rest : List (Entry A)) → es ≡ Command op told ∷ rest → IsShorter es rest 0 1
shorter_command es op told rest e = record {
  flight = (let p = ap (λ fs. (flying fs).packets) e in omega arith);
  fewer = (let o = ap orders e in omega arith);
  ends = λ other means h. (let h' = subst (EndsWith other means) e h in ends_none other means rest (ap orders h'.2));
}

pub shorter_lose : {A : Type 0} (es before : List (Entry A)) (place : ℕ) (load : Load A) (behind : List (Entry A))
    → es ≡ before ++ Data place load ∷ behind → IsShorter es (before ++ behind) 1 0
shorter_lose es before place load behind e =
    let p = ap (λ fs. (flying fs).packets) e ∙ flying_packets-append before (Data place load ∷ behind) in
    let q = flying_packets-append before behind in
    let o = ap orders e ∙ orders-append before (Data place load ∷ behind) in
    let r = orders-append before behind in
    record {
      flight = omega arith;
      fewer = omega arith;
      ends = λ op told h. ends_without op told before (Data place load) behind (subst (EndsWith op told) e h);
    }

pub shorter_lose_command : {A : Type 0} (es before : List (Entry A)) (op : CmdOp) (told : Count) (behind : List (Entry A))
    → es ≡ before ++ Command op told ∷ behind → IsShorter es (before ++ behind) 0 1
shorter_lose_command es before op told behind e =
    let p = ap (λ fs. (flying fs).packets) e ∙ flying_packets-append before (Command op told ∷ behind) in
    let q = flying_packets-append before behind in
    let o = ap orders e ∙ orders-append before (Command op told ∷ behind) in
    let r = orders-append before behind in
    record {
      flight = omega arith;
      fewer = omega arith;
      ends = λ other means h. ends_without other means before (Command op told) behind (subst (EndsWith other means) e h);
    }

-- a packet arrives or is lost

pub opening_data : {A : Type 0} (flow : Flow) (sent given : List (Load A)) (es rest : List (Entry A)) (back : List Told) (due : Bool)
    (broken : Option Gap) (missing : ℕ) (commanded : Bool) → IsShorter es rest 1 0
    → InOpening flow sent given es back due broken missing commanded → ⊥
opening_data flow sent given es rest back due broken missing commanded short h =
    let f = short.flight in let n = h.no_data in omega arith

pub running_data : {A : Type 0} (flow : Flow) (outstanding moved held moves holds : Count) (closed : Bool) (ready : List (Load A))
    (es rest : List (Entry A)) (back : List Told) (due dues' : Bool) (broken breaks : Option Gap) (missing misses : ℕ) (pinging : Bool)
    → IsShorter es rest 1 0 → badness broken ≤ badness breaks → badness breaks ≤ misses
    → InRunning flow outstanding moved held closed ready es back due broken missing pinging
    → InRunning flow outstanding moves holds closed ready rest back dues' breaks misses pinging
running_data flow outstanding moved held moves holds closed ready es rest back due dues' broken breaks missing misses pinging short worse some h =
    let f = short.flight in record {
      worse = rises_to bad_told 0 back _ _ h.worse worse;
      some_missing = some;
      order = short.ends _ _ h.order;
      unasked = λ quiet. (let o = h.unasked quiet in let s = short.fewer in omega arith);
      asked = λ p. (let n = (h.asked p).no_data in absurd (omega arith));
    }

pub halted_less : {A : Type 0} (policy : Policy) (es rest : List (Entry A)) (missing misses packets commands : ℕ)
    → IsShorter es rest packets commands → missing ≤ misses → InHalted policy es missing → InHalted policy rest misses
halted_less policy es rest missing misses packets commands short le h =
    let o = short.fewer in record { off = h.off; some_missing = (let s = h.some_missing in omega arith); no_order = (let n = h.no_order in omega arith) }

-- in Resyncing no packet comes to a good receiver
pub resyncing_data_good : {A : Type 0} (policy : Policy) (total held : Count) (es rest : List (Entry A)) (back : List Told) (due : Bool)
    (missing : ℕ) (pinging commanded : Bool) → IsShorter es rest 1 0
    → InResyncing policy total held es back due None missing pinging commanded → ⊥
resyncing_data_good policy total held es rest back due missing pinging commanded short h = go (cases_lt 0 missing)
  where
    go : (0 < missing) ⊎ (missing ≤ 0) → ⊥
    go (inl some) = let s = (h.before some).still refl in let f = short.flight in omega arith
    go (inr zero') = let n = (h.behind (omega arith)).no_data in let f = short.flight in omega arith

pub resyncing_data : {A : Type 0} (policy : Policy) (total held : Count) (es rest : List (Entry A)) (back : List Told) (due : Bool)
    (broken : Option Gap) (missing : ℕ) (pinging commanded : Bool) → IsShorter es rest 1 0
    → InResyncing policy total held es back due broken missing pinging commanded
    → InResyncing policy total held rest back due broken (missing + 1) pinging commanded
resyncing_data policy total held es rest back due broken missing pinging commanded short h =
    let f = short.flight in
    let o = short.fewer in
    let some : 1 ≤ missing = (elim (cases_lt 0 missing) [ inl some ↦ some | inr low ↦ (let n = (h.behind (omega arith)).no_data in absurd (omega arith)) ]) in
    let was = h.before some in
    record {
      auto = h.auto;
      unasked = h.unasked;
      order = short.ends _ _ h.order;
      before = λ more. record {
        all_bad = was.all_bad;
        unsent = λ c. (let u = was.unsent c in omega arith);
        still = λ g. (let s = was.still g in omega arith);
      };
      behind = λ e. absurd (omega arith);
    }

-- a command arrives or is lost, other than a RESYNC that arrives

pub opening_command : {A : Type 0} (flow : Flow) (sent given : List (Load A)) (es rest : List (Entry A)) (back : List Told) (due later : Bool)
    (broken : Option Gap) (missing : ℕ) (commanded : Bool) → IsShorter es rest 0 1 → dues later ≤ dues due + 1
    → InOpening flow sent given es back due broken missing commanded → InOpening flow sent given rest back later broken missing commanded
opening_command flow sent given es rest back due later broken missing commanded short le h =
    let f = short.flight in
    let o = short.fewer in
    record {
      none_sent = h.none_sent;
      none_given = h.none_given;
      no_data = (let n = h.no_data in omega arith);
      none_missing = h.none_missing;
      good = h.good;
      all_good = h.all_good;
      order = short.ends _ _ h.order;
      one = (let p = h.one in omega arith);
      silent = λ c. (let p = h.silent c in absurd (omega arith));
    }

pub running_command : {A : Type 0} (flow : Flow) (outstanding moved held : Count) (closed : Bool) (ready : List (Load A))
    (es rest : List (Entry A)) (back : List Told) (due later : Bool) (broken : Option Gap) (missing : ℕ) (pinging : Bool)
    → IsShorter es rest 0 1 → dues later ≤ dues due + 1
    → InRunning flow outstanding moved held closed ready es back due broken missing pinging
    → InRunning flow outstanding moved held closed ready rest back later broken missing pinging
running_command flow outstanding moved held closed ready es rest back due later broken missing pinging short le h =
    let f = short.flight in
    let o = short.fewer in
    record {
      worse = h.worse;
      some_missing = h.some_missing;
      order = short.ends _ _ h.order;
      unasked = λ p. (let n = h.unasked p in absurd (omega arith));
      asked = λ p. (let a = h.asked p in record {
        one = (let m = a.one in omega arith);
        no_data = (let m = a.no_data in omega arith);
        all_taken = a.all_taken;
        stuck = a.stuck;
        owing = a.owing;
        exact_packets = a.exact_packets;
        exact_bytes = a.exact_bytes;
      });
    }

pub resyncing_lose_command : {A : Type 0} (policy : Policy) (total held : Count) (es rest : List (Entry A)) (back : List Told) (due : Bool)
    (broken : Option Gap) (missing : ℕ) (pinging commanded : Bool) → IsShorter es rest 0 1
    → InResyncing policy total held es back due broken missing pinging commanded
    → InResyncing policy total held rest back due broken missing pinging commanded
resyncing_lose_command policy total held es rest back due broken missing pinging commanded short h =
    let f = short.flight in
    let o = short.fewer in
    record {
      auto = h.auto;
      unasked = h.unasked;
      order = short.ends _ _ h.order;
      before = λ some. (let was = h.before some in record {
        all_bad = was.all_bad;
        unsent = λ c. (let u = was.unsent c in omega arith);
        still = λ g. (let s = was.still g in omega arith);
      });
      behind = λ e. (let was = h.behind e in record {
        no_data = (let n = was.no_data in omega arith);
        good = was.good;
        better = was.better;
        was_sent = was.was_sent;
        again = λ some. (let n = was.again (omega arith) in omega arith);
      });
    }

-- a RESYNC arrives: it is the sender's last word, and nothing stands behind it
pub resyncing_renew : {A : Type 0} (policy : Policy) (total held told : Count) (es rest : List (Entry A)) (back : List Told) (due : Bool)
    (broken : Option Gap) (missing : ℕ) (pinging commanded : Bool) → es ≡ Command Resync told ∷ rest
    → InResyncing policy total held es back due broken missing pinging commanded
    → InResyncing policy total held rest back true None 0 pinging commanded
resyncing_renew policy total held told es rest back due broken missing pinging commanded e h =
    let last = subst (EndsWith Resync total) e h.order in
    let f = ap (λ fs. (flying fs).packets) last.2 in
    let o = ap orders last.2 in
    let one = ap orders e in
    let better : Rises good_told 0 back 1 = (elim (cases_lt 0 missing) [
      | inl some ↦ rises_to good_told 0 back 0 1 (h.before some).all_bad (omega arith)
      | inr low ↦ (h.behind (omega arith)).better
    ]) in
    let sent : commanded ≡ true = (elim (cases_Bool commanded) [
      | inl yes' ↦ yes'
      | inr no' ↦ (elim (cases_lt 0 missing) [
        | inl some ↦ (let u = (h.before some).unsent no' in absurd (omega arith))
        | inr low ↦ (h.behind (omega arith)).was_sent
      ])
    ]) in
    record {
      auto = h.auto;
      unasked = h.unasked;
      order = ends_none Resync total rest o;
      before = λ some. absurd (omega arith);
      behind = λ z. record {
        no_data = f;
        good = refl;
        better = better;
        was_sent = sent;
        again = λ some. absurd (omega arith);
      };
    }

-- the producer makes more, or makes an end

pub stuck_fill : {A : Type 0} (flow : Flow) (outstanding : Count) (closed : Bool) (ready loads : List (Load A))
    → closed ≡ false → IsStuck flow outstanding closed ready → IsStuck flow outstanding closed (ready ++ loads)
stuck_fill flow outstanding closed [] loads open' stuck = absurd cc
stuck_fill flow outstanding closed (p ∷ ps) loads open' stuck = stuck

pub stuck_close : {A : Type 0} (flow : Flow) (outstanding : Count) (closed : Bool) (ready : List (Load A))
    → IsStuck flow outstanding closed ready → IsStuck flow outstanding true ready
stuck_close flow outstanding closed [] stuck = refl
stuck_close flow outstanding closed (p ∷ ps) stuck = stuck

pub running_ready : {A : Type 0} (flow : Flow) (outstanding moved held : Count) (closed closes : Bool) (ready readies : List (Load A))
    (es : List (Entry A)) (back : List Told) (due : Bool) (broken : Option Gap) (missing : ℕ) (pinging : Bool)
    → (IsStuck flow outstanding closed ready → IsStuck flow outstanding closes readies)
    → InRunning flow outstanding moved held closed ready es back due broken missing pinging
    → InRunning flow outstanding moved held closes readies es back due broken missing pinging
running_ready flow outstanding moved held closed closes ready readies es back due broken missing pinging on h = record {
  worse = h.worse;
  some_missing = h.some_missing;
  order = h.order;
  unasked = h.unasked;
  asked = λ p. (let a = h.asked p in record {
    one = a.one;
    no_data = a.no_data;
    all_taken = a.all_taken;
    stuck = on a.stuck;
    owing = a.owing;
    exact_packets = a.exact_packets;
    exact_bytes = a.exact_bytes;
  });
}

-- a packet is sent: the sender isn't pinging, since the packet has credit
pub running_enter : {A : Type 0} (flow : Flow) (outstanding owes moved held : Count) (closed : Bool) (ready : List (Load A)) (load : Load A) (rest : List (Load A))
    (es : List (Entry A)) (place : ℕ) (back : List Told) (due : Bool) (broken : Option Gap) (missing : ℕ) (pinging : Bool)
    → ready ≡ load ∷ rest → HasCredit flow outstanding load.wire
    → InRunning flow outstanding moved held closed ready es back due broken missing pinging
    → InRunning flow owes moved held closed rest (es ++ Data place load ∷ []) back due broken missing pinging
running_enter flow outstanding owes moved held closed ready load rest es place back due broken missing pinging e credit h =
    let idle : pinging ≡ true → ⊥ = λ p. (subst (IsStuck flow outstanding closed) e (h.asked p).stuck) credit in
    let unasked : pinging ≡ false = (elim (cases_Bool pinging) [ inl p ↦ absurd (idle p) | inr q ↦ q ]) in
    let o = orders-append es (Data place load ∷ []) in
    let none' : orders (es ++ Data place load ∷ []) ≡ 0 = (let n = h.unasked unasked in omega arith) in
    record {
      worse = h.worse;
      some_missing = h.some_missing;
      order = ends_none Ping none (es ++ Data place load ∷ []) none';
      unasked = λ p. none';
      asked = λ p. absurd (idle p);
    }

-- commands are sent

pub opening_order : {A : Type 0} (flow : Flow) (sent given : List (Load A)) (es : List (Entry A)) (back : List Told) (due : Bool)
    (broken : Option Gap) (missing : ℕ) (commanded : Bool) → traffic es due back ≡ 0
    → InOpening flow sent given es back due broken missing commanded
    → InOpening flow sent given (es ++ Command Init (frequency flow) ∷ []) back due broken missing true
opening_order flow sent given es back due broken missing commanded quiet h =
    let f = flying_packets-append es (Command Init (frequency flow) ∷ []) in
    let o = orders-append es (Command Init (frequency flow) ∷ []) in
    record {
      none_sent = h.none_sent;
      none_given = h.none_given;
      no_data = (let n = h.no_data in omega arith);
      none_missing = h.none_missing;
      good = h.good;
      all_good = h.all_good;
      order = ends_order Init (frequency flow) es (omega arith);
      one = omega arith;
      silent = λ c. absurd (cc c);
    }

pub running_order : {A : Type 0} (flow : Flow) (outstanding moved held : Count) (closed : Bool) (ready : List (Load A))
    (es : List (Entry A)) (back : List Told) (due : Bool) (broken : Option Gap) (missing : ℕ) (pinging : Bool)
    → es ≡ [] → back ≡ [] → due ≡ false → held.packets ≡ 0 → is_none outstanding ≡ false → IsStuck flow outstanding closed ready
    → InRunning flow outstanding moved held closed ready es back due broken missing pinging
    → InRunning flow outstanding moved held closed ready (es ++ Command Ping none ∷ []) back due broken missing true
running_order flow outstanding moved held closed ready es back due broken missing pinging none_forward none_back none_due all_taken owing stuck h =
    let f = flying_packets-append es (Command Ping none ∷ []) in
    let o = orders-append es (Command Ping none ∷ []) in
    let g = ap (λ fs. (flying fs).packets) none_forward in
    let p = ap orders none_forward in
    let d = ap dues none_due in
    let b = ap length none_back in
    record {
      worse = h.worse;
      some_missing = h.some_missing;
      order = ends_order Ping none es p;
      unasked = λ c. absurd (cc c);
      asked = λ c. record {
        one = omega arith;
        no_data = omega arith;
        all_taken = all_taken;
        stuck = stuck;
        owing = owing;
        exact_packets = rw none_back (omega arith);
        exact_bytes = rw none_back (omega arith);
      };
    }

pub resyncing_order : {A : Type 0} (policy : Policy) (total held : Count) (es : List (Entry A)) (back : List Told) (due : Bool)
    (broken : Option Gap) (missing : ℕ) (pinging commanded : Bool)
    → (commanded ≡ false) ⊎ (orders es + dues due + length back + held.packets ≡ 0)
    → InResyncing policy total held es back due broken missing pinging commanded
    → InResyncing policy total held (es ++ Command Resync total ∷ []) back due broken missing pinging true
resyncing_order policy total held es back due broken missing pinging commanded may h =
    let f = flying_packets-append es (Command Resync total ∷ []) in
    let o = orders-append es (Command Resync total ∷ []) in
    let idle : orders es ≡ 0 = (elim may [
      | inl first ↦ (elim (cases_lt 0 missing) [
        | inl some ↦ (h.before some).unsent first
        | inr low ↦ (let w = (h.behind (omega arith)).was_sent in absurd (cc (w, first)))
      ])
      | inr quiet ↦ omega arith
    ]) in
    let again : missing ≡ 0 → length back + dues due + held.packets ≡ 0 = λ z. (elim may [
      | inl first ↦ (let w = (h.behind z).was_sent in absurd (cc (w, first)))
      | inr quiet ↦ omega arith
    ]) in
    record {
      auto = h.auto;
      unasked = h.unasked;
      order = ends_order Resync total es idle;
      before = λ some. (let was = h.before some in record {
        all_bad = was.all_bad;
        unsent = λ c. absurd (cc c);
        still = λ g. (let s = was.still g in omega arith);
      });
      behind = λ z. (let was = h.behind z in record {
        no_data = (let n = was.no_data in omega arith);
        good = was.good;
        better = was.better;
        was_sent = refl;
        again = λ some. again z;
      });
    }
