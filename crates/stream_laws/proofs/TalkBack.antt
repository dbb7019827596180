-- How taking, reporting and the statuses under way keep the talk of both ends.
use Rattle.std.proofs.Common.{◌≡◌, ℕ, ◌+◌, ◌≤◌, inl, inr, Bool, true, false, Option, Some, None, List, [], ◌∷◌, ◌++◌, length, refl, ap, subst, arith, length-append}
use Rattle.std.proofs.lemmas.Bool.{cases_lt}
use Rattle.stream_endpoint.specs.declared.count.Count.{Count}
use Rattle.stream_endpoint.specs.declared.flow.Flow.{Flow}
use Rattle.stream_endpoint.specs.declared.flow.Policy.{Policy}
use Rattle.stream_endpoint.specs.declared.state.Gap.{Gap}
use Rattle.stream_laws.specs.Machine.{Entry, Load, Told}
use Rattle.stream_laws.specs.Chains.{Rises, badness, bad_told, bytes_told, good_told, goodness, packets_told}
use Rattle.stream_laws.specs.Talk.{InOpening, InResyncing, InRunning, traffic}
use Rattle.stream_laws.proofs.Chains.{rises_add, rises_from, rises_to, rises_without}

pub bad_or_good : (gap : Option Gap) → badness gap + goodness gap ≡ 1
bad_or_good None = refl
bad_or_good (Some gap) = refl

-- behind a status that tells a broken receiver all are such; likewise of a good one
pub all_bad_from : (ss : List Told) (gap : Option Gap) → Rises bad_told 1 ss (badness gap) → Rises good_told 0 ss 0 × (badness gap ≡ 1)
all_bad_from [] gap h = (omega arith, (let b = bad_or_good gap in omega arith))
all_bad_from (s ∷ ss) gap h =
    let b = bad_or_good s.gap in
    let one : bad_told s ≡ 1 = omega arith in
    let rest = all_bad_from ss gap (rises_from bad_told 1 (bad_told s) ss (badness gap) h.1 (omega arith)) in
    let zero' : good_told s ≡ 0 = omega arith in
    ((omega arith, rises_from good_told (good_told s) 0 ss 0 rest.0 (omega arith)), rest.1)

pub all_good_from : (ss : List Told) → Rises good_told 1 ss 1 → Rises bad_told 0 ss 0
all_good_from [] h = omega arith
all_good_from (s ∷ ss) h =
    let b = bad_or_good s.gap in
    let rest = all_good_from ss (rises_from good_told 1 (good_told s) ss 1 h.1 (omega arith)) in
    (omega arith, rises_from bad_told (bad_told s) 0 ss 0 rest (omega arith))

-- packets are taken, and a status may become due; at least one was buffered

pub running_take : {A : Type 0} (flow : Flow) (outstanding moved held moves holds : Count) (closed : Bool) (ready : List (Load A))
    (es : List (Entry A)) (back : List Told) (due later : Bool) (broken : Option Gap) (missing : ℕ) (pinging : Bool)
    → 1 ≤ held.packets → InRunning flow outstanding moved held closed ready es back due broken missing pinging
    → InRunning flow outstanding moves holds closed ready es back later broken missing pinging
running_take flow outstanding moved held moves holds closed ready es back due later broken missing pinging some h = record {
  worse = h.worse;
  some_missing = h.some_missing;
  order = h.order;
  unasked = h.unasked;
  asked = λ p. (let n = (h.asked p).all_taken in absurd (omega arith));
}

pub resyncing_take : {A : Type 0} (policy : Policy) (total held holds : Count) (es : List (Entry A)) (back : List Told) (due later : Bool)
    (broken : Option Gap) (missing : ℕ) (pinging commanded : Bool)
    → 1 ≤ held.packets → InResyncing policy total held es back due broken missing pinging commanded
    → InResyncing policy total holds es back later broken missing pinging commanded
resyncing_take policy total held holds es back due later broken missing pinging commanded some h = record {
  auto = h.auto;
  unasked = h.unasked;
  order = h.order;
  before = λ m. (let was = h.before m in record {
    all_bad = was.all_bad;
    unsent = was.unsent;
    still = λ g. (let s = was.still g in absurd (omega arith));
  });
  behind = λ z. (let was = h.behind z in record {
    no_data = was.no_data;
    good = was.good;
    better = was.better;
    was_sent = was.was_sent;
    again = λ o. (let s = was.again o in absurd (omega arith));
  });
}

-- the status that is due is sent

report_traffic : {A : Type 0} (es : List (Entry A)) (back : List Told) (s : Told) → traffic es false (back ++ s ∷ []) ≡ traffic es true back
report_traffic es back s = omega (arith, length-append back (s ∷ []))

pub opening_report : {A : Type 0} (flow : Flow) (sent given : List (Load A)) (es : List (Entry A)) (back : List Told) (s : Told)
    (missing : ℕ) (commanded : Bool) → InOpening flow sent given es back true s.gap missing commanded
    → InOpening flow sent given es (back ++ s ∷ []) false s.gap missing commanded
opening_report flow sent given es back s missing commanded h =
    let same = report_traffic es back s in
    let up = rises_add bad_told 0 back s (rises_to bad_told 0 back 0 (bad_told s) h.all_good (omega arith)) in
    record {
      none_sent = h.none_sent;
      none_given = h.none_given;
      no_data = h.no_data;
      none_missing = h.none_missing;
      good = h.good;
      all_good = rises_to bad_told 0 (back ++ s ∷ []) (bad_told s) 0 up (let g = h.good in omega arith);
      order = h.order;
      one = (let p = h.one in omega arith);
      silent = λ c. (let p = h.silent c in omega arith);
    }

pub running_report : {A : Type 0} (flow : Flow) (outstanding held : Count) (closed : Bool) (ready : List (Load A))
    (es : List (Entry A)) (back : List Told) (s : Told) (missing : ℕ) (pinging : Bool)
    → InRunning flow outstanding s.told held closed ready es back true s.gap missing pinging
    → InRunning flow outstanding s.told held closed ready es (back ++ s ∷ []) false s.gap missing pinging
running_report flow outstanding held closed ready es back s missing pinging h =
    let same = report_traffic es back s in
    record {
      worse = rises_add bad_told 0 back s h.worse;
      some_missing = h.some_missing;
      order = h.order;
      unasked = h.unasked;
      asked = λ p. (let a = h.asked p in record {
        one = (let m = a.one in omega arith);
        no_data = a.no_data;
        all_taken = a.all_taken;
        stuck = a.stuck;
        owing = a.owing;
        exact_packets = rises_add packets_told _ back s a.exact_packets;
        exact_bytes = rises_add bytes_told _ back s a.exact_bytes;
      });
    }

pub resyncing_report : {A : Type 0} (policy : Policy) (total held : Count) (es : List (Entry A)) (back : List Told) (s : Told)
    (missing : ℕ) (pinging commanded : Bool)
    → InResyncing policy total held es back true s.gap missing pinging commanded
    → InResyncing policy total held es (back ++ s ∷ []) false s.gap missing pinging commanded
resyncing_report policy total held es back s missing pinging commanded h =
    let either' = bad_or_good s.gap in
    record {
      auto = h.auto;
      unasked = h.unasked;
      order = h.order;
      before = λ m. (
          let was = h.before m in
          let bad : goodness s.gap ≡ 1 → ⊥ = λ g. (let st = was.still g in omega arith) in
          let up = rises_add good_told 0 back s (rises_to good_told 0 back 0 (good_told s) was.all_bad (omega arith)) in
          let low : good_told s ≤ 0 = (elim (cases_lt 0 (goodness s.gap)) [ inl g ↦ absurd (bad (omega arith)) | inr l ↦ l ]) in
          record {
            all_bad = rises_to good_told 0 (back ++ s ∷ []) (good_told s) 0 up low;
            unsent = was.unsent;
            still = λ g. absurd (bad g);
          }
          );
      behind = λ z. (
          let was = h.behind z in
          let g = was.good in
          let up = rises_add good_told 0 back s (rises_to good_told 0 back 1 (good_told s) was.better (omega arith)) in
          record {
            no_data = was.no_data;
            good = was.good;
            better = rises_to good_told 0 (back ++ s ∷ []) (good_told s) 1 up (omega arith);
            was_sent = was.was_sent;
            again = λ o. (let n = was.again o in absurd (omega arith));
          }
          );
    }

-- a status is lost

without_length : (back before : List Told) (s : Told) (behind : List Told) → back ≡ before ++ s ∷ behind → length back ≡ length (before ++ behind) + 1
without_length back before s behind e = let l = ap length e in omega (arith, length-append before (s ∷ behind), length-append before behind)

without : (f : Told → ℕ) (lo : ℕ) (back before : List Told) (s : Told) (behind : List Told) (hi : ℕ)
    → back ≡ before ++ s ∷ behind → Rises f lo back hi → Rises f lo (before ++ behind) hi
without f lo back before s behind hi e h = rises_without f lo before s behind hi (subst (λ ss. Rises f lo ss hi) e h)

pub opening_lose : {A : Type 0} (flow : Flow) (sent given : List (Load A)) (es : List (Entry A)) (back before : List Told) (s : Told) (behind : List Told)
    (due : Bool) (broken : Option Gap) (missing : ℕ) (commanded : Bool) → back ≡ before ++ s ∷ behind
    → InOpening flow sent given es back due broken missing commanded → InOpening flow sent given es (before ++ behind) due broken missing commanded
opening_lose flow sent given es back before s behind due broken missing commanded e h =
    let l = without_length back before s behind e in
    record {
      none_sent = h.none_sent;
      none_given = h.none_given;
      no_data = h.no_data;
      none_missing = h.none_missing;
      good = h.good;
      all_good = without bad_told 0 back before s behind 0 e h.all_good;
      order = h.order;
      one = (let p = h.one in omega arith);
      silent = λ c. (let p = h.silent c in omega arith);
    }

pub running_lose : {A : Type 0} (flow : Flow) (outstanding moved held : Count) (closed : Bool) (ready : List (Load A))
    (es : List (Entry A)) (back before : List Told) (s : Told) (behind : List Told) (due : Bool) (broken : Option Gap) (missing : ℕ) (pinging : Bool)
    → back ≡ before ++ s ∷ behind → InRunning flow outstanding moved held closed ready es back due broken missing pinging
    → InRunning flow outstanding moved held closed ready es (before ++ behind) due broken missing pinging
running_lose flow outstanding moved held closed ready es back before s behind due broken missing pinging e h =
    let l = without_length back before s behind e in
    record {
      worse = without bad_told 0 back before s behind _ e h.worse;
      some_missing = h.some_missing;
      order = h.order;
      unasked = h.unasked;
      asked = λ p. (let a = h.asked p in record {
        one = (let m = a.one in omega arith);
        no_data = a.no_data;
        all_taken = a.all_taken;
        stuck = a.stuck;
        owing = a.owing;
        exact_packets = without packets_told _ back before s behind _ e a.exact_packets;
        exact_bytes = without bytes_told _ back before s behind _ e a.exact_bytes;
      });
    }

pub resyncing_lose : {A : Type 0} (policy : Policy) (total held : Count) (es : List (Entry A)) (back before : List Told) (s : Told) (behind : List Told)
    (due : Bool) (broken : Option Gap) (missing : ℕ) (pinging commanded : Bool) → back ≡ before ++ s ∷ behind
    → InResyncing policy total held es back due broken missing pinging commanded
    → InResyncing policy total held es (before ++ behind) due broken missing pinging commanded
resyncing_lose policy total held es back before s behind due broken missing pinging commanded e h =
    let l = without_length back before s behind e in
    record {
      auto = h.auto;
      unasked = h.unasked;
      order = h.order;
      before = λ m. (let was = h.before m in record {
        all_bad = without good_told 0 back before s behind _ e was.all_bad;
        unsent = was.unsent;
        still = λ g. (let n = was.still g in omega arith);
      });
      behind = λ z. (let was = h.behind z in record {
        no_data = was.no_data;
        good = was.good;
        better = without good_told 0 back before s behind _ e was.better;
        was_sent = was.was_sent;
        again = λ o. (let n = was.again o in omega arith);
      });
    }
