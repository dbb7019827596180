-- How the statuses that arrive keep the talk of both ends.
use Rattle.std.proofs.Common.{◌≡◌, ℕ, ◌+◌, ◌≤◌, ◌⊎◌, inl, inr, Bool, true, false, Option, List, [], ◌∷◌, length, refl, ap, subst, arith}
use Rattle.std.proofs.lemmas.Bool.{cases_Bool, cases_lt}
use Rattle.chdr_words.specs.declared.command.CmdOp.TheVariants.{Ping, Resync}
use Rattle.stream_endpoint.specs.declared.count.Count.{Count}
use Rattle.stream_endpoint.specs.declared.flow.Flow.{Flow}
use Rattle.stream_endpoint.specs.declared.flow.Policy.{Policy}
use Rattle.stream_endpoint.specs.declared.flow.Policy.TheVariants.{Auto, Off}
use Rattle.stream_endpoint.specs.declared.state.Gap.{Gap}
use Rattle.stream_endpoint.specs.Counts.{minus, none}
use Rattle.stream_laws.specs.Machine.{Entry, Load, Told}
use Rattle.stream_laws.specs.Chains.{Rises, badness, bad_told, bytes_told, flying, good_told, goodness, orders, packets_told}
use Rattle.stream_laws.specs.Invariant.{Balanced, dues}
use Rattle.stream_laws.specs.Talk.{InHalted, InOpening, InResyncing, InRunning}
use Rattle.stream_laws.proofs.Chains.{ends_none, flying_even, rises_from, rises_le, rises_to}
use Rattle.stream_laws.proofs.TalkBack.{all_bad_from, all_good_from, bad_or_good}

-- a status arrives

-- in Opening it is an OKAY, the only thing under way
pub opening_hear : {A : Type 0} (flow : Flow) (sent given : List (Load A)) (es : List (Entry A)) (back rest : List Told) (s : Told)
    (due : Bool) (broken : Option Gap) (missing : ℕ) (commanded : Bool) (left moved held : Count) (closed : Bool) (ready : List (Load A)) → back ≡ s ∷ rest
    → InOpening flow sent given es back due broken missing commanded
    → (badness s.gap ≡ 0) × InRunning flow left moved held closed ready es rest due broken missing false
opening_hear flow sent given es back rest s due broken missing commanded left moved held closed ready e h =
    let l = ap length e in
    let all = subst (λ ss. Rises bad_told 0 ss 0) e h.all_good in
    let le = rises_le bad_told (bad_told s) rest 0 all.1 in
    let o : orders es ≡ 0 = (let p = h.one in omega arith) in
    let g = h.good in (
      omega arith,
      record {
        worse = rises_from bad_told 0 (bad_told s) rest _ (rises_to bad_told (bad_told s) rest 0 (badness broken) all.1 (omega arith)) (omega arith);
        some_missing = omega arith;
        order = ends_none Ping none es o;
        unasked = λ p. o;
        asked = λ p. absurd (cc p);
      },
    )

-- in Running no command is under way behind a status that arrives
running_idle : {A : Type 0} (flow : Flow) (outstanding moved held : Count) (closed : Bool) (ready : List (Load A))
    (es : List (Entry A)) (back rest : List Told) (s : Told) (due : Bool) (broken : Option Gap) (missing : ℕ) (pinging : Bool)
    → back ≡ s ∷ rest → InRunning flow outstanding moved held closed ready es back due broken missing pinging → orders es ≡ 0
running_idle flow outstanding moved held closed ready es back rest s due broken missing pinging e h = go (cases_Bool pinging)
  where
    go : (pinging ≡ true) ⊎ (pinging ≡ false) → orders es ≡ 0
    go (inl p) = let l = ap length e in let m = (h.asked p).one in omega arith
    go (inr q) = h.unasked q

pub running_hear : {A : Type 0} (flow : Flow) (outstanding left moved held : Count) (closed : Bool) (ready : List (Load A))
    (es : List (Entry A)) (back rest : List Told) (s : Told) (due : Bool) (broken : Option Gap) (missing : ℕ) (pinging : Bool)
    → back ≡ s ∷ rest → InRunning flow outstanding moved held closed ready es back due broken missing pinging
    → InRunning flow left moved held closed ready es rest due broken missing false
running_hear flow outstanding left moved held closed ready es back rest s due broken missing pinging e h =
    let o = running_idle flow outstanding moved held closed ready es back rest s due broken missing pinging e h in
    let all = subst (λ ss. Rises bad_told 0 ss (badness broken)) e h.worse in
    record {
      worse = rises_from bad_told 0 (bad_told s) rest _ all.1 (omega arith);
      some_missing = h.some_missing;
      order = ends_none Ping none es o;
      unasked = λ p. o;
      asked = λ p. absurd (cc p);
    }

-- why a sender falls out of Running: the receiver is broken, or a PING's answer shows that something is missing
pub record Falls {A : Type 0} (es : List (Entry A)) (rest : List Told) (due : Bool) (held : ℕ) (broken : Option Gap) (missing : ℕ) : Type 0 where
  pub some : 1 ≤ missing
  pub idle : orders es ≡ 0
  pub all_bad : Rises good_told 0 rest 0
  pub still : goodness broken ≡ 1 → length rest + dues due + (flying es).packets + held ≡ 0

pub falls_by_gap : {A : Type 0} (flow : Flow) (outstanding moved held : Count) (closed : Bool) (ready : List (Load A))
    (es : List (Entry A)) (back rest : List Told) (s : Told) (due : Bool) (broken : Option Gap) (missing : ℕ) (pinging : Bool)
    → back ≡ s ∷ rest → badness s.gap ≡ 1 → InRunning flow outstanding moved held closed ready es back due broken missing pinging
    → Falls es rest due held.packets broken missing
falls_by_gap flow outstanding moved held closed ready es back rest s due broken missing pinging e bad h =
    let all = subst (λ ss. Rises bad_told 0 ss (badness broken)) e h.worse in
    let worse = all_bad_from rest broken (rises_from bad_told 1 (bad_told s) rest _ all.1 (omega arith)) in
    let either' = bad_or_good broken in
    record {
      some = (let m = h.some_missing in let b = worse.1 in omega arith);
      idle = running_idle flow outstanding moved held closed ready es back rest s due broken missing pinging e h;
      all_bad = worse.0;
      still = λ g. (let b = worse.1 in absurd (omega arith));
    }

-- what is left by the answer of a PING is what is missing
pub falls_by_ping : {A : Type 0} (flow : Flow) (outstanding total reached held missing : Count) (closed : Bool) (ready : List (Load A))
    (es : List (Entry A)) (back rest : List Told) (s : Told) (due : Bool) (broken : Option Gap)
    → back ≡ s ∷ rest → Balanced total reached held (flying es) missing → (held.packets ≡ 0 → held.bytes ≡ 0)
    → (((minus total s.told).packets ≡ 0) × ((minus total s.told).bytes ≡ 0) → ⊥)
    → InRunning flow outstanding (minus reached held) held closed ready es back due broken missing.packets true
    → Falls es rest due held.packets broken missing.packets
falls_by_ping flow outstanding total reached held missing closed ready es back rest s due broken e balanced even not_covered h =
    let a = h.asked refl in
    let l = ap length e in
    let m = a.one in
    let none' : rest ≡ [] = nothing rest (omega arith) in
    let xp = subst (λ ss. Rises packets_told (minus reached held).packets ss (minus reached held).packets) e a.exact_packets in
    let xb = subst (λ ss. Rises bytes_told (minus reached held).bytes ss (minus reached held).bytes) e a.exact_bytes in
    let lp = rises_le packets_told _ rest _ xp.1 in
    let lb = rises_le bytes_told _ rest _ xb.1 in
    let held_packets = a.all_taken in
    let held_bytes = even a.all_taken in
    let no_data = a.no_data in
    let no_bytes = flying_even es a.no_data in
    record {
      some = (elim (cases_lt 0 missing.packets) [
        | inl some ↦ some
        | inr low ↦ (
            let mb = balanced.even (omega arith) in
            let bp = balanced.packets in
            let bb = balanced.bytes in
            absurd (not_covered (omega arith, omega arith))
            )
      ]);
      idle = omega arith;
      all_bad = rw none' (omega arith);
      still = λ g. omega arith;
    }
  where
    nothing : (ss : List Told) → length ss ≡ 0 → ss ≡ []
    nothing [] z = refl
    nothing (t ∷ ts) z = absurd (omega arith)

pub falls_auto : {A : Type 0} (total held : Count) (es : List (Entry A)) (rest : List Told) (due : Bool) (broken : Option Gap) (missing : ℕ)
    → Falls es rest due held.packets broken missing → InResyncing Auto total held es rest due broken missing false false
falls_auto total held es rest due broken missing f = record {
  auto = refl;
  unasked = refl;
  order = ends_none Resync total es f.idle;
  before = λ m. record { all_bad = f.all_bad; unsent = λ c. f.idle; still = f.still };
  behind = λ z. (let s = f.some in absurd (omega arith));
}

pub falls_off : {A : Type 0} (es : List (Entry A)) (rest : List Told) (due : Bool) (held : ℕ) (broken : Option Gap) (missing : ℕ)
    → Falls es rest due held broken missing → InHalted Off es missing
falls_off es rest due held broken missing f = record { off = refl; some_missing = f.some; no_order = f.idle }

-- an OKAY in Resyncing answers a RESYNC that arrived, and all behind it are OKAYs
pub resyncing_hear_good : {A : Type 0} (policy : Policy) (total held : Count) (es : List (Entry A)) (back rest : List Told) (s : Told) (due : Bool)
    (broken : Option Gap) (missing : ℕ) (pinging commanded : Bool) (flow : Flow) (left moved : Count) (closed : Bool) (ready : List (Load A))
    → back ≡ s ∷ rest → goodness s.gap ≡ 1 → InResyncing policy total held es back due broken missing pinging commanded
    → (missing ≡ 0) × InRunning flow left moved held closed ready es rest due broken missing false
resyncing_hear_good policy total held es back rest s due broken missing pinging commanded flow left moved closed ready e good h =
    let z : missing ≡ 0 = (elim (cases_lt 0 missing) [
      | inl some ↦ (
          let all = subst (λ ss. Rises good_told 0 ss 0) e (h.before some).all_bad in
          let le = rises_le good_told (good_told s) rest 0 all.1 in
          absurd (omega arith)
          )
      | inr low ↦ omega arith
    ]) in
    let was = h.behind z in
    let g = was.good in
    let either' = bad_or_good broken in
    let l = ap length e in
    let o : orders es ≡ 0 = (elim (cases_lt 0 (orders es)) [ inl some ↦ (let n = was.again some in absurd (omega arith)) | inr low ↦ omega arith ]) in
    let all = subst (λ ss. Rises good_told 0 ss 1) e was.better in
    let goods' = all_good_from rest (rises_from good_told 1 (good_told s) rest 1 all.1 (omega arith)) in (
      z,
      record {
        worse = rises_to bad_told 0 rest 0 _ goods' (omega arith);
        some_missing = omega arith;
        order = ends_none Ping none es o;
        unasked = λ p. o;
        asked = λ p. absurd (cc p);
      },
    )

pub resyncing_hear_bad : {A : Type 0} (policy : Policy) (total held : Count) (es : List (Entry A)) (back rest : List Told) (s : Told) (due : Bool)
    (broken : Option Gap) (missing : ℕ) (pinging commanded : Bool)
    → back ≡ s ∷ rest → InResyncing policy total held es back due broken missing pinging commanded
    → InResyncing policy total held es rest due broken missing false commanded
resyncing_hear_bad policy total held es back rest s due broken missing pinging commanded e h =
    let l = ap length e in
    record {
      auto = h.auto;
      unasked = refl;
      order = h.order;
      before = λ m. (let was = h.before m in record {
        all_bad = (let all = subst (λ ss. Rises good_told 0 ss 0) e was.all_bad in rises_from good_told 0 (good_told s) rest 0 all.1 (omega arith));
        unsent = was.unsent;
        still = λ g. (let n = was.still g in omega arith);
      });
      behind = λ z. (let was = h.behind z in record {
        no_data = was.no_data;
        good = was.good;
        better = (let all = subst (λ ss. Rises good_told 0 ss 1) e was.better in rises_from good_told 0 (good_told s) rest 1 all.1 (omega arith));
        was_sent = was.was_sent;
        again = λ o. (let n = was.again o in omega arith);
      });
    }
