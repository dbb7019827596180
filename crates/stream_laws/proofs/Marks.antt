-- How each act keeps the parts of the invariant on paid epochs and on streams that lost nothing; and which packets are missing.
use Rattle.std.proofs.Common.{◌≡◌, ℕ, zero, suc, ◌+◌, ◌≤◌, ◌==◌, cond, ◌⊎◌, inl, inr, Bool, true, false, Option, Some, None, List, [], ◌∷◌, ◌++◌, refl, sym, subst, arith}
use Rattle.std.proofs.lemmas.Bool.Decides.{nat_tests}
use Rattle.stream_endpoint.specs.declared.count.Count.{Count}
use Rattle.stream_endpoint.specs.declared.state.Arrived.TheVariants.{Kept, Discarded, Gap as GapAt}
use Rattle.stream_endpoint.specs.declared.state.Gap.{Gap}
use Rattle.stream_endpoint.specs.declared.state.Notice.{Notice}
use Rattle.stream_endpoint.specs.declared.state.Notice.TheVariants.{Due, Since}
use Rattle.stream_endpoint.specs.declared.state.OutState.{OutState}
use Rattle.stream_endpoint.specs.declared.state.OutState.TheVariants.{Halted, Resyncing}
use Rattle.stream_endpoint.specs.Receiver.{Receiver, arrival, arrives, arrives_at, breaks, expected, is_due_by, keeps, notice_after}
use Rattle.stream_laws.specs.Machine.{Cut, Told}
use Rattle.stream_laws.specs.Chains.{good_told, goodness}
use Rattle.stream_laws.specs.Invariant.{Paid, Unhurt, dues, goods}

pub goods-append : (ss : List Told) (s : Told) → goods (ss ++ s ∷ []) ≡ goods ss + good_told s
goods-append [] s = omega arith
goods-append (t ∷ ss) s = let rest = goods-append ss s in omega arith

-- a loss pays for what it may bring
pub paid_lose : (state : OutState) (missing more : ℕ) (cuts : List Cut) (back fewer : List Told) (due : Bool) (losses : ℕ)
    → Paid state missing cuts back due losses → Paid state more cuts fewer due (losses + 1)
paid_lose state missing more cuts back fewer due losses h = let e = h.ended in record {
  ended = omega arith;
  broken_off = λ m. omega arith;
  unanswered = λ s m g. omega arith;
}

-- if something is missing already, more may be
pub paid_miss : (state : OutState) (missing more : ℕ) (cuts : List Cut) (back : List Told) (due later : Bool) (losses : ℕ)
    → 1 ≤ missing → missing ≤ more → Paid state missing cuts back due losses → Paid state more cuts back later losses
paid_miss state missing more cuts back due later losses some le h = let b = h.broken_off some in record {
  ended = h.ended;
  broken_off = λ m. b;
  unanswered = λ s m g. absurd (omega arith);
}

-- a status becomes due, or stays so
pub paid_due : (state : OutState) (missing : ℕ) (cuts : List Cut) (back : List Told) (due later : Bool) (losses : ℕ)
    → dues due ≤ dues later → Paid state missing cuts back due losses → Paid state missing cuts back later losses
paid_due state missing cuts back due later losses le h = record {
  ended = h.ended;
  broken_off = h.broken_off;
  unanswered = λ s m g. h.unanswered s m (omega arith);
}

pub paid_report : (state : OutState) (missing : ℕ) (cuts : List Cut) (back : List Told) (s : Told) (losses : ℕ)
    → (state ≡ Resyncing → missing ≡ 0 → goodness s.gap ≡ 1) → Paid state missing cuts back true losses
    → Paid state missing cuts (back ++ s ∷ []) false losses
paid_report state missing cuts back s losses good h = record {
  ended = h.ended;
  broken_off = h.broken_off;
  unanswered = λ r m g. (let o = good r m in let a = goods-append back s in absurd (omega arith));
}

pub paid_renew : (missing : ℕ) (cuts : List Cut) (cut : Cut) (back : List Told) (due : Bool) (losses : ℕ)
    → (missing ≡ 0 → goods back + dues due ≡ 0) → Paid Resyncing missing cuts back due losses → Paid Resyncing 0 (cut ∷ cuts) back true losses
paid_renew zero cuts cut back due losses idle h = let u = h.unanswered refl refl (idle refl) in record {
  ended = omega arith;
  broken_off = λ m. absurd (omega arith);
  unanswered = λ s m g. absurd (omega arith);
}
paid_renew (suc missing) cuts cut back due losses idle h = let b = h.broken_off (omega arith) in record {
  ended = omega arith;
  broken_off = λ m. absurd (omega arith);
  unanswered = λ s m g. absurd (omega arith);
}

-- a status arrives, and the sender isn't Resyncing then, or something is missing, or the status was no OKAY
pub paid_hear : (state later : OutState) (missing : ℕ) (cuts : List Cut) (back rest : List Told) (due : Bool) (losses : ℕ)
    → (later ≡ Resyncing → missing ≡ 0 → (state ≡ Resyncing) × (goods back ≡ goods rest))
    → Paid state missing cuts back due losses → Paid later missing cuts rest due losses
paid_hear state later missing cuts back rest due losses same h = record {
  ended = h.ended;
  broken_off = h.broken_off;
  unanswered = λ s m g. (let p = same s m in let q = p.1 in h.unanswered p.0 m (omega arith));
}

pub unhurt_miss : (state : OutState) (missing more : ℕ) (cuts : List Cut) (lost : List ℕ) → 1 ≤ missing
    → Unhurt state missing cuts lost → Unhurt state more cuts lost
unhurt_miss state missing more cuts lost some h = record {
  none_missing = λ m. h.none_missing some;
  none_cut = h.none_cut;
  not_resyncing = h.not_resyncing;
  not_halted = h.not_halted;
}

pub unhurt_lose : (state : OutState) (missing more : ℕ) (cuts : List Cut) (lost : List ℕ) (place : ℕ) → Unhurt state more cuts (place ∷ lost)
unhurt_lose state missing more cuts lost place = record {
  none_missing = λ m. omega arith;
  none_cut = λ m. omega arith;
  not_resyncing = λ m. omega arith;
  not_halted = λ m. omega arith;
}

pub unhurt_renew : (missing : ℕ) (cuts : List Cut) (cut : Cut) (lost : List ℕ) → Unhurt Resyncing missing cuts lost → Unhurt Resyncing 0 (cut ∷ cuts) lost
unhurt_renew missing cuts cut lost h = let r = h.not_resyncing refl in record {
  none_missing = λ m. absurd (omega arith);
  none_cut = λ m. r;
  not_resyncing = λ m. r;
  not_halted = λ m. r;
}

pub unhurt_hear : (state later : OutState) (missing : ℕ) (cuts : List Cut) (lost : List ℕ)
    → (later ≡ Resyncing → (state ≡ Resyncing) ⊎ (1 ≤ missing)) → (later ≡ Halted → (state ≡ Halted) ⊎ (1 ≤ missing))
    → Unhurt state missing cuts lost → Unhurt later missing cuts lost
unhurt_hear state later missing cuts lost resyncing halted h = record {
  none_missing = h.none_missing;
  none_cut = h.none_cut;
  not_resyncing = λ l. (elim (resyncing l) [ inl s ↦ h.not_resyncing s | inr m ↦ h.none_missing m ]);
  not_halted = λ l. (elim (halted l) [ inl s ↦ h.not_halted s | inr m ↦ h.none_missing m ]);
}

-- what a receiver does with a packet

kept_by : (b : Bool) (number next : ℕ) → (number == next) ≡ b → cond b Kept (GapAt next number) ≡ Kept → number ≡ next
kept_by true number next e is = grind (arith, nat_tests)
kept_by false number next e is = absurd (cc is)

gap_by : (b : Bool) (number next : ℕ) → (number == next) ≡ b → cond b Kept (GapAt next number) ≡ GapAt next number → number ≡ next → ⊥
gap_by true number next e is = absurd (cc is)
gap_by false number next e is = grind (arith, nat_tests)

pub kept_is : (broken : Option Gap) (next number : ℕ) → arrival broken next number ≡ Kept → (broken ≡ None) × (number ≡ next)
kept_is None next number is = (refl, kept_by (number == next) number next refl is)
kept_is (Some gap) next number is = absurd (cc is)

pub gap_is : (broken : Option Gap) (next number : ℕ) → arrival broken next number ≡ GapAt next number → (broken ≡ None) × (number ≡ next → ⊥)
gap_is None next number is = (refl, gap_by (number == next) number next refl is)
gap_is (Some gap) next number is = absurd (cc is)

pub discarded_is : (broken : Option Gap) (next number : ℕ) → arrival broken next number ≡ Discarded → (gap : Gap) × (broken ≡ Some gap)
discarded_is None next number is = absurd (never (number == next) is)
  where
    never : (b : Bool) → cond b Kept (GapAt next number) ≡ Discarded → ⊥
    never true e = absurd (cc e)
    never false e = absurd (cc e)
discarded_is (Some gap) next number is = (gap, refl)

pub arrives_kept : (r : Receiver) (number wire : ℕ) → r.broken ≡ None → number ≡ expected r → arrives number wire r ≡ keeps wire r
arrives_kept r number wire none same = subst (λ g. arrives_at g number wire r ≡ keeps wire r) (sym none) (go (number == expected r) refl)
  where
    go : (b : Bool) → (number == expected r) ≡ b → cond b (keeps wire r) (breaks number r) ≡ keeps wire r
    go true e = refl
    go false e = absurd (grind (arith, nat_tests))

pub arrives_broken : (r : Receiver) (number wire : ℕ) → r.broken ≡ None → (number ≡ expected r → ⊥) → arrives number wire r ≡ breaks number r
arrives_broken r number wire none other = subst (λ g. arrives_at g number wire r ≡ breaks number r) (sym none) (go (number == expected r) refl)
  where
    go : (b : Bool) → (number == expected r) ≡ b → cond b (keeps wire r) (breaks number r) ≡ breaks number r
    go true e = absurd (grind (arith, nat_tests))
    go false e = refl

pub arrives_discarded : (r : Receiver) (number wire : ℕ) (gap : Gap) → r.broken ≡ Some gap → arrives number wire r ≡ r
arrives_discarded r number wire gap some = subst (λ g. arrives_at g number wire r ≡ r) (sym some) refl

-- a status that is due stays due as more is taken
pub due_stays : (frequency taken : Count) (notice : Notice) → dues (is_due_by notice) ≤ dues (is_due_by (notice_after frequency taken notice))
due_stays frequency taken Due = omega arith
due_stays frequency taken (Since before) = omega arith
