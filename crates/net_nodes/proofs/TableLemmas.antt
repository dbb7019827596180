-- A table as a map: what is found at an EPID, and what a new entry leaves.
use Rattle.std.proofs.Common.{◌≡◌, ◌==◌, ◌&&◌, ◌||◌, ℕ, zero, suc, ◌<◌, Bool, true, false, cond, List, [], ◌∷◌, length, get_or, set, Some, None, ◌⊎◌, inl, inr, sym, ◌∙◌, refl, ap, arith, if◌then◌else◌, eq-eqb}
use Rattle.std.proofs.lemmas.Bool.{false≢true, eqb-true}
use Rattle.std.proofs.lemmas.List.{get_or_read}
use Rattle.chdr_words.specs.declared.epid.Epid.{Epid}
use Rattle.net_nodes.specs.declared.table.Place.{Place}
use Rattle.net_nodes.specs.Table.{exit_of, with_exit, has_place, place_at, MissesBelow, IsPlaceOf}

-- a test settles a choice
pub choose_true : {A : Type 0} (b : Bool) (x y : A) → b ≡ true → cond b x y ≡ x
choose_true b x y e = ap (λ t. cond t x y) e

pub choose_false : {A : Type 0} (b : Bool) (x y : A) → b ≡ false → cond b x y ≡ y
choose_false b x y e = ap (λ t. cond t x y) e

pub MissesBelow-tail : (place : Place) (places : List Place) (epid : Epid) (n : ℕ) → MissesBelow (place ∷ places) epid (suc n) → MissesBelow places epid n
MissesBelow-tail place places epid n m at h = m (suc at) (omega arith)

-- the entry is that of the first place
pub exit_of-none : (places : List Place) (epid : Epid) → MissesBelow places epid (length places) → exit_of places epid ≡ None
exit_of-none [] epid m = refl
exit_of-none (place ∷ places) epid m =
    choose_false (place.epid.0 == epid.0) _ _ (m 0 (omega arith)) ∙ exit_of-none places epid (MissesBelow-tail place places epid (length places) m)

pub exit_of-some : (places : List Place) (epid : Epid) (at : ℕ) → at < length places → MissesBelow places epid at → ((place_at places at).epid.0 == epid.0) ≡ true → exit_of places epid ≡ (place_at places at).exit
exit_of-some [] epid at h m t = absurd (omega arith)
exit_of-some (place ∷ places) epid zero h m t = choose_true (place.epid.0 == epid.0) _ _ t
exit_of-some (place ∷ places) epid (suc at) h m t =
    choose_false (place.epid.0 == epid.0) _ _ (m 0 (omega arith)) ∙ exit_of-some places epid at (omega arith) (MissesBelow-tail place places epid at m) t

-- a new entry is written at the first place
pub with_exit-none : (places : List Place) (epid : Epid) (port : ℕ) → MissesBelow places epid (length places) → with_exit places epid port ≡ places
with_exit-none [] epid port m = refl
with_exit-none (place ∷ places) epid port m =
    choose_false (place.epid.0 == epid.0) _ _ (m 0 (omega arith)) ∙ ap (λ ps. place ∷ ps) (with_exit-none places epid port (MissesBelow-tail place places epid (length places) m))

pub with_exit-some : (places : List Place) (epid : Epid) (port at : ℕ) → at < length places → MissesBelow places epid at → ((place_at places at).epid.0 == epid.0) ≡ true → with_exit places epid port ≡ set places at (record { epid = (place_at places at).epid; exit = Some port })
with_exit-some [] epid port at h m t = absurd (omega arith)
with_exit-some (place ∷ places) epid port zero h m t = choose_true (place.epid.0 == epid.0) _ _ t
with_exit-some (place ∷ places) epid port (suc at) h m t =
    choose_false (place.epid.0 == epid.0) _ _ (m 0 (omega arith)) ∙ ap (λ ps. place ∷ ps) (with_exit-some places epid port at (omega arith) (MissesBelow-tail place places epid at m) t)

-- the same, as the code finds them
pub exit_found : (places items : List Place) (epid : Epid) (at : ℕ) → items ≡ places → IsPlaceOf places epid (Some at) → (place_at items at).exit ≡ exit_of places epid
exit_found places items epid at e h =
    ap (λ ps. (place_at ps at).exit) e ∙ sym (exit_of-some places epid at h.0 h.1 h.2)

pub exit_written : (places items : List Place) (epid : Epid) (port at : ℕ) (found : Place) → items ≡ places → found ≡ get_or items at found → IsPlaceOf places epid (Some at) → set items at (record { epid = found.epid; exit = Some port }) ≡ with_exit places epid port
exit_written places items epid port at found e read h =
    let same : found ≡ get_or places at found = read ∙ ap (λ ps. get_or ps at found) e in
    let here : found ≡ place_at places at = get_or_read places at found h.0 same (record { epid = record { 0 = 0 }; exit = None }) in
    ap (λ ps. set ps at (record { epid = found.epid; exit = Some port })) e
    ∙ ap (λ p. set places at (record { epid = p.epid; exit = Some port })) here
    ∙ sym (with_exit-some places epid port at h.0 h.1 h.2)

-- a test passes, or fails
pub cases_bool : (b : Bool) → (b ≡ true) ⊎ (b ≡ false)
cases_bool true = inl refl
cases_bool false = inr refl

-- the entry in a list that a test chooses
pub exit_of-choice : (b : Bool) (p q : Place) (ps qs : List Place) (other : Epid) → exit_of (cond b (p ∷ ps) (q ∷ qs)) other ≡ cond b (cond (p.epid.0 == other.0) p.exit (exit_of ps other)) (cond (q.epid.0 == other.0) q.exit (exit_of qs other))
exit_of-choice true p q ps qs other = refl
exit_of-choice false p q ps qs other = refl

-- one step of the entries after a new one, by three tests: the other is the new entry's EPID, this place is the new entry's, this place is the other's
pub entry_step : {A : Type 0} (same here there has : Bool) (new own rest : A) → (same ≡ true → here ≡ there) → (here ≡ true → there ≡ true → same ≡ true) → cond here (cond there new rest) (cond there own (cond (same && has) new rest)) ≡ cond (same && (here || has)) new (cond there own rest)
entry_step true true true has new own rest p q = refl
entry_step true true false has new own rest p q = absurd (false≢true (sym (p refl)))
entry_step true false true has new own rest p q = absurd (false≢true (p refl))
entry_step true false false has new own rest p q = refl
entry_step false true true has new own rest p q = absurd (false≢true (q refl refl))
entry_step false true false has new own rest p q = refl
entry_step false false true has new own rest p q = refl
entry_step false false false has new own rest p q = refl

-- the entries after a new one
pub exit_of-with_exit : (places : List Place) (epid other : Epid) (port : ℕ) → exit_of (with_exit places epid port) other ≡ (if other.0 == epid.0 && has_place places epid then Some port else exit_of places other)
exit_of-with_exit [] epid other port = elim (other.0 == epid.0) as (λ b. None ≡ (if b && false then Some port else None)) [ true ↦ refl | false ↦ refl ]
exit_of-with_exit (place ∷ places) epid other port =
    exit_of-choice (place.epid.0 == epid.0) (record { epid = place.epid; exit = Some port }) place places (with_exit places epid port) other
    ∙ ap (λ o. cond (place.epid.0 == epid.0) (cond (place.epid.0 == other.0) (Some port) (exit_of places other)) (cond (place.epid.0 == other.0) place.exit o)) (exit_of-with_exit places epid other port)
    ∙ entry_step (other.0 == epid.0) (place.epid.0 == epid.0) (place.epid.0 == other.0) (has_place places epid) (Some port) place.exit (exit_of places other)
    (λ t. ap (λ x. place.epid.0 == x) (sym (eqb-true other.0 epid.0 t)))
    (λ h t. eq-eqb other.0 epid.0 (sym (eqb-true place.epid.0 other.0 t) ∙ eqb-true place.epid.0 epid.0 h))
