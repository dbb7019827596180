-- A place is found by halving: what a search finds among the first places, and how these are listed and kept.
use Rattle.std.proofs.Common.{◌≡◌, ◌==◌, ℕ, zero, suc, ◌+◌, ◌<◌, ◌≤◌, true, false, List, [], ◌∷◌, ◌++◌, length, get_or, set, map, take, Option, Some, Result, Ok, Err, IfOk, IfErr, inl, inr, sym, ◌∙◌, refl, ap, subst, arith, eq-eqb, length-append, length-set}
use Rattle.std.specs.List.{insert, All}
use Rattle.std.specs.List.Sorted.{IsSearchInRange, IsBinarySearchResult, IsNonDecreasingBy, IsPermutation}
use Rattle.std.specs.Ordering.{nat_cmp, ordering_index}
use Rattle.std.proofs.lemmas.Bool.{cases_lt}
use Rattle.std.proofs.lemmas.Bool.Decides.{nat_tests}
use Rattle.std.proofs.lemmas.Cmp.{ranked}
use Rattle.std.proofs.lemmas.List.{length-map, length-take-le, map-append, take_more}
use Rattle.std.proofs.lemmas.List.Elements.{All-nil, All-cons, All-head, All-tail}
use Rattle.std.proofs.lemmas.List.Sorted.{All-permutation, IsPermutation-insert, IsPermutation-sym, IsNonDecreasingBy-insert}
use Rattle.chdr_words.specs.declared.epid.Epid.{Epid}
use Rattle.net_nodes.specs.FirstPlaces.{Rises, IsListedAt, IsGapFor, IsUnlisted, IsOrderOf, Lists}
use Rattle.net_nodes.specs.Table.{no_exit, place_at, IsPlaceOf, MissesBelow}
use Rattle.net_nodes.specs.declared.first_place.FirstPlace.{FirstPlace}
use Rattle.net_nodes.specs.declared.table.Place.{Place}

-- ---- the search

comparisons_rise : (order : List FirstPlace) (epid : ℕ) → Rises order → IsNonDecreasingBy (λ first. ordering_index (nat_cmp first.epid.0 epid)) order
comparisons_rise order epid rises i j d le lt =
    let keys = rises i j d le lt in grind (arith, nat_tests, keys)

pub searched : (order : List FirstPlace) (epid : Epid) (r : Result ℕ ℕ) → Rises order → IsSearchInRange r (length order) → IsBinarySearchResult (λ first. nat_cmp first.epid.0 epid.0) order r → IfOk r (IsListedAt order epid) × IfErr r (IsGapFor order epid)
searched order epid (Ok i) rises range equal =
    (record { in_range = range; same = λ d. ranked _ epid.0 _ (sym (equal d)) }, tt)
searched order epid (Err i) rises range parted =
    let parts = parted (comparisons_rise order epid.0 rises) in (
      tt,
      record {
        in_range = range;
        lower = λ k d low high. ranked _ epid.0 _ (sym (parts.0 k d low high));
        higher = λ k d low high. ranked _ epid.0 _ (sym (parts.1 k d low high));
      },
    )

-- an EPID that has a gap is unlisted
unlisted : (order : List FirstPlace) (epid : Epid) (i : ℕ) → IsGapFor order epid i → IsUnlisted order epid
unlisted order epid i gap k d lt = elim (cases_lt k i) [
  | inl below ↦ let l = gap.lower k d (omega arith) below in grind (arith, nat_tests, l)
  | inr above ↦ let h = gap.higher k d above lt in grind (arith, nat_tests, h)
]

-- ---- one place more

place_before : (places : List Place) (place : Place) (k : ℕ) → k < length places → place_at (places ++ place ∷ []) k ≡ place_at places k
place_before [] place k lt = absurd (omega arith)
place_before (p ∷ ps) place zero lt = refl
place_before (p ∷ ps) place (suc k) lt = place_before ps place k (omega arith)

place_behind : (places : List Place) (place : Place) → place_at (places ++ place ∷ []) (length places) ≡ place
place_behind [] place = refl
place_behind (p ∷ ps) place = place_behind ps place

misses_before : (places : List Place) (place : Place) (epid : Epid) (n : ℕ) → n ≤ length places → MissesBelow places epid n → MissesBelow (places ++ place ∷ []) epid n
misses_before places place epid n le misses k lt =
    ap (λ (p : Place). p.epid.0 == epid.0) (place_before places place k (omega arith)) ∙ misses k lt

misses_more : (places : List Place) (place : Place) (epid : Epid) → MissesBelow places epid (length places) → (place.epid.0 == epid.0) ≡ false → MissesBelow (places ++ place ∷ []) epid (length (places ++ place ∷ []))
misses_more places place epid misses other k lt = elim (cases_lt k (length places)) [
  | inl below ↦ misses_before places place epid (length places) (omega arith) misses k below
  | inr above ↦
      let here : k ≡ length places = omega (arith, length-append places (place ∷ [])) in
      ap (λ (n : ℕ). (place_at (places ++ place ∷ []) n).epid.0 == epid.0) here
      ∙ ap (λ (p : Place). p.epid.0 == epid.0) (place_behind places place) ∙ other
]

firsts_more : (places : List Place) (place : Place) (order : List FirstPlace) → All (λ first. IsPlaceOf places first.epid (Some first.at)) order → All (λ first. IsPlaceOf (places ++ place ∷ []) first.epid (Some first.at)) order
firsts_more places place order firsts k d lt =
    let first = firsts k d lt in
    let f = get_or order k d in
    (omega (arith, first.0, length-append places (place ∷ [])), misses_before places place f.epid f.at (omega (arith, first.0)) first.1, ap (λ (p : Place). p.epid.0 == f.epid.0) (place_before places place f.at first.0) ∙ first.2)

pub order_kept : (order : List FirstPlace) (epid : Epid) (i at : ℕ) → IsListedAt order epid i → Lists at epid order order
order_kept order epid i at listed places len e = record {
  rises = e.rises;
  firsts = firsts_more places (no_exit epid) order e.firsts;
  whole = λ other none. misses_more places (no_exit epid) other (e.whole other none) (place_differs other none);
}
  where
    place_differs : (other : Epid) → IsUnlisted order other → (epid.0 == other.0) ≡ false
    place_differs other none =
        let d : FirstPlace = record { epid = epid; at = 0 } in
        ap (λ (n : ℕ). n == other.0) (sym (listed.same d)) ∙ none i d listed.in_range

pub order_more : (order : List FirstPlace) (epid : Epid) (i at : ℕ) → IsGapFor order epid i → Lists at epid order (insert order i (record { epid = epid; at = at }))
order_more order epid i at gap places len e = record {
  rises = IsNonDecreasingBy-insert (λ (f : FirstPlace). f.epid.0) order i new e.rises gap.in_range (λ k d lt. let l = gap.lower k d (omega arith) lt in omega (arith, l)) (λ k d le lt. let h = gap.higher k d le lt in omega (arith, h));
  firsts = All-permutation First (new ∷ order) (insert order i new) moved (All-cons First new order is_first (firsts_more places (no_exit epid) order e.firsts));
  whole = λ other none.
      let back : IsUnlisted (new ∷ order) other = All-permutation (λ (f : FirstPlace). (f.epid.0 == other.0) ≡ false) (insert order i new) (new ∷ order) (IsPermutation-sym (new ∷ order) (insert order i new) moved) none in
      misses_more places (no_exit epid) other (e.whole other (All-tail (λ (f : FirstPlace). (f.epid.0 == other.0) ≡ false) new order back)) (All-head (λ (f : FirstPlace). (f.epid.0 == other.0) ≡ false) new order back);
}
  where
    new : FirstPlace
    new = record { epid = epid; at = at }

    First : FirstPlace → Type 0
    First f = IsPlaceOf (places ++ no_exit epid ∷ []) f.epid (Some f.at)

    moved : IsPermutation (new ∷ order) (insert order i new)
    moved = IsPermutation-insert order i new

    is_first : First new
    is_first =
        (omega (arith, len, length-append places (no_exit epid ∷ [])), subst (λ (n : ℕ). MissesBelow (places ++ no_exit epid ∷ []) epid n) len (misses_before places (no_exit epid) epid (length places) (omega arith) (e.whole epid (unlisted order epid i gap))), subst (λ (n : ℕ). ((place_at (places ++ no_exit epid ∷ []) n).epid.0 == epid.0) ≡ true) len (ap (λ (p : Place). p.epid.0 == epid.0) (place_behind places (no_exit epid)) ∙ eq-eqb epid.0 epid.0 refl))

pub order_none : IsOrderOf [] []
order_none = record {
  rises = λ i j d le lt. absurd (omega arith);
  firsts = All-nil (λ (f : FirstPlace). IsPlaceOf [] f.epid (Some f.at));
  whole = λ epid none k lt. absurd (omega arith);
}

-- a step of the list of first places
pub lists_more : (epids : List Epid) (at : ℕ) (d : Epid) (old new : List FirstPlace) → at < length epids → Lists at (get_or epids at d) old new → IsOrderOf old (map no_exit (take at epids)) → IsOrderOf new (map no_exit (take (at + 1) epids))
lists_more epids at d old new lt step e =
    let len : length (map no_exit (take at epids)) ≡ at = length-map (take at epids) no_exit ∙ length-take-le at epids (omega arith) in
    rw (take_more epids at d lt, map-append no_exit (take at epids) (get_or epids at d ∷ [])) (step (map no_exit (take at epids)) len e)

pub ruleset list_lemmas = (order_none, lists_more)

-- ---- a new entry

same_epid : (places : List Place) (at k : ℕ) (found : Place) (exit : Option ℕ) → found ≡ get_or places at found → at < length places → (place_at (set places at (record { epid = found.epid; exit = exit })) k).epid ≡ (place_at places k).epid
same_epid [] at k found exit read lt = absurd (omega arith)
same_epid (p ∷ ps) zero zero found exit read lt = ap (λ (q : Place). q.epid) read
same_epid (p ∷ ps) zero (suc k) found exit read lt = refl
same_epid (p ∷ ps) (suc at) zero found exit read lt = refl
same_epid (p ∷ ps) (suc at) (suc k) found exit read lt = same_epid ps at k found exit read (omega arith)

module _ (old new : List Place) (len : length new ≡ length old) (epids : (k : ℕ) → (place_at new k).epid ≡ (place_at old k).epid) where
  misses_same : (epid : Epid) (n : ℕ) → MissesBelow old epid n → MissesBelow new epid n
  misses_same epid n misses k lt = ap (λ (e : Epid). e.0 == epid.0) (epids k) ∙ misses k lt

  order_same : (order : List FirstPlace) → IsOrderOf order old → IsOrderOf order new
  order_same order e = record {
    rises = e.rises;
    firsts = λ k d lt.
        let first = e.firsts k d lt in
        let f = get_or order k d in
        (omega (arith, first.0, len), misses_same f.epid f.at first.1, ap (λ (x : Epid). x.0 == f.epid.0) (epids f.at) ∙ first.2);
    whole = λ epid none. subst (λ (n : ℕ). MissesBelow new epid n) (sym len) (misses_same epid (length old) (e.whole epid none));
  }

pub order_set : (order : List FirstPlace) (places : List Place) (at : ℕ) (found : Place) (exit : Option ℕ) → found ≡ get_or places at found → at < length places → IsOrderOf order places → IsOrderOf order (set places at (record { epid = found.epid; exit = exit }))
order_set order places at found exit read lt e =
    order_same places (set places at (record { epid = found.epid; exit = exit })) (length-set places at (record { epid = found.epid; exit = exit })) (λ k. same_epid places at k found exit read lt) order e
