-- The fault shown of bytes is the first fault, by the captures among their fronts.
use Rattle.std.proofs.Common.{◌≡◌, ℕ, ◌+◌, ◌≤◌, ◌⊎◌, inl, inr, List, [], ◌++◌, length, take, drop, Option, None, Some, refl, sym, ap, subst, ◌∙◌, arith}
use Rattle.std.proofs.lemmas.List.{append-nil, length-drop, length-take-le, take-append-drop, take_all}
use Rattle.chdr_packets.specs.declared.packet.Packet.{Packet}
use Rattle.chdr_stream.specs.Capture.{IsCaptureOf, Reason, Capture, behind, capture_from, capture_of}
use Rattle.chdr_stream.specs.FirstFault.{IsLongestFront, IsFirstFault}
use Rattle.chdr_stream.specs.Places.{packets_of, ArePlaced}
use Rattle.chdr_stream.specs.Laws.{shown, end_of, ShowsCaptures, ShowsOnly, ShowsFirstFault, ShowsLongest, ShowsPlaces, IsWholeOrFaulty, HasNone, HasOne}
use Rattle.chdr_stream.proofs.StreamLemmas.{with_items}
use Rattle.chdr_packets.specs.Laws.{IsBytes}
use Rattle.chdr_stream.proofs.ReasonLemmas.{Finds, finds_fails, fails_finds, finds_once}
use Rattle.chdr_stream.proofs.CaptureLemmas.{take_bytes, drop_bytes, places_of, placed_capture, placed_shown, StopsBy, Shows, shows_bytes}

-- ---- the packets shown

pub capture_none : (at : ℕ) → capture_from 0 at [] ≡ with_items [] None
unfolding capture_from
capture_none at = refl

-- a whole capture shows its packets and no fault
whole_shown : (b : List ℕ) (packets : List Packet) → IsBytes b → IsCaptureOf packets b → (packets ≡ shown b) × ((capture_of b).fault ≡ None)
whole_shown b packets small capture =
    let p = places_of 0 packets b capture in
    let e : capture_of b ≡ with_items (p.items ++ []) None =
    ap capture_of (sym (append-nil b)) ∙ placed_shown 0 p.items b [] small p.placed ∙ ap (behind p.items) (capture_none (0 + length b)) in
    (sym p.same ∙ ap packets_of (sym (append-nil p.items)) ∙ ap (λ (c : Capture). packets_of c.items) (sym e), ap (λ (c : Capture). c.fault) e)

-- where what is shown ends is where its packets end
size_is : (fault : Option (ℕ × Reason)) (size : ℕ) (b : List ℕ) → StopsBy fault 0 size b → end_of (length b) fault ≡ size
size_is None size b stops = sym stops
size_is (Some fault) size b stops = omega (arith, stops.0)

pub shows_places : ShowsPlaces
shows_places b all =
    let s = shows_bytes 0 b all in
    subst (λ (n : ℕ). ArePlaced 0 (capture_of b).items (take n b)) (sym (size_is (capture_of b).fault s.size b s.stops)) s.placed

pub shows_captures : ShowsCaptures
shows_captures b all = (λ none. whole none, λ capture. (whole_shown b (shown b) all capture).1)
  where
    whole : (capture_of b).fault ≡ None → IsCaptureOf (shown b) b
    whole none =
        let places = shows_places b all in
        let end : end_of (length b) (capture_of b).fault ≡ length b = ap (end_of (length b)) none in
        placed_capture 0 (capture_of b).items b (subst (ArePlaced 0 (capture_of b).items) (ap (λ (n : ℕ). take n b) end ∙ take_all (length b) b (omega arith)) places)

pub shows_only : ShowsOnly
shows_only b packets all capture = (whole_shown b packets all capture).0

-- ---- the longest front

-- what is shown of the whole goes at least as far as each front that is a capture
compare : (fault : Option (ℕ × Reason)) (size n more : ℕ) (b : List ℕ) → n ≤ length b → StopsBy fault 0 size b → StopsBy fault n more (drop n b) → n ≤ size
compare None size n more b le all stops = omega (arith, all, le)
compare (Some fault) size n more b le all stops = omega (arith, all.0, stops.0)

pub at_most : (b : List ℕ) (s : Shows 0 b (capture_of b)) (others : List Packet) (n : ℕ) → IsBytes b → n ≤ length b → IsCaptureOf others (take n b) → n ≤ s.size
at_most b s others n small le capture =
    let p = places_of 0 others (take n b) capture in
    let len : 0 + length (take n b) ≡ n = omega (arith, length-take-le n b le) in
    let e : capture_of b ≡ behind p.items (capture_from 0 n (drop n b)) =
    ap capture_of (sym (take-append-drop n b)) ∙ placed_shown 0 p.items (take n b) (drop n b) (take_bytes n b small) p.placed
    ∙ ap (λ (k : ℕ). behind p.items (capture_from 0 k (drop n b))) len in
    let rest = shows_bytes n (drop n b) (drop_bytes n b small) in
    let same : (capture_from 0 n (drop n b)).fault ≡ (capture_of b).fault = sym (ap (λ (c : Capture). c.fault) e) in
    compare (capture_of b).fault s.size n rest.size b le s.stops (subst (λ (f : Option (ℕ × Reason)). StopsBy f n rest.size (drop n b)) same rest.stops)

longest_shown : (b : List ℕ) (s : Shows 0 b (capture_of b)) → IsBytes b → IsLongestFront b (shown b) s.size
longest_shown b s small = record {
  within = s.within;
  front = placed_capture 0 (capture_of b).items (take s.size b) s.placed;
  longest = λ others n le capture. at_most b s others n small le capture;
}

-- ---- the first fault

pub shows_longest : ShowsLongest
shows_longest b at reason all e =
    let s = shows_bytes 0 b all in
    let stops : StopsBy (Some (at, reason)) 0 s.size b = subst (λ (f : Option (ℕ × Reason)). StopsBy f 0 s.size b) e s.stops in
    let place : s.size ≡ at = omega (arith, stops.0) in
    subst (IsLongestFront b (shown b)) place (longest_shown b s all)

pub first_shown : (b : List ℕ) (at : ℕ) (reason : Reason) → IsBytes b → (capture_of b).fault ≡ Some (at, reason) → IsFirstFault b at reason
first_shown b at reason all e =
    let s = shows_bytes 0 b all in
    let stops : StopsBy (Some (at, reason)) 0 s.size b = subst (λ (f : Option (ℕ × Reason)). StopsBy f 0 s.size b) e s.stops in
    let place : s.size ≡ at = omega (arith, stops.0) in
    record { packets = shown b; longest = shows_longest b at reason all e; fails = finds_fails reason (drop at b) (drop_bytes at b all) (subst (λ (n : ℕ). Finds reason (drop n b)) place stops.1) }

-- of no bytes none is found
fails_some : (r : Reason) (b : List ℕ) → length b ≡ 0 → Finds r b → ⊥
fails_some r b none x = omega (arith, none, x.1)

fault_is : (fault : Option (ℕ × Reason)) (at : ℕ) (reason : Reason) (b : List ℕ) → at ≤ length b → StopsBy fault 0 at b → Finds reason (drop at b) → fault ≡ Some (at, reason)
fault_is None at reason b le stops fails = absurd (fails_some reason (drop at b) (omega (arith, length-drop at b, stops)) fails)
fault_is (Some (place, other)) at reason b le stops fails =
    let here : place ≡ at = omega (arith, stops.0) in
    ap (λ (k : ℕ). Some (k, other)) here ∙ ap (λ (r : Reason). Some (at, r)) (finds_once other reason (drop at b) stops.1 fails)

shown_first : (b : List ℕ) (at : ℕ) (reason : Reason) → IsBytes b → IsFirstFault b at reason → (capture_of b).fault ≡ Some (at, reason)
shown_first b at reason small first =
    let s = shows_bytes 0 b small in
    let up : s.size ≤ at = first.longest.longest (shown b) s.size s.within (placed_capture 0 (capture_of b).items (take s.size b) s.placed) in
    let down : at ≤ s.size = at_most b s first.packets at small first.longest.within first.longest.front in
    let place : s.size ≡ at = omega (arith, up, down) in
    fault_is (capture_of b).fault at reason b first.longest.within (subst (λ (n : ℕ). StopsBy (capture_of b).fault 0 n b) place s.stops) (fails_finds reason (drop at b) (drop_bytes at b small) first.fails)

pub shows_first_fault : ShowsFirstFault
shows_first_fault b at reason all = (first_shown b at reason all, shown_first b at reason all)

-- ---- whether there is one

pub whole_or_faulty : IsWholeOrFaulty
whole_or_faulty b all = cases (capture_of b).fault refl
  where
    cases : (f : Option (ℕ × Reason)) → (capture_of b).fault ≡ f → IsCaptureOf (shown b) b ⊎ ((at : ℕ) × (reason : Reason) × IsFirstFault b at reason)
    cases None e = inl ((shows_captures b all).0 e)
    cases (Some (at, reason)) e = inr (at, reason, first_shown b at reason all e)

same_place : (a b : ℕ) (r q : Reason) → ◌≡◌ {A = Option (ℕ × Reason)} (Some (a, r)) (Some (b, q)) → (a ≡ b) × (r ≡ q)
same_place a b r q e =
    let pair : ◌≡◌ {A = ℕ × Reason} (a, r) (b, q) = cc in
    (ap (λ (x : ℕ × Reason). x.0) pair, ap (λ (x : ℕ × Reason). x.1) pair)

pub has_none : HasNone
has_none b packets at reason all capture first = apart (sym (whole_shown b packets all capture).1 ∙ shown_first b at reason all first)
  where
    apart : ◌≡◌ {A = Option (ℕ × Reason)} None (Some (at, reason)) → ⊥
    apart e = cc

pub has_one : HasOne
has_one b at place reason other all x y = same_place at place reason other (sym (shown_first b at reason all x) ∙ shown_first b place other all y)
