-- The order and the sums of what is under way, as entries join and leave.
use Rattle.std.proofs.Common.{◌≡◌, ℕ, zero, suc, ◌+◌, ◌<◌, ◌≤◌, ◌⊎◌, inl, inr, Some, List, [], ◌∷◌, ◌++◌, length, slice_get, refl, ap, ◌∙◌, arith}
use Rattle.std.proofs.lemmas.Bool.{cases_lt}
use Rattle.std.proofs.lemmas.Option.{slice_get_within}
use Rattle.chdr_words.specs.declared.command.CmdOp.{CmdOp}
use Rattle.stream_endpoint.specs.declared.count.Count.{Count}
use Rattle.stream_laws.specs.Machine.{Entry, Data, Command, Load, Told}
use Rattle.stream_laws.specs.Chains.{AllLost, AreSent, EndsWith, IsLost, Rises, Stand, flying, orders}

pub rises_le : (f : Told → ℕ) (lo : ℕ) (ss : List Told) (hi : ℕ) → Rises f lo ss hi → lo ≤ hi
rises_le f lo [] hi h = h
rises_le f lo (s ∷ ss) hi h = let rest = rises_le f (f s) ss hi h.1 in omega arith

pub rises_to : (f : Told → ℕ) (lo : ℕ) (ss : List Told) (hi more : ℕ) → Rises f lo ss hi → hi ≤ more → Rises f lo ss more
rises_to f lo [] hi more h le = omega arith
rises_to f lo (s ∷ ss) hi more h le = (h.0, rises_to f (f s) ss hi more h.1 le)

pub rises_from : (f : Told → ℕ) (less lo : ℕ) (ss : List Told) (hi : ℕ) → Rises f lo ss hi → less ≤ lo → Rises f less ss hi
rises_from f less lo [] hi h le = omega arith
rises_from f less lo (s ∷ ss) hi h le = (omega arith, h.1)

-- the receiver reports: the status tells what the receiver is
pub rises_add : (f : Told → ℕ) (lo : ℕ) (ss : List Told) (s : Told) → Rises f lo ss (f s) → Rises f lo (ss ++ s ∷ []) (f s)
rises_add f lo [] s h = (h, omega arith)
rises_add f lo (t ∷ ss) s h = (h.0, rises_add f (f t) ss s h.1)

pub rises_without : (f : Told → ℕ) (lo : ℕ) (before : List Told) (s : Told) (behind : List Told) (hi : ℕ)
    → Rises f lo (before ++ s ∷ behind) hi → Rises f lo (before ++ behind) hi
rises_without f lo [] s behind hi h = rises_from f lo (f s) behind hi h.1 h.0
rises_without f lo (t ∷ before) s behind hi h = (h.0, rises_without f (f t) before s behind hi h.1)

pub flying_packets-append : {A : Type 0} (es fs : List (Entry A)) → (flying (es ++ fs)).packets ≡ (flying es).packets + (flying fs).packets
flying_packets-append [] fs = omega arith
flying_packets-append (Data place load ∷ es) fs = let rest = flying_packets-append es fs in omega arith
flying_packets-append (Command op told ∷ es) fs = flying_packets-append es fs

pub flying_bytes-append : {A : Type 0} (es fs : List (Entry A)) → (flying (es ++ fs)).bytes ≡ (flying es).bytes + (flying fs).bytes
flying_bytes-append [] fs = omega arith
flying_bytes-append (Data place load ∷ es) fs = let rest = flying_bytes-append es fs in omega arith
flying_bytes-append (Command op told ∷ es) fs = flying_bytes-append es fs

-- no packet under way, no byte under way
pub flying_even : {A : Type 0} (es : List (Entry A)) → (flying es).packets ≡ 0 → (flying es).bytes ≡ 0
flying_even [] h = refl
flying_even (Data place load ∷ es) h = absurd (omega arith)
flying_even (Command op told ∷ es) h = flying_even es h

pub orders-append : {A : Type 0} (es fs : List (Entry A)) → orders (es ++ fs) ≡ orders es + orders fs
orders-append [] fs = omega arith
orders-append (Data place load ∷ es) fs = orders-append es fs
orders-append (Command op told ∷ es) fs = let rest = orders-append es fs in omega arith

pub ends_none : {A : Type 0} (op : CmdOp) (told : Count) (es : List (Entry A)) → orders es ≡ 0 → EndsWith op told es
ends_none op told [] h = tt
ends_none op told (Data place load ∷ es) h = ends_none op told es h
ends_none op told (Command found means ∷ es) h = absurd (omega arith)

pub ends_few : {A : Type 0} (op : CmdOp) (told : Count) (es : List (Entry A)) → EndsWith op told es → orders es ≤ 1
ends_few op told [] h = omega arith
ends_few op told (Data place load ∷ es) h = ends_few op told es h
ends_few op told (Command found means ∷ es) h = let e = ap orders h.2 in omega arith

-- a command is sent while none was under way
pub ends_order : {A : Type 0} (op : CmdOp) (told : Count) (es : List (Entry A)) → orders es ≡ 0 → EndsWith op told (es ++ Command op told ∷ [])
ends_order op told [] h = (refl, refl, refl)
ends_order op told (Data place load ∷ es) h = ends_order op told es h
ends_order op told (Command found means ∷ es) h = absurd (omega arith)

pub ends_without : {A : Type 0} (op : CmdOp) (told : Count) (before : List (Entry A)) (e : Entry A) (behind : List (Entry A))
    → EndsWith op told (before ++ e ∷ behind) → EndsWith op told (before ++ behind)
ends_without op told [] (Data place load) behind h = h
ends_without op told [] (Command found means) behind h = ends_none op told behind (ap orders h.2)
ends_without op told (Data place load ∷ before) e behind h = ends_without op told before e behind h
ends_without op told (Command found means ∷ []) e behind h = absurd cc
ends_without op told (Command found means ∷ f ∷ before) e behind h = absurd cc

pub stand_count : {A : Type 0} (lost : List ℕ) (lo : ℕ) (es : List (Entry A)) (hi : ℕ) → Stand lost lo es hi → lo + (flying es).packets ≤ hi
stand_count lost lo [] hi h = omega arith
stand_count lost lo (Data place load ∷ es) hi h = let rest = stand_count lost (place + 1) es hi h.3 in omega arith
stand_count lost lo (Command op told ∷ es) hi h = stand_count lost lo es hi h

pub stand_enter : {A : Type 0} (lost : List ℕ) (lo : ℕ) (es : List (Entry A)) (load : Load A) (hi : ℕ)
    → Stand lost lo es hi → (IsLost lost hi → ⊥) → Stand lost lo (es ++ Data hi load ∷ []) (hi + 1)
stand_enter lost lo [] load hi h fresh = (h.0, h.1, fresh, (omega arith, λ k a b. absurd (omega arith)))
stand_enter lost lo (Data place found ∷ es) load hi h fresh = (h.0, h.1, h.2, stand_enter lost (place + 1) es load hi h.3 fresh)
stand_enter lost lo (Command op told ∷ es) load hi h fresh = stand_enter lost lo es load hi h fresh

pub stand_order : {A : Type 0} (lost : List ℕ) (lo : ℕ) (es : List (Entry A)) (op : CmdOp) (told : Count) (hi : ℕ)
    → Stand lost lo es hi → Stand lost lo (es ++ Command op told ∷ []) hi
stand_order lost lo [] op told hi h = h
stand_order lost lo (Data place load ∷ es) op told hi h = (h.0, h.1, h.2, stand_order lost (place + 1) es op told hi h.3)
stand_order lost lo (Command found means ∷ es) op told hi h = stand_order lost lo es op told hi h

pub stand_without : {A : Type 0} (lost : List ℕ) (lo : ℕ) (before : List (Entry A)) (op : CmdOp) (told : Count) (behind : List (Entry A)) (hi : ℕ)
    → Stand lost lo (before ++ Command op told ∷ behind) hi → Stand lost lo (before ++ behind) hi
stand_without lost lo [] op told behind hi h = h
stand_without lost lo (Data place load ∷ before) op told behind hi h = (h.0, h.1, h.2, stand_without lost (place + 1) before op told behind hi h.3)
stand_without lost lo (Command found means ∷ before) op told behind hi h = stand_without lost lo before op told behind hi h

all_lost_more : (lost : List ℕ) (place lo hi : ℕ) → AllLost lost lo hi → AllLost (place ∷ lost) lo hi
all_lost_more lost place lo hi h = λ k a b. inr (h k a b)

-- what stands behind a place still stands once that place is lost
stand_behind : {A : Type 0} (lost : List ℕ) (place lo : ℕ) (es : List (Entry A)) (hi : ℕ) → place < lo → Stand lost lo es hi → Stand (place ∷ lost) lo es hi
stand_behind lost place lo [] hi le h = (h.0, all_lost_more lost place lo hi h.1)
stand_behind lost place lo (Data found load ∷ es) hi le h = (
  h.0,
  all_lost_more lost place lo found h.1,
  elim [ inl e ↦ omega arith | inr r ↦ h.2 r ],
  stand_behind lost place (found + 1) es hi (omega arith) h.3,
)
stand_behind lost place lo (Command op told ∷ es) hi le h = stand_behind lost place lo es hi le h

-- two runs of lost places are one
pub all_lost_join : (lost : List ℕ) (lo mid hi : ℕ) → AllLost lost lo mid → AllLost lost mid hi → AllLost lost lo hi
all_lost_join lost lo mid hi low high k a b = go (cases_lt k mid)
  where
    go : (k < mid) ⊎ (mid ≤ k) → IsLost lost k
    go (inl below) = low k a below
    go (inr above) = high k above b

-- a run of lost places goes on into what stands behind it
stand_from : {A : Type 0} (lost : List ℕ) (less lo : ℕ) (es : List (Entry A)) (hi : ℕ) → less ≤ lo → AllLost lost less lo → Stand lost lo es hi → Stand lost less es hi
stand_from lost less lo [] hi le all h = (omega arith, all_lost_join lost less lo hi all h.1)
stand_from lost less lo (Data found load ∷ es) hi le all h = (omega arith, all_lost_join lost less lo found all h.1, h.2, h.3)
stand_from lost less lo (Command op told ∷ es) hi le all h = stand_from lost less lo es hi le all h

-- a run of lost places, and the next one
all_lost_next : (lost : List ℕ) (lo hi : ℕ) → AllLost lost lo hi → AllLost (hi ∷ lost) lo (hi + 1)
all_lost_next lost lo hi all k a b = go (cases_lt k hi)
  where
    go : (k < hi) ⊎ (hi ≤ k) → IsLost (hi ∷ lost) k
    go (inl below) = inr (all k a below)
    go (inr above) = inl (omega arith)

-- what is under way stands at a place from lo on, below hi, and isn't lost
pub stand_place : {A : Type 0} (lost : List ℕ) (lo : ℕ) (before : List (Entry A)) (place : ℕ) (load : Load A) (behind : List (Entry A)) (hi : ℕ)
    → Stand lost lo (before ++ Data place load ∷ behind) hi → (lo ≤ place) × (place < hi)
stand_place lost lo [] place load behind hi h = let count = stand_count lost (place + 1) behind hi h.3 in (h.0, omega arith)
stand_place lost lo (Data found other ∷ before) place load behind hi h =
    let rest = stand_place lost (found + 1) before place load behind hi h.3 in (omega arith, rest.1)
stand_place lost lo (Command op told ∷ before) place load behind hi h = stand_place lost lo before place load behind hi h

pub stand_lose : {A : Type 0} (lost : List ℕ) (lo : ℕ) (before : List (Entry A)) (place : ℕ) (load : Load A) (behind : List (Entry A)) (hi : ℕ)
    → Stand lost lo (before ++ Data place load ∷ behind) hi → Stand (place ∷ lost) lo (before ++ behind) hi
stand_lose lost lo [] place load behind hi h =
    let more : lo ≤ place + 1 = omega arith in
    stand_from (place ∷ lost) lo (place + 1) behind hi more (all_lost_next lost lo place h.1) (stand_behind lost place (place + 1) behind hi (omega arith) h.3)
stand_lose lost lo (Data found other ∷ before) place load behind hi h =
    let later : found + 1 ≤ place = (stand_place lost (found + 1) before place load behind hi h.3).0 in (
      h.0,
      all_lost_more lost place lo found h.1,
      elim [ inl e ↦ omega arith | inr r ↦ h.2 r ],
      stand_lose lost (found + 1) before place load behind hi h.3,
    )
stand_lose lost lo (Command op told ∷ before) place load behind hi h = stand_lose lost lo before place load behind hi h

pub slice_get-append : {X : Type 0} (xs ys : List X) (k : ℕ) → k < length xs → slice_get (xs ++ ys) k ≡ slice_get xs k
slice_get-append [] ys k h = absurd (omega arith)
slice_get-append (x ∷ xs) ys zero h = refl
slice_get-append (x ∷ xs) ys (suc k) h = slice_get-append xs ys k (omega arith)

pub slice_get-seam : {X : Type 0} (xs : List X) (y : X) (ys : List X) → slice_get (xs ++ y ∷ ys) (length xs) ≡ Some y
slice_get-seam [] y ys = refl
slice_get-seam (x ∷ xs) y ys = slice_get-seam xs y ys

slice_get_more : {X : Type 0} (xs ys : List X) (k : ℕ) (x : X) → slice_get xs k ≡ Some x → slice_get (xs ++ ys) k ≡ Some x
slice_get_more xs ys k x e = slice_get-append xs ys k (slice_get_within xs k x e) ∙ e

pub are_sent_enter : {A : Type 0} (sent : List (Load A)) (es : List (Entry A)) (load : Load A)
    → AreSent sent es → AreSent (sent ++ load ∷ []) (es ++ Data (length sent) load ∷ [])
are_sent_enter sent [] load h = (slice_get-seam sent load [], tt)
are_sent_enter sent (Data place found ∷ es) load h = (slice_get_more sent (load ∷ []) place found h.0, are_sent_enter sent es load h.1)
are_sent_enter sent (Command op told ∷ es) load h = are_sent_enter sent es load h

pub are_sent_order : {A : Type 0} (sent : List (Load A)) (es : List (Entry A)) (op : CmdOp) (told : Count)
    → AreSent sent es → AreSent sent (es ++ Command op told ∷ [])
are_sent_order sent [] op told h = h
are_sent_order sent (Data place found ∷ es) op told h = (h.0, are_sent_order sent es op told h.1)
are_sent_order sent (Command other means ∷ es) op told h = are_sent_order sent es op told h

pub are_sent_without : {A : Type 0} (sent : List (Load A)) (before : List (Entry A)) (e : Entry A) (behind : List (Entry A))
    → AreSent sent (before ++ e ∷ behind) → AreSent sent (before ++ behind)
are_sent_without sent [] (Data place load) behind h = h.1
are_sent_without sent [] (Command op told) behind h = h
are_sent_without sent (Data place load ∷ before) e behind h = (h.0, are_sent_without sent before e behind h.1)
are_sent_without sent (Command op told ∷ before) e behind h = are_sent_without sent before e behind h
