-- Words on what is under way: counts of it, its order, and what its statuses tell.
use Rattle.std.specs.Prelude.{◌≡◌, ℕ, suc, ◌+◌, ◌<◌, ◌≤◌, ◌⊎◌, Option, Some, None, List, [], ◌∷◌, slice_get}
use Rattle.chdr_words.specs.declared.command.CmdOp.{CmdOp}
use Rattle.stream_endpoint.specs.declared.count.Count.{Count}
use Rattle.stream_endpoint.specs.declared.state.Gap.{Gap}
use Rattle.stream_endpoint.specs.Counts.{none, plus, one_of}
use Rattle.stream_laws.specs.Machine.{Entry, Data, Command, Load, Told}

-- the packets under way, counted
abbrev pub flying : {A : Type 0} → List (Entry A) → Count
flying [] = none
flying (Data place load ∷ es) = plus (one_of load.wire) (flying es)
flying (Command op told ∷ es) = flying es

-- how many commands are under way
abbrev pub orders : {A : Type 0} → List (Entry A) → ℕ
orders [] = 0
orders (Data place load ∷ es) = orders es
orders (Command op told ∷ es) = suc (orders es)

-- at most one command is under way; it is this one, and nothing stands behind it
abbrev pub EndsWith : {A : Type 0} → CmdOp → Count → List (Entry A) → Type 0
EndsWith op told [] = Unit {0}
EndsWith op told (Data place load ∷ es) = EndsWith op told es
EndsWith op told (Command found means ∷ es) = (found ≡ op) × (means ≡ told) × (es ≡ [])

-- from lo over each status to hi the number never falls
abbrev pub Rises : (Told → ℕ) → ℕ → List Told → ℕ → Type 0
Rises f lo [] hi = lo ≤ hi
Rises f lo (s ∷ ss) hi = (lo ≤ f s) × Rises f (f s) ss hi

abbrev pub packets_told : Told → ℕ
packets_told s = s.told.packets

abbrev pub bytes_told : Told → ℕ
bytes_told s = s.told.bytes

-- 1 of a broken receiver, 0 of a good one; and the other way round
abbrev pub badness : Option Gap → ℕ
badness None = 0
badness (Some gap) = 1

abbrev pub goodness : Option Gap → ℕ
goodness None = 1
goodness (Some gap) = 0

abbrev pub bad_told : Told → ℕ
bad_told s = badness s.gap

abbrev pub good_told : Told → ℕ
good_told s = goodness s.gap

-- the packet at this place was lost
abbrev pub IsLost : List ℕ → ℕ → Type 0
IsLost [] k = ⊥
IsLost (place ∷ lost) k = (k ≡ place) ⊎ IsLost lost k

-- each place from lo up to hi was lost
abbrev pub AllLost : List ℕ → ℕ → ℕ → Type 0
AllLost lost lo hi = (k : ℕ) → lo ≤ k → k < hi → IsLost lost k

-- the packets under way stand in the order of their places, from lo up to hi; of these places the
-- others were lost
abbrev pub Stand : {A : Type 0} → List ℕ → ℕ → List (Entry A) → ℕ → Type 0
Stand lost lo [] hi = (lo ≤ hi) × AllLost lost lo hi
Stand lost lo (Data place load ∷ es) hi =
    (lo ≤ place) × AllLost lost lo place × (IsLost lost place → ⊥) × Stand lost (place + 1) es hi
Stand lost lo (Command op told ∷ es) hi = Stand lost lo es hi

-- each packet under way is the one that was sent at its place
abbrev pub AreSent : {A : Type 0} → List (Load A) → List (Entry A) → Type 0
AreSent sent [] = Unit {0}
AreSent sent (Data place load ∷ es) = (slice_get sent place ≡ Some load) × AreSent sent es
AreSent sent (Command op told ∷ es) = AreSent sent es
