-- What is picked from queues that stand one behind another, the next to arrive first.
use Rattle.std.specs.Prelude.{◌≡◌, ℕ, ◌<◌, List, [], ◌∷◌, ◌++◌, length, slice_index_or, slice_set}
use Rattle.std.specs.List.{flat_map}
use Rattle.net_topology.specs.Links.{Avoids, NoneTwice}

-- queue q of these
abbrev pub list_at : {A : Type 0} → List (List A) → ℕ → List A
list_at queues q = slice_index_or queues q []

-- what is picked along these queues: what stands in the last one comes first
abbrev pub gather : {A X : Type 0} → (A → List X) → List (List A) → List ℕ → List X
gather pick queues [] = []
gather pick queues (q ∷ qs) = gather pick queues qs ++ flat_map pick (list_at queues q)

-- A queue changes of which the same is picked.
abbrev pub IsBlind : Type 0 → Type 0 → Type 0
IsBlind A X = (pick : A → List X) (queues : List (List A)) (qs : List ℕ) (q : ℕ) (new : List A)
    → flat_map pick new ≡ flat_map pick (list_at queues q)
    → gather pick (slice_set queues q new) qs ≡ gather pick queues qs

-- An entry joins the first queue.
abbrev pub Joins : Type 0 → Type 0 → Type 0
Joins A X = (pick : A → List X) (queues : List (List A)) (q : ℕ) (qs : List ℕ) (e : A)
    → q < length queues → Avoids q qs
    → gather pick (slice_set queues q (list_at queues q ++ e ∷ [])) (q ∷ qs) ≡ gather pick queues (q ∷ qs) ++ pick e

-- The front entry of a queue joins the next one.
abbrev pub Moves : Type 0 → Type 0 → Type 0
Moves A X = (pick : A → List X) (queues : List (List A)) (before : List ℕ) (q r : ℕ) (behind : List ℕ) (e f : A) (rest : List A)
    → q < length queues → r < length queues → NoneTwice (before ++ q ∷ r ∷ behind)
    → list_at queues q ≡ e ∷ rest → pick f ≡ pick e
    → gather pick (slice_set (slice_set queues q rest) r (list_at (slice_set queues q rest) r ++ f ∷ [])) (before ++ q ∷ r ∷ behind)
    ≡ gather pick queues (before ++ q ∷ r ∷ behind)

-- The front entry of the last queue leaves.
abbrev pub Comes : Type 0 → Type 0 → Type 0
Comes A X = (pick : A → List X) (queues : List (List A)) (before : List ℕ) (q : ℕ) (e : A) (rest : List A)
    → q < length queues → NoneTwice (before ++ q ∷ []) → list_at queues q ≡ e ∷ rest
    → gather pick queues (before ++ q ∷ []) ≡ pick e ++ gather pick (slice_set queues q rest) (before ++ q ∷ [])

-- the first list has some between these before and behind it, which the second doesn't have
pub record HasBetween {X : Type 0} (more less some : List X) : Type 0 where
  pub before : List X
  pub behind : List X
  pub with_it : more ≡ before ++ (some ++ behind)
  pub without : less ≡ before ++ behind

-- The front entry of any queue leaves.
abbrev pub Loses : Type 0 → Type 0 → Type 0
Loses A X = (pick : A → List X) (queues : List (List A)) (before : List ℕ) (q : ℕ) (behind : List ℕ) (e : A) (rest : List A)
    → q < length queues → NoneTwice (before ++ q ∷ behind) → list_at queues q ≡ e ∷ rest
    → HasBetween (gather pick queues (before ++ q ∷ behind)) (gather pick (slice_set queues q rest) (before ++ q ∷ behind)) (pick e)
