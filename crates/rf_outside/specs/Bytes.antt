-- What a sink was given, where it tells.
use Rattle.std.specs.Prelude.{◌≡◌, ℕ, ◌<◌, ◌≤◌, List, ◌++◌, length, take, Option, None, Some, Result, MatchResult}

-- the bytes written grow by bs, where the sink tells after the call; one that tells nothing never tells again
abbrev pub Adds : Option (List ℕ) → Option (List ℕ) → List ℕ → Type 0
Adds None None bs = Unit {0}
Adds None (Some _) bs = ⊥
Adds (Some xs) None bs = Unit {0}
Adds (Some xs) (Some ys) bs = ys ≡ xs ++ bs

-- the bytes written stay, and what was told stays told
abbrev pub Stays : Option (List ℕ) → Option (List ℕ) → Type 0
Stays None None = Unit {0}
Stays None (Some _) = ⊥
Stays (Some xs) None = ⊥
Stays (Some xs) (Some ys) = ys ≡ xs

-- of bs a first part was added, and `rest` wasn't
pub record AddsUpTo (old new : Option (List ℕ)) (bs rest : List ℕ) : Type 0 where
  pub front : List ℕ
  pub splits : bs ≡ front ++ rest
  pub added : Adds old new front

-- a prefix of bs was added
abbrev pub AddsPrefix : Option (List ℕ) → Option (List ℕ) → List ℕ → Type 0
AddsPrefix old new bs = (rest : List ℕ) × AddsUpTo old new bs rest

-- `write(piece)` added the bytes that it took at `Ok`, at least one unless the piece is empty, and none at `Err`
pub record Writes {E : Type 0} (old new : Option (List ℕ)) (result : Result ℕ E) (piece : List ℕ) : Type 0 where
  pub bytes : MatchResult result (λ n. Adds old new (take n piece)) (λ _. Stays old new)
  pub bound : MatchResult result (λ n. n ≤ length piece) (λ _. Unit {0})
  pub moves : MatchResult result (λ n. 0 < length piece → 0 < n) (λ _. Unit {0})
