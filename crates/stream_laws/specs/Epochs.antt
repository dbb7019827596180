-- Epochs: the cuts divide what was sent and what was given, and the pieces with one number are an
-- epoch.
use Rattle.std.specs.Prelude.{◌≡◌, ℕ, ◌+◌, ◌<◌, ◌≤◌, List, [], ◌∷◌, length, slice_get}
use Rattle.stream_laws.specs.Machine.{Cut, Load}
use Rattle.stream_laws.specs.Chains.{IsLost}

-- where the first epoch begins
abbrev pub origin : Cut
origin = record { sent = 0; given = 0 }

-- where the present epoch began
abbrev pub begun : List Cut → Cut
begun [] = origin
begun (cut ∷ cuts) = cut

-- how far the present epoch has come
abbrev pub reach : {A : Type 0} → List (Load A) → List (Load A) → Cut
reach sent given = record { sent = length sent; given = length given }

-- each epoch has the property, as it lies between two cuts; the last one ends here
abbrev pub EachEpoch : (Cut → Cut → Type 0) → List Cut → Cut → Type 0
EachEpoch Holds [] here = Holds origin here
EachEpoch Holds (cut ∷ cuts) here = Holds cut here × EachEpoch Holds cuts cut

-- What was given between two cuts begins what was sent between them, and stops before the first loss
-- there.
pub record IsEpoch {A : Type 0} (sent given : List (Load A)) (lost : List ℕ)
    (from here : Cut) : Type 0 where
  pub more_sent : from.sent ≤ here.sent
  pub more_given : from.given ≤ here.given
  pub fits : from.sent + here.given ≤ here.sent + from.given
  pub same : (k : ℕ) → from.given + k < here.given
      → slice_get given (from.given + k) ≡ slice_get sent (from.sent + k)
  pub before_loss : (k : ℕ) → IsLost lost k → from.sent ≤ k → k < here.sent
      → from.sent + here.given ≤ k + from.given
