-- What is made of bytes that come in pieces, told by the bytes that are still to come.
use Rattle.std.specs.Prelude.{◌≡◌, ℕ, List, [], ◌++◌, Option}
use Rattle.rf_outside.specs.Bytes.{Adds}

-- a piece was read: whatever follows it, what was put is the first part of the text, and what is seen in the end stays
pub record ReadsOn {X : Type 0} (text later : List ℕ → List ℕ) (seen then : List ℕ → X) (piece old new : List ℕ) : Type 0 where
  pub put : List ℕ
  pub added : new ≡ old ++ put
  pub puts : (more : List ℕ) → text (piece ++ more) ≡ put ++ later more
  pub sees : (more : List ℕ) → seen (piece ++ more) ≡ then more

-- what follows changes nothing
pub record IsSettled {X : Type 0} (text : List ℕ → List ℕ) (seen : List ℕ → X) : Type 0 where
  pub puts : (more : List ℕ) → text more ≡ text []
  pub sees : (more : List ℕ) → seen more ≡ seen []

-- the text was put for these last bytes, and this is what is seen
pub record Ends {X : Type 0} (text : List ℕ → List ℕ) (seen : List ℕ → X) (last old new : List ℕ) (found : X) : Type 0 where
  pub put : new ≡ old ++ text last
  pub sees : found ≡ seen last

-- the whole text was written, and what is found is what is seen
pub record Tells {X : Type 0} (begun now : Option (List ℕ)) (text : List ℕ) (seen found : X) : Type 0 where
  pub written : Adds begun now text
  pub sees : found ≡ seen
