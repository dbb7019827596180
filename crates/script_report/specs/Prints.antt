-- What was printed: texts go to a sink over a page.
use Rattle.std.specs.Prelude.{◌≡◌, ℕ, List, ◌++◌, Option}
use Rattle.rf_outside.specs.Bytes.{Adds}

-- the page and then the text were added, but for what is left on the page
pub record Printed (begun now : Option (List ℕ)) (page left text : List ℕ) : Type 0 where
  pub front : List ℕ
  pub splits : page ++ text ≡ front ++ left
  pub added : Adds begun now front

-- a first part of the page and the text was added
pub record PrintedPart (begun now : Option (List ℕ)) (page text : List ℕ) : Type 0 where
  pub front : List ℕ
  pub rest : List ℕ
  pub splits : page ++ text ≡ front ++ rest
  pub added : Adds begun now front
