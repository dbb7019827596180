-- The first places of a table's EPIDs, in the order of the EPIDs, so that a place is found by halving.
use Rattle.std.specs.Prelude.{◌≡◌, ◌==◌, ◌<◌, ◌≤◌, ℕ, false, List, [], ◌∷◌, ◌++◌, length, slice_index_or, All, Some}
use Rattle.std.specs.List.{AllWithin}
use Rattle.std.specs.List.Sorted.{IsNonDecreasingBy}
use Rattle.chdr_words.specs.declared.epid.Epid.{Epid}
use Rattle.net_nodes.specs.Table.{no_exit, IsPlaceOf, MissesBelow}
use Rattle.net_nodes.specs.declared.first_place.FirstPlace.{FirstPlace}
use Rattle.net_nodes.specs.declared.table.Place.{Place}

-- the EPIDs rise
abbrev pub Rises : List FirstPlace → Type 0
Rises order = IsNonDecreasingBy (λ first. first.epid.0) order

-- the EPID is listed here
pub record IsListedAt (order : List FirstPlace) (epid : Epid) (i : ℕ) : Type 0 where
  pub in_range : i < length order
  pub same : (d : FirstPlace) → (slice_index_or order i d).epid.0 ≡ epid.0

-- the EPID would go in here: behind all that are lower, before all that are higher
pub record IsGapFor (order : List FirstPlace) (epid : Epid) (i : ℕ) : Type 0 where
  pub in_range : i ≤ length order
  pub lower : AllWithin (λ first. first.epid.0 < epid.0) order 0 i
  pub higher : AllWithin (λ first. epid.0 < first.epid.0) order i (length order)

-- no EPID listed is this one
abbrev pub IsUnlisted : List FirstPlace → Epid → Type 0
IsUnlisted order epid = All (λ first. (first.epid.0 == epid.0) ≡ false) order

-- each EPID that has a place is listed with its first one
pub record IsOrderOf (order : List FirstPlace) (places : List Place) : Type 0 where
  pub rises : Rises order
  pub firsts : All (λ first. IsPlaceOf places first.epid (Some first.at)) order
  pub whole : (epid : Epid) → IsUnlisted order epid → MissesBelow places epid (length places)

-- the order is that of a table with one place more, which has this number and EPID
abbrev pub Lists : ℕ → Epid → List FirstPlace → List FirstPlace → Type 0
Lists at epid old new =
    (places : List Place) → length places ≡ at → IsOrderOf old places → IsOrderOf new (places ++ no_exit epid ∷ [])
