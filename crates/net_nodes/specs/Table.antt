-- The table of a node: a finite map from the EPIDs that have a place to ports.
use Rattle.std.specs.Prelude.{◌≡◌, ◌==◌, ◌||◌, ◌<◌, ℕ, Bool, false, IsTrue, List, [], ◌∷◌, length, Option, None, Some, slice_index_or, All, IfSome, if◌then◌else◌}
use Rattle.chdr_words.specs.declared.epid.Epid.{Epid}
use Rattle.net_nodes.specs.declared.table.Place.{Place}

-- a place without an entry
abbrev pub no_exit : Epid → Place
no_exit epid = record { epid = epid; exit = None }

-- the entry of an EPID: a port, if it has a place and one is known
abbrev pub exit_of : List Place → Epid → Option ℕ
exit_of [] epid = None
exit_of (place ∷ places) epid =
    if place.epid.0 == epid.0 then place.exit else exit_of places epid

-- the EPID has a place
abbrev pub has_place : List Place → Epid → Bool
has_place [] epid = false
has_place (place ∷ places) epid = (place.epid.0 == epid.0) || has_place places epid

-- the table with the port as the entry of the EPID's place
abbrev pub with_exit : List Place → Epid → ℕ → List Place
with_exit [] epid port = []
with_exit (place ∷ places) epid port =
    if place.epid.0 == epid.0 then record { epid = place.epid; exit = Some port } ∷ places
    else place ∷ with_exit places epid port

-- each entry is below a bound
abbrev pub HasEntries : ℕ → List Place → Type 0
HasEntries bound places = All (λ place. IfSome place.exit (λ port. port < bound)) places

-- the place of this number
abbrev pub place_at : List Place → ℕ → Place
place_at places at = slice_index_or places at (record { epid = record { 0 = 0 }; exit = None })

-- none of the first places is the EPID's
abbrev pub MissesBelow : List Place → Epid → ℕ → Type 0
MissesBelow places epid n = (at : ℕ) → at < n → ((place_at places at).epid.0 == epid.0) ≡ false

-- this is the number of the EPID's first place, or it has none
abbrev pub IsPlaceOf : List Place → Epid → Option ℕ → Type 0
IsPlaceOf places epid None = MissesBelow places epid (length places)
IsPlaceOf places epid (Some at) =
    (at < length places) × MissesBelow places epid at × IsTrue ((place_at places at).epid.0 == epid.0)
