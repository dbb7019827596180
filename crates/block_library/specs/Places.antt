-- Where repeat stands in a packet.
use Rattle.std.specs.Prelude.{◌≡◌, ◌+◌, ◌*◌, ◌<◌, ℕ}
use Rattle.block_library.specs.declared.make.Place.{Place}

-- this number of repeated samples was written, each sample n times
pub record IsAt (n : ℕ) (place : Place) (number : ℕ) : Type 0 where
  pub turn : place.turn < n
  pub at : place.index * n + place.turn ≡ number
