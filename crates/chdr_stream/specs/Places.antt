-- A capture whose packets tell their places and whether they are canonical.
use Rattle.std.specs.Prelude.{◌≡◌, ℕ, ◌+◌, ◌↔◌, IsTrue, List, [], ◌∷◌, ◌++◌, length, map}
use Rattle.chdr_packets.specs.Grammar.{Spells, IsCanon}
use Rattle.chdr_packets.specs.declared.packet.Packet.{Packet}
use Rattle.chdr_stream.specs.declared.placed.Placed.{Placed}
use Rattle.chdr_stream.specs.Stream.{Stream}

-- the packets alone
abbrev pub packets_of : List Placed → List Packet
packets_of items = map (λ item. item.packet) items

-- the bytes at a place spell the packet, and are marked canonical exactly where they are its canonical spelling
pub record IsPlaced (at : ℕ) (item : Placed) (bytes : List ℕ) : Type 0 where
  pub place : item.at ≡ at
  pub spells : Spells item.packet bytes
  pub canonical : IsTrue item.canonical ↔ IsCanon item.packet bytes

-- the bytes from a place on are spellings of the packets in order, each at its place
abbrev pub ArePlaced : ℕ → List Placed → List ℕ → Type 0
ArePlaced at [] bytes = bytes ≡ []
ArePlaced at (item ∷ items) bytes = (front : List ℕ) × (rest : List ℕ) × (bytes ≡ front ++ rest) × IsPlaced at item front × ArePlaced (at + length front) items rest

-- the bytes that a decoder went past spell the packet, at the place where it stood
pub record Passes (old new : Stream) (item : Placed) : Type 0 where
  pub front : List ℕ
  pub whole : old.kept ≡ front ++ new.kept
  pub place : new.at ≡ old.at + length front
  pub placed : IsPlaced old.at item front
