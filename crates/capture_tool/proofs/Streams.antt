-- What feeding a decoder leaves.
use Rattle.std.proofs.Common.{◌≡◌, ℕ, ◌+◌, ◌≤◌, List, ◌++◌, length, Option, None, Some, refl, ap, ◌∙◌, arith}
use Rattle.std.proofs.lemmas.List.{length-append}
use Rattle.chdr_packets.specs.declared.fault.PacketFault.{PacketFault}
use Rattle.chdr_stream.specs.Stream.{Stream, fed_with}

-- feeding keeps the place, and adds no more than the piece
pub record FedBy (old new : Stream) (piece : List ℕ) : Type 0 where
  pub place : new.at ≡ old.at
  pub long : length new.kept ≤ length old.kept + length piece

abbrev state : ℕ → List ℕ → Option PacketFault → ℕ → Stream
state at kept fault held = record { at = at; kept = kept; fault = fault; held = held }

fed_parts : (at : ℕ) (kept : List ℕ) (fault : Option PacketFault) (held : ℕ) (piece : List ℕ) → FedBy (state at kept fault held) (fed_with (state at kept fault held) piece) piece
fed_parts at kept None held piece = record { place = refl; long = omega (arith, length-append kept piece) }
fed_parts at kept (Some fault) held piece = record { place = refl; long = omega arith }

fed_is : (s : Stream) (piece : List ℕ) → FedBy s (fed_with s piece) piece
fed_is s piece = fed_parts s.at s.kept s.fault s.held piece

pub fed_by : (old new : Stream) (piece : List ℕ) → new ≡ fed_with old piece → FedBy old new piece
fed_by old new piece e = let f = fed_is old piece in record { place = ap (λ (s : Stream). s.at) e ∙ f.place; long = omega (arith, ap (λ (s : Stream). length s.kept) e, f.long) }
