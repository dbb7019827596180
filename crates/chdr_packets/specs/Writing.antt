-- Writing a packet part by part.
use Rattle.std.specs.Prelude.{◌≡◌, ℕ, ◌++◌, List, IsTrue}
use Rattle.chdr_packets.specs.declared.packet.Body.{Body}
use Rattle.chdr_packets.specs.Grammar.{SpellsBody, body_type, payload_plain}

-- behind the old bytes stands the canonical payload of the body
pub record Appends (body : Body) (old new : List ℕ) : Type 0 where
  pub payload : List ℕ
  pub spelled : SpellsBody body payload
  pub plain : IsTrue (payload_plain (body_type body) payload)
  pub appended : new ≡ old ++ payload
