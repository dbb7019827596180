-- Why there is no packet at the front of bytes, by the first test that fails: type, Length, size, payload.
use Rattle.std.specs.Prelude.{◌≡◌, ◌≢◌, ◌↔◌, ◌⊎◌, ℕ, ◌<◌, ◌≤◌, List, length, slice_range, Option, Result, Err}
use Rattle.chdr_words.specs.Field.{field, word_at}
use Rattle.chdr_words.specs.Header.{header_of}
use Rattle.chdr_words.specs.Wire.{wire_size_of}
use Rattle.chdr_words.specs.declared.fault.MsgFault.{MsgFault}
use Rattle.chdr_words.specs.declared.fault.MsgFault.TheVariants.{BadStatusLength, BadCommandLength, BadControlLength, BadManagement}
use Rattle.chdr_words.specs.declared.header.Header.{Header}
use Rattle.chdr_words.specs.declared.header.PktType.{PktType}
use Rattle.chdr_words.specs.declared.header.PktType.TheVariants as types
use Rattle.chdr_packets.specs.declared.fault.PacketFault.{PacketFault}
use Rattle.chdr_packets.specs.declared.fault.PacketFault.TheVariants.{ReservedType, BadLength, Message, Memory}
use Rattle.chdr_packets.specs.declared.packet.Packet.{Packet}
use Rattle.chdr_packets.specs.declared.packet.Body.{Body}
use Rattle.chdr_packets.specs.Grammar.{SpellsBody, body_type, start_of}

-- the header that the first word spells
abbrev pub front : List ℕ → Header
front bytes = header_of (word_at bytes 0)

-- the number of its type
abbrev pub type_code : List ℕ → ℕ
type_code bytes = field (word_at bytes 0) 55 53

-- a whole first word with type 3 or 5
pub record IsReserved (bytes : List ℕ) : Type 0 where
  pub there : 8 ≤ length bytes
  pub code : (type_code bytes ≡ 3) ⊎ (type_code bytes ≡ 5)

-- a whole first word with another type
pub record HasGoodType (bytes : List ℕ) : Type 0 where
  pub there : 8 ≤ length bytes
  pub not_three : type_code bytes ≢ 3
  pub not_five : type_code bytes ≢ 5

-- Length is less than header, timestamp and metadata take
pub record HasBadLength (bytes : List ℕ) : Type 0 where
  pub typed : HasGoodType bytes
  pub less : (front bytes).length < start_of (front bytes)

-- the tests of type and Length pass
pub record HasGoodLength (bytes : List ℕ) : Type 0 where
  pub typed : HasGoodType bytes
  pub enough : start_of (front bytes) ≤ (front bytes).length

-- bytes are missing: of the first word, or of a packet whose type and Length are good
abbrev pub IsShort : List ℕ → Type 0
IsShort bytes = (length bytes < 8) ⊎ (HasGoodLength bytes × (length bytes < wire_size_of (front bytes).length))

-- the fault of a payload of this type
abbrev pub IsFaultUnder : PktType → MsgFault → Type 0
IsFaultUnder types.Management fault = fault ≡ BadManagement
IsFaultUnder types.Status fault = fault ≡ BadStatusLength
IsFaultUnder types.Command fault = fault ≡ BadCommandLength
IsFaultUnder types.Control fault = fault ≡ BadControlLength
IsFaultUnder types.Plain fault = ⊥
IsFaultUnder types.Timed fault = ⊥
IsFaultUnder (types.Reserved n) fault = ⊥

-- the bytes are a payload of no body of this type
abbrev pub SpellsNone : PktType → List ℕ → Type 0
SpellsNone pkt_type payload = (body : Body) → body_type body ≡ pkt_type → SpellsBody body payload → ⊥

-- the whole packet is there, and its payload is no spelling of its kind
pub record HasBadPayload (fault : MsgFault) (bytes : List ℕ) : Type 0 where
  pub sized : HasGoodLength bytes
  pub whole : wire_size_of (front bytes).length ≤ length bytes
  pub kind : IsFaultUnder (front bytes).pkt_type fault
  pub unspelled : SpellsNone (front bytes).pkt_type (slice_range bytes (start_of (front bytes)) (front bytes).length)

-- memory sufficed
abbrev pub HasMemory : {X : Type 0} → Result X PacketFault → Type 0
HasMemory result = result ≢ Err Memory

-- each refusal comes exactly where its test is the first that fails
pub record Refuses (result : Result (Option (Packet × ℕ)) PacketFault) (bytes : List ℕ) : Type 0 where
  pub reserved : (result ≡ Err ReservedType) ↔ IsReserved bytes
  pub bad_length : (result ≡ Err BadLength) ↔ HasBadLength bytes
  pub message : (fault : MsgFault) → (result ≡ Err (Message fault)) ↔ HasBadPayload fault bytes
