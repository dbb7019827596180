-- Reading the packet at the front of bytes: the tests of type, Length and size, then its payload.
use Rattle.std.specs.Prelude.{◌≡◌, ℕ, ◌+◌, ◌≤◌, ◌&&◌, Bool, true, false, nat_lt, if◌then◌else◌, List, length, slice_range, Option, None, Some, Result, Ok, Err, IsTrue}
use Rattle.chdr_words.specs.Field.{word_at, words_at}
use Rattle.chdr_words.specs.Header.{header_of}
use Rattle.chdr_words.specs.Wire.{wire_size_of}
use Rattle.chdr_words.specs.Status.{status_read}
use Rattle.chdr_words.specs.Command.{command_read}
use Rattle.chdr_words.specs.Control.{control_read, control_sized}
use Rattle.chdr_words.specs.Management.{management_read}
use Rattle.chdr_words.specs.declared.fault.MsgFault.{MsgFault}
use Rattle.chdr_words.specs.declared.header.Header.{Header}
use Rattle.chdr_words.specs.declared.header.PktType.{PktType}
use Rattle.chdr_words.specs.declared.header.PktType.TheVariants as types
use Rattle.chdr_packets.specs.declared.fault.PacketFault.{PacketFault}
use Rattle.chdr_packets.specs.declared.fault.PacketFault.TheVariants.{ReservedType, BadLength, Message, Memory}
use Rattle.chdr_packets.specs.declared.packet.Packet.{Packet}
use Rattle.chdr_packets.specs.declared.packet.Front.{Front}
use Rattle.chdr_packets.specs.declared.packet.Body.{Body}
use Rattle.chdr_packets.specs.declared.packet.Body.TheVariants.{Samples, Status, Command, Control, Management}
use Rattle.chdr_packets.specs.Grammar.{start_of, type_time, is_plain}

-- what a call answers is what reading gives, unless memory ran out
abbrev pub Gives : {X : Type 0} → Result X PacketFault → Result X PacketFault → Type 0
Gives (Ok x) read = read ≡ Ok x
Gives (Err ReservedType) read = read ≡ Err ReservedType
Gives (Err BadLength) read = read ≡ Err BadLength
Gives (Err (Message f)) read = read ≡ Err (Message f)
Gives (Err Memory) read = Unit {0}

-- types 3 and 5
abbrev pub is_reserved : PktType → Bool
is_reserved types.Management = false
is_reserved types.Status = false
is_reserved types.Command = false
is_reserved types.Control = false
is_reserved types.Plain = false
is_reserved types.Timed = false
is_reserved (types.Reserved n) = true

-- the header's tests in their order: type, Length, and whether the whole packet is there
abbrev pub tests_of : Header → ℕ → Result (Option Header) PacketFault
tests_of h there =
    if is_reserved h.pkt_type then Err ReservedType else if nat_lt h.length (start_of h) then Err BadLength
    else if nat_lt there (wire_size_of h.length) then Ok None else Ok (Some h)

-- the header of the packet at the front, where it is whole
abbrev pub frame_read : List ℕ → Result (Option Header) PacketFault
frame_read bytes = if nat_lt (length bytes) 8 then Ok None else tests_of (header_of (word_at bytes 0)) (length bytes)

-- a payload that was read, as a body
abbrev pub as_body : {X : Type 0} → (X → Body) → Result X MsgFault → Result Body PacketFault
as_body body (Ok x) = Ok (body x)
as_body body (Err fault) = Err (Message fault)

-- the time in the word behind the header
abbrev pub time_at : PktType → List ℕ → Option ℕ
time_at types.Management bytes = None
time_at types.Status bytes = None
time_at types.Command bytes = None
time_at types.Control bytes = None
time_at types.Plain bytes = None
time_at types.Timed bytes = Some (word_at bytes 8)
time_at (types.Reserved n) bytes = None

-- the payload by the packet's type
abbrev pub body_read : PktType → Option ℕ → List ℕ → Result Body PacketFault
body_read types.Management time payload = as_body Management (management_read payload)
body_read types.Status time payload = as_body Status (status_read payload)
body_read types.Command time payload = as_body Command (command_read payload)
body_read types.Control time payload = as_body Control (control_read payload)
body_read types.Plain time payload = Ok (Samples time payload)
body_read types.Timed time payload = Ok (Samples time payload)
body_read (types.Reserved n) time payload = Err ReservedType

-- the packet with this header and body
abbrev pub packet_of : Header → List ℕ → Body → Packet
packet_of h bytes body = record {
  vc = h.vc;
  eob = h.eob;
  eov = h.eov;
  seq = h.seq;
  dst = h.dst;
  mdata = words_at bytes (8 + type_time h.pkt_type) h.num_mdata;
  body = body;
}

-- the packet and its size, where its body was read
abbrev pub packed : Header → List ℕ → Result Body PacketFault → Result (Option (Packet × ℕ)) PacketFault
packed h bytes (Ok body) = Ok (Some (packet_of h bytes body, wire_size_of h.length))
packed h bytes (Err fault) = Err fault

-- what is read behind the header's tests
abbrev pub opened : List ℕ → Result (Option Header) PacketFault → Result (Option (Packet × ℕ)) PacketFault
opened bytes (Ok None) = Ok None
opened bytes (Ok (Some h)) = packed h bytes (body_read h.pkt_type (time_at h.pkt_type bytes) (slice_range bytes (start_of h) h.length))
opened bytes (Err fault) = Err fault

-- the packet at the front and its size; nothing yet where it isn't whole; or the first fault
unfoldable pub packet_read : List ℕ → Result (Option (Packet × ℕ)) PacketFault
packet_read bytes = opened bytes (frame_read bytes)

-- a packet that was read, with its size and whether its bytes are canonical
abbrev pub marked : List ℕ → Result (Option (Packet × ℕ)) PacketFault → Result (Option Front) PacketFault
marked bytes (Ok None) = Ok None
marked bytes (Ok (Some found)) = Ok (Some (record { packet = found.0; size = found.1; canonical = is_plain bytes }))
marked bytes (Err fault) = Err fault

-- of a packet that was read only its size and whether its bytes are canonical
abbrev pub passed : List ℕ → Result (Option (Packet × ℕ)) PacketFault → Result (Option (ℕ × Bool)) PacketFault
passed bytes (Ok None) = Ok None
passed bytes (Ok (Some found)) = Ok (Some (found.1, is_plain bytes))
passed bytes (Err fault) = Err fault

-- a packet was read
abbrev pub is_packet : Result (Option (Packet × ℕ)) PacketFault → Bool
is_packet (Ok None) = false
is_packet (Ok (Some found)) = true
is_packet (Err fault) = false

-- a packet is read at the front, and its bytes are its canonical spelling
abbrev pub is_canonical_front : List ℕ → Bool
is_canonical_front bytes = is_packet (packet_read bytes) && is_plain bytes

-- the whole packet stands behind a header that passes the tests
pub record IsFramed (h : Header) (bytes : List ℕ) : Type 0 where
  pub read : header_of (word_at bytes 0) ≡ h
  pub good : is_reserved h.pkt_type ≡ false
  pub start : start_of h ≤ h.length
  pub whole : wire_size_of h.length ≤ length bytes

-- the fault of a payload, where there is one
abbrev pub IsFaultOf : Option PacketFault → Result Body PacketFault → Type 0
IsFaultOf None (Ok body) = Unit {0}
IsFaultOf None (Err fault) = ⊥
IsFaultOf (Some fault) read = read ≡ Err fault

-- the payload has its fixed words
abbrev pub IsSized : PktType → List ℕ → Type 0
IsSized types.Management payload = 8 ≤ length payload
IsSized types.Status payload = length payload ≡ 32
IsSized types.Command payload = length payload ≡ 16
IsSized types.Control payload = IsTrue (control_sized payload)
IsSized types.Plain payload = Unit {0}
IsSized types.Timed payload = Unit {0}
IsSized (types.Reserved n) payload = Unit {0}
