-- Why reading finds no packet is the first test that fails.
use Rattle.std.proofs.Common.{◌≡◌, ℕ, ◌<◌, List, [], ◌∷◌, length, Option, None, Result, Ok, Err, refl, sym, ap, ◌∙◌, arith}
use Rattle.chdr_words.specs.declared.header.PktType.{PktType}
use Rattle.chdr_words.specs.declared.header.PktType.TheVariants as types
use Rattle.chdr_words.specs.declared.fault.MsgFault.TheVariants.{BadStatusLength, BadCommandLength, BadControlLength, BadManagement}
use Rattle.chdr_words.specs.declared.fault.MsgFault.TheVariants as messages
use Rattle.chdr_packets.specs.Laws.{IsBytes}
use Rattle.chdr_packets.specs.Reading.{packet_read}
use Rattle.chdr_packets.specs.Refusals.{IsFaultUnder}
use Rattle.chdr_packets.specs.declared.fault.PacketFault.{PacketFault}
use Rattle.chdr_packets.specs.declared.fault.PacketFault.TheVariants.{ReservedType, BadLength, Message, Memory}
use Rattle.chdr_packets.specs.declared.packet.Packet.{Packet}
use Rattle.chdr_packets.proofs.Laws.{no_memory, none_exactly, refused_exactly}
use Rattle.chdr_stream.specs.Capture.{HasReason, Reason, reserved_type, bad_length, bad_status_length, bad_command_length, bad_control_length, bad_management, truncated, reason_of}
use Rattle.chdr_stream.specs.FirstFault.{FailsBy}
use Rattle.chdr_stream.proofs.StreamLemmas.{nothing_read}

-- what is read where a capture ends by a reason
abbrev pub read_by : Reason → Result (Option (Packet × ℕ)) PacketFault
read_by reserved_type = Err ReservedType
read_by bad_length = Err BadLength
read_by bad_status_length = Err (Message BadStatusLength)
read_by bad_command_length = Err (Message BadCommandLength)
read_by bad_control_length = Err (Message BadControlLength)
read_by bad_management = Err (Message BadManagement)
read_by truncated = Ok None

-- the reason by what is read
abbrev reason_by : Result (Option (Packet × ℕ)) PacketFault → Reason
reason_by (Ok found) = truncated
reason_by (Err fault) = reason_of fault

reason-read : (reason : Reason) → reason_by (read_by reason) ≡ reason
reason-read reserved_type = refl
reason-read bad_length = refl
reason-read bad_status_length = refl
reason-read bad_command_length = refl
reason-read bad_control_length = refl
reason-read bad_management = refl
reason-read truncated = refl

not_memory : (t : PktType) → IsFaultUnder t messages.Memory → ⊥
not_memory types.Management e = absurd cc
not_memory types.Status e = absurd cc
not_memory types.Command e = absurd cc
not_memory types.Control e = absurd cc
not_memory types.Plain e = e
not_memory types.Timed e = e
not_memory (types.Reserved n) e = e

-- what reading finds of bytes is a fault that they have
pub known : (fault : PacketFault) (b : List ℕ) → IsBytes b → packet_read b ≡ Err fault → HasReason fault
known ReservedType b all e = tt
known BadLength b all e = tt
known (Message messages.BadStatusLength) b all e = tt
known (Message messages.BadCommandLength) b all e = tt
known (Message messages.BadControlLength) b all e = tt
known (Message messages.BadManagement) b all e = tt
known (Message messages.Memory) b all e = not_memory _ (((refused_exactly b all).message messages.Memory).0 e).kind
known Memory b all e = no_memory b e

-- it is the one of its reason
pub read-reason : (fault : PacketFault) → HasReason fault → read_by (reason_of fault) ≡ Err fault
read-reason ReservedType has = refl
read-reason BadLength has = refl
read-reason (Message messages.BadStatusLength) has = refl
read-reason (Message messages.BadCommandLength) has = refl
read-reason (Message messages.BadControlLength) has = refl
read-reason (Message messages.BadManagement) has = refl
read-reason (Message messages.Memory) has = absurd has
read-reason Memory has = absurd has

-- what is read is no fault, or one that bytes have
abbrev pub IsOfReason : Result (Option (Packet × ℕ)) PacketFault → Type 0
IsOfReason (Ok found) = Unit {0}
IsOfReason (Err fault) = HasReason fault

-- what reading finds where there is no packet
abbrev pub Finds : Reason → List ℕ → Type 0
Finds reason b = (packet_read b ≡ read_by reason) × (0 < length b)

-- a fault is found of some bytes
some_read : (fault : PacketFault) (b : List ℕ) → packet_read b ≡ Err fault → 0 < length b
some_read fault [] e = absurd (nothing_read fault e)
some_read fault (x ∷ b) e = omega arith

pub finds_fault : (fault : PacketFault) (b : List ℕ) → IsBytes b → packet_read b ≡ Err fault → Finds (reason_of fault) b
finds_fault fault b all e = (e ∙ sym (read-reason fault (known fault b all e)), some_read fault b e)

-- bytes have one reason alone
pub finds_once : (reason other : Reason) (b : List ℕ) → Finds reason b → Finds other b → reason ≡ other
finds_once reason other b x y = sym (reason-read reason) ∙ ap reason_by (sym x.0 ∙ y.0) ∙ reason-read other

pub finds_fails : (reason : Reason) (b : List ℕ) → IsBytes b → Finds reason b → FailsBy reason b
finds_fails reserved_type b all e = (refused_exactly b all).reserved.0 e.0
finds_fails bad_length b all e = (refused_exactly b all).bad_length.0 e.0
finds_fails bad_status_length b all e = ((refused_exactly b all).message BadStatusLength).0 e.0
finds_fails bad_command_length b all e = ((refused_exactly b all).message BadCommandLength).0 e.0
finds_fails bad_control_length b all e = ((refused_exactly b all).message BadControlLength).0 e.0
finds_fails bad_management b all e = ((refused_exactly b all).message BadManagement).0 e.0
finds_fails truncated b all e = ((none_exactly b).0 e.0, e.1)

refused_finds : (fault : PacketFault) (b : List ℕ) → packet_read b ≡ Err fault → (packet_read b ≡ Err fault) × (0 < length b)
refused_finds fault b e = (e, some_read fault b e)

pub fails_finds : (reason : Reason) (b : List ℕ) → IsBytes b → FailsBy reason b → Finds reason b
fails_finds reserved_type b all e = refused_finds ReservedType b ((refused_exactly b all).reserved.1 e)
fails_finds bad_length b all e = refused_finds BadLength b ((refused_exactly b all).bad_length.1 e)
fails_finds bad_status_length b all e = refused_finds (Message BadStatusLength) b (((refused_exactly b all).message BadStatusLength).1 e)
fails_finds bad_command_length b all e = refused_finds (Message BadCommandLength) b (((refused_exactly b all).message BadCommandLength).1 e)
fails_finds bad_control_length b all e = refused_finds (Message BadControlLength) b (((refused_exactly b all).message BadControlLength).1 e)
fails_finds bad_management b all e = refused_finds (Message BadManagement) b (((refused_exactly b all).message BadManagement).1 e)
fails_finds truncated b all e = ((none_exactly b).1 e.0, e.1)
