-- Bytes that ask for registers, and the bytes of the acknowledgement that goes back.
use Rattle.std.specs.Prelude.{◌≡◌, ◌⊎◌, ℕ, ◌≤◌, false, if◌then◌else◌, List, [], length, take, Option, None, Some, Result, Ok, Err}
use Rattle.chdr_words.specs.Control.{FitsControl}
use Rattle.chdr_words.specs.declared.control.Control.{Control}
use Rattle.chdr_words.specs.declared.epid.Epid.{Epid}
use Rattle.chdr_packets.specs.Grammar.{IsCanon, Spells}
use Rattle.chdr_packets.specs.Refusals.{IsShort}
use Rattle.chdr_packets.specs.declared.fault.PacketFault.{PacketFault}
use Rattle.chdr_packets.specs.declared.fault.PacketFault.TheVariants.{ReservedType, BadLength, Message, Memory}
use Rattle.chdr_packets.specs.declared.packet.Packet.{Packet}
use Rattle.chdr_packets.specs.declared.packet.Body.{Body}
use Rattle.chdr_packets.specs.declared.packet.Body.TheVariants as bodies
use Rattle.block_registers.specs.Operations.{answer}
use Rattle.block_registers.specs.Registers.{Registers}
use Rattle.block_registers.specs.Slots.{place_of, slots_after}
use Rattle.packet_uses.specs.Respelled.{IsRefusedBy}

-- the request that a body is; an acknowledgement is none
abbrev pub request_of : Body → Option Control
request_of (bodies.Samples time payload) = None
request_of (bodies.Status status) = None
request_of (bodies.Command command) = None
request_of (bodies.Control control) = if control.ack then None else Some control
request_of (bodies.Management management) = None

-- the bytes begin with a spelling of a packet that is this request, or of one that is none
pub record Asks (bytes : List ℕ) (request : Option Control) : Type 0 where
  pub packet : Packet
  pub size : ℕ
  pub within : size ≤ length bytes
  pub spells : Spells packet (take size bytes)
  pub asks : request_of packet.body ≡ request

-- what is read of bytes that may ask
abbrev pub Requests : List ℕ → Result (Option Control) PacketFault → Type 0
Requests bytes (Ok None) = IsShort bytes ⊎ Asks bytes None
Requests bytes (Ok (Some request)) = Asks bytes (Some request) × FitsControl request
Requests bytes (Err fault) = IsRefusedBy fault bytes

-- the packet that acknowledges a request: on channel 1, to the request's source
abbrev pub reply_of : Epid → List (Option Registers) → Control → Packet
reply_of me slots request = record {
  vc = 1;
  eob = false;
  eov = false;
  seq = 0;
  dst = request.src;
  mdata = [];
  body = bodies.Control (answer me (place_of slots (Some request.dst_port)) request);
}

-- the slots are those that the request leaves
pub record IsCarriedOut (old new : List (Option Registers)) (request : Control) : Type 0 where
  pub slots : new ≡ slots_after old (Some request.dst_port) request

-- the request that the bytes begin with is carried out, and its acknowledgement is spelled canonically
pub record IsAnswered (me : Epid) (old new : List (Option Registers)) (bytes reply : List ℕ) : Type 0 where
  pub request : Control
  pub asks : Asks bytes (Some request)
  pub spelled : IsCanon (reply_of me old request) reply
  pub carried : IsCarriedOut old new request

-- what a fault leaves: the slots as they were, unless memory ran out behind the request
abbrev pub Leaves : PacketFault → List (Option Registers) → List (Option Registers) → List ℕ → Type 0
Leaves ReservedType old new bytes = new ≡ old
Leaves BadLength old new bytes = new ≡ old
Leaves (Message fault) old new bytes = new ≡ old
Leaves Memory old new bytes = (new ≡ old) ⊎ ((request : Control) × Asks bytes (Some request) × IsCarriedOut old new request)

-- the request is answered, none is there, or the bytes are refused
abbrev pub Answered : Epid → List (Option Registers) → List (Option Registers) → List ℕ → Result (Option (List ℕ)) PacketFault → Type 0
Answered me old new bytes (Ok None) = (IsShort bytes ⊎ Asks bytes None) × (new ≡ old)
Answered me old new bytes (Ok (Some reply)) = IsAnswered me old new bytes reply
Answered me old new bytes (Err fault) = IsRefusedBy fault bytes × Leaves fault old new bytes
