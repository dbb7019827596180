-- Which bytes spell a packet, field by field as they stand on the wire.
use Rattle.std.specs.Prelude.{◌≡◌, ℕ, ◌+◌, ◌*◌, ◌≤◌, ◌==◌, ◌&&◌, Bool, true, List, length, slice_range, IfSome, IsTrue, Option, None, Some}
use Rattle.std.specs.List.{list_all}
use Rattle.chdr_words.specs.Field.{word_at, words_at}
use Rattle.chdr_words.specs.Header.{header_of}
use Rattle.chdr_words.specs.Wire.{time_bytes, wire_size_of}
use Rattle.chdr_words.specs.Status.{SpellsStatus, status_plain}
use Rattle.chdr_words.specs.Command.{SpellsCommand}
use Rattle.chdr_words.specs.Control.{SpellsControl, control_plain}
use Rattle.chdr_words.specs.Management.{SpellsManagement, management_plain}
use Rattle.chdr_words.specs.declared.header.Header.{Header}
use Rattle.chdr_words.specs.declared.header.PktType.{PktType}
use Rattle.chdr_words.specs.declared.header.PktType.TheVariants as types
use Rattle.chdr_packets.specs.declared.packet.Packet.{Packet}
use Rattle.chdr_packets.specs.declared.packet.Body.{Body}
use Rattle.chdr_packets.specs.declared.packet.Body.TheVariants.{Samples, Status, Command, Control, Management}

-- the time that a body tells in a timestamp word
abbrev pub body_time : Body → Option ℕ
body_time (Samples time payload) = time
body_time (Status s) = None
body_time (Command c) = None
body_time (Control c) = None
body_time (Management m) = None

-- data with a time is of another type than data without
abbrev pub samples_type : Option ℕ → PktType
samples_type None = types.Plain
samples_type (Some time) = types.Timed

-- the type that a body stands under
abbrev pub body_type : Body → PktType
body_type (Samples time payload) = samples_type time
body_type (Status s) = types.Status
body_type (Command c) = types.Command
body_type (Control c) = types.Control
body_type (Management m) = types.Management

-- the header of a packet at a Length
abbrev pub header_for : Packet → ℕ → Header
header_for p len = record {
  vc = p.vc;
  eob = p.eob;
  eov = p.eov;
  pkt_type = body_type p.body;
  num_mdata = length p.mdata;
  seq = p.seq;
  length = len;
  dst = p.dst;
}

-- the bytes are a payload of the body
abbrev pub SpellsBody : Body → List ℕ → Type 0
SpellsBody (Samples time payload) bytes = bytes ≡ payload
SpellsBody (Status s) bytes = SpellsStatus s bytes
SpellsBody (Command c) bytes = SpellsCommand c bytes
SpellsBody (Control c) bytes = SpellsControl c bytes
SpellsBody (Management m) bytes = SpellsManagement m bytes

-- the metadata stands behind the header and the timestamp
abbrev pub mdata_start : Packet → ℕ
mdata_start p = 8 + time_bytes (body_time p.body)

-- the payload stands behind the metadata
abbrev pub payload_start : Packet → ℕ
payload_start p = mdata_start p + 8 * length p.mdata

-- the bytes, all of them, spell the packet at some Length; what rounding to words added is free
pub record Spells (p : Packet) (bytes : List ℕ) : Type 0 where
  pub len : ℕ
  pub size : length bytes ≡ wire_size_of len
  pub first : header_of (word_at bytes 0) ≡ header_for p len
  pub within : payload_start p ≤ len
  pub time : IfSome (body_time p.body) (λ time. word_at bytes 8 ≡ time)
  pub mdata : words_at bytes (mdata_start p) (length p.mdata) ≡ p.mdata
  pub payload : SpellsBody p.body (slice_range bytes (payload_start p) len)

-- reserved bits of the payload are zero, and a control payload has its rounded size
abbrev pub payload_plain : PktType → List ℕ → Bool
payload_plain types.Management bytes = management_plain bytes
payload_plain types.Status bytes = status_plain bytes
payload_plain types.Command bytes = true
payload_plain types.Control bytes = control_plain bytes
payload_plain types.Plain bytes = true
payload_plain types.Timed bytes = true
payload_plain (types.Reserved n) bytes = true

-- the bytes of a timestamp word
abbrev pub type_time : PktType → ℕ
type_time types.Management = 0
type_time types.Status = 0
type_time types.Command = 0
type_time types.Control = 0
type_time types.Plain = 0
type_time types.Timed = 8
type_time (types.Reserved n) = 0

-- where the payload of a packet with this header begins
abbrev pub start_of : Header → ℕ
start_of h = 8 + type_time h.pkt_type + 8 * h.num_mdata

-- so are the pad bytes
abbrev pub plain_under : Header → List ℕ → Bool
plain_under h bytes =
    payload_plain h.pkt_type (slice_range bytes (start_of h) h.length) && list_all (λ byte. byte == 0) (slice_range bytes h.length (wire_size_of h.length))

-- the packet at the front has zero reserved bits and pad bytes, and the rounded size under control
abbrev pub is_plain : List ℕ → Bool
is_plain bytes = plain_under (header_of (word_at bytes 0)) bytes

-- the canonical spelling of a packet
pub record IsCanon (p : Packet) (bytes : List ℕ) : Type 0 where
  pub spells : Spells p bytes
  pub plain : IsTrue (is_plain bytes)
