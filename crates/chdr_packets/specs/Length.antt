-- The size of a packet's canonical spelling, in bytes.
use Rattle.std.specs.Prelude.{ℕ, ◌+◌, ◌*◌, length}
use Rattle.std.specs.List.{sum_by}
use Rattle.chdr_words.specs.Wire.{time_bytes, wire_size_of}
use Rattle.chdr_packets.specs.declared.packet.Packet.{Packet}
use Rattle.chdr_packets.specs.declared.packet.Body.{Body}
use Rattle.chdr_packets.specs.declared.packet.Body.TheVariants.{Samples, Status, Command, Control, Management}

-- a body with its timestamp; control is rounded up to words
abbrev pub body_length : Body → ℕ
body_length (Samples time payload) = time_bytes time + length payload
body_length (Status s) = 32
body_length (Command c) = 16
body_length (Control c) = wire_size_of (12 + time_bytes c.time + 4 * length c.words)
body_length (Management m) = 8 + 8 * sum_by length m.hops

-- Length: header, timestamp, metadata and payload
abbrev pub length_of : Packet → ℕ
length_of p = 8 + 8 * length p.mdata + body_length p.body

-- the bytes that it takes on a link
abbrev pub wire_of : Packet → ℕ
wire_of p = wire_size_of (length_of p)
