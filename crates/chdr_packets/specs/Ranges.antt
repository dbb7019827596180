-- The ranges that a packet's numbers have by their types, where its fields on the wire don't bound them further.
use Rattle.std.specs.Prelude.{◌<◌, ◌^◌, All, IfSome}
use Rattle.chdr_words.specs.declared.status.Status as statuses
use Rattle.chdr_words.specs.declared.command.Command as commands
use Rattle.chdr_words.specs.declared.control.Control as controls
use Rattle.chdr_words.specs.declared.management.Management as managements
use Rattle.chdr_packets.specs.declared.packet.Packet.{Packet}
use Rattle.chdr_packets.specs.declared.packet.Body.{Body}
use Rattle.chdr_packets.specs.declared.packet.Body.TheVariants.{Samples, Status, Command, Control, Management}

-- a status: u16 and u64
pub record IsRangedStatus (s : statuses.Status) : Type 0 where
  pub src : s.src.0 < 2 ^ 16
  pub got_bytes : s.got_bytes < 2 ^ 64
  pub buffer : s.buffer < 2 ^ 16

-- a command: u16 and u64
pub record IsRangedCommand (c : commands.Command) : Type 0 where
  pub src : c.src.0 < 2 ^ 16
  pub bytes : c.bytes < 2 ^ 64

-- a control payload: u16, a u64 where there is a time, and words of u32
pub record IsRangedControl (c : controls.Control) : Type 0 where
  pub src : c.src.0 < 2 ^ 16
  pub time : IfSome c.time (λ time. time < 2 ^ 64)
  pub words : All (λ word. word < 2 ^ 32) c.words

-- a management payload: u16 twice
pub record IsRangedManagement (m : managements.Management) : Type 0 where
  pub version : m.version < 2 ^ 16
  pub src : m.src.0 < 2 ^ 16

-- a body; samples are bytes, with a u64 where there is a time
abbrev pub IsRangedBody : Body → Type 0
IsRangedBody (Samples time payload) = IfSome time (λ time. time < 2 ^ 64) × All (λ byte. byte < 2 ^ 8) payload
IsRangedBody (Status s) = IsRangedStatus s
IsRangedBody (Command c) = IsRangedCommand c
IsRangedBody (Control c) = IsRangedControl c
IsRangedBody (Management m) = IsRangedManagement m

-- a packet: u16 twice, words of u64, and its body
pub record IsRanged (p : Packet) : Type 0 where
  pub seq : p.seq < 2 ^ 16
  pub dst : p.dst.0 < 2 ^ 16
  pub mdata : All (λ word. word < 2 ^ 64) p.mdata
  pub body : IsRangedBody p.body
