-- What has a spelling.
use Rattle.std.specs.Prelude.{◌<◌, ◌≤◌, ◌^◌, length}
use Rattle.chdr_words.specs.Status.{FitsStatus}
use Rattle.chdr_words.specs.Command.{FitsCommand}
use Rattle.chdr_words.specs.Control.{FitsControl}
use Rattle.chdr_words.specs.Management.{FitsManagement}
use Rattle.chdr_packets.specs.Length.{length_of}
use Rattle.chdr_packets.specs.declared.packet.Packet.{Packet}
use Rattle.chdr_packets.specs.declared.packet.Body.{Body}
use Rattle.chdr_packets.specs.declared.packet.Body.TheVariants.{Samples, Status, Command, Control, Management}

-- the fields of the body fit their bits
abbrev pub FitsBody : Body → Type 0
FitsBody (Samples time payload) = Unit {0}
FitsBody (Status s) = FitsStatus s
FitsBody (Command c) = FitsCommand c
FitsBody (Control c) = FitsControl c
FitsBody (Management m) = FitsManagement m

-- each field fits its bits, and the whole its Length
pub record FitsPacket (p : Packet) : Type 0 where
  pub vc : p.vc < 2 ^ 6
  pub mdata : length p.mdata ≤ 31
  pub body : FitsBody p.body
  pub len : length_of p ≤ 65535
