-- The requests of a host, and the acknowledgement in an answer.
use Rattle.std.specs.Prelude.{ℕ, ◌+◌, ◌%◌, Option, None, Some}
use Rattle.chdr_packets.specs.declared.packet.Body.{Body}
use Rattle.chdr_packets.specs.declared.packet.Body.TheVariants as body
use Rattle.chdr_packets.specs.declared.packet.Packet.{Packet}
use Rattle.chdr_words.specs.declared.control.Control.{Control}
use Rattle.chdr_words.specs.declared.epid.Epid.{Epid}
use Rattle.net_machine.specs.Passing.{message}
use Rattle.net_machine.specs.Queues.{forward_vc}

-- a host: its EPID, and the number of its next request
pub record HostSeen : Type 0 where
  pub epid : Epid
  pub seq : ℕ

-- once it asked a request, numbers begin anew behind 63
abbrev pub next_host : HostSeen → HostSeen
next_host host = record host { seq = (host.seq + 1) % 64 }

-- a request as its host asks it
abbrev pub asked_as : HostSeen → Control → Control
asked_as host request = record request { src = host.epid; seq = host.seq }

abbrev pub request_of : HostSeen → Epid → Control → Packet
request_of host dst request = message forward_vc dst (body.Control (asked_as host request))

abbrev pub control_by : Body → Option Control
control_by (body.Samples time payload) = None
control_by (body.Status status) = None
control_by (body.Command command) = None
control_by (body.Control control) = Some control
control_by (body.Management m) = None

-- the control payload of a packet
abbrev pub control_in : Packet → Option Control
control_in p = control_by p.body
