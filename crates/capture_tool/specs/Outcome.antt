-- Exit statuses of the two forms that read a capture, and their causes.
use Rattle.std.specs.Prelude.{◌≡◌, ℕ, List, Option, None, Some}
use Rattle.rf_outside.specs.Bytes.{Adds}
use Rattle.capture_tool.specs.declared.seen.Fault.{Fault}
use Rattle.capture_tool.specs.Seen.{fault_of}
use Rattle.capture_tool.specs.Pcap.{pcap_listed, pcap_seen_of, pcap_status}

-- 0 without a fault, and 7 with one
abbrev pub status_of : Option Fault → ℕ
status_of None = 0
status_of (Some fault) = 7

-- the whole text of the source's bytes was written, and the status tells their fault
pub record Told (text : List ℕ → List ℕ) (bytes : List ℕ) (status : ℕ) (old new : Option (List ℕ)) : Type 0 where
  pub written : Adds old new (text bytes)
  pub tells : status ≡ status_of (fault_of bytes)

-- the whole listing of a pcap file was written, and the status tells its faults
pub record PcapTold (port : ℕ) (bytes : List ℕ) (status : ℕ) (old new : Option (List ℕ)) : Type 0 where
  pub written : Adds old new (pcap_listed port bytes)
  pub tells : status ≡ pcap_status (pcap_seen_of port bytes)
