-- What a capture shows within its first 2^30 bytes: its packets, and where and why it ends early.
use Rattle.std.specs.Prelude.{ℕ, Bool, true, false, ◌&&◌, nat_lt, if◌then◌else◌, List, length, take, Option, None, Some}
use Rattle.std.specs.List.{count_by}
use Rattle.chdr_stream.specs.declared.placed.Placed.{Placed}
use Rattle.chdr_stream.specs.Capture.{Reason, reserved_type, bad_length, bad_status_length, bad_command_length, bad_control_length, bad_management, truncated, capture_of}
use Rattle.capture_tool.specs.declared.seen.Counts.{Counts}
use Rattle.capture_tool.specs.declared.seen.Seen.{Seen}
use Rattle.capture_tool.specs.declared.seen.Fault.{Fault}
use Rattle.capture_tool.specs.declared.seen.Why.{Why}
use Rattle.capture_tool.specs.declared.seen.Why.TheVariants.{ReservedType, BadLength, Truncated, BadStatusLength, BadCommandLength, BadControlLength, BadManagement, TooLong}

-- the bytes that are looked at
abbrev pub limit : ℕ
limit = 1073741824

-- the word for the reason of a capture's fault
abbrev pub why_of : Reason → Why
why_of reserved_type = ReservedType
why_of bad_length = BadLength
why_of bad_status_length = BadStatusLength
why_of bad_command_length = BadCommandLength
why_of bad_control_length = BadControlLength
why_of bad_management = BadManagement
why_of truncated = Truncated

-- whether it is a packet that isn't whole
abbrev pub is_truncated : Reason → Bool
is_truncated reserved_type = false
is_truncated bad_length = false
is_truncated bad_status_length = false
is_truncated bad_command_length = false
is_truncated bad_control_length = false
is_truncated bad_management = false
is_truncated truncated = true

-- a capture that goes on past the limit is too long, unless it has the fault of a packet before it
abbrev pub fault_within : Bool → Option (ℕ × Reason) → Option Fault
fault_within long None = if long then Some (record { at = limit; why = TooLong }) else None
fault_within long (Some (at, reason)) = if is_truncated reason && long then Some (record { at = limit; why = TooLong }) else Some (record { at = at; why = why_of reason })

-- the packets within the limit
abbrev pub items_of : List ℕ → List Placed
items_of bytes = (capture_of (take limit bytes)).items

-- the fault of a capture, where it has one
abbrev pub fault_of : List ℕ → Option Fault
fault_of bytes = fault_within (nat_lt limit (length bytes)) (capture_of (take limit bytes)).fault

-- how many packets, and how many of them are canonical
abbrev pub counts_of : List Placed → Counts
counts_of items = record { packets = length items; canonical = count_by (λ item. item.canonical) items }

-- what check tells of a capture
abbrev pub seen_of : List ℕ → Seen
seen_of bytes = record { counts = counts_of (items_of bytes); fault = fault_of bytes }
