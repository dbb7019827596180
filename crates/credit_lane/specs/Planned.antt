-- What a plan allows.
use Rattle.std.specs.Prelude.{◌≡◌, List, length, slice_get, Some, ⊤}
use mathlib.Core.List.{IsPrefix}
use Rattle.chdr_packets.specs.declared.packet.Packet.{Packet}
use Rattle.block_library.specs.Producer.{produced}
use Rattle.credit_lane.specs.declared.plan.LanePlan.{LanePlan}
use Rattle.credit_lane.specs.declared.plan.LanePlan.TheVariants.{Any, Producer}

-- the packets put so far are ones that the plan allows
abbrev pub IsPlanned : LanePlan → List Packet → Type 0
IsPlanned Any put = ⊤
IsPlanned (Producer plan) put = IsPrefix put (produced plan)

-- this packet may be put next
abbrev pub IsNext : LanePlan → List Packet → Packet → Type 0
IsNext Any put packet = ⊤
IsNext (Producer plan) put packet = slice_get (produced plan) (length put) ≡ Some packet
