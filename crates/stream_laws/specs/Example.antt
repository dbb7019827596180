-- Two worked runs. The first is of six packets with five losses: a packet in the middle and the last one, a
-- RESYNC, an answer, and a status. The receiver breaks once, a PING finds the second gap, and the stream
-- drains in its fourth epoch. In the second a loss halts the sender.
use Rattle.std.specs.Prelude.{◌≡◌, ℕ, ◌+◌, ◌*◌, ◌%◌, ◌^◌, Some, None, List, [], ◌∷◌}
use Rattle.chdr_words.specs.declared.command.CmdOp.TheVariants.{Init, Ping, Resync}
use Rattle.stream_endpoint.specs.declared.count.Count.{Count}
use Rattle.stream_endpoint.specs.declared.flow.Flow.{Flow}
use Rattle.stream_endpoint.specs.declared.flow.Policy.TheVariants.{Auto, Off}
use Rattle.stream_endpoint.specs.Counts.{none}
use Rattle.stream_endpoint.specs.Flow.{IsValid, frequency}
use Rattle.stream_laws.specs.Machine.{Data, Load, State, Terms, Told, opens}
use Rattle.stream_laws.specs.Acts.{Act, IsLegal, after_all, Fill, Close, Enter, Order, Keep, Break, Discard, Obey, Renew, Take, Report, Hear, LosePacket, LoseCommand, LoseStatus}
use Rattle.stream_laws.specs.Ends.{IsDrained, IsHalted}

abbrev pub small : Flow
small = record { cap_bytes = 96; cap_packets = 4; freq_bytes = 24; freq_packets = 4; max = 24 }

-- packets are counted from the start on
abbrev pub from : ℕ → Terms
from start = record { flow = small; policy = Auto; start = record { packets = start; bytes = 0 } }

-- the packet at each place, of 24 bytes
abbrev pub load : ℕ → Load ℕ
load place = record { wire = 24; item = place }

-- this many packets, counted from the start
abbrev pub total : ℕ → ℕ → Count
total start n = record { packets = start + n; bytes = n * 24 }

-- an OKAY for this many packets
abbrev pub okay : ℕ → ℕ → Told
okay start n = record { gap = None; told = total start n }

-- the number of the second packet was expected, and that of the third came; the first one was taken
abbrev pub broken : ℕ → Told
broken start = record {
  gap = Some (record { expected = (start + 1) % 2 ^ 16; got = (start + 2) % 2 ^ 16 });
  told = total start 1;
}

abbrev pub acts : ℕ → List (Act ℕ)
acts start = Fill (load 0 ∷ load 1 ∷ load 2 ∷ load 3 ∷ load 4 ∷ load 5 ∷ [])
    ∷ Close
    ∷ Order Init
    ∷ Obey Init (frequency small) []
    ∷ Report
    ∷ Hear (okay start 0) []
    ∷ Enter (load 0) (load 1 ∷ load 2 ∷ load 3 ∷ load 4 ∷ load 5 ∷ [])
    ∷ Enter (load 1) (load 2 ∷ load 3 ∷ load 4 ∷ load 5 ∷ [])
    ∷ Enter (load 2) (load 3 ∷ load 4 ∷ load 5 ∷ [])
    ∷ Enter (load 3) (load 4 ∷ load 5 ∷ [])
    ∷ LosePacket (Data 0 (load 0) ∷ []) 1 (load 1) (Data 2 (load 2) ∷ Data 3 (load 3) ∷ [])
    ∷ Keep 0 (load 0) (Data 2 (load 2) ∷ Data 3 (load 3) ∷ [])
    ∷ Break 2 (load 2) (Data 3 (load 3) ∷ [])
    ∷ Discard 3 (load 3) []
    ∷ Take 1
    ∷ Report
    ∷ Hear (broken start) []
    ∷ Order Resync
    ∷ LoseCommand [] Resync (total start 4) []
    ∷ Order Resync
    ∷ Renew (total start 4) []
    ∷ Report
    ∷ LoseStatus [] (okay start 4) []
    ∷ Order Resync
    ∷ Renew (total start 4) []
    ∷ Report
    ∷ Hear (okay start 4) []
    ∷ Enter (load 4) (load 5 ∷ [])
    ∷ Enter (load 5) []
    ∷ LosePacket (Data 4 (load 4) ∷ []) 5 (load 5) []
    ∷ Keep 4 (load 4) []
    ∷ Take 1
    ∷ Report
    ∷ LoseStatus [] (okay start 5) []
    ∷ Order Ping
    ∷ Obey Ping none []
    ∷ Report
    ∷ Hear (okay start 5) []
    ∷ Order Resync
    ∷ Renew (total start 6) []
    ∷ Report
    ∷ Hear (okay start 6) []
    ∷ []

abbrev pub left : ℕ → State ℕ
left start = after_all (from start) (opens (from start)) (acts start)

-- the worked run is legal, and this is what it leaves
pub record IsWorked (start : ℕ) : Type 0 where
  pub valid : IsValid small
  pub legal : IsLegal (from start) (opens (from start)) (acts start)
  pub sent : (left start).core.sent ≡ load 0 ∷ load 1 ∷ load 2 ∷ load 3 ∷ load 4 ∷ load 5 ∷ []
  pub given : (left start).core.given ≡ load 0 ∷ load 4 ∷ []
  pub lost : (left start).core.lost ≡ 5 ∷ 1 ∷ []
  pub cuts : (left start).core.cuts ≡ record { sent = 6; given = 2 } ∷ record { sent = 4; given = 1 }
      ∷ record { sent = 4; given = 1 } ∷ []
  pub losses : (left start).core.losses ≡ 5
  pub drained : IsDrained (left start)

-- packets are counted from 0 on, and a loss ends the stream
abbrev pub ending : Terms
ending = record { flow = small; policy = Off; start = none }

abbrev pub halting_acts : List (Act ℕ)
halting_acts = Fill (load 0 ∷ load 1 ∷ load 2 ∷ [])
    ∷ Close
    ∷ Order Init
    ∷ Obey Init (frequency small) []
    ∷ Report
    ∷ Hear (okay 0 0) []
    ∷ Enter (load 0) (load 1 ∷ load 2 ∷ [])
    ∷ Enter (load 1) (load 2 ∷ [])
    ∷ Enter (load 2) []
    ∷ LosePacket (Data 0 (load 0) ∷ []) 1 (load 1) (Data 2 (load 2) ∷ [])
    ∷ Keep 0 (load 0) (Data 2 (load 2) ∷ [])
    ∷ Break 2 (load 2) []
    ∷ Take 1
    ∷ Report
    ∷ Hear (broken 0) []
    ∷ []

abbrev pub halted : State ℕ
halted = after_all ending (opens ending) halting_acts

-- this run is legal, and leaves a halted stream
pub record IsHaltedRun : Type 0 where
  pub valid : IsValid small
  pub legal : IsLegal ending (opens ending) halting_acts
  pub halts : IsHalted ending halted
  pub given : halted.core.given ≡ load 0 ∷ []
