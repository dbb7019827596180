-- The invariant of a stream, part by part. No part speaks of more than it reads, so that an act which
-- touches none of that keeps it as it is.
use Rattle.std.specs.Prelude.{◌≡◌, ℕ, ◌+◌, ◌<◌, ◌≤◌, ◌%◌, ◌^◌, Bool, true, false, Option, Some, None, List, [], ◌∷◌, length, drop}
use Rattle.stream_endpoint.specs.declared.count.Count.{Count}
use Rattle.stream_endpoint.specs.declared.flow.Flow.{Flow}
use Rattle.stream_endpoint.specs.declared.state.Gap.{Gap}
use Rattle.stream_endpoint.specs.declared.state.OutState.{OutState}
use Rattle.stream_endpoint.specs.declared.state.OutState.TheVariants.{Halted, Resyncing}
use Rattle.stream_laws.specs.Machine.{Cut, Entry, Load, Told, count_of}
use Rattle.stream_laws.specs.Chains.{AreSent, IsLost, Rises, Stand, bytes_told, good_told, packets_told}

-- the counts of both ends are those of the lists
pub record Counted {A : Type 0} (start : Count) (sent given : List (Load A)) (taken : ℕ)
    (total buffered : Count) : Type 0 where
  pub sent_packets : total.packets ≡ start.packets + length sent
  pub sent_bytes : total.bytes ≡ start.bytes + (count_of sent).bytes
  pub held_packets : buffered.packets + taken ≡ length given
  pub held_bytes : buffered.bytes ≡ (count_of (drop taken given)).bytes

-- what was kept, what is under way and what this epoch has lost or discarded is all that was sent
pub record Balanced (total reached buffered flight missing : Count) : Type 0 where
  pub packets : reached.packets + flight.packets + missing.packets ≡ total.packets
  pub bytes : reached.bytes + flight.bytes + missing.bytes ≡ total.bytes
  pub held_packets : buffered.packets ≤ reached.packets
  pub held_bytes : buffered.bytes ≤ reached.bytes
  pub even : missing.packets ≡ 0 → missing.bytes ≡ 0

-- what is outstanding is within the capacity
pub record Credited (flow : Flow) (total outstanding : Count) : Type 0 where
  pub packets : outstanding.packets ≤ flow.cap_packets
  pub bytes : outstanding.bytes ≤ flow.cap_bytes
  pub sent_packets : outstanding.packets ≤ total.packets
  pub sent_bytes : outstanding.bytes ≤ total.bytes

-- the known counts begin at the start, and none falls below it
pub record Started (start known : Count) : Type 0 where
  pub packets : start.packets ≤ known.packets
  pub bytes : start.bytes ≤ known.bytes

-- from the known counts over the statuses under way to the transferred ones no count falls
pub record Rising (known transferred : Count) (back : List Told) : Type 0 where
  pub packets : Rises packets_told known.packets back transferred.packets
  pub bytes : Rises bytes_told known.bytes back transferred.bytes

-- the packets under way are those sent, in order, and only sent ones were lost
pub record Ordered {A : Type 0} (sent : List (Load A)) (lost : List ℕ) (next : ℕ)
    (forward : List (Entry A)) : Type 0 where
  pub stand : Stand lost next forward (length sent)
  pub same : AreSent sent forward
  pub past : (k : ℕ) → IsLost lost k → k < length sent

-- behind a gap: the packets from the first lost one on were lost up to one that arrived
pub record IsTorn (start reached next : ℕ) (lost : List ℕ) (gap : Gap) : Type 0 where
  pub place : ℕ
  pub later : reached < start + place
  pub arrived : place < next
  pub between : (k : ℕ) → reached ≤ start + k → k < place → IsLost lost k
  pub not_lost : IsLost lost place → ⊥
  pub expected : gap.expected ≡ reached % 2 ^ 16
  pub got : gap.got ≡ (start + place) % 2 ^ 16

-- in a good receiver all that arrived was kept
abbrev pub HasShape : ℕ → ℕ → ℕ → List ℕ → Option Gap → Type 0
HasShape start reached next lost None = start + next ≡ reached
HasShape start reached next lost (Some gap) = IsTorn start reached next lost gap

-- how far the receiver has come in this epoch; all counts here are packets
pub record Received {A : Type 0} (start reached next : ℕ) (given : List (Load A)) (lost : List ℕ)
    (from : Cut) (broken : Option Gap) : Type 0 where
  pub reached_is : reached + from.given ≡ start + from.sent + length given
  pub from_here : from.given ≤ length given
  pub passed : reached ≤ start + next
  pub shape : HasShape start reached next lost broken

-- 1 if a status is due
abbrev pub dues : Bool → ℕ
dues true = 1
dues false = 0

-- how many statuses under way tell a good receiver
abbrev pub goods : List Told → ℕ
goods [] = 0
goods (s ∷ ss) = good_told s + goods ss

-- Of the epochs that have ended each was paid by a loss, and if another cut may come without one,
-- one more loss was there.
pub record Paid (state : OutState) (missing : ℕ) (cuts : List Cut) (back : List Told) (due : Bool)
    (losses : ℕ) : Type 0 where
  pub ended : length cuts ≤ losses
  pub broken_off : 1 ≤ missing → length cuts + 1 ≤ losses
  pub unanswered : state ≡ Resyncing → missing ≡ 0 → goods back + dues due ≡ 0
      → length cuts + 1 ≤ losses

-- as long as no packet was lost nothing is amiss
pub record Unhurt (state : OutState) (missing : ℕ) (cuts : List Cut) (lost : List ℕ) : Type 0 where
  pub none_missing : 1 ≤ missing → 1 ≤ length lost
  pub none_cut : 1 ≤ length cuts → 1 ≤ length lost
  pub not_resyncing : state ≡ Resyncing → 1 ≤ length lost
  pub not_halted : state ≡ Halted → 1 ≤ length lost
