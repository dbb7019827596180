-- Which lanes a run has, and whose ends they are.
use Rattle.std.specs.Prelude.{◌≡◌, ℕ, ◌<◌, true, List, length, slice_index_or}
use Rattle.net_machine.specs.declared.plan.RunPlan.{RunPlan}
use Rattle.net_machine.specs.Conditions.{ends_at_rx}
use Rattle.fabric_lists.specs.Opened.{is_tx_stream}
use Rattle.fabric_parts.specs.Ready.{most_offered}
use Rattle.stream_lanes.specs.Sides.{DrainSide, SourceSide}
use Rattle.stream_rounds.specs.Between.{makes_of}
use Rattle.stream_rounds.specs.Sides.{IntakeSide, OutletSide}

-- a source and the fabric have the two ends of a lane for what the Tx of their stream makes
pub record IsSourceLane (plan : RunPlan) (source : SourceSide) (intake : IntakeSide) : Type 0 where
  pub stream : intake.stream ≡ source.stream
  pub lane : source.tx.lane ≡ intake.rx.lane
  pub room : source.tx.lane.room ≡ most_offered
  pub makes : source.makes ≡ makes_of plan source.stream

-- the fabric and a drain have the two ends of a lane
pub record IsDrainLane (outlet : OutletSide) (drain : DrainSide) : Type 0 where
  pub stream : drain.stream ≡ outlet.stream
  pub lane : outlet.tx.lane ≡ drain.rx.lane

-- one of the ends is of stream s
pub record HasEnd {A : Type 0} (stream : A → ℕ) (ends : List A) (s : ℕ) : Type 0 where
  pub place : ℕ
  pub within : place < length ends
  pub is : (d : A) → stream (slice_index_or ends place d) ≡ s

-- Each stream that a Tx fills has a source lane, and each stream to an Rx a drain lane; the workers and the fabric have
-- their ends.
pub record IsWired (plan : RunPlan) (sources : List SourceSide) (intakes : List IntakeSide) (outlets : List OutletSide)
    (drains : List DrainSide) : Type 0 where
  pub intakes_count : length intakes ≡ length sources
  pub source : (i : ℕ) (x : SourceSide) (y : IntakeSide) → i < length sources
      → IsSourceLane plan (slice_index_or sources i x) (slice_index_or intakes i y)
  pub filled : (s : ℕ) → s < length plan.streams → is_tx_stream plan s ≡ true → HasEnd (λ (x : IntakeSide). x.stream) intakes s
  pub drains_count : length drains ≡ length outlets
  pub drain : (i : ℕ) (x : OutletSide) (y : DrainSide) → i < length outlets
      → IsDrainLane (slice_index_or outlets i x) (slice_index_or drains i y)
  pub drained : (s : ℕ) → s < length plan.streams → ends_at_rx plan s ≡ true → HasEnd (λ (x : OutletSide). x.stream) outlets s
