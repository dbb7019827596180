-- What the meeting of the two ends of each lane leaves, before a round.
use Rattle.std.specs.Prelude.{◌≡◌, ℕ, ◌<◌, ◌≤◌, List, length, slice_index_or}
use mathlib.Core.List.{IsPrefix}
use Rattle.stream_lanes.specs.Sides.{DrainSide, SourceSide}
use Rattle.stream_rounds.specs.Sides.{IntakeSide, OutletSide}

-- a source and the fabric know all that the other one did
pub record HaveMet (source more_source : SourceSide) (intake more_intake : IntakeSide) : Type 0 where
  pub source_stream : more_source.stream ≡ source.stream
  pub intake_stream : more_intake.stream ≡ intake.stream
  pub makes : more_source.makes ≡ source.makes
  pub source_lane : more_source.tx.lane ≡ source.tx.lane
  pub intake_lane : more_intake.rx.lane ≡ intake.rx.lane
  pub put : more_source.tx.put ≡ source.tx.put
  pub got : more_intake.rx.got ≡ intake.rx.got
  pub taken : more_source.tx.taken ≡ length intake.rx.got
  pub known : more_intake.rx.known ≡ source.tx.put

-- the fabric and a drain know all that the other one did
pub record HaveMetDrain (outlet more_outlet : OutletSide) (drain more_drain : DrainSide) : Type 0 where
  pub outlet_stream : more_outlet.stream ≡ outlet.stream
  pub drain_stream : more_drain.stream ≡ drain.stream
  pub outlet_lane : more_outlet.tx.lane ≡ outlet.tx.lane
  pub drain_lane : more_drain.rx.lane ≡ drain.rx.lane
  pub put : more_outlet.tx.put ≡ outlet.tx.put
  pub got : more_drain.rx.got ≡ drain.rx.got
  pub rises : outlet.tx.taken ≤ more_outlet.tx.taken
  pub taken : more_outlet.tx.taken ≡ length drain.rx.got
  pub known : more_drain.rx.known ≡ outlet.tx.put
  pub order : IsPrefix drain.rx.got outlet.tx.put

-- so it is with both ends at each place of two lists
pub record EachPair {A B : Type 0} (R : A → A → B → B → Type 0) (xs more_xs : List A) (ys more_ys : List B) : Type 0 where
  pub count : length more_xs ≡ length xs
  pub other : length more_ys ≡ length ys
  pub each : (i : ℕ) (x : A) (y : B) → i < length xs
      → R (slice_index_or xs i x) (slice_index_or more_xs i x) (slice_index_or ys i y) (slice_index_or more_ys i y)

abbrev pub AllHaveMet : List SourceSide → List SourceSide → List IntakeSide → List IntakeSide → Type 0
AllHaveMet sources more_sources intakes more_intakes = EachPair HaveMet sources more_sources intakes more_intakes

abbrev pub AllDrainsHaveMet : List OutletSide → List OutletSide → List DrainSide → List DrainSide → Type 0
AllDrainsHaveMet outlets more_outlets drains more_drains = EachPair HaveMetDrain outlets more_outlets drains more_drains
