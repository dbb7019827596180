-- What the workers at the edges do in a round.
use Rattle.std.specs.Prelude.{◌≡◌, ◌+◌, ◌<◌, ◌≤◌, ◌||◌, ℕ, Bool, List, length, min, slice_index_or, MatchBool, Ok, OnOk}
use Rattle.std.specs.List.{All, list_any}
use mathlib.Core.List.{IsPrefix}
use Rattle.stream_lanes.specs.Sides.{DrainSide, SourceSide}

-- A source puts the next packets that its Tx makes, as many as the room that it knows then allows, and tells whether it
-- put any.
pub record Fills (before after : SourceSide) : Type 0 where
  pub stream : after.stream ≡ before.stream
  pub makes : after.makes ≡ before.makes
  pub lane : after.tx.lane ≡ before.tx.lane
  pub rises : before.tx.taken ≤ after.tx.taken
  pub longer : IsPrefix before.tx.put after.tx.put
  pub full : OnOk after.ended (length after.tx.put ≡ min after.makes.packets (after.tx.lane.room + after.tx.taken))
  pub tells : MatchBool after.moved (length before.tx.put < length after.tx.put) (after.tx.put ≡ before.tx.put)

-- A drain takes all packets that it knows then to be put, and tells whether it took any.
pub record Empties (before after : DrainSide) : Type 0 where
  pub stream : after.stream ≡ before.stream
  pub lane : after.rx.lane ≡ before.rx.lane
  pub hears : IsPrefix before.rx.known after.rx.known
  pub longer : IsPrefix before.rx.got after.rx.got
  pub all : OnOk after.ended (after.rx.got ≡ after.rx.known)
  pub tells : MatchBool after.moved (length before.rx.got < length after.rx.got) (after.rx.got ≡ before.rx.got)

-- so does each source
pub record EachFills (before after : List SourceSide) : Type 0 where
  pub count : length after ≡ length before
  pub each : (i : ℕ) (d : SourceSide) → i < length before → Fills (slice_index_or before i d) (slice_index_or after i d)

-- so does each drain
pub record EachEmpties (before after : List DrainSide) : Type 0 where
  pub count : length after ≡ length before
  pub each : (i : ℕ) (d : DrainSide) → i < length before → Empties (slice_index_or before i d) (slice_index_or after i d)

-- the last round went well for each of them
pub record AllEnded (fillers : List SourceSide) (takers : List DrainSide) : Type 0 where
  pub sources : All (λ (x : SourceSide). x.ended ≡ Ok tt) fillers
  pub drains : All (λ (x : DrainSide). x.ended ≡ Ok tt) takers

-- one of them put or took a packet
abbrev pub any_moved : List SourceSide → List DrainSide → Bool
any_moved sources drains = list_any (λ (x : SourceSide). x.moved) sources || list_any (λ (x : DrainSide). x.moved) drains
