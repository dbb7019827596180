-- What the fabric's ends of the lanes do in a round.
use Rattle.std.specs.Prelude.{◌≡◌, ℕ, ◌+◌, ◌<◌, ◌≤◌, ◌⊎◌, List, [], length, slice_index_or, MatchBool}
use Rattle.std.specs.List.{All}
use mathlib.Core.List.{IsPrefix}
use Rattle.net_present.specs.Present.{Present}
use Rattle.fabric_parts.specs.Ready.{most_offered}
use Rattle.stream_rounds.specs.Presents.{at}
use Rattle.stream_rounds.specs.Sides.{IntakeSide, OutletSide}

-- ---- a source lane

-- From this present on the fabric takes all packets that it knows to be put, or as many as may be offered, and tells
-- whether it took any.
pub record Hears (p : Present) (before after : IntakeSide) : Type 0 where
  pub stream : after.stream ≡ before.stream
  pub lane : after.rx.lane ≡ before.rx.lane
  pub hears : IsPrefix before.rx.known after.rx.known
  pub longer : IsPrefix before.rx.got after.rx.got
  pub all : (after.rx.got ≡ after.rx.known) ⊎ ((at p after.stream).sent + most_offered ≤ length after.rx.got)
  pub tells : MatchBool after.moved (length before.rx.got < length after.rx.got) (after.rx.got ≡ before.rx.got)

-- ---- a drain lane

-- the fabric looks at the lane
pub record Looks (before after : OutletSide) : Type 0 where
  pub stream : after.stream ≡ before.stream
  pub lane : after.tx.lane ≡ before.tx.lane
  pub put : after.tx.put ≡ before.tx.put
  pub rises : before.tx.taken ≤ after.tx.taken
  pub sound : after.tx.taken ≤ length after.tx.put

-- the fabric puts packets, and tells whether it put any
pub record Hands (before after : OutletSide) : Type 0 where
  pub stream : after.stream ≡ before.stream
  pub lane : after.tx.lane ≡ before.tx.lane
  pub taken : after.tx.taken ≡ before.tx.taken
  pub longer : IsPrefix before.tx.put after.tx.put
  pub tells : MatchBool after.moved (length before.tx.put < length after.tx.put) (after.tx.put ≡ before.tx.put)

-- The fabric looks at the lane and puts packets. In this present nothing waits then to be put, and the machine counts as
-- many packets taken as the fabric knows to be.
pub record Passes (p : Present) (before after : OutletSide) : Type 0 where
  pub stream : after.stream ≡ before.stream
  pub lane : after.tx.lane ≡ before.tx.lane
  pub rises : before.tx.taken ≤ after.tx.taken
  pub longer : IsPrefix before.tx.put after.tx.put
  pub none : (at p after.stream).waiting ≡ []
  pub caught : (at p after.stream).taken ≡ after.tx.taken
  pub tells : MatchBool after.moved (length before.tx.put < length after.tx.put) (after.tx.put ≡ before.tx.put)

-- nothing waits to be put into any of the drain lanes
abbrev pub HaveNone : Present → List OutletSide → Type 0
HaveNone p outlets = All (λ (x : OutletSide). (at p x.stream).waiting ≡ []) outlets

-- ---- all lanes

-- so it is with each end of two lists
pub record Each {A : Type 0} (R : A → A → Type 0) (before after : List A) : Type 0 where
  pub count : length after ≡ length before
  pub each : (i : ℕ) (d : A) → i < length before → R (slice_index_or before i d) (slice_index_or after i d)

abbrev pub EachHears : Present → List IntakeSide → List IntakeSide → Type 0
EachHears p before after = Each (Hears p) before after

abbrev pub EachLooks : List OutletSide → List OutletSide → Type 0
EachLooks before after = Each Looks before after

abbrev pub EachHands : List OutletSide → List OutletSide → Type 0
EachHands before after = Each Hands before after

abbrev pub EachPasses : Present → List OutletSide → List OutletSide → Type 0
EachPasses p before after = Each (Passes p) before after
