-- When a sender may give a command: the conditions of whoever sees the whole stream, and their tests.
use Rattle.std.specs.Prelude.{◌≡◌, ◌⊎◌, ℕ, Bool, true, false, ◌&&◌, ◌||◌, not, Option, Some, None}
use Rattle.chdr_words.specs.declared.command.CmdOp.{CmdOp}
use Rattle.chdr_words.specs.declared.command.CmdOp.TheVariants.{Init, Ping, Resync, Other}
use Rattle.stream_endpoint.specs.declared.count.Count.{Count}
use Rattle.stream_endpoint.specs.declared.flow.Flow.{Flow}
use Rattle.stream_endpoint.specs.declared.state.OutState.{OutState}
use Rattle.stream_endpoint.specs.declared.state.OutState.TheVariants.{Opening, Running, Halted, Resyncing}
use Rattle.stream_endpoint.specs.Flow.{HasCredit, has_room}
use Rattle.stream_endpoint.specs.Sender.{Sender, is_covered, is_running}

-- The producer can't go on: its next packet, of this wire size, has no credit; or there is none, and it
-- makes no more.
abbrev pub IsStuckAt : Flow → Count → Bool → Option ℕ → Type 0
IsStuckAt flow outstanding finished None = finished ≡ true
IsStuckAt flow outstanding finished (Some wire) = HasCredit flow outstanding wire → ⊥

-- the test of it
abbrev pub is_stuck_at : Flow → Count → Bool → Option ℕ → Bool
is_stuck_at flow outstanding finished None = finished
is_stuck_at flow outstanding finished (Some wire) = not (has_room flow outstanding wire)

-- A PING goes when nothing of the stream is under way, something is outstanding, and the producer can't go
-- on. Nothing is then sent behind it until it is answered.
pub record CallsForPing (s : Sender) (Quiet Stuck : Type 0) : Type 0 where
  pub running : s.state ≡ Running
  pub quiet : Quiet
  pub not_covered : is_covered s ≡ false
  pub stuck : Stuck

-- INIT and RESYNC go in their states at first, and again once their answer can't come any more. `Quiet` says
-- that nothing of the stream is under way or due, and that all that was given is taken.
abbrev pub MayOrder : Sender → Type 0 → Type 0 → CmdOp → Type 0
MayOrder s Quiet Stuck Init = (s.state ≡ Opening) × ((s.commanded ≡ false) ⊎ Quiet)
MayOrder s Quiet Stuck Ping = CallsForPing s Quiet Stuck
MayOrder s Quiet Stuck Resync = (s.state ≡ Resyncing) × ((s.commanded ≡ false) ⊎ Quiet)
MayOrder s Quiet Stuck (Other code) = ⊥

abbrev pub is_opening : OutState → Bool
is_opening Opening = true
is_opening Running = false
is_opening Halted = false
is_opening Resyncing = false

abbrev pub is_resyncing : OutState → Bool
is_resyncing Opening = false
is_resyncing Running = false
is_resyncing Halted = false
is_resyncing Resyncing = true

-- the test of `MayOrder`
abbrev pub may_order : Sender → Bool → Bool → CmdOp → Bool
may_order s quiet stuck Init = is_opening s.state && (not s.commanded || quiet)
may_order s quiet stuck Ping = is_running s.state && (quiet && (not (is_covered s) && stuck))
may_order s quiet stuck Resync = is_resyncing s.state && (not s.commanded || quiet)
may_order s quiet stuck (Other code) = false
