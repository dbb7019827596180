-- What holds of a net and the fabric's ends of its lanes, between events and between rounds.
use Rattle.std.specs.Prelude.{◌≡◌, ℕ, ◌+◌, ◌<◌, ◌≤◌, ◌++◌, true, List, length, drop, Option, slice_index_or}
use Rattle.std.specs.List.{All}
use Rattle.std.specs.Option.{option_map_or}
use mathlib.Core.List.{IsPrefix}
use Rattle.block_library.specs.Producer.{produced}
use Rattle.block_library.specs.declared.plan.TxPlan.{TxPlan}
use Rattle.block_registers.specs.Registers.{Registers}
use Rattle.credit_lane.specs.declared.plan.LanePlan.TheVariants.{Any, Producer}
use Rattle.credit_lane.specs.Sides.{PutSide, TakeSide}
use Rattle.net_machine.specs.declared.plan.RunPlan.{RunPlan}
use Rattle.net_machine.specs.Begin.{source_of}
use Rattle.net_machine.specs.Conditions.{ends_at_rx}
use Rattle.net_machine.specs.Moves.{IsLegal, after_journal, moves_of}
use Rattle.net_machine.specs.Plans.{block_at, no_block, no_epid, plan_at, producer_of}
use Rattle.net_machine.specs.State.{State, stream_at}
use Rattle.net_present.specs.Present.{Present}
use Rattle.fabric_lists.specs.Opened.{is_tx_stream}
use Rattle.fabric_net.specs.NetView.{NetSeen}
use Rattle.fabric_net.specs.Standing.{StandsFor}
use Rattle.stream_rounds.specs.Presents.{at}
use Rattle.stream_rounds.specs.Sides.{IntakeSide, OutletSide}

-- what the Tx of stream s makes
abbrev pub makes_of : RunPlan → ℕ → TxPlan
makes_of plan s = option_map_or (λ b. source_of (block_at plan b) (plan_at plan s).to) (producer_of plan s) (source_of no_block no_epid)

-- What the fabric took from the source lane of stream s is the front of what the stream's Tx makes, and it is as many
-- packets as entered and were offered. What is ready is the rest behind those that entered.
pub record IsFed (p : Present) (s : ℕ) (rx : TakeSide) : Type 0 where
  pub there : s < length p.streams
  pub tx : is_tx_stream p.plan s ≡ true
  pub plan : rx.lane.plan ≡ Producer (makes_of p.plan s)
  pub front : IsPrefix rx.got (produced (makes_of p.plan s))
  pub many : length rx.got ≡ (at p s).sent + (at p s).offered
  pub ready : (at p s).ready ≡ drop (at p s).sent (produced (makes_of p.plan s))

-- What the fabric put into the drain lane of stream s, and what waits to be put, is what was given on the stream. The
-- lane has room for as many packets as the stream's receiver may hold, and the fabric knows as many packets to be taken
-- from it as the machine, or more.
pub record IsDrained (p : Present) (w : State) (s : ℕ) (tx : PutSide) : Type 0 where
  pub there : s < length p.streams
  pub rx : ends_at_rx p.plan s ≡ true
  pub plan : tx.lane.plan ≡ Any
  pub room : tx.lane.room ≡ (plan_at p.plan s).flow.cap_packets
  pub given : tx.put ++ (at p s).waiting ≡ (stream_at w s).given
  pub known : (at p s).taken ≤ tx.taken
  pub sound : tx.taken ≤ length tx.put

-- no two of the fabric's ends are of one stream
pub record AreApart {A : Type 0} (stream : A → ℕ) (ends : List A) : Type 0 where
  pub apart : (i j : ℕ) (d : A) → i < length ends → j < length ends
      → stream (slice_index_or ends i d) ≡ stream (slice_index_or ends j d) → i ≡ j

-- A legal journal led from the first state of a run to one for which the net stands, with these registers, and the
-- fabric's ends of the lanes are as far as that state.
pub record IsGoing (opened : State) (net : NetSeen) (banks : List (Option Registers)) (intakes : List IntakeSide)
    (outlets : List OutletSide) : Type 0 where
  pub legal : IsLegal opened (moves_of net.journal)
  pub stands : StandsFor net.present (after_journal opened net.journal)
  pub slots : (after_journal opened net.journal).banks ≡ banks
  pub intakes_apart : AreApart (λ (x : IntakeSide). x.stream) intakes
  pub outlets_apart : AreApart (λ (x : OutletSide). x.stream) outlets
  pub fed : All (λ (x : IntakeSide). IsFed net.present x.stream x.rx) intakes
  pub drained : All (λ (x : OutletSide). IsDrained net.present (after_journal opened net.journal) x.stream x.tx) outlets

-- the fabric's ends of the source lanes are as far as some state of a run
pub record AreFed (net : NetSeen) (intakes : List IntakeSide) : Type 0 where
  pub opened : State
  pub banks : List (Option Registers)
  pub outlets : List OutletSide
  pub going : IsGoing opened net banks intakes outlets

-- so are its ends of the drain lanes
pub record AreServed (net : NetSeen) (outlets : List OutletSide) : Type 0 where
  pub opened : State
  pub banks : List (Option Registers)
  pub intakes : List IntakeSide
  pub going : IsGoing opened net banks intakes outlets

-- the machine counts as many packets taken as the fabric's ends of the drain lanes know to be
abbrev pub AreCaughtUp : Present → List OutletSide → Type 0
AreCaughtUp p outlets = All (λ (x : OutletSide). (at p x.stream).taken ≡ x.tx.taken) outlets
