-- A run on one thread: what happens next, and what holds between its events.
use Rattle.std.specs.Prelude.{◌≡◌, ℕ, ◌++◌, true, List, length, Option, None, Some}
use Rattle.block_registers.specs.Registers.{Registers}
use Rattle.chdr_packets.specs.declared.packet.Packet.{Packet}
use Rattle.net_machine.specs.declared.event.Event.{Event}
use Rattle.net_machine.specs.declared.plan.RunPlan.{RunPlan}
use Rattle.net_machine.specs.CanBegin.{CanBegin}
use Rattle.net_machine.specs.Choice.{IsChosen, next_of, seed_of}
use Rattle.net_machine.specs.Conditions.{ends_at_rx}
use Rattle.net_machine.specs.Effects.{after}
use Rattle.net_machine.specs.Moves.{IsAtRest, after_journal}
use Rattle.net_machine.specs.State.{State, stream_at}
use Rattle.net_lawful.specs.Lawful.{Lawful}
use Rattle.net_present.specs.Present.{Present}
use Rattle.fabric_net.specs.NetView.{NetSeen}
use Rattle.fabric_net.specs.Standing.{StandsFor}
use Rattle.stream_pump.specs.Drains.{AreTaken, drain_at, waiting_at}

-- a plan can run on a lawful network at rest
pub record CanRun (plan : RunPlan) (w : State) : Type 0 where
  pub lawful : Lawful w
  pub rest : IsAtRest w
  pub can : CanBegin w.tree w.nodes plan

-- the state that an event leaves, if there is one
abbrev pub after_next : State → Option Event → State
after_next w None = w
after_next w (Some e) = after w e

-- This happens next, with this seed left. What waits and what was handed out is all that was given, and once the
-- event has happened, what was handed out is taken.
pub record IsNext (seed : ℕ) (w : State) (next : Option Event) (left : ℕ) (p : Present) (drains : List (List Packet)) : Type 0 where
  pub event : next ≡ next_of seed w
  pub seeds : left ≡ seed_of seed w
  pub stands : StandsFor p w
  pub given : (s : ℕ) → ends_at_rx w.plan s ≡ true → drain_at drains s ++ waiting_at p s ≡ (stream_at w s).given
  pub taken : (s : ℕ) → ends_at_rx w.plan s ≡ true → (stream_at (after_next w next) s).taken ≡ length (drain_at drains s)

-- a run may go on from this state: the net stands for it, and each Rx has what was handed out to it
pub record IsOpen (p : Present) (banks : List (Option Registers)) (drains : List (List Packet)) (w : State) : Type 0 where
  pub stands : StandsFor p w
  pub slots : w.banks ≡ banks
  pub taken : AreTaken p w drains

-- The journal of a net leads from the first state to one from which the run goes on: what is chosen from there with
-- the seed that is left completes what is chosen from the first state on.
pub record IsRunning (seed : ℕ) (opened : State) (left : ℕ) (net : NetSeen) (banks : List (Option Registers)) (drains : List (List Packet)) : Type 0 where
  pub here : IsOpen net.present banks drains (after_journal opened net.journal)
  pub goes_on : (rest : List Event) → IsChosen left (after_journal opened net.journal) rest → IsChosen seed opened (net.journal ++ rest)

-- the run is at its end
pub record HasRun (seed : ℕ) (opened : State) (net : NetSeen) (banks : List (Option Registers)) (drains : List (List Packet)) : Type 0 where
  pub here : IsOpen net.present banks drains (after_journal opened net.journal)
  pub chosen : IsChosen seed opened net.journal
