-- What a host's request, and each step after it, does to a net.
use Rattle.std.specs.Prelude.{◌≡◌, ℕ, ◌++◌, List, Option}
use Rattle.block_registers.specs.Registers.{Registers}
use Rattle.chdr_packets.specs.declared.packet.Packet.{Packet}
use Rattle.net_machine.specs.declared.event.Event.{Event}
use Rattle.net_machine.specs.Moves.{after_journal}
use Rattle.net_machine.specs.State.{State}
use Rattle.net_present.specs.Present.{Present}
use Rattle.net_lone.specs.Runs.{IsFirst}
use Rattle.net_lone.specs.Stages.{IsLone, Lone, state_of}
use Rattle.net_lone.specs.Talks.{IsTalk}
use Rattle.fabric_net.specs.NetView.{NetSeen}
use Rattle.fabric_net.specs.Standing.{StandsFor}

-- a net stands for a network with one message, over these registers
pub record IsOpen (p : Present) (slots : List (Option Registers)) (w : State) : Type 0 where
  pub stands : StandsFor p w
  pub banks : w.banks ≡ slots
  pub message : Lone
  pub lone : IsLone message
  pub state : w ≡ state_of message

-- a journal of first events leads from a state to one for which the net stands, and others may follow
pub record GoesTo (w : State) (journal : List Event) (p : Present) (banks : List (Option Registers)) : Type 0 where
  pub here : IsOpen p banks (after_journal w journal)
  pub goes_on : (rest : List Event) → IsFirst (after_journal w journal) rest → IsFirst w (journal ++ rest)

-- so it is from each state for which the net stood
pub record IsGoing (old : NetSeen) (banks : List (Option Registers)) (new : NetSeen) (left : List (Option Registers)) : Type 0 where
  pub journal : List Event
  pub written : new.journal ≡ old.journal ++ journal
  pub each : (w : State) → IsOpen old.present banks w → GoesTo w journal new.present left

-- no event follows any more
pub record EndsAt (w : State) (journal : List Event) (p : Present) (banks : List (Option Registers)) : Type 0 where
  pub here : IsOpen p banks (after_journal w journal)
  pub first : IsFirst w journal

pub record HasSettled (old : NetSeen) (banks : List (Option Registers)) (new : NetSeen) (left : List (Option Registers)) : Type 0 where
  pub journal : List Event
  pub written : new.journal ≡ old.journal ++ journal
  pub each : (w : State) → IsOpen old.present banks w → EndsAt w journal new.present left

-- a talk of node x with this journal leaves a state for which the net stands, over these registers
pub record LeavesTalk (w : State) (x : ℕ) (p : Packet) (journal : List Event) (found : Option Packet) (new : Present) (left : List (Option Registers)) : Type 0 where
  pub state : State
  pub talk : IsTalk w x p journal found state
  pub stands : StandsFor new state
  pub banks : state.banks ≡ left

-- The journal of a net goes on by that of a talk, and so does the net from each state for which it stood.
pub record HasTalked (old : NetSeen) (banks : List (Option Registers)) (x : ℕ) (p : Packet) (found : Option Packet) (new : NetSeen) (left : List (Option Registers)) : Type 0 where
  pub journal : List Event
  pub written : new.journal ≡ old.journal ++ journal
  pub each : (w : State) → StandsFor old.present w → w.banks ≡ banks → LeavesTalk w x p journal found new.present left
