-- What a round does, and what it leaves.
use Rattle.std.specs.Prelude.{◌≡◌, ◌<◌, ◌||◌, Bool, true, false, List, [], length, Option, Result, IfOk, MatchBool, OnOk}
use Rattle.std.specs.List.{All, list_any}
use Rattle.block_registers.specs.Registers.{Registers}
use Rattle.net_machine.specs.declared.event.Event.{Event}
use Rattle.net_machine.specs.Moves.{IsStill, after_journal}
use Rattle.net_machine.specs.State.{State, stream_at}
use Rattle.rf_base.specs.declared.memory.Memory.{Memory}
use Rattle.fabric_events.specs.Choosing.{doable_list}
use Rattle.fabric_net.specs.NetView.{NetSeen}
use Rattle.fabric_net.specs.Standing.{StandsFor}
use Rattle.stream_lanes.specs.Sides.{DrainSide, SourceSide}
use Rattle.stream_lanes.specs.Working.{any_moved}
use Rattle.stream_rounds.specs.Between.{AreCaughtUp, IsGoing}
use Rattle.stream_rounds.specs.Sides.{Ends, IntakeSide, OutletSide}
use Rattle.stream_rounds.specs.Turns.{Each, EachHears, EachPasses, HaveNone}
use Rattle.stream_rounds.specs.Wiring.{IsWired}

-- the same packets were put, by a source and by the fabric
abbrev pub SourcePutNone : SourceSide → SourceSide → Type 0
SourcePutNone before after = after.tx.put ≡ before.tx.put

abbrev pub FabricPutNone : OutletSide → OutletSide → Type 0
FabricPutNone before after = after.tx.put ≡ before.tx.put

-- the same packets were taken, by the fabric and by a drain
abbrev pub FabricTookNone : IntakeSide → IntakeSide → Type 0
FabricTookNone before after = after.rx.got ≡ before.rx.got

abbrev pub DrainTookNone : DrainSide → DrainSide → Type 0
DrainTookNone before after = after.rx.got ≡ before.rx.got

-- nothing was put and nothing taken, and nothing happened
pub record IsIdle (before after : Ends) (old new : List Event) : Type 0 where
  pub sources : Each SourcePutNone before.sources after.sources
  pub intakes : Each FabricTookNone before.intakes after.intakes
  pub outlets : Each FabricPutNone before.outlets after.outlets
  pub drains : Each DrainTookNone before.drains after.drains
  pub journal : new ≡ old

-- the fabric took or put a packet
abbrev pub any_passed : List IntakeSide → List OutletSide → Bool
any_passed intakes outlets = list_any (λ (x : IntakeSide). x.moved) intakes || list_any (λ (x : OutletSide). x.moved) outlets

-- some worker put or took a packet, or the fabric let an event happen
abbrev pub has_moved : Ends → Bool → Bool
has_moved ends stepped = (any_moved ends.sources ends.drains || stepped) || any_passed ends.intakes ends.outlets

-- What each drain took is what was given on its stream, and the machine counts it taken.
abbrev pub HaveTaken : State → List DrainSide → Type 0
HaveTaken w drains = All (λ (x : DrainSide). (x.rx.got ≡ (stream_at w x.stream).given) × ((stream_at w x.stream).taken ≡ length x.rx.got)) drains

-- The fabric took its turn. It let events happen from the state that the net stood for, and its ends of the lanes are as far as the state
-- that they left; of the source lanes it took what it could, the drain lanes got all that was given, none but a taking can happen, and it
-- tells whether any event happened. Nothing is said where memory ran out.
pub record HasTurned (old new : NetSeen) (before banks : List (Option Registers)) (intakes more_intakes : List IntakeSide)
    (outlets more_outlets : List OutletSide) (ended : Result Bool Memory) : Type 0 where
  pub going : OnOk ended ((opened : State) → IsGoing opened old before intakes outlets → IsGoing opened new banks more_intakes more_outlets)
  pub hears : OnOk ended (EachHears old.present intakes more_intakes)
  pub passes : OnOk ended (EachPasses new.present outlets more_outlets)
  pub settled : OnOk ended (doable_list new.present ≡ [])
  pub tells : IfOk ended (λ stepped. MatchBool stepped (length old.journal < length new.journal) (new.journal ≡ old.journal))

-- A round happened, from this net and these ends of the lanes on, in which somebody moved or nobody did.
pub record IsRound (old new : NetSeen) (before banks : List (Option Registers)) (first last : Ends) (moved : Bool) : Type 0 where
  -- the lanes have the same ends
  pub wired : IsWired new.present.plan last.sources last.intakes last.outlets last.drains
  -- a legal journal led on, and the fabric's ends of the lanes are as far as the state that it left
  pub going : (opened : State) → IsGoing opened old before first.intakes first.outlets → IsGoing opened new banks last.intakes last.outlets
  -- all that was given was put into the drain lanes, and the machine counts taken what the fabric knows to be
  pub none : HaveNone new.present last.outlets
  pub caught : AreCaughtUp new.present last.outlets
  -- none but a taking can happen
  pub settled : doable_list new.present ≡ []
  -- nobody moved exactly where the lists of all lanes and the journal are as before
  pub idle : moved ≡ false → IsIdle first last old.journal new.journal
  pub busy : moved ≡ true → IsIdle first last old.journal new.journal → ⊥
  -- then no event is enabled, and each drain took what was given on its stream
  pub still : moved ≡ false → (w : State) → StandsFor new.present w → IsStill w
  pub taken : moved ≡ false → (opened : State) → IsGoing opened old before first.intakes first.outlets
      → HaveTaken (after_journal opened new.journal) last.drains
