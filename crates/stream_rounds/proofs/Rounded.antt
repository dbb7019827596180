-- What the meetings and then the workers did is a round.
use Rattle.std.proofs.Common.{◌≡◌, ◌<◌, Bool, false, List, [], length, sym, subst, arith, ◌∙◌}
use Rattle.std.specs.Prelude.{IfOk, MatchBool, Ok, OnOk, Option, Result}
use Rattle.block_registers.specs.Registers.{Registers}
use Rattle.net_machine.specs.Moves.{moves_of}
use Rattle.net_machine.specs.State.{State}
use Rattle.net_machine.specs.declared.plan.RunPlan.{RunPlan}
use Rattle.net_machine.proofs.Laws.{shapes_stay}
use Rattle.rf_base.specs.declared.memory.Memory.{Memory}
use Rattle.fabric_events.specs.Choosing.{doable_list}
use Rattle.fabric_net.specs.NetView.{NetSeen}
use Rattle.stream_lanes.specs.Sides.{DrainSide, SourceSide}
use Rattle.stream_lanes.specs.Working.{AllEnded, EachEmpties, EachFills}
use Rattle.stream_rounds.specs.Between.{IsGoing}
use Rattle.stream_rounds.specs.Meeting.{AllDrainsHaveMet, AllHaveMet}
use Rattle.stream_rounds.specs.Rounds.{HasTurned, IsIdle, IsRound, has_moved}
use Rattle.stream_rounds.specs.Sides.{Ends, IntakeSide, OutletSide}
use Rattle.stream_rounds.specs.Turns.{EachHears, EachPasses}
use Rattle.stream_rounds.specs.Wiring.{IsWired}
use Rattle.stream_rounds.proofs.Blanks.{no_drain, no_intake, no_outlet, no_source}
use Rattle.stream_rounds.proofs.Meeting.{going-met}
use Rattle.stream_rounds.proofs.Rounding.{HasRound, idle-lists, moved-lists, wired-met, wired-worked}
use Rattle.stream_rounds.proofs.Stilling.{drain-taken, left-still}

-- events leave the plan
plan-of : (opened : State) (net : NetSeen) (banks : List (Option Registers)) (xs : List IntakeSide) (ys : List OutletSide)
    → IsGoing opened net banks xs ys → net.present.plan ≡ opened.plan
plan-of opened net banks xs ys going = going.stands.now.plan ∙ (shapes_stay opened (moves_of net.journal)).plan

-- the fabric's ends are as far as before once all ends met
pub met-going : (opened : State) (net : NetSeen) (banks : List (Option Registers)) (first : Ends) (more : List SourceSide) (us : List IntakeSide)
    (vs : List OutletSide) (last : List DrainSide) → IsWired net.present.plan first.sources first.intakes first.outlets first.drains
    → AllHaveMet first.sources more first.intakes us → AllDrainsHaveMet first.outlets vs first.drains last
    → IsGoing opened net banks first.intakes first.outlets → IsGoing opened net banks us vs
met-going opened net banks first more us vs last wired met drained going =
    going-met opened net banks first.sources more first.intakes us first.outlets vs first.drains last no_source no_drain wired.intakes_count met drained going

module _ (old new : NetSeen) (before banks : List (Option Registers)) (first met last : Ends) (stepped : Bool)
    (wired : IsWired old.present.plan first.sources first.intakes first.outlets first.drains)
    (sources_met : AllHaveMet first.sources met.sources first.intakes met.intakes)
    (drains_met : AllDrainsHaveMet first.outlets met.outlets first.drains met.drains)
    (fills : EachFills met.sources last.sources) (empties : EachEmpties met.drains last.drains)
    (goes : (opened : State) → IsGoing opened old before met.intakes met.outlets → IsGoing opened new banks last.intakes last.outlets)
    (hears : EachHears old.present met.intakes last.intakes) (passes : EachPasses new.present met.outlets last.outlets)
    (settled : doable_list new.present ≡ [])
    (tells : MatchBool stepped (length old.journal < length new.journal) (new.journal ≡ old.journal))
    (ended : AllEnded last.sources last.drains) where
  round : HasRound old.present new.present first met last old.journal new.journal stepped
  round = record {
    ends_met = sources_met;
    drains_met = drains_met;
    fills = fills;
    hears = hears;
    passes = passes;
    empties = empties;
    journal = tells;
    intakes_count = wired.intakes_count;
    drains_count = wired.drains_count;
  }

  meets : (opened : State) → IsGoing opened old before first.intakes first.outlets → IsGoing opened old before met.intakes met.outlets
  meets opened going =
      met-going opened old before first met.sources met.intakes met.outlets met.drains wired sources_met drains_met going

  module _ (start : (opened : State) × IsGoing opened old before first.intakes first.outlets) where
    wired-then : IsWired new.present.plan last.sources last.intakes last.outlets last.drains
    wired-then = subst (λ (plan : RunPlan). IsWired plan last.sources last.intakes last.outlets last.drains) same
        (wired-worked old.present.plan old.present new.present met.sources last.sources met.intakes last.intakes met.outlets last.outlets met.drains last.drains
        fills hears passes empties
        (wired-met old.present.plan first.sources met.sources first.intakes met.intakes first.outlets met.outlets first.drains met.drains
        no_source no_intake no_outlet no_drain sources_met drains_met wired))
      where
        same : old.present.plan ≡ new.present.plan
        same = plan-of start.0 old before first.intakes first.outlets start.1
            ∙ sym (plan-of start.0 new banks last.intakes last.outlets (goes start.0 (meets start.0 start.1)))

    idle : has_moved last stepped ≡ false → IsIdle first last old.journal new.journal
    idle none =
        idle-lists old.present new.present first met last old.journal new.journal stepped round no_source no_intake no_outlet no_drain none

    pub rounded : IsRound old new before banks first last (has_moved last stepped)
    rounded = record {
      wired = wired-then;
      going = λ opened going. goes opened (meets opened going);
      none = λ i d lt. (passes.each i d (let many = passes.count in omega (arith, lt, many))).none;
      caught = λ i d lt. (passes.each i d (let many = passes.count in omega (arith, lt, many))).caught;
      settled = settled;
      idle = idle;
      busy = λ some. moved-lists old.present new.present first met last old.journal new.journal stepped round no_source no_intake no_outlet no_drain some;
      still = λ none w stands.
          left-still start.0 old new before banks first met last stepped wired-then (meets start.0 start.1) (goes start.0 (meets start.0 start.1)) round
          ended.sources ended.drains settled (idle none) no_source no_intake no_outlet no_drain w stands;
      taken = λ none opened going i d lt.
          drain-taken opened old new before banks first met last stepped wired-then (meets opened going) (goes opened (meets opened going)) round
          ended.sources ended.drains settled (idle none) no_source no_intake no_outlet d i lt;
    }

-- ---- from what the fabric's worker keeps

ok-on : (r : Result Bool Memory) (b : Bool) (P : Type 0) → r ≡ Ok b → OnOk r P → P
ok-on r b P is on = subst (λ (x : Result Bool Memory). OnOk x P) is on

ok-if : (r : Result Bool Memory) (b : Bool) (P : Bool → Type 0) → r ≡ Ok b → IfOk r P → P b
ok-if r b P is on = subst (λ (x : Result Bool Memory). IfOk x P) is on

pub turned-round : (old new : NetSeen) (before banks : List (Option Registers)) (first met last : Ends) (stepped moved : Bool) (kept : Result Bool Memory)
    → IsWired old.present.plan first.sources first.intakes first.outlets first.drains
    → ((opened : State) × IsGoing opened old before first.intakes first.outlets)
    → AllHaveMet first.sources met.sources first.intakes met.intakes → AllDrainsHaveMet first.outlets met.outlets first.drains met.drains
    → EachFills met.sources last.sources → EachEmpties met.drains last.drains
    → HasTurned old new before banks met.intakes last.intakes met.outlets last.outlets kept → kept ≡ Ok stepped
    → AllEnded last.sources last.drains → moved ≡ has_moved last stepped → IsRound old new before banks first last moved
turned-round old new before banks first met last stepped moved kept wired start sources drains fills empties turned is ended tells =
    subst (λ (b : Bool). IsRound old new before banks first last b) (sym tells)
    (rounded old new before banks first met last stepped wired sources drains fills empties
    (ok-on kept stepped _ is turned.going) (ok-on kept stepped _ is turned.hears) (ok-on kept stepped _ is turned.passes)
    (ok-on kept stepped _ is turned.settled) (ok-if kept stepped _ is turned.tells) ended start)
