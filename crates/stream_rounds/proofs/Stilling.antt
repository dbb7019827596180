-- A round in which nobody moved leaves no event enabled: before it both ends of each lane learned all that the other one did.
use Rattle.std.proofs.Common.{◌≡◌, ℕ, ◌+◌, ◌<◌, ◌≤◌, ◌⊎◌, inl, inr, Bool, true, List, [], ◌++◌, length, get_or, min, sym, ap, subst, arith, ◌∙◌, length-append}
use Rattle.std.specs.Prelude.{OnOk, Ok, Option, Result}
use Rattle.std.proofs.lemmas.Bool.{cases_lt}
use Rattle.std.proofs.lemmas.List.{append-nil, get_or_past}
use mathlib.Core.List.{IsPrefix}
use Rattle.block_library.specs.declared.plan.TxPlan.{TxPlan}
use Rattle.block_registers.specs.Registers.{Registers}
use Rattle.chdr_packets.specs.declared.packet.Packet.{Packet}
use Rattle.net_machine.specs.declared.plan.RunPlan.{RunPlan}
use Rattle.net_machine.specs.Conditions.{ends_at_rx}
use Rattle.net_machine.specs.Moves.{IsStill, after_journal}
use Rattle.net_machine.specs.State.{State, Stream, idle, stream_at}
use Rattle.net_present.specs.Present.{StreamNow}
use Rattle.rf_base.specs.declared.memory.Memory.{Memory}
use Rattle.fabric_events.specs.Choosing.{doable_list}
use Rattle.fabric_net.specs.NetView.{NetSeen}
use Rattle.fabric_net.specs.Offering.{AreSupplied, IsSupplied}
use Rattle.fabric_net.specs.Standing.{StandsFor}
use Rattle.fabric_parts.specs.Ready.{most_offered}
use Rattle.stream_lanes.specs.Sides.{DrainSide, SourceSide}
use Rattle.stream_rounds.specs.Between.{IsDrained, IsFed, IsGoing, makes_of}
use Rattle.stream_rounds.specs.Presents.{at}
use Rattle.stream_rounds.specs.Rounds.{IsIdle}
use Rattle.stream_rounds.specs.Sides.{Ends, IntakeSide, OutletSide}
use Rattle.stream_rounds.specs.Turns.{Passes}
use Rattle.stream_rounds.specs.Wiring.{IsWired}
use Rattle.stream_rounds.proofs.Draining.{given-count, taken-count}
use Rattle.stream_rounds.proofs.Hearing.{no-more}
use Rattle.stream_rounds.proofs.Idling.{few-inputs, is-still, only-takes, supplied-all, supplied-each, supplied-full}
use Rattle.stream_rounds.proofs.Rounding.{HasRound}

begins-shorter : (xs ys : List Packet) → IsPrefix xs ys → length xs ≤ length ys
begins-shorter xs ys begins =
    let sum = length-append xs begins.0 in let len = ap (λ (ps : List Packet). length ps) begins.1 in omega (arith, sum, len)

ok-holds : (r : Result (Unit {0}) Memory) (P : Type 0) → r ≡ Ok tt → OnOk r P → P
ok-holds r P is on = subst (λ (x : Result (Unit {0}) Memory). OnOk x P) is on

module _ (opened : State) (old new : NetSeen) (before banks : List (Option Registers)) (first met last : Ends) (stepped : Bool)
    (wired : IsWired new.present.plan last.sources last.intakes last.outlets last.drains)
    (going : IsGoing opened old before met.intakes met.outlets)
    (goes : IsGoing opened new banks last.intakes last.outlets)
    (round : HasRound old.present new.present first met last old.journal new.journal stepped)
    (sources_ok : (i : ℕ) (c : SourceSide) → i < length last.sources → (get_or last.sources i c).ended ≡ Ok tt)
    (drains_ok : (i : ℕ) (c : DrainSide) → i < length last.drains → (get_or last.drains i c).ended ≡ Ok tt)
    (settled : doable_list new.present ≡ []) (still : IsIdle first last old.journal new.journal)
    (c : SourceSide) (x : IntakeSide) (y : OutletSide) (d : DrainSide) where
  -- as many packets are sent as before
  sent-same : (s : ℕ) → (at old.present s).sent ≡ (at new.present s).sent
  sent-same s =
      ap (λ (st : StreamNow). st.sent) (going.stands.now.streams s).is
      ∙ ap (λ (v : State). length (stream_at v s).sent) (sym (ap (after_journal opened) still.journal))
      ∙ sym (ap (λ (st : StreamNow). st.sent) (goes.stands.now.streams s).is)

  -- the source lane at place i
  module _ (i : ℕ) (lt : i < length last.intakes) where
    within0 : i < length first.sources
    within0 = let a = round.hears.count in let b = round.ends_met.other in let e = round.intakes_count in omega (arith, lt, a, b, e)

    within1 : i < length met.sources
    within1 = let a = within0 in let b = round.ends_met.count in omega (arith, a, b)

    within2 : i < length last.sources
    within2 = let a = within1 in let b = round.fills.count in omega (arith, a, b)

    intake0 : i < length first.intakes
    intake0 = let a = within0 in let e = round.intakes_count in omega (arith, a, e)

    intake1 : i < length met.intakes
    intake1 = let a = intake0 in let b = round.ends_met.other in omega (arith, a, b)

    supplied-at : IsFed new.present (get_or last.intakes i x).stream (get_or last.intakes i x).rx
        → ((get_or last.intakes i x).rx.got ≡ (get_or last.intakes i x).rx.known)
        ⊎ ((at old.present (get_or last.intakes i x).stream).sent + most_offered ≤ length (get_or last.intakes i x).rx.got)
        → IsSupplied new.present (get_or last.intakes i x).stream
    supplied-at fed (inr full) =
        let same = sent-same (get_or last.intakes i x).stream in
        supplied-full new.present (get_or last.intakes i x).stream (get_or last.intakes i x).rx fed (omega (arith, full, same))
    supplied-at fed (inl all) =
        let m = round.ends_met.each i c x within0 in
        let f = round.fills.each i c within1 in
        let h = round.hears.each i x intake1 in
        let lane = wired.source i c x within2 in
        let put = ap (λ (ps : List Packet). length ps) (still.sources.each i c within0) in
        let got = ap (λ (ps : List Packet). length ps) (still.intakes.each i x intake0) in
        let known = ap (λ (ps : List Packet). length ps) m.known in
        let hears = begins-shorter (get_or met.intakes i x).rx.known (get_or last.intakes i x).rx.known h.hears in
        let took = ap (λ (ps : List Packet). length ps) all in
        let taken = m.taken in
        let rises = f.rises in
        supplied-all new.present (after_journal opened new.journal) (get_or last.intakes i x).stream (get_or last.intakes i x).rx (get_or last.sources i c).tx goes.stands fed
        (omega (arith, put, known, hears, took))
        lane.room
        (omega (arith, got, taken, rises))
        (ok-holds (get_or last.sources i c).ended _ (sources_ok i c within2) f.full
        ∙ ap (λ (t : TxPlan). min t.packets ((get_or last.sources i c).tx.lane.room + (get_or last.sources i c).tx.taken))
        (lane.makes ∙ ap (makes_of new.present.plan) (sym lane.stream)))

  supplied : AreSupplied new.present
  supplied = supplied-each new.present (λ s there tx.
      let end = wired.filled s (streams-in s there) tx in
      subst (λ t. IsSupplied new.present t) (end.is x)
      (supplied-at end.place end.within (goes.fed end.place x end.within)
      (round.hears.each end.place x (intake1 end.place end.within)).all))
    where
      streams-in : (s : ℕ) → s < length new.present.streams → s < length new.present.plan.streams
      streams-in s there =
          let many = goes.stands.now.as_many_streams in
          let same = goes.stands.lawful.steady.as_many in
          let plan = ap (λ (r : RunPlan). length r.streams) goes.stands.now.plan in
          omega (arith, there, many, same, plan)

  -- the drain lane at place i
  module _ (i : ℕ) (lt : i < length last.outlets) where
    outlet1 : i < length met.outlets
    outlet1 = let a = round.passes.count in omega (arith, lt, a)

    outlet0 : i < length first.outlets
    outlet0 = let a = outlet1 in let b = round.drains_met.count in omega (arith, a, b)

    drain0 : i < length first.drains
    drain0 = let a = outlet0 in let b = round.drains_count in omega (arith, a, b)

    drain1 : i < length met.drains
    drain1 = let a = drain0 in let b = round.drains_met.other in omega (arith, a, b)

    drain2 : i < length last.drains
    drain2 = let a = drain1 in let b = round.empties.count in omega (arith, a, b)

    -- all that was put was taken, and the machine counts it
    all-taken : (at new.present (get_or last.outlets i y).stream).given ≤ (at new.present (get_or last.outlets i y).stream).taken
    all-taken =
        let m = round.drains_met.each i y d outlet0 in
        let e = round.empties.each i d drain1 in
        let p = round.passes.each i y outlet1 in
        let drained = goes.drained i y lt in
        let given = given-count new.present (after_journal opened new.journal) (get_or last.outlets i y).stream goes.stands in
        let all = ap (λ (ps : List Packet). length ps) drained.given in
        let sum = length-append (get_or last.outlets i y).tx.put (at new.present (get_or last.outlets i y).stream).waiting in
        let none = ap (λ (ps : List Packet). length ps) p.none in
        let put = ap (λ (ps : List Packet). length ps) (still.outlets.each i y outlet0) in
        let got = ap (λ (ps : List Packet). length ps) (still.drains.each i d drain0) in
        let known = ap (λ (ps : List Packet). length ps) m.known in
        let hears = begins-shorter (get_or met.drains i d).rx.known (get_or last.drains i d).rx.known e.hears in
        let took = ap (λ (ps : List Packet). length ps) (ok-holds (get_or last.drains i d).ended _ (drains_ok i d drain2) e.all) in
        let taken = m.taken in
        let rises = p.rises in
        let caught = p.caught in
        omega (arith, given, all, sum, none, put, got, known, hears, took, taken, rises, caught)

  none-unseen : (v : State) → StandsFor new.present v → (s : ℕ) → ends_at_rx v.plan s ≡ true → length (stream_at v s).given ≤ (stream_at v s).taken
  none-unseen v stands s rx = by (cases_lt s (length v.streams))
    where
      by : (s < length v.streams) ⊎ (length v.streams ≤ s) → length (stream_at v s).given ≤ (stream_at v s).taken
      by (inl there) =
          let same = stands.lawful.steady.as_many in
          let plan = ap (λ (r : RunPlan). length r.streams) stands.now.plan in
          let end = wired.drained s (omega (arith, there, same, plan)) (subst (λ (r : RunPlan). ends_at_rx r s ≡ true) (sym stands.now.plan) rx) in
          let all = subst (λ t. (at new.present t).given ≤ (at new.present t).taken) (end.is y) (all-taken end.place end.within) in
          let given = given-count new.present v s stands in
          let taken = taken-count new.present v s stands in
          omega (arith, all, given, taken)
      by (inr past) = subst (λ (st : Stream). length st.given ≤ st.taken) (sym (get_or_past v.streams s idle past)) (omega arith)

  pub left-still : (v : State) → StandsFor new.present v → IsStill v
  left-still v stands =
      is-still v (only-takes new.present v (few-inputs v.tree v.plan stands.lawful.steady.plan) stands supplied settled) (none-unseen v stands)

  -- what the drain at place i took is what was given on its stream
  module _ (i : ℕ) (lt : i < length last.drains) where
    outlet2 : i < length last.outlets
    outlet2 = let many = wired.drains_count in omega (arith, lt, many)

    drain-put : (get_or last.drains i d).rx.got ≡ (get_or last.outlets i y).tx.put
    drain-put =
        let at0 = outlet0 i outlet2 in
        let m = round.drains_met.each i y d at0 in
        let e = round.empties.each i d (drain1 i outlet2) in
        let all = ok-holds (get_or last.drains i d).ended _ (drains_ok i d (drain2 i outlet2)) e.all in
        let took = ap (λ (ps : List Packet). length ps) all in
        let same = still.drains.each i d (drain0 i outlet2) in
        let got = ap (λ (ps : List Packet). length ps) same in
        let known = ap (λ (ps : List Packet). length ps) m.known in
        let hears = begins-shorter (get_or met.drains i d).rx.known (get_or last.drains i d).rx.known e.hears in
        same
        ∙ no-more (get_or first.drains i d).rx.got (get_or first.outlets i y).tx.put m.order (omega (arith, took, got, known, hears))
        ∙ sym (still.outlets.each i y at0)

    pub drain-taken : ((get_or last.drains i d).rx.got ≡ (stream_at (after_journal opened new.journal) (get_or last.drains i d).stream).given)
        × ((stream_at (after_journal opened new.journal) (get_or last.drains i d).stream).taken ≡ length (get_or last.drains i d).rx.got)
    drain-taken = subst (λ s. ((get_or last.drains i d).rx.got ≡ (stream_at (after_journal opened new.journal) s).given)
        × ((stream_at (after_journal opened new.journal) s).taken ≡ length (get_or last.drains i d).rx.got)) (sym (wired.drain i y d outlet2).stream) (
          (drain-put ∙ sym (append-nil (get_or last.outlets i y).tx.put)
              ∙ ap (λ (ps : List Packet). (get_or last.outlets i y).tx.put ++ ps) (sym p.none) ∙ drained.given),
          sym (taken-count new.present (after_journal opened new.journal) (get_or last.outlets i y).stream goes.stands) ∙ p.caught
              ∙ (let m = (round.drains_met.each i y d (outlet0 i outlet2)).taken in
              let rises = p.rises in
              let sound = drained.sound in
              let got = ap (λ (ps : List Packet). length ps) (still.drains.each i d (drain0 i outlet2)) in
              let put = ap (λ (ps : List Packet). length ps) drain-put in
              omega (arith, m, rises, sound, got, put)),
        )
      where
        p : Passes new.present (get_or met.outlets i y) (get_or last.outlets i y)
        p = round.passes.each i y (outlet1 i outlet2)

        drained : IsDrained new.present (after_journal opened new.journal) (get_or last.outlets i y).stream (get_or last.outlets i y).tx
        drained = goes.drained i y outlet2
