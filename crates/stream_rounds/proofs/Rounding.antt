-- A round: what the workers did, one by one, makes what the round did.
use Rattle.std.proofs.Common.{◌≡◌, ℕ, zero, suc, ◌<◌, Bool, true, false, List, [], ◌∷◌, length, get_or, refl, sym, ap, arith, ◌∙◌}
use Rattle.std.specs.Prelude.{MatchBool, ◌||◌}
use Rattle.std.specs.List.{list_any}
use Rattle.std.proofs.lemmas.Bool.{false≢true}
use Rattle.chdr_packets.specs.declared.packet.Packet.{Packet}
use Rattle.credit_lane.specs.Sides.{LaneId}
use Rattle.net_machine.specs.declared.event.Event.{Event}
use Rattle.net_machine.specs.declared.plan.RunPlan.{RunPlan}
use Rattle.stream_lanes.specs.Sides.{DrainSide, SourceSide}
use Rattle.stream_lanes.specs.Working.{EachEmpties, EachFills, any_moved}
use Rattle.stream_rounds.specs.Between.{makes_of}
use Rattle.stream_rounds.specs.Meeting.{AllDrainsHaveMet, AllHaveMet}
use Rattle.stream_rounds.specs.Rounds.{IsIdle, any_passed, has_moved}
use Rattle.stream_rounds.specs.Sides.{Ends, IntakeSide, OutletSide}
use Rattle.stream_rounds.specs.Turns.{EachHears, EachPasses}
use Rattle.stream_rounds.specs.Wiring.{HasEnd, IsWired}
use Rattle.net_present.specs.Present.{Present}

-- ---- the lanes stay wired

has-end : {A : Type 0} (stream : A → ℕ) (xs ys : List A) (s : ℕ) → length ys ≡ length xs
    → ((i : ℕ) (d : A) → i < length xs → stream (get_or ys i d) ≡ stream (get_or xs i d)) → HasEnd stream xs s → HasEnd stream ys s
has-end stream xs ys s many same end = record {
  place = end.place;
  within = let lt = end.within in omega (arith, lt, many);
  is = λ d. same end.place d end.within ∙ end.is d;
}

-- both ends of each lane keep their stream and their lane
pub wired-on : (plan : RunPlan) (ss more : List SourceSide) (xs us : List IntakeSide) (ys vs : List OutletSide) (ds last : List DrainSide)
    → length more ≡ length ss → length us ≡ length xs → length vs ≡ length ys → length last ≡ length ds
    → ((i : ℕ) (d : SourceSide) → i < length ss → (get_or more i d).stream ≡ (get_or ss i d).stream)
    → ((i : ℕ) (d : SourceSide) → i < length ss → (get_or more i d).makes ≡ (get_or ss i d).makes)
    → ((i : ℕ) (d : SourceSide) → i < length ss → (get_or more i d).tx.lane ≡ (get_or ss i d).tx.lane)
    → ((i : ℕ) (d : IntakeSide) → i < length xs → (get_or us i d).stream ≡ (get_or xs i d).stream)
    → ((i : ℕ) (d : IntakeSide) → i < length xs → (get_or us i d).rx.lane ≡ (get_or xs i d).rx.lane)
    → ((i : ℕ) (d : OutletSide) → i < length ys → (get_or vs i d).stream ≡ (get_or ys i d).stream)
    → ((i : ℕ) (d : OutletSide) → i < length ys → (get_or vs i d).tx.lane ≡ (get_or ys i d).tx.lane)
    → ((i : ℕ) (d : DrainSide) → i < length ds → (get_or last i d).stream ≡ (get_or ds i d).stream)
    → ((i : ℕ) (d : DrainSide) → i < length ds → (get_or last i d).rx.lane ≡ (get_or ds i d).rx.lane)
    → IsWired plan ss xs ys ds → IsWired plan more us vs last
wired-on plan ss more xs us ys vs ds last ms mx my md s-stream s-makes s-lane x-stream x-lane y-stream y-lane d-stream d-lane wired = record {
  intakes_count = mx ∙ wired.intakes_count ∙ sym ms;
  source = λ i c u lt.
      let ls : i < length ss = omega (arith, lt, ms) in
      let many = wired.intakes_count in
      let lx : i < length xs = omega (arith, ls, many) in
      let was = wired.source i c u ls in record {
        stream = x-stream i u lx ∙ was.stream ∙ sym (s-stream i c ls);
        lane = s-lane i c ls ∙ was.lane ∙ sym (x-lane i u lx);
        room = ap (λ (l : LaneId). l.room) (s-lane i c ls) ∙ was.room;
        makes = s-makes i c ls ∙ was.makes ∙ ap (makes_of plan) (sym (s-stream i c ls));
      };
  filled = λ s lt tx. has-end (λ (x : IntakeSide). x.stream) xs us s mx x-stream (wired.filled s lt tx);
  drains_count = md ∙ wired.drains_count ∙ sym my;
  drain = λ i c u lt.
      let ly : i < length ys = omega (arith, lt, my) in
      let many = wired.drains_count in
      let ld : i < length ds = omega (arith, ly, many) in
      let was = wired.drain i c u ly in record {
        stream = d-stream i u ld ∙ was.stream ∙ sym (y-stream i c ly);
        lane = y-lane i c ly ∙ was.lane ∙ sym (d-lane i u ld);
      };
  drained = λ s lt rx. has-end (λ (x : OutletSide). x.stream) ys vs s my y-stream (wired.drained s lt rx);
}

pub wired-met : (plan : RunPlan) (ss more : List SourceSide) (xs us : List IntakeSide) (ys vs : List OutletSide) (ds last : List DrainSide)
    → SourceSide → IntakeSide → OutletSide → DrainSide
    → AllHaveMet ss more xs us → AllDrainsHaveMet ys vs ds last → IsWired plan ss xs ys ds → IsWired plan more us vs last
wired-met plan ss more xs us ys vs ds last c x y e met drained wired =
    wired-on plan ss more xs us ys vs ds last met.count met.other drained.count drained.other
    (λ i d lt. (met.each i d x lt).source_stream)
    (λ i d lt. (met.each i d x lt).makes)
    (λ i d lt. (met.each i d x lt).source_lane)
    (λ i d lt. (met.each i c d (let many = wired.intakes_count in omega (arith, lt, many))).intake_stream)
    (λ i d lt. (met.each i c d (let many = wired.intakes_count in omega (arith, lt, many))).intake_lane)
    (λ i d lt. (drained.each i d e lt).outlet_stream)
    (λ i d lt. (drained.each i d e lt).outlet_lane)
    (λ i d lt. (drained.each i y d (let many = wired.drains_count in omega (arith, lt, many))).drain_stream)
    (λ i d lt. (drained.each i y d (let many = wired.drains_count in omega (arith, lt, many))).drain_lane)
    wired

pub wired-worked : (plan : RunPlan) (p q : Present) (ss more : List SourceSide) (xs us : List IntakeSide) (ys vs : List OutletSide) (ds last : List DrainSide)
    → EachFills ss more → EachHears p xs us → EachPasses q ys vs → EachEmpties ds last → IsWired plan ss xs ys ds → IsWired plan more us vs last
wired-worked plan p q ss more xs us ys vs ds last fills hears passes empties wired =
    wired-on plan ss more xs us ys vs ds last fills.count hears.count passes.count empties.count
    (λ i d lt. (fills.each i d lt).stream)
    (λ i d lt. (fills.each i d lt).makes)
    (λ i d lt. (fills.each i d lt).lane)
    (λ i d lt. (hears.each i d lt).stream)
    (λ i d lt. (hears.each i d lt).lane)
    (λ i d lt. (passes.each i d lt).stream)
    (λ i d lt. (passes.each i d lt).lane)
    (λ i d lt. (empties.each i d lt).stream)
    (λ i d lt. (empties.each i d lt).lane)
    wired

-- ---- who moved

or-first : (a b : Bool) → (a || b) ≡ false → a ≡ false
or-first true b is = absurd (false≢true (sym is))
or-first false b is = refl

or-second : (a b : Bool) → (a || b) ≡ false → b ≡ false
or-second true b is = absurd (false≢true (sym is))
or-second false b is = is

any-none : {A : Type 0} (f : A → Bool) (xs : List A) → list_any f xs ≡ false → (i : ℕ) (d : A) → i < length xs → f (get_or xs i d) ≡ false
any-none f [] is i d lt = absurd (omega (arith, lt))
any-none f (x ∷ xs) is zero d lt = or-first (f x) (list_any f xs) is
any-none f (x ∷ xs) is (suc i) d lt = any-none f xs (or-second (f x) (list_any f xs) is) i d (omega (arith, lt))

either : (a b : Bool) → (a || b) ≡ true → (a ≡ true → ⊥) → (b ≡ true → ⊥) → ⊥
either true b is first second = first refl
either false b is first second = second is

any-clash : {A : Type 0} (f : A → Bool) (xs : List A) → list_any f xs ≡ true → ((i : ℕ) (d : A) → i < length xs → f (get_or xs i d) ≡ true → ⊥) → ⊥
any-clash f [] is never = false≢true is
any-clash f (x ∷ xs) is never =
    either (f x) (list_any f xs) is (λ here. never 0 x (omega arith) here)
    (λ rest. any-clash f xs rest (λ i d lt. never (suc i) d (omega (arith, lt))))

-- what a worker tells of its list
same-of : (b : Bool) (old new : List Packet) → MatchBool b (length old < length new) (new ≡ old) → b ≡ false → new ≡ old
same-of true old new tells is = absurd (false≢true (sym is))
same-of false old new tells is = tells

more-of : (b : Bool) (old new : List Packet) → MatchBool b (length old < length new) (new ≡ old) → b ≡ true → new ≡ old → ⊥
more-of true old new tells is same = let len = ap (λ (ps : List Packet). length ps) same in omega (arith, tells, len)
more-of false old new tells is same = false≢true is

same-journal : (b : Bool) (old new : List Event) → MatchBool b (length old < length new) (new ≡ old) → b ≡ false → new ≡ old
same-journal true old new tells is = absurd (false≢true (sym is))
same-journal false old new tells is = tells

more-journal : (b : Bool) (old new : List Event) → MatchBool b (length old < length new) (new ≡ old) → b ≡ true → new ≡ old → ⊥
more-journal true old new tells is same = let len = ap (λ (es : List Event). length es) same in omega (arith, tells, len)
more-journal false old new tells is same = false≢true is

-- what a round was made of: the ends met, and then all workers worked
pub record HasRound (p q : Present) (first met last : Ends) (old new : List Event) (stepped : Bool) : Type 0 where
  pub ends_met : AllHaveMet first.sources met.sources first.intakes met.intakes
  pub drains_met : AllDrainsHaveMet first.outlets met.outlets first.drains met.drains
  pub fills : EachFills met.sources last.sources
  pub hears : EachHears p met.intakes last.intakes
  pub passes : EachPasses q met.outlets last.outlets
  pub empties : EachEmpties met.drains last.drains
  pub journal : MatchBool stepped (length old < length new) (new ≡ old)
  pub intakes_count : length first.intakes ≡ length first.sources
  pub drains_count : length first.drains ≡ length first.outlets

module _ (p q : Present) (first met last : Ends) (old new : List Event) (stepped : Bool) (round : HasRound p q first met last old new stepped)
    (s : SourceSide) (x : IntakeSide) (y : OutletSide) (d : DrainSide) where
  source-at : (i : ℕ) (c : SourceSide) → i < length first.sources → (get_or met.sources i c).tx.put ≡ (get_or first.sources i c).tx.put
  source-at i c lt = (round.ends_met.each i c x lt).put

  intake-at : (i : ℕ) (c : IntakeSide) → i < length first.intakes → (get_or met.intakes i c).rx.got ≡ (get_or first.intakes i c).rx.got
  intake-at i c lt = (round.ends_met.each i s c (let many = round.intakes_count in omega (arith, lt, many))).got

  outlet-at : (i : ℕ) (c : OutletSide) → i < length first.outlets → (get_or met.outlets i c).tx.put ≡ (get_or first.outlets i c).tx.put
  outlet-at i c lt = (round.drains_met.each i c d lt).put

  drain-at : (i : ℕ) (c : DrainSide) → i < length first.drains → (get_or met.drains i c).rx.got ≡ (get_or first.drains i c).rx.got
  drain-at i c lt = (round.drains_met.each i y c (let many = round.drains_count in omega (arith, lt, many))).got

  -- where nobody moved all lists are as before
  pub idle-lists : has_moved last stepped ≡ false → IsIdle first last old new
  idle-lists none = record {
    sources = record {
      count = round.fills.count ∙ round.ends_met.count;
      each = λ i c lt.
          let many = round.ends_met.count in
          let more = round.fills.count in
          let lt1 : i < length met.sources = omega (arith, lt, many) in
          same-of (get_or last.sources i c).moved (get_or met.sources i c).tx.put (get_or last.sources i c).tx.put (round.fills.each i c lt1).tells
          (any-none (λ (z : SourceSide). z.moved) last.sources no-source i c (omega (arith, lt1, more)))
          ∙ source-at i c lt;
    };
    intakes = record {
      count = round.hears.count ∙ round.ends_met.other;
      each = λ i c lt.
          let many = round.ends_met.other in
          let more = round.hears.count in
          let lt1 : i < length met.intakes = omega (arith, lt, many) in
          same-of (get_or last.intakes i c).moved (get_or met.intakes i c).rx.got (get_or last.intakes i c).rx.got (round.hears.each i c lt1).tells
          (any-none (λ (z : IntakeSide). z.moved) last.intakes no-intake i c (omega (arith, lt1, more)))
          ∙ intake-at i c lt;
    };
    outlets = record {
      count = round.passes.count ∙ round.drains_met.count;
      each = λ i c lt.
          let many = round.drains_met.count in
          let more = round.passes.count in
          let lt1 : i < length met.outlets = omega (arith, lt, many) in
          same-of (get_or last.outlets i c).moved (get_or met.outlets i c).tx.put (get_or last.outlets i c).tx.put (round.passes.each i c lt1).tells
          (any-none (λ (z : OutletSide). z.moved) last.outlets no-outlet i c (omega (arith, lt1, more)))
          ∙ outlet-at i c lt;
    };
    drains = record {
      count = round.empties.count ∙ round.drains_met.other;
      each = λ i c lt.
          let many = round.drains_met.other in
          let more = round.empties.count in
          let lt1 : i < length met.drains = omega (arith, lt, many) in
          same-of (get_or last.drains i c).moved (get_or met.drains i c).rx.got (get_or last.drains i c).rx.got (round.empties.each i c lt1).tells
          (any-none (λ (z : DrainSide). z.moved) last.drains no-drain i c (omega (arith, lt1, more)))
          ∙ drain-at i c lt;
    };
    journal = same-journal stepped old new round.journal (or-second (any_moved last.sources last.drains) stepped
        (or-first (any_moved last.sources last.drains || stepped) (any_passed last.intakes last.outlets) none));
  }
    where
      edges : any_moved last.sources last.drains ≡ false
      edges = or-first (any_moved last.sources last.drains) stepped
          (or-first (any_moved last.sources last.drains || stepped) (any_passed last.intakes last.outlets) none)

      fabric : any_passed last.intakes last.outlets ≡ false
      fabric = or-second (any_moved last.sources last.drains || stepped) (any_passed last.intakes last.outlets) none

      no-source : list_any (λ (z : SourceSide). z.moved) last.sources ≡ false
      no-source = or-first (list_any (λ (z : SourceSide). z.moved) last.sources) (list_any (λ (z : DrainSide). z.moved) last.drains) edges

      no-drain : list_any (λ (z : DrainSide). z.moved) last.drains ≡ false
      no-drain = or-second (list_any (λ (z : SourceSide). z.moved) last.sources) (list_any (λ (z : DrainSide). z.moved) last.drains) edges

      no-intake : list_any (λ (z : IntakeSide). z.moved) last.intakes ≡ false
      no-intake = or-first (list_any (λ (z : IntakeSide). z.moved) last.intakes) (list_any (λ (z : OutletSide). z.moved) last.outlets) fabric

      no-outlet : list_any (λ (z : OutletSide). z.moved) last.outlets ≡ false
      no-outlet = or-second (list_any (λ (z : IntakeSide). z.moved) last.intakes) (list_any (λ (z : OutletSide). z.moved) last.outlets) fabric

  -- where somebody moved some list is longer
  pub moved-lists : has_moved last stepped ≡ true → IsIdle first last old new → ⊥
  moved-lists some idle =
      either (any_moved last.sources last.drains || stepped) (any_passed last.intakes last.outlets) some
      (λ is. either (any_moved last.sources last.drains) stepped is
      (λ edges. either (list_any (λ (z : SourceSide). z.moved) last.sources) (list_any (λ (z : DrainSide). z.moved) last.drains) edges
      (λ one. any-clash (λ (z : SourceSide). z.moved) last.sources one source)
      (λ one. any-clash (λ (z : DrainSide). z.moved) last.drains one drain))
      (λ step. more-journal stepped old new round.journal step idle.journal))
      (λ fabric. either (list_any (λ (z : IntakeSide). z.moved) last.intakes) (list_any (λ (z : OutletSide). z.moved) last.outlets) fabric
      (λ one. any-clash (λ (z : IntakeSide). z.moved) last.intakes one intake)
      (λ one. any-clash (λ (z : OutletSide). z.moved) last.outlets one outlet))
    where
      source : (i : ℕ) (c : SourceSide) → i < length last.sources → (get_or last.sources i c).moved ≡ true → ⊥
      source i c lt is =
          let many = round.ends_met.count in
          let more = round.fills.count in
          let lt1 : i < length met.sources = omega (arith, lt, more) in
          let lt0 : i < length first.sources = omega (arith, lt1, many) in
          more-of (get_or last.sources i c).moved (get_or met.sources i c).tx.put (get_or last.sources i c).tx.put (round.fills.each i c lt1).tells is
          (idle.sources.each i c lt0 ∙ sym (source-at i c lt0))

      intake : (i : ℕ) (c : IntakeSide) → i < length last.intakes → (get_or last.intakes i c).moved ≡ true → ⊥
      intake i c lt is =
          let many = round.ends_met.other in
          let more = round.hears.count in
          let lt1 : i < length met.intakes = omega (arith, lt, more) in
          let lt0 : i < length first.intakes = omega (arith, lt1, many) in
          more-of (get_or last.intakes i c).moved (get_or met.intakes i c).rx.got (get_or last.intakes i c).rx.got (round.hears.each i c lt1).tells is
          (idle.intakes.each i c lt0 ∙ sym (intake-at i c lt0))

      outlet : (i : ℕ) (c : OutletSide) → i < length last.outlets → (get_or last.outlets i c).moved ≡ true → ⊥
      outlet i c lt is =
          let many = round.drains_met.count in
          let more = round.passes.count in
          let lt1 : i < length met.outlets = omega (arith, lt, more) in
          let lt0 : i < length first.outlets = omega (arith, lt1, many) in
          more-of (get_or last.outlets i c).moved (get_or met.outlets i c).tx.put (get_or last.outlets i c).tx.put (round.passes.each i c lt1).tells is
          (idle.outlets.each i c lt0 ∙ sym (outlet-at i c lt0))

      drain : (i : ℕ) (c : DrainSide) → i < length last.drains → (get_or last.drains i c).moved ≡ true → ⊥
      drain i c lt is =
          let many = round.drains_met.other in
          let more = round.empties.count in
          let lt1 : i < length met.drains = omega (arith, lt, more) in
          let lt0 : i < length first.drains = omega (arith, lt1, many) in
          more-of (get_or last.drains i c).moved (get_or met.drains i c).rx.got (get_or last.drains i c).rx.got (round.empties.each i c lt1).tells is
          (idle.drains.each i c lt0 ∙ sym (drain-at i c lt0))
