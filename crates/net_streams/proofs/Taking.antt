-- A taking, at an Rx or by a feed, is an act of its stream.
use Rattle.std.proofs.Common.{◌≡◌, ℕ, ◌+◌, ◌-◌, ◌<◌, ◌≤◌, Bool, true, false, IsTrue, List, [], ◌∷◌, length, take, drop, refl, ◌∙◌, ap, subst, arith}
use Rattle.std.specs.Prelude.{nat_lt, nat_le, ◌&&◌}
use Rattle.std.specs.List.{sum_by}
use Rattle.std.proofs.lemmas.Bool.Decides.{nat_tests}
use Rattle.std.proofs.lemmas.List.{drop-map, length-map, take-map}
use Rattle.std.proofs.lemmas.List.Sums.{sum_by-cons}
use Rattle.chdr_packets.specs.Length.{wire_of}
use Rattle.chdr_packets.specs.declared.packet.Packet.{Packet}
use Rattle.stream_endpoint.specs.Receiver.{takes}
use Rattle.stream_endpoint.specs.declared.count.Count.{Count}
use Rattle.stream_laws.specs.Acts.{Take, after as act_after}
use Rattle.stream_laws.specs.Effects.{takes_core}
use Rattle.stream_laws.specs.Machine.{Core, Load, State as OneStream, count_of}
use Rattle.net_machine.specs.declared.event.Event.TheVariants as event
use Rattle.net_machine.specs.declared.plan.StreamPlan.{StreamPlan}
use Rattle.net_machine.specs.Conditions.{can_see, enabled, ends_at_rx, may}
use Rattle.net_machine.specs.Effects.{after, on_stream}
use Rattle.net_machine.specs.Front.{StreamFront, front, front_at}
use Rattle.net_machine.specs.Plans.{plan_at}
use Rattle.net_machine.specs.State.{State, Stream, stream_at}
use Rattle.net_machine.specs.Streams.{sum_of, taken_to, taking}
use Rattle.net_machine.proofs.Laws.{fronts}
use Rattle.net_streams.specs.Acting.{Acts, IsShown, SeenActs}
use Rattle.net_streams.specs.Making.{TakingActs}
use Rattle.net_streams.specs.Shows.{core_of, load_of, loads_of, terms_of}
use Rattle.net_streams.proofs.Showing.{shown-by}

-- the wire sizes of loads are those of their packets
sizes-of : (packets : List Packet) → sum_by (λ (load : Load Packet). load.wire) (loads_of packets) ≡ sum_by wire_of packets
sizes-of [] = refl
sizes-of (p ∷ ps) =
    let rest = sizes-of ps in
    let loads = sum_by-cons (λ (load : Load Packet). load.wire) (load_of p) (loads_of ps) in
    let packets = sum_by-cons wire_of p ps in
    omega (arith, rest, loads, packets)

counts-of : (packets : List Packet) → count_of (loads_of packets) ≡ sum_of packets
counts-of packets = rw (length-map packets load_of, sizes-of packets) refl

core-taken : (plan : StreamPlan) (closed : Bool) (st : Stream) (n : ℕ) → st.taken ≤ n →
    takes_core (n - st.taken) (core_of plan closed st) ≡ core_of plan closed (taken_to n st)
core-taken plan closed st n le =
    let all : st.taken + (n - st.taken) ≡ n = omega arith in
    let some : take (n - st.taken) (drop st.taken (loads_of st.given)) ≡ loads_of (taking n st) =
    ap (take (n - st.taken)) (drop-map load_of st.taken st.given) ∙ take-map load_of (n - st.taken) (drop st.taken st.given) in
    let count : count_of (take (n - st.taken) (drop st.taken (loads_of st.given))) ≡ sum_of (taking n st) = ap count_of some ∙ counts-of (taking n st) in
    ap (λ (c : Count). record (core_of plan closed st) { receiver = takes c st.receiver; taken = st.taken + (n - st.taken) }) count
    ∙ ap (λ (k : ℕ). record (core_of plan closed st) { receiver = takes (sum_of (taking n st)) st.receiver; taken = k }) all

both : (a b : Bool) → IsTrue (a && b) → IsTrue b
both true true h = refl
both true false h = cc
both false b h = cc

within : (taken n given : ℕ) → IsTrue (nat_lt taken n && nat_le n given) → (taken < n) × (n ≤ given)
within taken n given is = (grind (arith, nat_tests), grind (arith, nat_tests))

may-see : (w : State) (s n : ℕ) → IsTrue (enabled w (event.Seen s n)) → ((stream_at w s).taken < n) × (n ≤ length (stream_at w s).given)
unfolding may
may-see w s n is = within (stream_at w s).taken n (length (stream_at w s).given)
    (subst (λ (f : StreamFront). IsTrue (can_see f n)) (fronts.stream w s) (both (ends_at_rx w.plan s) (can_see (front_at (front w) s) n) is))

-- taking n in all
taken-acts : (w : State) (s n : ℕ) (closed : Bool) (st : OneStream Packet) → IsShown w s closed st → (stream_at w s).taken < n → n ≤ length (stream_at w s).given →
    Acts w (on_stream s (taken_to n) w) s closed st
taken-acts w s n closed st shown more_than there =
    let plan = plan_at w.plan s in
    let old = stream_at w s in
    let more = n - old.taken in
    let taken : st.core.taken ≡ old.taken = ap (λ (c : Core Packet). c.taken) shown.shows.core in
    let given : length st.core.given ≡ length old.given = ap (λ (c : Core Packet). length c.given) shown.shows.core ∙ length-map old.given load_of in
    record {
      act = Take more;
      allowed = (omega arith, omega (arith, taken, given));
      shows = shown-by w w s closed (taken_to n) (act_after (terms_of plan) st (Take more)) refl refl shown.there
          (ap (takes_core more) shown.shows.core ∙ core-taken plan closed old n (omega arith)) shown.shows.forward shown.shows.back;
    }

pub seen_acts : SeenActs
unfolding after
seen_acts w s n closed st shown is = let tests = may-see w s n is in taken-acts w s n closed st shown tests.0 tests.1

pub taking_acts : TakingActs
taking_acts w s closed st shown more = taken-acts w s ((stream_at w s).taken + 1) closed st shown (omega arith) (omega arith)
