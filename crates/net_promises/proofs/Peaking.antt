-- The peaks that a state keeps are the greatest of all states of its run.
use Rattle.std.proofs.Common.{◌≡◌, ℕ, ◌≤◌, ◌⊎◌, inl, inr, List, [], ◌∷◌, length, map, refl, sym, ◌∙◌, ap, get_or, arith, zero, suc}
use Rattle.std.specs.Prelude.{Option, Some, None}
use Rattle.rf_base.proofs.Places.{one-set}
use Rattle.chdr_packets.specs.declared.packet.Packet.{Packet}
use Rattle.stream_endpoint.specs.Counts.{none}
use Rattle.stream_endpoint.specs.declared.count.Count.{Count}
use Rattle.net_faults.specs.declared.fault.Fault.TheVariants as fault
use Rattle.net_machine.specs.declared.event.Event.{Event}
use Rattle.net_machine.specs.declared.event.Event.TheVariants.{Enter, Hop, Seen, Feed, Report, Command, Lose, Reply, Ask}
use Rattle.net_machine.specs.declared.plan.RunPlan.{RunPlan}
use Rattle.net_machine.specs.declared.plan.StreamPlan.{StreamPlan}
use Rattle.net_machine.specs.Begin.{begun, opened}
use Rattle.net_machine.specs.Effects.{after, enters, enters_over, on_stream}
use Rattle.net_machine.specs.Faults.{is_named}
use Rattle.net_machine.specs.Moves.{Answered, Asks, Happens, IsLegal, Loads, Marks, Move, after_all, after_move}
use Rattle.net_machine.specs.Plans.{first_link, plan_at}
use Rattle.net_machine.specs.Queues.{forward_vc}
use Rattle.net_machine.specs.State.{Sample, State, Stream, idle, stream_at}
use Rattle.net_machine.specs.Streams.{entering, most, sends_first}
use Rattle.net_machine.specs.Tallies.{peak_over, tally_with}
use Rattle.net_lawful.specs.Lawful.{Lawful}
use Rattle.net_lawful.proofs.Laws.{begun_is_lawful, lawful_stays, peaks_follow}
use Rattle.net_promises.specs.Peaks.{TalliesAreKept}
use Rattle.net_promises.proofs.Falling.{out}
use Rattle.net_promises.proofs.Hopping.{SendsNone, event-falls}

-- ---- counts

count-same : (a b : Count) → a.packets ≡ b.packets → a.bytes ≡ b.bytes → a ≡ b
count-same a b packets bytes = λ i. record { packets = packets i; bytes = bytes i }

-- the first count is the greater one, in packets and in bytes
record Covers (a b : Count) : Type 0 where
  packets : b.packets ≤ a.packets
  bytes : b.bytes ≤ a.bytes

covered : (a b : Count) → Covers a b → most a b ≡ a
covered a b covers =
    let p = covers.packets in
    let q = covers.bytes in
    count-same (most a b) a (omega (arith, p)) (omega (arith, q))

most-covers : (a b c : Count) → c ≡ most a b → Covers c b
most-covers a b c is =
    let p = ap (λ (d : Count). d.packets) is in
    let q = ap (λ (d : Count). d.bytes) is in
    record { packets = omega (arith, p); bytes = omega (arith, q) }

-- what is covered on the way may be left out
most-over : (peak before now over : Count) → Covers peak before → Covers over now → most (most peak now) over ≡ most peak (most before over)
most-over peak before now over first second =
    let a = first.packets in
    let b = first.bytes in
    let c = second.packets in
    let d = second.bytes in
    count-same (most (most peak now) over) (most peak (most before over)) (omega (arith, a, c)) (omega (arith, b, d))

-- ---- one move

-- each peak covers what is outstanding
abbrev AreTops : State → Type 0
AreTops w = (t : ℕ) → Covers (stream_at w t).peak (out w t)

entered : (w : State) (s : ℕ) (packets : List Packet) → AreTops w → (t : ℕ) → (stream_at (enters s packets w) t).peak ≡ most (stream_at w t).peak (out (enters s packets w) t)
entered w s [] tops t = sym (covered (stream_at w t).peak (out w t) (tops t))
entered w s (p ∷ rest) tops t = by_link (first_link w.tree (plan_at w.plan s).from)
  where
    next : Stream → Stream
    next = sends_first (plan_at w.plan s) p rest

    each : (r : ℕ) → (stream_at (on_stream s next w) r).peak ≡ most (stream_at w r).peak (out (on_stream s next w) r)
    each = one-set {B = ℕ} (λ r st blank. st.peak ≡ most (stream_at w r).peak st.sender.outstanding) w.streams [] idle 0 (next (stream_at w s)) s
        (λ r. sym (covered (stream_at w r).peak (out w r) (tops r))) refl

    by_link : (o : Option ℕ) → (stream_at (on_stream s next (enters_over o forward_vc (is_named w.faults (fault.Samples s (length (stream_at w s).sent)))
        (entering (plan_at w.plan s) (stream_at w s).sender p) (Sample (length (stream_at w s).sent)) w)) t).peak
        ≡ most (stream_at w t).peak (out (on_stream s next (enters_over o forward_vc (is_named w.faults (fault.Samples s (length (stream_at w s).sent)))
        (entering (plan_at w.plan s) (stream_at w s).sender p) (Sample (length (stream_at w s).sent)) w)) t)
    by_link None = each t
    by_link (Some d) = each t

stays : (w : State) (e : Event) (t : ℕ) → SendsNone e → Lawful w → AreTops w → (stream_at (after w e) t).peak ≡ most (stream_at w t).peak (out (after w e) t)
stays w e t sends lawful tops = by_peak (peaks_follow w e t lawful.steady)
  where
    by_peak : ((stream_at (after w e) t).peak ≡ (stream_at w t).peak) ⊎ ((stream_at (after w e) t).peak ≡ most (stream_at w t).peak (out (after w e) t)) →
        (stream_at (after w e) t).peak ≡ most (stream_at w t).peak (out (after w e) t)
    by_peak (inl same) =
        let falls = event-falls w e t sends lawful in
        let top = tops t in
        let a = falls.packets in
        let b = falls.bytes in
        let c = top.packets in
        let d = top.bytes in
        same ∙ sym (covered (stream_at w t).peak (out (after w e) t) (record { packets = omega (arith, a, c); bytes = omega (arith, b, d) }))
    by_peak (inr more) = more

event-peaks : (w : State) (e : Event) (t : ℕ) → Lawful w → AreTops w → (stream_at (after w e) t).peak ≡ most (stream_at w t).peak (out (after w e) t)
unfolding after
event-peaks w (Enter s) t lawful tops = entered w s (stream_at w s).ready tops t
event-peaks w (Hop q) t lawful tops = stays w (Hop q) t tt lawful tops
event-peaks w (Seen s n) t lawful tops = stays w (Seen s n) t tt lawful tops
event-peaks w (Feed b i) t lawful tops = stays w (Feed b i) t tt lawful tops
event-peaks w (Report s) t lawful tops = stays w (Report s) t tt lawful tops
event-peaks w (Command s op) t lawful tops = stays w (Command s op) t tt lawful tops
event-peaks w (Lose q) t lawful tops = stays w (Lose q) t tt lawful tops
event-peaks w (Reply x) t lawful tops = stays w (Reply x) t tt lawful tops
event-peaks w (Ask x) t lawful tops = stays w (Ask x) t tt lawful tops

move-peaks : (w : State) (move : Move) (t : ℕ) → Lawful w → AreTops w → (stream_at (after_move w move) t).peak ≡ most (stream_at w t).peak (out (after_move w move) t)
move-peaks w (Happens e) t lawful tops = event-peaks w e t lawful tops
move-peaks w (Asks x p) t lawful tops = sym (covered (stream_at w t).peak (out w t) (tops t))
move-peaks w (Answered x) t lawful tops = sym (covered (stream_at w t).peak (out w t) (tops t))
move-peaks w (Marks faults) t lawful tops = sym (covered (stream_at w t).peak (out w t) (tops t))
move-peaks w (Loads banks) t lawful tops = sym (covered (stream_at w t).peak (out w t) (tops t))

-- ---- a run

over-covers : (s : ℕ) (w : State) (moves : List Move) → Covers (peak_over s w moves) (out w s)
over-covers s w [] = record { packets = omega arith; bytes = omega arith }
over-covers s w (move ∷ moves) = record { packets = omega arith; bytes = omega arith }

kept : (s : ℕ) (w : State) (moves : List Move) → Lawful w → IsLegal w moves → AreTops w → (stream_at (after_all w moves) s).peak ≡ most (stream_at w s).peak (peak_over s w moves)
unfolding IsLegal after_all
kept s w [] lawful legal tops = sym (covered (stream_at w s).peak (out w s) (tops s))
kept s w (move ∷ moves) lawful legal tops =
    let v = after_move w move in
    let goes = λ (t : ℕ). move-peaks w move t lawful tops in
    let rest = kept s v moves (lawful_stays w move lawful legal.0) legal.1 (λ t. most-covers (stream_at w t).peak (out v t) (stream_at v t).peak (goes t)) in
    rest ∙ ap (λ (c : Count). most c (peak_over s v moves)) (goes s)
    ∙ most-over (stream_at w s).peak (out w s) (out v s) (peak_over s v moves) (tops s) (over-covers s v moves)

-- as a run begins nothing is outstanding, or was
begun-peak : (plan : RunPlan) (streams : List StreamPlan) (t : ℕ) → (get_or (map (opened plan) streams) t idle).peak ≡ none
begun-peak plan [] t = refl
begun-peak plan (st ∷ streams) zero = refl
begun-peak plan (st ∷ streams) (suc t) = begun-peak plan streams t

begun-out : (plan : RunPlan) (streams : List StreamPlan) (t : ℕ) → (get_or (map (opened plan) streams) t idle).sender.outstanding ≡ none
begun-out plan [] t = refl
begun-out plan (st ∷ streams) zero = refl
begun-out plan (st ∷ streams) (suc t) = begun-out plan streams t

begun-tops : (plan : RunPlan) (w : State) → AreTops (begun plan w)
begun-tops plan w t =
    let p = ap (λ (c : Count). c.packets) (begun-out plan plan.streams t) in
    let b = ap (λ (c : Count). c.bytes) (begun-out plan plan.streams t) in
    record { packets = omega (arith, p); bytes = omega (arith, b) }

from-none : (c : Count) → most none c ≡ c
from-none c = count-same (most none c) c (omega arith) (omega arith)

pub tallies-kept : TalliesAreKept
tallies-kept plan w moves s lawful rest can legal =
    let start = begun plan w in
    let peaks = kept s start moves (begun_is_lawful plan w lawful rest can) legal (begun-tops plan w) in
    ap (λ (c : Count). tally_with c (after_all start moves) s)
    (peaks ∙ ap (λ (c : Count). most c (peak_over s start moves)) (begun-peak plan plan.streams s) ∙ from-none (peak_over s start moves))
