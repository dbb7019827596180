-- The most that was outstanding is what it was, or what was just sent makes it more.
use Rattle.std.proofs.Common.{◌≡◌, ℕ, ◌+◌, ◌≤◌, ◌<◌, ◌⊎◌, inl, inr, List, [], ◌∷◌, length, refl, sym, ap, subst, arith}
use Rattle.std.specs.Prelude.{Option, Some, None, max, slice_get}
use Rattle.std.specs.Option.{option_map_or}
use Rattle.rf_base.proofs.Places.{one-set}
use Rattle.block_library.specs.Memory.{gives}
use Rattle.chdr_packets.specs.declared.packet.Packet.{Packet}
use Rattle.stream_endpoint.specs.Sender.{Sender}
use Rattle.stream_endpoint.specs.declared.count.Count.{Count}
use Rattle.stream_laws.specs.Machine.{Core}
use Rattle.stream_laws.proofs.Laws.{known_and_outstanding}
use Rattle.net_machine.specs.declared.event.Event.{Event}
use Rattle.net_machine.specs.declared.event.Event.TheVariants.{Enter, Hop, Seen, Feed, Report, Command, Lose, Reply, Ask}
use Rattle.net_machine.specs.declared.plan.RunPlan.{RunPlan}
use Rattle.net_machine.specs.Blocks.{kept_at}
use Rattle.net_machine.specs.Effects.{after, enters, feeds_from, gives_out, on_stream}
use Rattle.net_machine.specs.Moves.{Happens}
use Rattle.net_machine.specs.Plans.{block_at, plan_at, stream_into}
use Rattle.net_machine.specs.State.{State, Stream, idle, stream_at}
use Rattle.net_machine.specs.Streams.{most, taken_to}
use Rattle.net_machine.proofs.Laws.{shape_stays}
use Rattle.net_streams.specs.Shows.{terms_of}
use Rattle.net_flows.specs.Flows.{IsSteady}
use Rattle.net_lawful.specs.Made.{ArePeaksWithin, IsPeakWithin}
use Rattle.net_lawful.proofs.Feeding.{fed-state}
use Rattle.net_lawful.proofs.Making.{entered}
use Rattle.net_lawful.proofs.Planned.{begins-there, ends-there}
use Rattle.net_lawful.proofs.Sides.{sides-stay}

-- the peak of a stream is what it was, or follows what is outstanding now
abbrev pub PeakFollows : Stream → Stream → Type 0
PeakFollows old new = (new.peak ≡ old.peak) ⊎ (new.peak ≡ most old.peak new.sender.outstanding)

enters-follow : (w : State) (s : ℕ) (packets : List Packet) (t : ℕ) → PeakFollows (stream_at w t) (stream_at (enters s packets w) t)
enters-follow w s [] t = inl refl
enters-follow w s (p ∷ rest) t = entered w s p rest (λ u st. PeakFollows (stream_at w u) st) (λ u. inl refl) (inr refl) t

feeds-follow : (w : State) (b i t : ℕ) → IsSteady w → PeakFollows (stream_at w t) (stream_at (after w (Feed b i)) t)
unfolding after
feeds-follow w b i t steady = by_stream (stream_into w.plan (block_at w.plan b) i) refl
  where
    by_packet : (s : ℕ) → stream_into w.plan (block_at w.plan b) i ≡ Some s → (o : Option Packet) → slice_get (stream_at w s).given (stream_at w s).taken ≡ o →
        PeakFollows (stream_at w t) (stream_at (option_map_or (λ (p : Packet). gives_out (block_at w.plan b) (gives (kept_at w (block_at w.plan b)) i p) (on_stream s (taken_to ((stream_at w s).taken + 1)) w)) o w) t)
    by_packet s into None at = inl refl
    by_packet s into (Some p) at =
        inl ((fed-state w (block_at w.plan b) s p (gives (kept_at w (block_at w.plan b)) i p)
        (subst (λ n. s < n) (sym steady.as_many) (ends-there w.plan b i s into).there)
        (λ j u out. subst (λ n. u < n) (sym steady.as_many) (begins-there w.plan b j u out).there) at).peak t)

    by_stream : (o : Option ℕ) → stream_into w.plan (block_at w.plan b) i ≡ o → PeakFollows (stream_at w t) (stream_at (option_map_or (λ (s : ℕ). feeds_from (block_at w.plan b) i s w) o w) t)
    by_stream None into = inl refl
    by_stream (Some s) into = by_packet s into (slice_get (stream_at w s).given (stream_at w s).taken) refl

pub peak-follows : (w : State) (e : Event) (t : ℕ) → IsSteady w → PeakFollows (stream_at w t) (stream_at (after w e) t)
unfolding after
peak-follows w (Enter s) t steady = enters-follow w s (stream_at w s).ready t
peak-follows w (Hop q) t steady = inl (sides-stay w (Hop q) tt t).peak
peak-follows w (Seen s n) t steady =
    inl (one-set {B = ℕ} (λ u st none. st.peak ≡ (stream_at w u).peak) w.streams [] idle 0 (taken_to n (stream_at w s)) s (λ u. refl) refl t)
peak-follows w (Feed b i) t steady = feeds-follow w b i t steady
peak-follows w (Report s) t steady = inl (sides-stay w (Report s) tt t).peak
peak-follows w (Command s op) t steady = inl (sides-stay w (Command s op) tt t).peak
peak-follows w (Lose q) t steady = inl (sides-stay w (Lose q) tt t).peak
peak-follows w (Reply x) t steady = inl (sides-stay w (Reply x) tt t).peak
peak-follows w (Ask x) t steady = inl (sides-stay w (Ask x) tt t).peak

-- what is outstanding is within the capacity
pub record IsCredited (w : State) (s : ℕ) : Type 0 where
  pub packets : (stream_at w s).sender.outstanding.packets ≤ (plan_at w.plan s).flow.cap_packets
  pub bytes : (stream_at w s).sender.outstanding.bytes ≤ (plan_at w.plan s).flow.cap_bytes

pub credited : (w : State) (s : ℕ) → IsSteady w → s < length w.streams → IsCredited w s
credited w s steady lt =
    let flow = steady.flows s lt in
    let known = known_and_outstanding (terms_of (plan_at w.plan s)) flow.state flow.run in
    let same : flow.state.core.sender ≡ (stream_at w s).sender = ap (λ (c : Core Packet). c.sender) flow.shows.core in
    record {
      packets = subst (λ (r : Sender). r.outstanding.packets ≤ (plan_at w.plan s).flow.cap_packets) same known.packets;
      bytes = subst (λ (r : Sender). r.outstanding.bytes ≤ (plan_at w.plan s).flow.cap_bytes) same known.bytes;
    }

max-within : (a b cap : ℕ) → a ≤ cap → b ≤ cap → max a b ≤ cap
max-within a b cap p q = omega arith

pub peaks-stay : (w : State) (e : Event) → IsSteady w → IsSteady (after w e) → ArePeaksWithin w → ArePeaksWithin (after w e)
peaks-stay w e steady then peaks s lt =
    let shape = shape_stays w (Happens e) in
    let old = peaks s (subst (λ n. s < n) shape.streams lt) in
    let here : IsPeakWithin (plan_at (after w e).plan s).flow (stream_at w s) = subst (λ (p : RunPlan). IsPeakWithin (plan_at p s).flow (stream_at w s)) (sym shape.plan) old in
    let now = credited (after w e) s then lt in
    elim (peak-follows w e s steady) [
      | inl same ↦ record {
        packets = subst (λ (c : Count). c.packets ≤ (plan_at (after w e).plan s).flow.cap_packets) (sym same) here.packets;
        bytes = subst (λ (c : Count). c.bytes ≤ (plan_at (after w e).plan s).flow.cap_bytes) (sym same) here.bytes;
      }
      | inr more ↦ record {
        packets = subst (λ (c : Count). c.packets ≤ (plan_at (after w e).plan s).flow.cap_packets) (sym more) (max-within _ _ _ here.packets now.packets);
        bytes = subst (λ (c : Count). c.bytes ≤ (plan_at (after w e).plan s).flow.cap_bytes) (sym more) (max-within _ _ _ here.bytes now.bytes);
      }
    ]
