-- A taking changes nothing but how many packets of its stream are taken.
use Rattle.std.proofs.Common.{◌≡◌, ℕ, ◌<◌, ◌≤◌, ◌⊎◌, inl, inr, Bool, true, false, IsTrue, length, refl, sym, ap, subst, arith}
use Rattle.std.specs.Prelude.{◌&&◌}
use Rattle.std.proofs.lemmas.Bool.{cases_lt, false≢true}
use Rattle.std.proofs.lemmas.Bool.Decides.{nat_tests}
use Rattle.std.proofs.lemmas.List.{get_or-set_same, get_or_past}
use Rattle.net_machine.specs.declared.event.Event.TheVariants.{Seen}
use Rattle.net_machine.specs.Conditions.{can_see, enabled, ends_at_rx, may}
use Rattle.net_machine.specs.Effects.{after}
use Rattle.net_machine.specs.Front.{StreamFront, front, front_at, stream_front}
use Rattle.net_machine.specs.State.{State, Stream, idle, stream_at}
use Rattle.net_machine.specs.Streams.{taken_to}
use Rattle.net_machine.proofs.Laws.{fronts}
use Rattle.net_present.specs.Kept.{idle_now, now_at}
use Rattle.net_present.specs.Onward.{Held, goes_on}
use Rattle.net_present.specs.Present.{StreamNow}
use Rattle.net_present.specs.StreamSteps.{taken_now}
use Rattle.net_growth.specs.Taking.{SeenTakes}
use Rattle.net_growth.proofs.Presents as present
use Rattle.net_growth.proofs.States as state

both-second : (a b : Bool) → (a && b) ≡ true → b ≡ true
both-second true b is = is
both-second false b is = absurd (false≢true is)

-- nothing of an idle stream can be taken
idle-none : (n : ℕ) → can_see (stream_front idle) n ≡ true → ⊥
idle-none n sees = grind (arith, nat_tests)

-- a stream of which packets may be taken is there
seen-there : (w : State) (s n : ℕ) → IsTrue (enabled w (Seen s n)) → s < length w.streams
unfolding may
seen-there w s n may_it = by_place (cases_lt s (length w.streams))
  where
    sees : can_see (stream_front (stream_at w s)) n ≡ true
    sees = subst (λ (st : StreamFront). can_see st n ≡ true) (fronts.stream w s) (both-second (ends_at_rx w.plan s) (can_see (front_at (front w) s) n) may_it)

    by_place : (s < length w.streams) ⊎ (length w.streams ≤ s) → s < length w.streams
    by_place (inl there) = there
    by_place (inr past) = absurd (idle-none n (subst (λ (st : Stream). can_see (stream_front st) n ≡ true) (get_or_past w.streams s idle past) sees))

takes-here : (w : State) (s n : ℕ) → s < length w.streams → (stream_at (after w (Seen s n)) s).taken ≡ n
unfolding after
takes-here w s n there = ap (λ (st : Stream). st.taken) (get_or-set_same w.streams s (taken_to n (stream_at w s)) idle there)

takes-here-now : (h : Held) (s n : ℕ) → s < length h.present.streams → (now_at (goes_on (Seen s n) h).present.streams s).taken ≡ n
unfolding goes_on
takes-here-now h s n there = ap (λ (st : StreamNow). st.taken) (get_or-set_same h.present.streams s (taken_now n (now_at h.present.streams s)) idle_now there)

pub seen-takes : SeenTakes
seen-takes h w s n held may_it = record {
  given = λ t. state.lasts-on (λ st. st.given ≡ (stream_at w t).given) t (Seen s n) w (λ e st has. has) refl;
  waiting = λ t. present.lasts-now (λ st. st.waiting ≡ (now_at h.present.streams t).waiting) t (Seen s n) h (λ e st has. has) refl;
  taken = takes-here w s n there;
  taken_now = takes-here-now h s n (subst (λ k. s < k) (sym held.now.as_many_streams) there);
  others = λ t other. state.lasts-on (λ st. st.taken ≡ (stream_at w t).taken) t (Seen s n) w (λ e. absurd (other (sym e))) refl;
  others_now = λ t other. present.lasts-now (λ st. st.taken ≡ (now_at h.present.streams t).taken) t (Seen s n) h (λ e. absurd (other (sym e))) refl;
}
  where
    there : s < length w.streams
    there = seen-there w s n may_it
