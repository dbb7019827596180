-- What was given on a stream to an Rx grows by what waits for the consumer grows by.
use Rattle.std.proofs.Common.{◌≡◌, ℕ, ◌+◌, ◌≤◌, Bool, true, false, IsTrue, List, [], ◌∷◌, ◌++◌, length, drop, refl, sym, ◌∙◌, ap, subst, arith}
use Rattle.std.specs.Prelude.{Some, ◌&&◌, not}
use Rattle.std.specs.List.{list_all}
use Rattle.std.specs.Option.{option_map_or}
use Rattle.std.proofs.lemmas.Bool.{false≢true}
use Rattle.std.proofs.lemmas.List.{append-nil, append_assoc, append_cancel_left, drop-append-le, length-append, length-drop}
use Rattle.chdr_packets.specs.declared.packet.Packet.{Packet}
use Rattle.stream_endpoint.specs.Receiver.{arrival, expected}
use Rattle.stream_endpoint.specs.declared.state.Arrived.{Arrived}
use Rattle.stream_endpoint.specs.declared.state.Arrived.TheVariants.{Discarded, Gap, Kept}
use Rattle.net_machine.specs.declared.event.Event.{Event}
use Rattle.net_machine.specs.declared.event.Event.TheVariants.{Ask, Command, Enter, Feed, Hop, Lose, Reply, Report, Seen}
use Rattle.net_machine.specs.declared.plan.RunPlan.{RunPlan}
use Rattle.net_machine.specs.Blocks.{is_clear}
use Rattle.net_machine.specs.Conditions.{enabled, ends_at_rx, has_untaken, may}
use Rattle.net_machine.specs.Effects.{after}
use Rattle.net_machine.specs.Front.{front}
use Rattle.net_machine.specs.Plans.{block_at, is_rx, stream_into}
use Rattle.net_machine.specs.State.{State, Stream, stream_at}
use Rattle.net_machine.specs.Streams.{gets, kept_by}
use Rattle.net_present.specs.Fits.{FitsPresent}
use Rattle.net_present.specs.Kept.{IsStreamNow, now_at}
use Rattle.net_present.specs.Laws.{IsHeld}
use Rattle.net_present.specs.Onward.{goes_on}
use Rattle.net_present.specs.Present.{StreamNow}
use Rattle.net_present.specs.StreamSteps.{gets_now, if_kept}
use Rattle.net_present.proofs.Laws.{present_follows}
use Rattle.net_growth.specs.Growing.{GivenGrows, IsNoTakingOf}
use Rattle.net_growth.proofs.Presents as present
use Rattle.net_growth.proofs.States as state

-- ---- an event that takes none

-- a stream has these packets more, and as many are taken
record HasMore (old new : Stream) : Type 0 where
  more : List Packet
  given : new.given ≡ old.given ++ more
  taken : new.taken ≡ old.taken

-- so it is with what is kept of a stream
record HasMoreNow (old new : StreamNow) : Type 0 where
  more : List Packet
  given : new.given ≡ old.given + length more
  waiting : new.waiting ≡ old.waiting ++ more
  taken : new.taken ≡ old.taken

-- one packet more
joined : (packet : Packet) (now old more : List Packet) → now ≡ old ++ more → now ++ packet ∷ [] ≡ old ++ (more ++ packet ∷ [])
joined packet now old more is = ap (λ (ps : List Packet). ps ++ packet ∷ []) is ∙ append_assoc old more (packet ∷ [])

kept-more : (a : Arrived) (packet : Packet) (old given more : List Packet) → given ≡ old ++ more → (all : List Packet) × (kept_by a packet given ≡ old ++ all)
kept-more Kept packet old given more is = (more ++ packet ∷ [], joined packet given old more is)
kept-more (Gap wanted got) packet old given more is = (more, is)
kept-more Discarded packet old given more is = (more, is)

gets-more : (old st : Stream) (packet : Packet) → HasMore old st → HasMore old (gets packet st)
gets-more old st packet has =
    let kept = kept-more (arrival st.receiver.broken (expected st.receiver) packet.seq) packet old.given st.given has.more has.given in
    record { more = kept.0; given = kept.1; taken = has.taken }

got-more : (a : Arrived) (old st : StreamNow) (packet : Packet) → HasMoreNow old st → (more : List Packet)
    × (if_kept a (st.given + 1) st.given ≡ old.given + length more) × (if_kept a (st.waiting ++ packet ∷ []) st.waiting ≡ old.waiting ++ more)
got-more Kept old st packet has =
    let long = length-append has.more (packet ∷ []) in
    let given = has.given in
    (has.more ++ packet ∷ [], omega (arith, long, given), joined packet st.waiting old.waiting has.more has.waiting)
got-more (Gap wanted got) old st packet has = (has.more, has.given, has.waiting)
got-more Discarded old st packet has = (has.more, has.given, has.waiting)

gets-more-now : (old st : StreamNow) (packet : Packet) → HasMoreNow old st → HasMoreNow old (gets_now packet st)
gets-more-now old st packet has =
    let got = got-more (arrival st.receiver.broken (expected st.receiver) packet.seq) old st packet has in
    record { more = got.0; given = got.1; waiting = got.2; taken = has.taken }

-- a Feed takes no packet of a stream to an Rx
feeds-none : (w : State) (b i s : ℕ) → FitsPresent w → IsTrue (enabled w (Feed b i)) → ends_at_rx w.plan s ≡ true → stream_into w.plan (block_at w.plan b) i ≡ Some s → ⊥
unfolding may
feeds-none w b i s fits may_it rx into = by_kind (is_rx (block_at w.plan b).kind) (sym (fits.ends.takers b i s into) ∙ rx) may_it
  where
    rest : Bool
    rest = option_map_or (has_untaken (front w)) (stream_into w.plan (block_at w.plan b) i) false && list_all (is_clear (front w)) (block_at w.plan b).outs

    by_kind : (r : Bool) → r ≡ true → (not r && rest) ≡ true → ⊥
    by_kind true is may_feed = false≢true may_feed
    by_kind false is may_feed = false≢true is

has-more : (w : State) (e : Event) (s : ℕ) → FitsPresent w → IsTrue (enabled w e) → ends_at_rx w.plan s ≡ true → IsNoTakingOf e s → state.LastsAt (HasMore (stream_at w s)) w.plan e s
has-more w (Enter t) s fits may_it rx none = λ terms packet rest st has. record { more = has.more; given = has.given; taken = has.taken }
has-more w (Command t op) s fits may_it rx none = λ st has. record { more = has.more; given = has.given; taken = has.taken }
has-more w (Report t) s fits may_it rx none = λ st has. record { more = has.more; given = has.given; taken = has.taken }
has-more w (Seen t n) s fits may_it rx none = λ e. absurd (none e)
has-more w (Feed b i) s fits may_it rx none = record {
  fed = λ into. absurd (feeds-none w b i s fits may_it rx into);
  readies = λ packets st has. record { more = has.more; given = has.given; taken = has.taken };
}
has-more w (Ask x) s fits may_it rx none = tt
has-more w (Reply x) s fits may_it rx none = tt
has-more w (Lose q) s fits may_it rx none = λ e st has. record { more = has.more; given = has.given; taken = has.taken }
has-more w (Hop q) s fits may_it rx none = record {
  gets = λ packet st has. gets-more (stream_at w s) st packet has;
  obeys = λ op told st has. record { more = has.more; given = has.given; taken = has.taken };
  hears = λ plan told st has. record { more = has.more; given = has.given; taken = has.taken };
}

has-more-now : (w : State) (e : Event) (s : ℕ) (old : StreamNow) → FitsPresent w → IsTrue (enabled w e) → ends_at_rx w.plan s ≡ true → IsNoTakingOf e s → present.LastsAt (HasMoreNow old) w.plan e s
has-more-now w (Enter t) s old fits may_it rx none = λ e packet rest st has. record { more = has.more; given = has.given; waiting = has.waiting; taken = has.taken }
has-more-now w (Command t op) s old fits may_it rx none = λ st has. record { more = has.more; given = has.given; waiting = has.waiting; taken = has.taken }
has-more-now w (Report t) s old fits may_it rx none = λ st has. record { more = has.more; given = has.given; waiting = has.waiting; taken = has.taken }
has-more-now w (Seen t n) s old fits may_it rx none = λ e. absurd (none e)
has-more-now w (Feed b i) s old fits may_it rx none = record {
  fed = λ into. absurd (feeds-none w b i s fits may_it rx into);
  readies = λ t j packets into out st has. record { more = has.more; given = has.given; waiting = has.waiting; taken = has.taken };
}
has-more-now w (Ask x) s old fits may_it rx none = tt
has-more-now w (Reply x) s old fits may_it rx none = tt
has-more-now w (Lose q) s old fits may_it rx none = tt
has-more-now w (Hop q) s old fits may_it rx none = record {
  gets = λ packet st has. gets-more-now old st packet has;
  obeys = λ c st has. record { more = has.more; given = has.given; waiting = has.waiting; taken = has.taken };
  hears = λ plan status st has. record { more = has.more; given = has.given; waiting = has.waiting; taken = has.taken };
}

-- ---- both grow by the same

-- a list grew by some packets, and its last part by as many: these are the same
same-more : (given more here : List Packet) (k l : ℕ) → k ≤ length given → l ≤ length (given ++ more) → length more ≡ length here → drop l (given ++ more) ≡ drop k given ++ here → more ≡ here
same-more given more here k l few fewer many is = append_cancel_left (drop k given) more here (sym (drop-append-le k given more few) ∙ ap (λ n. drop n (given ++ more)) (sym places) ∙ is)
  where
    places : l ≡ k
    places = let long = ap length is in grind (arith, long, many, length-append, length-drop)

module _ (rx rx_then : Bool) (old new : Stream) (before now : StreamNow) (was : IsStreamNow rx before old) (is : IsStreamNow rx_then now new) (has : HasMore old new) (has_now : HasMoreNow before now) where
  as-many : length has.more ≡ length has_now.more
  as-many =
      let counted = ap (λ (st : StreamNow). st.given) is.is in
      let counted_before = ap (λ (st : StreamNow). st.given) was.is in
      let long = ap length has.given ∙ length-append old.given has.more in
      let more = has_now.given in
      omega (arith, counted, counted_before, long, more)

  waits : drop is.handed (old.given ++ has.more) ≡ drop was.handed old.given ++ has_now.more
  waits =
      ap (drop is.handed) (sym has.given) ∙ sym (ap (λ (st : StreamNow). st.waiting) is.is) ∙ has_now.waiting
      ∙ ap (λ (ps : List Packet). ps ++ has_now.more) (ap (λ (st : StreamNow). st.waiting) was.is)

  same : has.more ≡ has_now.more
  same = same-more old.given has.more has_now.more was.handed is.handed was.given (subst (λ (ps : List Packet). is.handed ≤ length ps) has.given is.given) as-many waits

pub given-grows : GivenGrows
given-grows h w e s held fits may_it rx none = record {
  more = has.more;
  given = has.given;
  waiting = has_now.waiting ∙ ap (λ (ps : List Packet). (now_at h.present.streams s).waiting ++ ps) (sym both);
  taken = has.taken;
  taken_now = has_now.taken;
}
  where
    new_held : IsHeld (goes_on e h) (after w e)
    new_held = present_follows h w e fits may_it held

    has : HasMore (stream_at w s) (stream_at (after w e) s)
    has = state.lasts-on (HasMore (stream_at w s)) s e w (has-more w e s fits may_it rx none) (record { more = []; given = sym (append-nil (stream_at w s).given); taken = refl })

    has_now : HasMoreNow (now_at h.present.streams s) (now_at (goes_on e h).present.streams s)
    has_now = present.lasts-now (HasMoreNow (now_at h.present.streams s)) s e h
        (subst (λ (plan : RunPlan). present.LastsAt (HasMoreNow (now_at h.present.streams s)) plan e s) (sym held.now.plan) (has-more-now w e s (now_at h.present.streams s) fits may_it rx none))
        (record { more = []; given = omega arith; waiting = sym (append-nil (now_at h.present.streams s).waiting); taken = refl })

    both : has.more ≡ has_now.more
    both = same _ _ _ _ _ _ (held.now.streams s) (new_held.now.streams s) has has_now
