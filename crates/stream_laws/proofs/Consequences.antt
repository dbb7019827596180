-- The laws of a stream follow from its invariant.
use Rattle.std.proofs.Common.{◌≡◌, ℕ, zero, suc, ◌+◌, ◌-◌, ◌*◌, ◌<◌, ◌≤◌, ◌%◌, ◌^◌, Some, List, [], ◌∷◌, ◌++◌, length, take, drop, slice_get, refl, ap, sym, ◌∙◌, subst, arith, length-drop}
use Rattle.std.proofs.lemmas.List.{length-take-le, take-append-drop}
use mathlib.Core.List.{IsPrefix}
use Rattle.stream_endpoint.specs.Counts.{minus_modulo, spelled, spelled_minus}
use Rattle.stream_endpoint.specs.declared.state.Gap.{Gap}
use Rattle.stream_endpoint.specs.InEnd.{code_by, info_by}
use Rattle.endpoint_laws.proofs.Laws.{status_spells}
use Rattle.stream_laws.specs.Machine.{Cut, Load, State, Terms, number_at, opens}
use Rattle.stream_laws.specs.Acts.{Act, IsLegal, after, after_all}
use Rattle.stream_laws.specs.Chains.{IsLost, flying, packets_told, bytes_told}
use Rattle.stream_laws.specs.Epochs.{EachEpoch, IsEpoch, begun, origin, reach}
use Rattle.stream_laws.specs.Invariant.{Received}
use Rattle.stream_laws.specs.Laws.{HasFewEpochs, HasRoomAhead, IsBrokenByLoss, IsCut, IsEpochwise, IsRun, IsTakenOfGiven, IsWithin, GoesOn, Joins, NumbersGoOn, NumbersTell, ReadsBack, ReportsGap, StopsAtLoss, TellsTotals, piece}
use Rattle.stream_laws.specs.Talk.{Holds}
use Rattle.stream_laws.proofs.Chains.{rises_le, stand_count}
use Rattle.stream_laws.proofs.Places.{epochs_last, near}
use Rattle.stream_laws.proofs.Steps.{holds_all, holds_opens}
use Rattle.stream_laws.proofs.StepsAhead.{arriving}
use Rattle.stream_laws.proofs.StepsBack.{read_back}
use Rattle.stream_laws.proofs.StepsSender.{renew_talk}

pub holds_run : {A : Type 0} (terms : Terms) (st : State A) → IsRun terms st → Holds terms st
holds_run {A} terms st run =
    subst (λ (s : State A). Holds terms s) run.run.there (holds_all terms (opens terms) run.run.acts run.valid (holds_opens terms) run.run.legal)

prefix_by_get : {X : Type 0} (xs ys : List X) → ((k : ℕ) → k < length xs → slice_get xs k ≡ slice_get ys k) → length xs ≤ length ys → IsPrefix xs ys
prefix_by_get [] ys same le = (ys, refl)
prefix_by_get (x ∷ xs) [] same le = absurd (omega arith)
prefix_by_get (x ∷ xs) (y ∷ ys) same le =
    let first : Some x ≡ Some y = same zero (omega arith) in
    let rest = prefix_by_get xs ys (λ k below. same (suc k) (omega arith)) (omega arith) in
    (rest.0, cc (first, rest.1))

get_take : {X : Type 0} (n : ℕ) (xs : List X) (k : ℕ) → k < n → slice_get (take n xs) k ≡ slice_get xs k
get_take zero xs k below = absurd (omega arith)
get_take (suc n) [] k below = refl
get_take (suc n) (x ∷ xs) zero below = refl
get_take (suc n) (x ∷ xs) (suc k) below = get_take n xs k (omega arith)

get_drop : {X : Type 0} (n : ℕ) (xs : List X) (k : ℕ) → slice_get (drop n xs) k ≡ slice_get xs (n + k)
get_drop {X} zero xs k = let e : zero + k ≡ k = omega arith in rw e refl
get_drop {X} (suc n) [] k = refl
get_drop {X} (suc n) (x ∷ xs) k = let e : suc n + k ≡ suc (n + k) = omega arith in rw e (get_drop n xs k)

get_piece : {X : Type 0} (from upto : ℕ) (xs : List X) (k : ℕ) → k < upto - from → slice_get (piece from upto xs) k ≡ slice_get xs (from + k)
get_piece from upto xs k below = get_take (upto - from) (drop from xs) k below ∙ get_drop from xs k

length-piece : {X : Type 0} (from upto : ℕ) (xs : List X) → upto ≤ length xs → length (piece from upto xs) ≡ upto - from
length-piece from upto xs le = length-take-le (upto - from) (drop from xs) (let l = length-drop from xs in omega arith)

epoch_prefix : {A : Type 0} (sent given : List (Load A)) (lost : List ℕ) (from here : Cut) → here.sent ≤ length sent → here.given ≤ length given
    → IsEpoch sent given lost from here → IsPrefix (piece from.given here.given given) (piece from.sent here.sent sent)
epoch_prefix sent given lost from here ls lg e =
    let g = length-piece from.given here.given given lg in
    let s = length-piece from.sent here.sent sent ls in
    let more = e.more_given in
    let fits = e.fits in
    prefix_by_get _ _ (λ k below. (
    get_piece from.given here.given given k (omega arith)
    ∙ e.same k (omega arith)
    ∙ sym (get_piece from.sent here.sent sent k (omega arith))
    )) (omega arith)

epoch_prefixes : {A : Type 0} (sent given : List (Load A)) (lost : List ℕ) (cuts : List Cut) (here : Cut) → here.sent ≤ length sent → here.given ≤ length given
    → EachEpoch (IsEpoch sent given lost) cuts here
    → EachEpoch (λ from here. IsPrefix (piece from.given here.given given) (piece from.sent here.sent sent)) cuts here
epoch_prefixes {A} sent given lost [] here ls lg h = epoch_prefix sent given lost origin here ls lg h
epoch_prefixes {A} sent given lost (cut ∷ cuts) here ls lg h = (
  epoch_prefix sent given lost cut here ls lg h.0,
  epoch_prefixes sent given lost cuts cut (let m = h.0.more_sent in omega arith) (let m = h.0.more_given in omega arith) h.1,
)

pub epochwise : {A : Type 0} (terms : Terms) (st : State A) → IsRun terms st → IsEpochwise terms st
epochwise terms st run = epoch_prefixes st.core.sent st.core.given st.core.lost st.core.cuts (reach st.core.sent st.core.given) (omega arith) (omega arith) (holds_run terms st run).epochs

epoch_cuts : {A : Type 0} (sent given : List (Load A)) (lost : List ℕ) (cuts : List Cut) (here : Cut)
    → EachEpoch (IsEpoch sent given lost) cuts here → EachEpoch (λ from here. (from.sent ≤ here.sent) × (from.given ≤ here.given)) cuts here
epoch_cuts {A} sent given lost [] here h = (h.more_sent, h.more_given)
epoch_cuts {A} sent given lost (cut ∷ cuts) here h = ((h.0.more_sent, h.0.more_given), epoch_cuts sent given lost cuts cut h.1)

pub cut_in_order : {A : Type 0} (terms : Terms) (st : State A) → IsRun terms st → IsCut terms st
cut_in_order terms st run = epoch_cuts st.core.sent st.core.given st.core.lost st.core.cuts (reach st.core.sent st.core.given) (holds_run terms st run).epochs

epoch_stops : {A : Type 0} (sent given : List (Load A)) (lost : List ℕ) (cuts : List Cut) (here : Cut) → EachEpoch (IsEpoch sent given lost) cuts here
    → EachEpoch (λ from here. (k : ℕ) → IsLost lost k → from.sent ≤ k → k < here.sent → from.sent + (here.given - from.given) ≤ k) cuts here
epoch_stops {A} sent given lost [] here h = λ k l a b. (let p = h.before_loss k l a b in omega arith)
epoch_stops {A} sent given lost (cut ∷ cuts) here h = (λ k l a b. (let p = h.0.before_loss k l a b in omega arith), epoch_stops sent given lost cuts cut h.1)

pub stops_at_loss : {A : Type 0} (terms : Terms) (st : State A) → IsRun terms st → StopsAtLoss terms st
stops_at_loss terms st run = epoch_stops st.core.sent st.core.given st.core.lost st.core.cuts (reach st.core.sent st.core.given) (holds_run terms st run).epochs

pub taken_of_given : {A : Type 0} (terms : Terms) (st : State A) → IsRun terms st → IsTakenOfGiven terms st
taken_of_given terms st run =
    let held = (holds_run terms st run).counted.held_packets in
    (length-take-le st.core.taken st.core.given (omega arith), (drop st.core.taken st.core.given, take-append-drop st.core.taken st.core.given))

pub within_capacity : {A : Type 0} (terms : Terms) (st : State A) → IsRun terms st → IsWithin terms st
within_capacity terms st run =
    let counted = (holds_run terms st run).counted in
    let credited = (holds_run terms st run).credited in
    record {
      sent_packets = counted.sent_packets;
      sent_bytes = counted.sent_bytes;
      packets = (let a = credited.packets in let b = credited.sent_packets in omega arith);
      bytes = (let a = credited.bytes in let b = credited.sent_bytes in omega arith);
    }

pub room_ahead : {A : Type 0} (terms : Terms) (st : State A) → IsRun terms st → HasRoomAhead terms st
room_ahead terms st run place load rest e good number =
    let h = holds_run terms st run in
    let p = ap (λ es. (flying es).packets) e in
    let b = ap (λ es. (flying es).bytes) e in
    let balance = h.balanced in
    let credit = h.credited in
    let kp = rises_le packets_told _ st.back _ h.rising.packets in
    let kb = rises_le bytes_told _ st.back _ h.rising.bytes in
    (omega arith, omega arith)

pub few_epochs : {A : Type 0} (terms : Terms) (st : State A) → IsRun terms st → HasFewEpochs terms st
few_epochs terms st run = let p = (holds_run terms st run).paid.ended in omega arith

pub broken_by_loss : {A : Type 0} (terms : Terms) (st : State A) → IsRun terms st → IsBrokenByLoss terms st
broken_by_loss {A} terms st run gap broken =
    let h = holds_run terms st run in
    let received = subst (λ g. Received terms.start.packets st.core.receiver.reached.packets st.next st.core.given st.core.lost (begun st.core.cuts) g) broken h.received in
    let torn = received.shape in
    let reached_is = received.reached_is in
    let from_here = received.from_here in
    let last = epochs_last (IsEpoch st.core.sent st.core.given st.core.lost) st.core.cuts (reach st.core.sent st.core.given) h.epochs in
    let stand = stand_count st.core.lost st.next st.forward (length st.core.sent) h.ordered.stand in
    let later = torn.later in
    let arrived = torn.arrived in
    let first : ℕ = st.core.receiver.reached.packets - terms.start.packets in
    let at : terms.start.packets + first ≡ st.core.receiver.reached.packets = omega arith in
    record {
      place = first;
      later = torn.place;
      is_gap = record {
        here = omega arith;
        sent = omega arith;
        lost = torn.between first (omega arith) (omega arith);
        first = λ k l a. (let p = last.before_loss k l a (h.ordered.past k l) in omega arith);
      };
      expected = torn.expected ∙ ap (λ n. n % 2 ^ 16) (sym at);
      behind = omega arith;
      sent = omega arith;
      not_lost = torn.not_lost;
      between = λ k a b. torn.between k (omega arith) b;
      got = torn.got;
    }

gap_info : (gap : Gap) (expected got : ℕ) → gap.expected ≡ expected → gap.got ≡ got
    → gap.expected * 65536 + gap.got ≡ expected * 65536 + got
gap_info gap expected got e g = ap (λ n. n * 65536 + gap.got) e ∙ ap (λ n. expected * 65536 + n) g

pub reports_gap : {A : Type 0} (terms : Terms) (st : State A) → IsRun terms st → ReportsGap terms st
reports_gap terms st run me gap broken =
    let told = broken_by_loss terms st run gap broken in
    let balance = (holds_run terms st run).balanced in
    let spells = status_spells (record { me = me; flow = terms.flow; receiver = st.core.receiver }) balance.held_packets balance.held_bytes in
    let info : info_by st.core.receiver.broken ≡ number_at terms told.place * 65536 + number_at terms told.later =
    ap info_by broken ∙ gap_info gap _ _ told.expected told.got in
    record {
      gap = gap;
      told = told;
      code = ap code_by broken;
      info = info;
      counts = spells.counts;
    }

spelled_packets : (a b : ℕ) → minus_modulo (2 ^ 40) a (b % 2 ^ 40) ≡ minus_modulo (2 ^ 40) a b
spelled_packets a b = let e : b % 2 ^ 40 % 2 ^ 40 ≡ b % 2 ^ 40 = omega arith in ap (λ n. (a + (2 ^ 40 - n)) % 2 ^ 40) e

spelled_bytes : (a b : ℕ) → minus_modulo (2 ^ 64) a (b % 2 ^ 64) ≡ minus_modulo (2 ^ 64) a b
spelled_bytes a b = let e : b % 2 ^ 64 % 2 ^ 64 ≡ b % 2 ^ 64 = omega arith in ap (λ n. (a + (2 ^ 64 - n)) % 2 ^ 64) e

pub reads_back : {A : Type 0} (terms : Terms) (st : State A) → IsRun terms st → ReadsBack terms st
reads_back terms st run status rest e =
    let p = spelled_packets st.core.sender.sent.packets status.told.packets in
    let b = spelled_bytes st.core.sender.sent.bytes status.told.bytes in
    let same : spelled_minus st.core.sender.sent (spelled status.told) ≡ spelled_minus st.core.sender.sent status.told = λ i. record { packets = p i; bytes = b i } in
    same ∙ read_back terms st status rest run.valid (holds_run terms st run) e

pub tells_totals : {A : Type 0} (terms : Terms) (st : State A) → IsRun terms st → TellsTotals terms st
tells_totals terms st run told rest e = (renew_talk terms st told rest st.core.sender.state e (holds_run terms st run).talk).1

pub numbers_tell : {A : Type 0} (terms : Terms) (st : State A) → IsRun terms st → NumbersTell terms st
numbers_tell terms st run place load rest e number =
    let a = arriving terms st place load rest run.valid (holds_run terms st run) e in near _ _ a.at a.few number

pub numbers_go_on : {A : Type 0} (terms : Terms) (st : State A) → IsRun terms st → NumbersGoOn terms st
numbers_go_on terms st run = ap (λ n. n % 2 ^ 16) (holds_run terms st run).counted.sent_packets

legal_join : {A : Type 0} (terms : Terms) (st : State A) (acts more : List (Act A)) → IsLegal terms st acts → IsLegal terms (after_all terms st acts) more
    → IsLegal terms st (acts ++ more)
legal_join terms st [] more first second = second
legal_join terms st (act ∷ acts) more first second = (first.0, legal_join terms (after terms st act) acts more first.1 second)

after_join : {A : Type 0} (terms : Terms) (st : State A) (acts more : List (Act A)) → after_all terms st (acts ++ more) ≡ after_all terms (after_all terms st acts) more
after_join terms st [] more = refl
after_join terms st (act ∷ acts) more = after_join terms (after terms st act) acts more

pub joins : {A : Type 0} → Joins A
joins {A} terms from mid to first second = record {
  acts = first.acts ++ second.acts;
  legal = legal_join terms from first.acts second.acts first.legal (subst (λ (s : State A). IsLegal terms s second.acts) (sym first.there) second.legal);
  there = after_join terms from first.acts second.acts ∙ (ap (λ (s : State A). after_all terms s second.acts) first.there ∙ second.there);
}

pub goes_on : {A : Type 0} → GoesOn A
goes_on {A} terms from to act run allowed = joins terms from to (after terms to act) run (record { acts = act ∷ []; legal = (allowed, tt); there = refl })
