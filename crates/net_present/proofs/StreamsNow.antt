-- What is kept of a stream goes on as the stream does.
use Rattle.std.proofs.Common.{◌≡◌, ℕ, ◌+◌, ◌-◌, ◌≤◌, Bool, true, false, List, [], ◌∷◌, ◌++◌, length, take, drop, map, refl, ◌∙◌, ap, arith, sum, zero, suc}
use Rattle.std.specs.Prelude.{slice_get}
use Rattle.std.proofs.lemmas.List.{length-append, take-append-le, drop-append-le, map-append, drop-map, take-map, drop-drop, length-map}
use Rattle.std.proofs.lemmas.List.Sums.{sum-map}
use Rattle.chdr_packets.specs.Length.{wire_of}
use Rattle.chdr_packets.specs.declared.packet.Packet.{Packet}
use Rattle.chdr_words.specs.declared.command.CmdOp.{CmdOp}
use Rattle.chdr_words.specs.declared.command.CmdOp.TheVariants.{Init, Ping, Resync, Other}
use Rattle.chdr_words.specs.declared.command.Command.{Command}
use Rattle.chdr_words.specs.declared.status.Status.{Status}
use Rattle.chdr_words.specs.declared.status.StatusCode.{StatusCode}
use Rattle.endpoint_laws.proofs.Laws.{kept_arrival, kept_arrives, kept_commands, kept_hears, kept_obeys, kept_reports, kept_sends, kept_takes}
use Rattle.stream_endpoint.specs.Epochs.{Cut, Told}
use Rattle.stream_endpoint.specs.InEnd.{Means, code_by, counts_of, kept_receiver}
use Rattle.endpoint_laws.specs.Laws.{SpellsTold}
use Rattle.stream_endpoint.specs.OutEnd.{kept_sender, told_by}
use Rattle.stream_endpoint.specs.Receiver.{Receiver, arrival, arrives, expected, takes}
use Rattle.stream_endpoint.specs.Sender.{Sender, hears}
use Rattle.stream_endpoint.specs.declared.count.Count.{Count}
use Rattle.stream_endpoint.specs.declared.state.Arrived.{Arrived}
use Rattle.stream_endpoint.specs.declared.state.Arrived.TheVariants.{Kept, Discarded, Gap}
use Rattle.net_machine.specs.declared.plan.StreamPlan.{StreamPlan}
use Rattle.net_machine.specs.State.{Entry, Stream}
use Rattle.net_machine.specs.Streams.{cut_by, gets, gets_order, gets_status, kept_by, loses, readies, sends_first, sends_order, sends_status, sum_of, taken_of, taken_to, taking}
use Rattle.net_present.specs.Kept.{IsStreamNow, stream_now}
use Rattle.net_present.specs.Present.{StreamNow}
use Rattle.net_present.specs.StreamSteps.{cuts_by, fed_now, gets_now, gets_order_now, gets_status_now, if_kept, readies_now, sends_first_now, sends_order_now, sends_status_now, sum_now, taken_now}

one-more : {A : Type 0} (xs : List A) (x : A) → length (xs ++ x ∷ []) ≡ length xs + 1
one-more xs x = length-append xs (x ∷ [])

-- ---- sending

sent-of : (handed offered : ℕ) (plan : StreamPlan) (p : Packet) (rest : List Packet) (st : Stream) →
    sends_first_now p rest (stream_now handed offered st) ≡ stream_now handed (offered - 1) (sends_first plan p rest st)
sent-of handed offered plan p rest st = rw (kept_sends (wire_of p) st.sender, one-more st.sent _) refl

pub now-sends : (rx : Bool) (now : StreamNow) (st : Stream) (plan : StreamPlan) (p : Packet) (rest : List Packet) →
    st.ready ≡ p ∷ rest → IsStreamNow rx now st → IsStreamNow rx (sends_first_now p rest now) (sends_first plan p rest st)
now-sends rx now st plan p rest first here = record {
  handed = here.handed;
  offered = here.offered - 1;
  given = here.given;
  ready = let most = here.ready in let many = ap (λ (ps : List Packet). length ps) first in omega (arith, many);
  fed = here.fed;
  is = ap (sends_first_now p rest) here.is ∙ sent-of here.handed here.offered plan p rest st;
}

pub now-orders : (rx : Bool) (now : StreamNow) (st : Stream) (op : CmdOp) →
    IsStreamNow rx now st → IsStreamNow rx (sends_order_now op now) (sends_order op st)
now-orders rx now st op here = record {
  handed = here.handed;
  offered = here.offered;
  given = here.given;
  ready = here.ready;
  fed = here.fed;
  is = ap (sends_order_now op) here.is ∙ rw (kept_commands op st.sender) refl;
}

pub now-reports : (rx : Bool) (now : StreamNow) (st : Stream) →
    IsStreamNow rx now st → IsStreamNow rx (sends_status_now now) (sends_status st)
now-reports rx now st here = record {
  handed = here.handed;
  offered = here.offered;
  given = here.given;
  ready = here.ready;
  fed = here.fed;
  is = ap sends_status_now here.is ∙ rw (kept_reports st.receiver) refl;
}

-- ---- what comes

abbrev got_now : Arrived → Packet → StreamNow → StreamNow
got_now a p st = record st {
  receiver = kept_receiver (arrives p.seq (wire_of p) st.receiver);
  given = if_kept a (st.given + 1) st.given;
  untaken = if_kept a (st.untaken ++ wire_of p ∷ []) st.untaken;
  waiting = if_kept a (st.waiting ++ p ∷ []) st.waiting;
}

abbrev got : Arrived → Packet → Stream → Stream
got a p st = record st {
  given = kept_by a p st.given;
  receiver = arrives p.seq (wire_of p) st.receiver;
}

got-of : (a : Arrived) (handed offered : ℕ) (p : Packet) (st : Stream) → handed ≤ length st.given → st.taken ≤ length st.given →
    got_now a p (stream_now handed offered st) ≡ stream_now handed offered (got a p st)
got-of Kept handed offered p st within taken =
    let untaken = ap (map wire_of) (drop-append-le st.taken st.given (p ∷ []) taken) ∙ map-append wire_of (drop st.taken st.given) (p ∷ []) in
    let waiting = drop-append-le handed st.given (p ∷ []) within in
    rw (kept_arrives p.seq (wire_of p) st.receiver, one-more st.given p, untaken, waiting) refl
got-of (Gap e g) handed offered p st within taken = rw (kept_arrives p.seq (wire_of p) st.receiver) refl
got-of Discarded handed offered p st within taken = rw (kept_arrives p.seq (wire_of p) st.receiver) refl

grows : (a : Arrived) (p : Packet) (given : List Packet) (k : ℕ) → k ≤ length given → k ≤ length (kept_by a p given)
grows Kept p given k within = let more = one-more given p in omega (arith, more)
grows (Gap e g) p given k within = within
grows Discarded p given k within = within

same-front : (a : Arrived) (p : Packet) (given : List Packet) (k : ℕ) → k ≤ length given → take k (kept_by a p given) ≡ take k given
same-front Kept p given k within = take-append-le k given (p ∷ []) within
same-front (Gap e g) p given k within = refl
same-front Discarded p given k within = refl

pub gets-taken : (p : Packet) (st : Stream) → st.taken ≤ length st.given → taken_of (gets p st) ≡ taken_of st
gets-taken p st within = same-front (arrival st.receiver.broken (expected st.receiver) p.seq) p st.given st.taken within

pub now-gets : (rx : Bool) (now : StreamNow) (st : Stream) (p : Packet) → st.taken ≤ length st.given →
    IsStreamNow rx now st → IsStreamNow rx (gets_now p now) (gets p st)
now-gets rx now st p within here =
    let arrived = arrival st.receiver.broken (expected st.receiver) p.seq in record {
      handed = here.handed;
      offered = here.offered;
      given = grows arrived p st.given here.handed here.given;
      ready = here.ready;
      fed = here.fed;
      is = ap (gets_now p) here.is
          ∙ ap (λ (a : Arrived). got_now a p (stream_now here.handed here.offered st)) (kept_arrival p.seq st.receiver)
          ∙ got-of arrived here.handed here.offered p st here.given within;
    }

cuts-of : (op : CmdOp) (sent given : ℕ) (cuts : List Cut) → cuts_by op (length cuts) ≡ length (cut_by op (record { sent = sent; given = given }) cuts)
cuts-of Init sent given cuts = refl
cuts-of Ping sent given cuts = refl
cuts-of Resync sent given cuts = omega arith
cuts-of (Other code) sent given cuts = refl

pub now-obeys : (rx : Bool) (now : StreamNow) (st : Stream) (c : Command) (told : Count) → Means c told →
    IsStreamNow rx now st → IsStreamNow rx (gets_order_now c now) (gets_order c.op told st)
now-obeys rx now st c told means here = record {
  handed = here.handed;
  offered = here.offered;
  given = here.given;
  ready = here.ready;
  fed = here.fed;
  is = ap (gets_order_now c) here.is
      ∙ rw (kept_obeys c.op (counts_of c) told st.receiver means, cuts-of c.op (length st.sent) (length st.given) st.cuts) refl;
}

abbrev with_sender : StreamNow → Sender → StreamNow
with_sender st sender = record st { sender = sender }

pub now-hears : (rx : Bool) (now : StreamNow) (st : Stream) (plan : StreamPlan) (status : Status) (told : Told) → SpellsTold status told →
    IsStreamNow rx now st → IsStreamNow rx (gets_status_now plan status now) (gets_status plan told st)
now-hears rx now st plan status told spells here = record {
  handed = here.handed;
  offered = here.offered;
  given = here.given;
  ready = here.ready;
  fed = here.fed;
  is = let base = stream_now here.handed here.offered st in
      ap (gets_status_now plan status) here.is
      ∙ ap (λ (code : StatusCode). with_sender base (kept_sender (hears plan.policy code (told_by status) (kept_sender st.sender)))) spells.code
      ∙ ap (λ (c : Count). with_sender base (kept_sender (hears plan.policy (code_by told.gap) c (kept_sender st.sender)))) spells.counts
      ∙ ap (with_sender base) (kept_hears plan.policy (code_by told.gap) told.told st.sender).1;
}

pub now-loses : (rx : Bool) (now : StreamNow) (st : Stream) (e : Entry) → IsStreamNow rx now st → IsStreamNow rx now (loses e st)
now-loses rx now st e here =
    record { handed = here.handed; offered = here.offered; given = here.given; ready = here.ready; fed = here.fed; is = here.is }

-- ---- what is taken and what becomes ready

sizes-of : (k : ℕ) (packets : List Packet) → sum_now (take k (map wire_of packets)) ≡ sum_of (take k packets)
sizes-of k packets =
    let sizes = take-map wire_of k packets in
    let many = ap (λ (ns : List ℕ). length ns) sizes ∙ length-map (take k packets) wire_of in
    let bytes = ap sum sizes ∙ sum-map wire_of (take k packets) in
    rw (many, bytes) refl

rest-of : (given : List Packet) (taken n : ℕ) → taken ≤ n →
    drop (n - taken) (map wire_of (drop taken given)) ≡ map wire_of (drop n given)
rest-of given taken n le =
    let e : taken + (n - taken) ≡ n = omega arith in
    drop-map wire_of (n - taken) (drop taken given) ∙ ap (map wire_of) (drop-drop (n - taken) taken given ∙ ap (λ k. drop k given) e)

abbrev taken_by : StreamNow → ℕ → Receiver → List ℕ → StreamNow
taken_by st n receiver sizes = record st { taken = n; receiver = receiver; untaken = sizes }

takes-of : (handed offered n : ℕ) (st : Stream) → st.taken ≤ n →
    taken_now n (stream_now handed offered st) ≡ stream_now handed offered (taken_to n st)
takes-of handed offered n st le = let base = stream_now handed offered st in
    ap (λ (c : Count). taken_by base n (kept_receiver (takes c (kept_receiver st.receiver))) (drop (n - st.taken) base.untaken))
    (sizes-of (n - st.taken) (drop st.taken st.given))
    ∙ ap (λ (r : Receiver). taken_by base n r (drop (n - st.taken) base.untaken)) (kept_takes (sum_of (taking n st)) st.receiver)
    ∙ ap (taken_by base n (kept_receiver (takes (sum_of (taking n st)) st.receiver))) (rest-of st.given st.taken n le)

pub now-takes : (now : StreamNow) (st : Stream) (n : ℕ) → st.taken ≤ n →
    IsStreamNow true now st → IsStreamNow true (taken_now n now) (taken_to n st)
now-takes now st n le here = record {
  handed = here.handed;
  offered = here.offered;
  given = here.given;
  ready = here.ready;
  fed = λ e. absurd (true_is_false e);
  is = ap (taken_now n) here.is ∙ takes-of here.handed here.offered n st le;
}
  where
    true_is_false : true ≡ false → ⊥
    true_is_false e = cc

pub now-feeds : (now : StreamNow) (st : Stream) → st.taken + 1 ≤ length st.given →
    IsStreamNow false now st → IsStreamNow false (fed_now now) (taken_to (st.taken + 1) st)
now-feeds now st some here = let at = here.fed refl in record {
  handed = here.handed + 1;
  offered = here.offered;
  given = omega (arith, at);
  ready = here.ready;
  fed = λ e. ap (λ k. k + 1) at;
  is = ap fed_now here.is
      ∙ ap (λ (t : StreamNow). record t { waiting = drop 1 (drop here.handed st.given) }) (takes-of here.handed here.offered (st.taken + 1) st (omega arith))
      ∙ rw (drop-drop 1 here.handed st.given) refl;
}

pub now-readies : (rx : Bool) (now : StreamNow) (st : Stream) (packets : List Packet) →
    IsStreamNow rx now st → IsStreamNow rx (readies_now packets now) (readies packets st)
now-readies rx now st packets here = record {
  handed = here.handed;
  offered = here.offered;
  given = here.given;
  ready = let most = here.ready in let many = length-append st.ready packets in omega (arith, many);
  fed = here.fed;
  is = ap (readies_now packets) here.is;
}

-- the first packet that waits is the first one that isn't taken
pub get-drop : {A : Type 0} (xs : List A) (k : ℕ) → slice_get (drop k xs) 0 ≡ slice_get xs k
get-drop [] zero = refl
get-drop [] (suc k) = refl
get-drop (x ∷ xs) zero = refl
get-drop (x ∷ xs) (suc k) = get-drop xs k
