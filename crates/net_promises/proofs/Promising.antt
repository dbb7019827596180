-- Each stream of a lawful network keeps the report's promise.
use Rattle.std.proofs.Common.{◌≡◌, ℕ, ◌+◌, ◌-◌, ◌≤◌, ◌<◌, inl, inr, Bool, true, false, IsTrue, List, [], ◌∷◌, ◌++◌, length, map, take, drop, refl, sym, ◌∙◌, ap, subst, arith, append-nil, zero, suc}
use Rattle.std.specs.Prelude.{not, ◌==◌, ◌&&◌}
use Rattle.std.specs.List.{Contains}
use Rattle.std.proofs.lemmas.Bool.{eqb-true, false≢true}
use Rattle.std.proofs.lemmas.List.{drop-map, length-map, length-take, map-append, take-map}
use mathlib.Core.List.{IsPrefix}
use Rattle.chdr_packets.specs.declared.packet.Packet.{Packet}
use Rattle.stream_endpoint.specs.Counts.{is_none}
use Rattle.stream_endpoint.specs.Epochs.{Cut}
use Rattle.stream_endpoint.specs.Sender.{is_covered, is_running}
use Rattle.stream_endpoint.specs.declared.state.OutState.{OutState}
use Rattle.stream_endpoint.specs.declared.state.OutState.TheVariants.{Opening, Running, Halted, Resyncing}
use Rattle.stream_laws.specs.Chains.{IsLost}
use Rattle.stream_laws.specs.Ends.{IsDrained}
use Rattle.stream_laws.specs.Epochs.{EachEpoch as EachLoaded, reach as reach_of}
use Rattle.stream_laws.specs.Laws.{piece}
use Rattle.stream_laws.specs.Machine.{Core, Load}
use Rattle.stream_laws.proofs.Laws.{epochwise, gives_all, known_and_outstanding, stops_at_loss, taken_of_given}
use Rattle.net_machine.specs.Blocks.{drained_by, has_packet, is_closed, is_drained}
use Rattle.net_machine.specs.Front.{StreamFront, front, stream_front}
use Rattle.net_machine.specs.Plain.{numbered_from}
use Rattle.net_machine.specs.Plans.{plan_at}
use Rattle.net_machine.specs.Promises.{EachEpoch, IsComplete, IsPrefixBetween, KeepsPromise, StopsAtLoss, part, reach}
use Rattle.net_machine.specs.State.{State, Stream, stream_at}
use Rattle.net_machine.proofs.Laws.{fronts}
use Rattle.net_streams.specs.Shows.{core_of, load_of, loads_of, terms_of}
use Rattle.net_flows.specs.Flows.{IsFlow}
use Rattle.net_lawful.specs.Lawful.{Lawful}
use Rattle.net_promises.specs.Laws.{LawfulKeepsPromises}

-- ---- loads are their packets

item_of : Load Packet → Packet
item_of load = load.item

unload : (packets : List Packet) → map item_of (loads_of packets) ≡ packets
unfolding item_of
unload [] = refl
unload (p ∷ packets) = ap (λ rest. p ∷ rest) (unload packets)

piece-loads : (from upto : ℕ) (packets : List Packet) → piece from upto (loads_of packets) ≡ loads_of (part from upto packets)
piece-loads from upto packets =
    ap (take (upto - from)) (drop-map load_of from packets) ∙ take-map load_of (upto - from) (drop from packets)

piece-unload : (from upto : ℕ) (packets : List Packet) → map item_of (piece from upto (loads_of packets)) ≡ part from upto packets
piece-unload from upto packets = ap (map item_of) (piece-loads from upto packets) ∙ unload (part from upto packets)

prefix-unload : (from here : Cut) (given sent : List Packet) → IsPrefix (piece from.given here.given (loads_of given)) (piece from.sent here.sent (loads_of sent)) →
    IsPrefix (part from.given here.given given) (part from.sent here.sent sent)
prefix-unload from here given sent is =
    let whole = ap (map item_of) is.1 in
    let parts = map-append item_of (piece from.given here.given (loads_of given)) is.0 in (
      map item_of is.0,
      ap (λ xs. xs ++ map item_of is.0) (sym (piece-unload from.given here.given given)) ∙ sym parts ∙ whole ∙ piece-unload from.sent here.sent sent,
    )

-- ---- epoch by epoch

each-epoch : (P Q : Cut → Cut → Type 0) → ((from here : Cut) → P from here → Q from here) → (cuts : List Cut) (here : Cut) → EachLoaded P cuts here → EachEpoch Q cuts here
each-epoch P Q less [] here all = less _ here all
each-epoch P Q less (cut ∷ cuts) here all = (less cut here all.0, each-epoch P Q less cuts cut all.1)

reach-same : (st : Stream) → reach_of (loads_of st.sent) (loads_of st.given) ≡ reach st
reach-same st =
    let sent = length-map st.sent load_of in
    let given = length-map st.given load_of in
    λ i. record { sent = sent i; given = given i }

lost-there : (lost : List ℕ) (place : ℕ) → Contains lost place → IsLost lost place
lost-there [] place has = let never = has.1 in absurd (omega (arith, never))
lost-there (x ∷ lost) place (zero, there, is) = inl (sym is)
lost-there (x ∷ lost) place (suc k, there, is) = inr (lost-there lost place (k, omega (arith, there), is))

-- ---- one stream

module _ (w : State) (s : ℕ) (lawful : Lawful w) (lt : s < length w.streams) where
  flow : IsFlow w s
  flow = lawful.steady.flows s lt

  core : flow.state.core ≡ core_of (plan_at w.plan s) (is_closed (front w) s) (stream_at w s)
  core = flow.shows.core

  prefixes : EachEpoch (IsPrefixBetween (stream_at w s)) (stream_at w s).cuts (reach (stream_at w s))
  prefixes =
      let st = stream_at w s in
      let law = subst (λ (c : Core Packet). EachLoaded (λ from here. IsPrefix (piece from.given here.given c.given) (piece from.sent here.sent c.sent)) c.cuts (reach_of c.sent c.given)) core
      (epochwise (terms_of (plan_at w.plan s)) flow.state flow.run) in
      let here = subst (λ h. EachLoaded (λ from here. IsPrefix (piece from.given here.given (loads_of st.given)) (piece from.sent here.sent (loads_of st.sent))) st.cuts h) (reach-same st) law in
      each-epoch (λ from here. IsPrefix (piece from.given here.given (loads_of st.given)) (piece from.sent here.sent (loads_of st.sent))) (IsPrefixBetween st)
      (λ from here. prefix-unload from here st.given st.sent) st.cuts (reach st) here

  stops : EachEpoch (StopsAtLoss (stream_at w s)) (stream_at w s).cuts (reach (stream_at w s))
  stops =
      let st = stream_at w s in
      let law = subst (λ (c : Core Packet). EachLoaded (λ from here. (k : ℕ) → IsLost c.lost k → from.sent ≤ k → k < here.sent → from.sent + (here.given - from.given) ≤ k) c.cuts (reach_of c.sent c.given)) core
      (stops_at_loss (terms_of (plan_at w.plan s)) flow.state flow.run) in
      let here = subst (λ h. EachLoaded (λ from here. (k : ℕ) → IsLost st.lost k → from.sent ≤ k → k < here.sent → from.sent + (here.given - from.given) ≤ k) st.cuts h) (reach-same st) law in
      each-epoch (λ from here. (k : ℕ) → IsLost st.lost k → from.sent ≤ k → k < here.sent → from.sent + (here.given - from.given) ≤ k) (StopsAtLoss st)
      (λ from here stop place has low high. let far = stop place (lost-there st.lost place has) low high in omega (arith, far, low)) st.cuts (reach st) here

  taken : (stream_at w s).taken ≤ length (stream_at w s).given
  taken =
      let all = (taken_of_given (terms_of (plan_at w.plan s)) flow.state flow.run).0 in
      let cut = length-take flow.state.core.taken flow.state.core.given in
      let same : flow.state.core.taken ≡ (stream_at w s).taken = ap (λ (c : Core Packet). c.taken) core in
      let given : length flow.state.core.given ≡ length (stream_at w s).given = ap (λ (c : Core Packet). length c.given) core ∙ length-map (stream_at w s).given load_of in
      omega (arith, all, cut, same, given)

  -- ---- a drained stream is complete

  runs : (state : OutState) → is_running state ≡ true → state ≡ Running
  runs Opening is = absurd (false≢true is)
  runs Running is = refl
  runs Halted is = absurd (false≢true is)
  runs Resyncing is = absurd (false≢true is)

  empty : (packets : List Packet) → not (has_packet packets) ≡ true → packets ≡ []
  empty [] is = refl
  empty (p ∷ packets) is = absurd (false≢true is)

  both : (a b : Bool) → (a && b) ≡ true → (a ≡ true) × (b ≡ true)
  both true b is = (refl, is)
  both false b is = absurd (false≢true is)

  complete : IsTrue (is_drained (front w) s) → (stream_at w s).lost ≡ [] → IsComplete w s
  complete drained lost =
      let st = stream_at w s in
      let c = flow.state.core in
      let is : drained_by (is_closed (front w) s) (stream_front st) ≡ true = subst (λ (f : StreamFront). drained_by (is_closed (front w) s) f ≡ true) (fronts.stream w s) drained in
      let one = both (is_closed (front w) s) _ is in
      let two = both (not (has_packet st.ready)) _ one.1 in
      let three = both (is_running st.sender.state) _ two.1 in
      let four = both (is_none st.sender.outstanding) (st.taken == length st.given) three.1 in
      let ready : st.ready ≡ [] = empty st.ready two.0 in
      let given : length c.given ≡ length st.given = ap (λ (d : Core Packet). length d.given) core ∙ length-map st.given load_of in
      let ends : IsDrained flow.state = record {
        closed = ap (λ (d : Core Packet). d.closed) core ∙ one.0;
        none_ready = ap (λ (d : Core Packet). d.ready) core ∙ ap (λ packets. loads_of (numbered_from (plan_at w.plan s) (length st.sent) packets)) ready;
        running = ap (λ (d : Core Packet). d.sender.state) core ∙ runs st.sender.state three.0;
        covered = ap (λ (d : Core Packet). is_covered d.sender) core ∙ four.0;
        all_taken = ap (λ (d : Core Packet). d.taken) core ∙ eqb-true st.taken (length st.given) four.1 ∙ sym given;
      } in
      let all = (gives_all (terms_of (plan_at w.plan s)) flow.state flow.run ends (ap (λ (d : Core Packet). d.lost) core ∙ lost)).1 in
      let loads : take st.taken (loads_of st.given) ≡ loads_of st.sent =
      sym (ap (λ (d : Core Packet). take d.taken d.given) core) ∙ all ∙ ap (λ (d : Core Packet). d.sent) core in
      record {
        sent = sym (append-nil st.sent) ∙ ap (λ packets. st.sent ++ numbered_from (plan_at w.plan s) (length st.sent) packets) (sym ready) ∙ lawful.makes s lt;
        taken = sym (unload (take st.taken st.given)) ∙ ap (map item_of) (sym (take-map load_of st.taken st.given) ∙ loads) ∙ unload st.sent;
      }

  promise : KeepsPromise w s
  promise =
      let known = known_and_outstanding (terms_of (plan_at w.plan s)) flow.state flow.run in
      record {
        prefixes = prefixes;
        taken = taken;
        bytes = subst (λ (c : Core Packet). c.sender.outstanding.bytes ≤ (plan_at w.plan s).flow.cap_bytes) core known.bytes;
        packets = subst (λ (c : Core Packet). c.sender.outstanding.packets ≤ (plan_at w.plan s).flow.cap_packets) core known.packets;
        stops = stops;
        complete = complete;
      }

pub keeps-promises : LawfulKeepsPromises
keeps-promises w s lt lawful = promise w s lawful (subst (λ n. s < n) (sym lawful.steady.as_many) lt)
