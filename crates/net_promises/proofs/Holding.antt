-- The counts of each stream, and what a present rests on.
use Rattle.std.proofs.Common.{◌≡◌, ℕ, ◌+◌, ◌≤◌, ◌<◌, ◌⊎◌, inl, inr, true, length, refl, sym, ◌∙◌, ap, subst, arith, if◌then◌else◌}
use Rattle.std.specs.Prelude.{Option, Some, None, is_some, slice_get}
use Rattle.std.specs.List.{AllByRecursion}
use Rattle.std.specs.Option.{option_map_or}
use Rattle.std.proofs.lemmas.Bool.{cases_lt, false≢true}
use Rattle.std.proofs.lemmas.List.{get_or_past, length-map}
use Rattle.std.proofs.lemmas.Option.{get_or_from_slice_get, slice_get_within}
use Rattle.block_library.specs.Blocks.{IsFeed}
use Rattle.chdr_packets.specs.Fits.{FitsBody}
use Rattle.chdr_packets.specs.declared.packet.Packet.{Packet}
use Rattle.chdr_words.specs.declared.epid.Epid.{Epid}
use Rattle.stream_laws.specs.Machine.{Core}
use Rattle.stream_laws.proofs.Laws.{held_within, holds_run, known_and_outstanding}
use Rattle.net_machine.specs.Nodes.{block_on}
use Rattle.net_machine.specs.Plans.{block_at, block_in, block_out, plan_at, producer_of}
use Rattle.net_machine.specs.State.{Entry, State, Stream, idle, stream_at}
use Rattle.net_present.specs.Fits.{Spells}
use Rattle.net_streams.specs.Shows.{load_of, terms_of}
use Rattle.net_flows.specs.Forms.{IsPacketOn, item_on}
use Rattle.net_lawful.specs.Lawful.{Lawful}
use Rattle.net_lawful.specs.Messages.{IsFit}
use Rattle.net_lawful.proofs.Laws.{blocks_take, no_rx_at_endpoints, plans_fit}
use Rattle.net_promises.specs.Arriving.{FeedsFit, RequestsFit}
use Rattle.net_promises.specs.Held.{StreamsAreWithin}
use Rattle.net_promises.specs.Laws.{LawfulFitsPresent}

-- ---- counts

pub streams-within : StreamsAreWithin
streams-within w s there lawful =
    let lt : s < length w.streams = subst (λ n. s < n) (sym lawful.steady.as_many) there in
    let flow = lawful.steady.flows s lt in
    let terms = terms_of (plan_at w.plan s) in
    let plan = (plan_at w.plan s).flow in
    let core = flow.shows.core in
    let known = known_and_outstanding terms flow.state flow.run in
    let held = held_within terms flow.state flow.run in
    let counted = (holds_run terms flow.state flow.run).counted in
    let peak = lawful.peaks s lt in
    let given : length flow.state.core.given ≡ length (stream_at w s).given = ap (λ (c : Core Packet). length c.given) core ∙ length-map (stream_at w s).given load_of in
    record {
      outstanding_packets = subst (λ (c : Core Packet). c.sender.outstanding.packets ≤ plan.cap_packets) core known.packets;
      outstanding_bytes = subst (λ (c : Core Packet). c.sender.outstanding.bytes ≤ plan.cap_bytes) core known.bytes;
      peak_packets = peak.packets;
      peak_bytes = peak.bytes;
      buffered_packets = subst (λ (c : Core Packet). c.receiver.buffered.packets ≤ plan.cap_packets) core held.packets;
      buffered_bytes = subst (λ (c : Core Packet). c.receiver.buffered.bytes ≤ plan.cap_bytes) core held.bytes;
      held = ap (λ (c : Core Packet). c.receiver.buffered.packets + c.taken) (sym core) ∙ counted.held_packets ∙ given;
    }

-- ---- a present can stand for the state

taken-within : (w : State) → Lawful w → (s : ℕ) → (stream_at w s).taken ≤ length (stream_at w s).given
taken-within w lawful s = by_order (cases_lt s (length w.plan.streams))
  where
    past : length w.plan.streams ≤ s → stream_at w s ≡ idle
    past le = get_or_past w.streams s idle (subst (λ n. n ≤ s) (sym lawful.steady.as_many) le)

    by_order : (s < length w.plan.streams) ⊎ (length w.plan.streams ≤ s) → (stream_at w s).taken ≤ length (stream_at w s).given
    by_order (inl lt) = let held = (streams-within w s lt lawful).held in omega (arith, held)
    by_order (inr le) = subst (λ (st : Stream). st.taken ≤ length st.given) (sym (past le)) (omega arith)

-- the block whose registers answer at an EPID has an input or an output there
found-on : (w : State) (epid : Epid) (b : ℕ) → block_on w epid ≡ Some b → (block_in w.plan epid ≡ Some b) ⊎ (block_out w.plan epid ≡ Some b)
found-on w epid b is = by_input (block_in w.plan epid) refl is
  where
    by_input : (o : Option ℕ) → block_in w.plan epid ≡ o → (if is_some o then o else block_out w.plan epid) ≡ Some b → (block_in w.plan epid ≡ Some b) ⊎ (block_out w.plan epid ≡ Some b)
    by_input None at is = inr is
    by_input (Some c) at is = inl (at ∙ is)

pub fits-present : LawfulFitsPresent
fits-present w lawful = record {
  taken = taken-within w lawful;
  spelled = λ q e rest is. (subst (AllByRecursion (λ (f : Entry). Spells f.tag f.packet.body)) is (lawful.spelled q)).0;
  ends = plans_fit w.tree w.plan lawful.steady.plan;
  registers = λ x b epid bank endpoint found.
      no_rx_at_endpoints w.tree w.plan x b epid bank lawful.steady.queues.tree lawful.steady.plan endpoint (found-on w epid b found);
}

-- ---- requests and feeds

pub requests-fit : RequestsFit
requests-fit w q e rest c lawful is has =
    let fit : IsFit e.packet e.packet.body = (subst (AllByRecursion (λ (f : Entry). IsFit f.packet f.packet.body)) is (lawful.messages q)).0 in
    subst FitsBody has (subst (IsFit e.packet) has fit).fits.body

-- an option that holds something
held-in : (o : Option ℕ) → is_some o ≡ true → (x : ℕ) × (o ≡ Some x)
held-in None is = absurd (false≢true is)
held-in (Some x) is = (x, refl)

stream-there : (w : State) → Lawful w → (s : ℕ) (p : Packet) → slice_get (stream_at w s).given (stream_at w s).taken ≡ Some p → s < length w.streams
stream-there w lawful s p at = by_order (cases_lt s (length w.streams))
  where
    none : ◌≡◌ {A = Option Packet} None (Some p) → ⊥
    none is = cc

    by_order : (s < length w.streams) ⊎ (length w.streams ≤ s) → s < length w.streams
    by_order (inl lt) = lt
    by_order (inr le) = absurd (none (ap (λ (st : Stream). slice_get st.given st.taken) (sym (get_or_past w.streams s idle le)) ∙ at))

pub feeds-fit : FeedsFit
feeds-fit w b i s p lawful into at =
    let lt = stream-there w lawful s p at in
    let there : s < length w.plan.streams = subst (λ n. s < n) lawful.steady.as_many lt in
    let st = stream_at w s in
    let sound = lawful.steady.plan in
    let form : IsPacketOn w.plan s p =
    subst (IsPacketOn w.plan s) (get_or_from_slice_get st.given st.taken p p at) ((lawful.steady.forms s lt).given st.taken p (slice_get_within st.given st.taken p at)) in
    let a = held-in (producer_of w.plan s) (sound.ports s there).0 in
    let one = (sound.fits.forms s there a.0 b a.1 (blocks_take w.tree w.plan b i s sound into)).item in
    let item : item_on w.plan s ≡ (block_at w.plan b).item = ap (λ o. option_map_or (λ c. (block_at w.plan c).item) o 0) a.1 ∙ one in
    subst (λ n. IsFeed n p) item form.feed
