-- Where nothing was lost each stream carried its plain list.
use Rattle.std.proofs.Common.{◌≡◌, ℕ, ◌+◌, ◌-◌, ◌<◌, ◌≤◌, ◌==◌, ◌⊎◌, inl, inr, Bool, true, List, [], ◌∷◌, ◌++◌, length, map, take, Option, Some, None, refl, sym, ◌∙◌, ap, subst, arith, append-nil, if◌then◌else◌}
use Rattle.std.specs.Prelude.{◌&&◌, not}
use Rattle.std.specs.Option.{option_map_or}
use Rattle.std.proofs.lemmas.Bool.{and_parts, cases_lt, eqb-true}
use Rattle.std.proofs.lemmas.List.{length-map, length-take, take-map}
use Rattle.block_library.specs.Lines.{line_of}
use Rattle.block_library.specs.Memory.{lists}
use Rattle.chdr_packets.specs.declared.packet.Packet.{Packet}
use Rattle.stream_endpoint.specs.Counts.{is_none}
use Rattle.stream_endpoint.specs.Sender.{is_covered, is_running}
use Rattle.stream_endpoint.specs.declared.count.Count.{Count}
use Rattle.stream_endpoint.specs.declared.state.OutState.{OutState}
use Rattle.stream_endpoint.specs.declared.state.OutState.TheVariants.{Opening, Running, Halted, Resyncing}
use Rattle.stream_laws.specs.Ends.{IsDrained}
use Rattle.stream_laws.specs.Machine.{Core, Load}
use Rattle.stream_laws.proofs.Laws.{gives_all, holds_run}
use Rattle.net_machine.specs.declared.tally.StreamEnd.TheVariants.{Drained}
use Rattle.net_machine.specs.declared.tally.Tally.{Tally}
use Rattle.net_machine.specs.Blocks.{drained_by, fed_to, has_packet, is_closed, is_drained}
use Rattle.net_machine.specs.Front.{StreamFront, front, stream_front}
use Rattle.net_machine.specs.Plain.{made_for, numbered_from, plain, plain_through}
use Rattle.net_machine.specs.Plans.{block_at, plan_at, producer_of, stream_into}
use Rattle.net_machine.specs.State.{State, stream_at}
use Rattle.net_machine.specs.Streams.{taken_of}
use Rattle.net_machine.specs.Tallies.{acked_of, end_of, undrained}
use Rattle.net_machine.proofs.Laws.{fronts}
use Rattle.net_streams.specs.Shows.{load_of, loads_of, terms_of}
use Rattle.net_ends.specs.Complete.{AllEndPlain, IsAtPlainEnd, LinesArePlain, plain_tally}
use Rattle.net_ends.proofs.Chains.{producer-below, up}
use Rattle.net_ends.proofs.Ports.{into-below, into-consumer}
use Rattle.net_ends.proofs.Resting.{all-drained}

running-is : (o : OutState) → is_running o ≡ true → o ≡ Running
running-is Opening h = cc
running-is Running h = refl
running-is Halted h = cc
running-is Resyncing h = cc

no-packet : (ready : List Packet) → not (has_packet ready) ≡ true → ready ≡ []
no-packet [] h = refl
no-packet (p ∷ ps) h = cc

-- packets are what their loads are made of
items-of : (packets : List Packet) → map (λ (l : Load Packet). l.item) (loads_of packets) ≡ packets
items-of [] = refl
items-of (p ∷ ps) = ap (λ (qs : List Packet). p ∷ qs) (items-of ps)

same-packets : (xs ys : List Packet) → loads_of xs ≡ loads_of ys → xs ≡ ys
same-packets xs ys same = sym (items-of xs) ∙ ap (λ (ls : List (Load Packet)). map (λ (l : Load Packet). l.item) ls) same ∙ items-of ys

-- what the network finds drained
record HasEnded (w : State) (s : ℕ) : Type 0 where
  closed : is_closed (front w) s ≡ true
  ready : (stream_at w s).ready ≡ []
  running : (stream_at w s).sender.state ≡ Running
  covered : is_none (stream_at w s).sender.outstanding ≡ true
  taken : (stream_at w s).taken ≡ length (stream_at w s).given

has-ended : (w : State) (s : ℕ) → is_drained (front w) s ≡ true → HasEnded w s
has-ended w s is =
    let old = stream_at w s in
    let here : drained_by (is_closed (front w) s) (stream_front old) ≡ true = subst (λ (t : StreamFront). drained_by (is_closed (front w) s) t ≡ true) (fronts.stream w s) is in
    let a = and_parts (is_closed (front w) s) (not (has_packet old.ready) && (is_running old.sender.state && (is_none old.sender.outstanding && (old.taken == length old.given)))) here in
    let b = and_parts (not (has_packet old.ready)) (is_running old.sender.state && (is_none old.sender.outstanding && (old.taken == length old.given))) a.1 in
    let c = and_parts (is_running old.sender.state) (is_none old.sender.outstanding && (old.taken == length old.given)) b.1 in
    let d = and_parts (is_none old.sender.outstanding) (old.taken == length old.given) c.1 in
    record {
      closed = a.0;
      ready = no-packet old.ready b.0;
      running = running-is old.sender.state c.0;
      covered = d.0;
      taken = eqb-true old.taken (length old.given) d.1;
    }

module _ (w : State) (at : IsAtPlainEnd w) where
  ended : (s : ℕ) → s < length w.streams → HasEnded w s
  ended s there = has-ended w s (all-drained w at.steady at.ways at.still at.none_lost s there)

  drained-at : (s : ℕ) (there : s < length w.streams) → IsDrained (at.steady.flows s there).state
  drained-at s there =
      let flow = at.steady.flows s there in
      let end_ = ended s there in
      record {
        closed = ap (λ (c : Core Packet). c.closed) flow.shows.core ∙ end_.closed;
        none_ready = ap (λ (c : Core Packet). c.ready) flow.shows.core ∙ ap (λ (ps : List Packet). loads_of (numbered_from (plan_at w.plan s) (length (stream_at w s).sent) ps)) end_.ready;
        running = ap (λ (c : Core Packet). c.sender.state) flow.shows.core ∙ end_.running;
        covered = ap (λ (c : Core Packet). is_covered c.sender) flow.shows.core ∙ end_.covered;
        all_taken = ap (λ (c : Core Packet). c.taken) flow.shows.core ∙ end_.taken ∙ sym (ap (λ (c : Core Packet). length c.given) flow.shows.core ∙ length-map (stream_at w s).given load_of);
      }

  -- all that was sent was taken
  taken-is : (s : ℕ) → s < length w.streams → taken_of (stream_at w s) ≡ (stream_at w s).sent
  taken-is s there =
      let flow = at.steady.flows s there in
      let lost = ap (λ (c : Core Packet). c.lost) flow.shows.core ∙ at.none_lost s there in
      let all = (gives_all (terms_of (plan_at w.plan s)) flow.state flow.run (drained-at s there) lost).1 in
      same-packets (taken_of (stream_at w s)) (stream_at w s).sent
      (sym (take-map load_of (stream_at w s).taken (stream_at w s).given)
      ∙ sym (ap (λ (c : Core Packet). take c.taken c.given) flow.shows.core) ∙ all ∙ ap (λ (c : Core Packet). c.sent) flow.shows.core)

  there-of : (s : ℕ) → s < length w.plan.streams → s < length w.streams
  there-of s lt = subst (λ (n : ℕ). s < n) (sym at.steady.as_many) lt

  -- what was fed to an input is what the streams before it carry
  fed-plain : (k b i : ℕ) → b < length w.plan.blocks → ((t : ℕ) → t < length w.plan.streams → stream_into w.plan (block_at w.plan b) i ≡ Some t → (stream_at w t).sent ≡ plain_through k w.plan t) →
      fed_to w (block_at w.plan b) i ≡ option_map_or (plain_through k w.plan) (stream_into w.plan (block_at w.plan b) i) []
  fed-plain k b i lt each = by_stream (stream_into w.plan (block_at w.plan b) i) refl
    where
      below : (t : ℕ) → stream_into w.plan (block_at w.plan b) i ≡ Some t → t < length w.plan.streams
      below t is = into-below w.plan (block_at w.plan b) i t is

      by_stream : (o : Option ℕ) → stream_into w.plan (block_at w.plan b) i ≡ o → option_map_or (λ (t : ℕ). taken_of (stream_at w t)) o [] ≡ option_map_or (plain_through k w.plan) o []
      by_stream None is = refl
      by_stream (Some t) is = let lt_t = below t is in taken-is t (there-of t lt_t) ∙ each t lt_t is

  -- what was sent is what was made
  sent-made : (s b : ℕ) → s < length w.plan.streams → producer_of w.plan s ≡ Some b →
      (stream_at w s).sent ≡ numbered_from (plan_at w.plan s) 0 (made_for (block_at w.plan b) (plan_at w.plan s) (lists (fed_to w (block_at w.plan b) 0) (fed_to w (block_at w.plan b) 1)))
  sent-made s b lt from =
      let there = there-of s lt in
      sym (append-nil (stream_at w s).sent)
      ∙ ap (λ (ps : List Packet). (stream_at w s).sent ++ numbered_from (plan_at w.plan s) (length (stream_at w s).sent) ps) (sym (ended s there).ready)
      ∙ at.made s there
      ∙ ap (λ (o : Option ℕ). option_map_or (λ (c : ℕ). numbered_from (plan_at w.plan s) 0 (made_for (block_at w.plan c) (plan_at w.plan s) (lists (fed_to w (block_at w.plan c) 0) (fed_to w (block_at w.plan c) 1)))) o []) from

  sent-plain : (s : ℕ) → s < length w.plan.streams → (stream_at w s).sent ≡ plain w.plan s
  sent-plain = up w.plan at.steady.plan.ports at.steady.plan.acyclic (λ k s. (stream_at w s).sent ≡ plain_through k w.plan s)
      (λ k s b lt from each.
      let fed : (i : ℕ) → fed_to w (block_at w.plan b) i ≡ option_map_or (plain_through k w.plan) (stream_into w.plan (block_at w.plan b) i) [] =
      λ i. fed-plain k b i (producer-below w.plan s b from) (λ t lt_t is. each t lt_t (into-consumer w.tree w.plan at.steady.plan b i t (producer-below w.plan s b from) is)) in
      sent-made s b lt from
      ∙ ap (λ (ps : List Packet). numbered_from (plan_at w.plan s) 0 (made_for (block_at w.plan b) (plan_at w.plan s) (lists ps (fed_to w (block_at w.plan b) 1)))) (fed 0)
      ∙ ap (λ (ps : List Packet). numbered_from (plan_at w.plan s) 0 (made_for (block_at w.plan b) (plan_at w.plan s) (lists (option_map_or (plain_through k w.plan) (stream_into w.plan (block_at w.plan b) 0) []) ps))) (fed 1)
      ∙ sym (ap (λ (o : Option ℕ). option_map_or (λ (c : ℕ). numbered_from (plan_at w.plan s) 0 (made_for (block_at w.plan c) (plan_at w.plan s)
      (lists (option_map_or (plain_through k w.plan) (stream_into w.plan (block_at w.plan c) 0) []) (option_map_or (plain_through k w.plan) (stream_into w.plan (block_at w.plan c) 1) [])))) o []) from))

  -- ---- ends, tallies and lines

  end-drained : (s : ℕ) → s < length w.streams → end_of w s ≡ Drained
  end-drained s there = ap (λ (b : Bool). if b then Drained else undrained (stream_at w s).receiver.broken (length (stream_at w s).sent) (acked_of (plan_at w.plan s) (stream_at w s)))
      (all-drained w at.steady at.ways at.still at.none_lost s there)

  -- all that was sent is known to be taken
  acked-all : (s : ℕ) → s < length w.streams → acked_of (plan_at w.plan s) (stream_at w s) ≡ length (stream_at w s).sent
  acked-all s there =
      let flow = at.steady.flows s there in
      let counted = (holds_run (terms_of (plan_at w.plan s)) flow.state flow.run).counted.sent_packets in
      let total : flow.state.core.sender.sent.packets ≡ (stream_at w s).sender.sent.packets = ap (λ (c : Core Packet). c.sender.sent.packets) flow.shows.core in
      let sent : length flow.state.core.sent ≡ length (stream_at w s).sent = ap (λ (c : Core Packet). length c.sent) flow.shows.core ∙ length-map (stream_at w s).sent load_of in
      let none : (stream_at w s).sender.outstanding.packets ≡ 0 =
      eqb-true (stream_at w s).sender.outstanding.packets 0 (and_parts ((stream_at w s).sender.outstanding.packets == 0) ((stream_at w s).sender.outstanding.bytes == 0) (ended s there).covered).0 in
      sums (stream_at w s).sender.sent.packets flow.state.core.sender.sent.packets (stream_at w s).sender.outstanding.packets (plan_at w.plan s).start (length flow.state.core.sent) (length (stream_at w s).sent) counted total sent none
    where
      sums : (a t o p m n : ℕ) → t ≡ p + m → t ≡ a → m ≡ n → o ≡ 0 → a - o - p ≡ n
      sums a t o p m n is same all none = omega arith

  no-cuts : (s : ℕ) → s < length w.streams → length (stream_at w s).cuts + 1 ≡ 1
  no-cuts s there =
      let flow = at.steady.flows s there in
      let unhurt = (holds_run (terms_of (plan_at w.plan s)) flow.state flow.run).unhurt.none_cut in
      let cuts : length flow.state.core.cuts ≡ length (stream_at w s).cuts = ap (λ (c : Core Packet). length c.cuts) flow.shows.core in
      let lost : length flow.state.core.lost ≡ 0 = ap (λ (c : Core Packet). length c.lost) flow.shows.core ∙ ap (λ (ks : List ℕ). length ks) (at.none_lost s there) in
      sums (length flow.state.core.cuts) (length (stream_at w s).cuts) (length flow.state.core.lost) unhurt cuts lost (cases_lt 0 (length flow.state.core.cuts))
    where
      sums : (a b c : ℕ) → (1 ≤ a → 1 ≤ c) → a ≡ b → c ≡ 0 → (0 < a) ⊎ (a ≤ 0) → b + 1 ≡ 1
      sums a b c h same none (inl some) = let lost = h some in absurd (omega (arith, lost, none))
      sums a b c h same none (inr few) = omega arith

  taken-all : (s : ℕ) → s < length w.streams → (stream_at w s).taken ≡ length (stream_at w s).sent
  taken-all s there =
      let cut = length-take (stream_at w s).taken (stream_at w s).given in
      let all = (ended s there).taken in
      let same : length (take (stream_at w s).taken (stream_at w s).given) ≡ length (stream_at w s).sent = ap (λ (ps : List Packet). length ps) (taken-is s there) in
      omega (arith, cut, all, same)

  fed-all : (o : Option ℕ) → ((t : ℕ) → o ≡ Some t → t < length w.plan.streams) → option_map_or (λ (t : ℕ). taken_of (stream_at w t)) o [] ≡ option_map_or (plain w.plan) o []
  fed-all None below = refl
  fed-all (Some t) below = let lt = below t refl in taken-is t (there-of t lt) ∙ sent-plain t lt

same-tally : (peak : Count) (a b c d n : ℕ) → a ≡ n → b ≡ n → c ≡ n → d ≡ 1 →
    ◌≡◌ {A = Tally} (record { sent = a; delivered = b; acked = c; epochs = d; peak_bytes = peak.bytes; peak_packets = peak.packets }) (plain_tally n peak)
same-tally peak a b c d n sent delivered acked epochs = λ i. record {
  sent = sent i;
  delivered = delivered i;
  acked = acked i;
  epochs = epochs i;
  peak_bytes = peak.bytes;
  peak_packets = peak.packets;
}

pub all-end_plain : AllEndPlain
all-end_plain w at s there =
    let lt : s < length w.plan.streams = subst (λ (n : ℕ). s < n) at.steady.as_many there in
    let plain_is = sent-plain w at s lt in
    let many : length (stream_at w s).sent ≡ length (plain w.plan s) = ap (λ (ps : List Packet). length ps) plain_is in
    record {
      end = end-drained w at s there;
      sent = plain_is;
      taken = taken-is w at s there ∙ plain_is;
      tally = λ peak. same-tally peak (length (stream_at w s).sent) (stream_at w s).taken (acked_of (plan_at w.plan s) (stream_at w s)) (length (stream_at w s).cuts + 1) (length (plain w.plan s))
          many (taken-all w at s there ∙ many) (acked-all w at s there ∙ many) (no-cuts w at s there);
    }

pub lines-plain : LinesArePlain
lines-plain w at b =
    ap (λ (ps : List Packet). line_of b (block_at w.plan b).item ps)
    (fed-all w at (stream_into w.plan (block_at w.plan b) 0) (λ t is. into-below w.plan (block_at w.plan b) 0 t is))
