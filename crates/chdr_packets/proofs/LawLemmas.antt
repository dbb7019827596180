-- The packet at the front is unique, is read back, and fits.
use Rattle.std.proofs.Common.{◌≡◌, ℕ, ◌+◌, ◌-◌, ◌<◌, ◌≤◌, ◌⊎◌, inl, inr, Bool, true, false, ltb, List, length, get_or, Option, None, Some, refl, sym, ap, ◌∙◌, arith}
use Rattle.std.specs.Prelude.{slice_range}
use Rattle.std.proofs.lemmas.Bool.{ltb-true, ltb-false}
use Rattle.std.proofs.lemmas.List.{get_or_past, length-drop}
use Rattle.chdr_words.specs.Field.{field, word_at}
use Rattle.chdr_words.specs.Wire.{time_bytes}
use Rattle.chdr_words.specs.declared.header.Header.{Header}
use Rattle.chdr_words.specs.Management.{hops_words}
use Rattle.chdr_words.specs.Laws.{IsBytes as SmallBytes}
use Rattle.chdr_packets.specs.declared.packet.Body.{Body}
use Rattle.chdr_packets.specs.declared.packet.Body.TheVariants as bodies
use Rattle.chdr_packets.specs.Fits.{FitsBody}
use Rattle.chdr_packets.specs.Grammar.{body_time, SpellsBody, payload_start}
use Rattle.chdr_packets.specs.Length.{body_length, length_of}
use Rattle.chdr_packets.specs.Laws.{IsBytes, OneAtFront, ReadsBack, SpelledFits}
use Rattle.chdr_packets.proofs.PacketLemmas.{found, the_packet, the_size}
use Rattle.chdr_packets.proofs.GrammarLemmas.{front_read, spelled_read}
use Rattle.chdr_packets.proofs.WritingLemmas.{length-slice, length-words, size_of_hops}

-- a number past the end is read as 0
pub small_bytes : (b : List ℕ) → IsBytes b → SmallBytes b
small_bytes b small i = cases (ltb i (length b)) refl
  where
    cases : (t : Bool) → ltb i (length b) ≡ t → get_or b i 0 < 256
    cases true lt = small i 0 (ltb-true _ _ lt)
    cases false past = rw (get_or_past b i 0 (ltb-false _ _ past)) (omega arith)

pub one_at_front : OneAtFront
one_at_front b p q m n le le' s t =
    let e : found p m ≡ found q n = sym (front_read b p m le s) ∙ front_read b q n le' t in
    (ap (the_packet p) e, ap (the_size m) e)

pub reads_back : ReadsBack
reads_back p b more s = spelled_read b more p s

-- ---- what has a spelling fits

body_fits : (body : Body) (payload : List ℕ) → SpellsBody body payload → FitsBody body
body_fits (bodies.Samples time bytes) payload s = tt
body_fits (bodies.Status status) payload s = record { code = s.listed; cap_bytes = omega (arith, s.cap_bytes); cap_packets = omega (arith, s.cap_packets); got_packets = omega (arith, s.got_packets); info = omega (arith, s.info) }
body_fits (bodies.Command command) payload s = record { op = s.listed; op_data = omega (arith, s.op_data); packets = omega (arith, s.packets) }
body_fits (bodies.Control control) payload s = record {
  seq = omega (arith, s.seq);
  src_port = omega (arith, s.src_port);
  dst_port = omega (arith, s.dst_port);
  op = s.listed;
  enables = omega (arith, s.enables);
  addr = omega (arith, s.addr);
  words = omega (arith, s.count);
}
body_fits (bodies.Management m) payload s = record { width = omega (arith, s.width); many = omega (arith, s.count); each = s.each }

time_few : (time : Option ℕ) → time_bytes time ≤ 8
time_few None = omega arith
time_few (Some t) = omega arith

-- only a control payload may be shorter than its canonical one, and that is short
body_within : (body : Body) (payload : List ℕ) → SpellsBody body payload → (body_length body ≡ time_bytes (body_time body) + length payload) ⊎ (body_length body ≤ 96)
body_within (bodies.Samples None bytes) payload s = inl (omega (arith, ap length s))
body_within (bodies.Samples (Some t) bytes) payload s = inl (omega (arith, ap length s))
body_within (bodies.Status status) payload s = inr (omega arith)
body_within (bodies.Command command) payload s = inr (omega arith)
body_within (bodies.Control control) payload s = inr (omega (arith, s.count, time_few control.time))
body_within (bodies.Management m) payload s = inl (omega (arith, s.head, length-drop 8 payload, ap length s.hops, length-words (hops_words m.hops), size_of_hops m.hops))

pub spelled_fits : SpelledFits
spelled_fits p b s =
    let w = word_at b 0 in
    let vc : field w 63 58 ≡ p.vc = ap (λ (h : Header). h.vc) s.first in
    let count : field w 52 48 ≡ length p.mdata = ap (λ (h : Header). h.num_mdata) s.first in
    let len : field w 31 16 ≡ s.len = ap (λ (h : Header). h.length) s.first in
    let payload : List ℕ = slice_range b (payload_start p) s.len in
    let within : s.len ≤ length b = omega (arith, s.size) in
    let size : length payload ≡ s.len - payload_start p = length-slice b (payload_start p) s.len s.within within in
    record {
      vc = omega (arith, vc);
      mdata = omega (arith, count);
      body = body_fits p.body payload s.payload;
      len = either (body_within p.body payload s.payload) size (omega (arith, len)) (omega (arith, count));
    }
  where
    either : (body_length p.body ≡ time_bytes (body_time p.body) + length (slice_range b (payload_start p) s.len)) ⊎ (body_length p.body ≤ 96)
        → length (slice_range b (payload_start p) s.len) ≡ s.len - payload_start p → s.len ≤ 65535 → length p.mdata ≤ 31 → length_of p ≤ 65535
    either (inl e) size len count = omega (arith, e, size, len, s.within)
    either (inr few) size len count = omega (arith, few, count)
