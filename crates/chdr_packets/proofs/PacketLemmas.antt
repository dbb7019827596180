-- The packet at the front of bytes: what is read is spelled so, what is spelled so is read, and what follows doesn't matter.
use Rattle.std.proofs.Common.{eqb, ◌≡◌, ℕ, ◌+◌, ◌-◌, ◌<◌, ◌≤◌, Bool, true, false, cond, ltb, List, [], ◌++◌, length, take, drop, Option, None, Some, Result, Ok, Err, refl, sym, ap, subst, ◌∙◌, arith}
use Rattle.std.specs.Prelude.{IfSome, IfOk, slice_range, ◌&&◌}
use Rattle.std.specs.List.{list_all}
use Rattle.std.proofs.lemmas.Bool.{ltb-true, ltb-false, le-ltb}
use Rattle.std.proofs.lemmas.List.{take-append-drop, length-take, length-append, drop-append-le, take-append-le, length-drop}
use Rattle.chdr_words.specs.Field.{word_at, words_at}
use Rattle.chdr_words.specs.Header.{header_of}
use Rattle.chdr_words.specs.Wire.{wire_size_of}
use Rattle.chdr_words.specs.declared.header.Header.{Header}
use Rattle.chdr_words.specs.declared.header.PktType.{PktType}
use Rattle.chdr_words.specs.declared.header.PktType.TheVariants as types
use Rattle.chdr_words.proofs.Laws.{word_at-front, words_at-front}
use Rattle.chdr_packets.specs.declared.fault.PacketFault.{PacketFault}
use Rattle.chdr_packets.specs.declared.fault.PacketFault.TheVariants.{ReservedType, BadLength}
use Rattle.chdr_packets.specs.declared.packet.Packet.{Packet}
use Rattle.chdr_packets.specs.declared.packet.Body.{Body}
use Rattle.chdr_packets.specs.Grammar.{payload_plain, plain_under, is_plain, type_time, start_of}
use Rattle.chdr_packets.specs.Reading.{Gives, is_reserved, tests_of, frame_read, time_at, body_read, packet_of, packed, opened, packet_read, passed, IsFramed}

-- the parts of what was read, or others
abbrev pub the_packet : Packet → Result (Option (Packet × ℕ)) PacketFault → Packet
the_packet other (Ok None) = other
the_packet other (Ok (Some x)) = x.0
the_packet other (Err fault) = other

abbrev pub the_size : ℕ → Result (Option (Packet × ℕ)) PacketFault → ℕ
the_size other (Ok None) = other
the_size other (Ok (Some x)) = x.1
the_size other (Err fault) = other

abbrev packed_with : Header → Body → List ℕ → Result (Option (Packet × ℕ)) PacketFault
packed_with h body ws = Ok (Some (record { vc = h.vc; eob = h.eob; eov = h.eov; seq = h.seq; dst = h.dst; mdata = ws; body = body }, wire_size_of h.length))

-- ---- the header's tests

abbrev framed : Header → Result (Option Header) PacketFault
framed h = Ok (Some h)

abbrev nothing : Result (Option Header) PacketFault
nothing = Ok None

abbrev tested : Bool → Bool → Bool → Header → Result (Option Header) PacketFault
tested reserved small cut h = cond reserved (Err ReservedType) (cond small (Err BadLength) (cond cut (Ok None) (Ok (Some h))))

pub record Passed (reserved small cut : Bool) (h g : Header) : Type 0 where
  pub good : reserved ≡ false
  pub long : small ≡ false
  pub whole : cut ≡ false
  pub same : h ≡ g

tests_passed : (reserved small cut : Bool) (h g : Header) → tested reserved small cut h ≡ framed g → Passed reserved small cut h g
tests_passed true small cut h g e = absurd cc
tests_passed false true cut h g e = absurd cc
tests_passed false false true h g e = absurd cc
tests_passed false false false h g e = record { good = refl; long = refl; whole = refl; same = cc }

short_or : (b : Bool) (r : Result (Option Header) PacketFault) (g : Header) → cond b (Ok None) r ≡ framed g → (b ≡ false) × (r ≡ framed g)
short_or true r g e = absurd cc
short_or false r g e = (refl, e)

short_no : (b : Bool) (r : Result (Option Header) PacketFault) → b ≡ false → cond b (Ok None) r ≡ r
short_no true r e = absurd cc
short_no false r e = refl

tests_hold : (reserved small cut : Bool) (h : Header) → reserved ≡ false → small ≡ false → cut ≡ false → tested reserved small cut h ≡ framed h
tests_hold reserved small cut h e1 e2 e3 = rw (e1, e2, e3) refl

-- a header that passed its tests stands before its whole packet
pub frame_ok : (b : List ℕ) (g : Header) → frame_read b ≡ framed g → IsFramed g b
frame_ok b g e =
    let h = header_of (word_at b 0) in
    let one = short_or (ltb (length b) 8) (tests_of h (length b)) g e in
    let p = tests_passed (is_reserved h.pkt_type) (ltb h.length (start_of h)) (ltb (length b) (wire_size_of h.length)) h g one.1 in
    record {
      read = p.same;
      good = rw (← p.same) p.good;
      start = rw (← p.same) (ltb-false _ _ p.long);
      whole = rw (← p.same) (ltb-false _ _ p.whole);
    }

pub wire_long : (h : Header) (b : List ℕ) → IsFramed h b → 8 ≤ length b
wire_long h b f = let long : 8 ≤ start_of h = omega arith in omega (arith, f.start, f.whole, long)

pub frame_is : (b : List ℕ) (h : Header) → IsFramed h b → frame_read b ≡ framed h
frame_is b h f =
    let long : ltb (length b) 8 ≡ false = le-ltb _ _ (wire_long h b f) in
    let start : ltb h.length (start_of h) ≡ false = le-ltb _ _ f.start in
    let whole : ltb (length b) (wire_size_of h.length) ≡ false = le-ltb _ _ f.whole in
    ap (λ (g : Header). cond (ltb (length b) 8) (Ok None) (tests_of g (length b))) f.read
    ∙ short_no (ltb (length b) 8) (tests_of h (length b)) long
    ∙ tests_hold (is_reserved h.pkt_type) (ltb h.length (start_of h)) (ltb (length b) (wire_size_of h.length)) h f.good start whole

-- ---- what follows the packet

slice-front : (x y : List ℕ) (i j : ℕ) → i ≤ j → j ≤ length x → slice_range (x ++ y) i j ≡ slice_range x i j
slice-front x y i j order within =
    let start : i ≤ length x = omega arith in
    let long : j - i ≤ length (drop i x) = omega (arith, length-drop i x) in
    ap (λ (z : List ℕ). take (j - i) z) (drop-append-le i x y start) ∙ take-append-le (j - i) (drop i x) y long

time-front : (t : PktType) (x y : List ℕ) → 8 + type_time t ≤ length x → time_at t (x ++ y) ≡ time_at t x
time-front types.Management x y le = refl
time-front types.Status x y le = refl
time-front types.Command x y le = refl
time-front types.Control x y le = refl
time-front types.Plain x y le = refl
time-front types.Timed x y le = ap (λ (t : ℕ). Some t) (word_at-front x y 8 le)
time-front (types.Reserved n) x y le = refl

packed-front : (h : Header) (x y : List ℕ) (r : Result Body PacketFault) → words_at (x ++ y) (8 + type_time h.pkt_type) h.num_mdata ≡ words_at x (8 + type_time h.pkt_type) h.num_mdata
    → packed h (x ++ y) r ≡ packed h x r
packed-front h x y (Ok body) e = ap (λ (ws : List ℕ). packed_with h body ws) e
packed-front h x y (Err fault) e = refl

framed-front : (h : Header) (x y : List ℕ) → IsFramed h x → IsFramed h (x ++ y)
framed-front h x y f =
    let first : word_at (x ++ y) 0 ≡ word_at x 0 = word_at-front x y 0 (wire_long h x f) in
    record { read = ap header_of first ∙ f.read; good = f.good; start = f.start; whole = omega (arith, f.whole, length-append x y) }

pub read-front : (h : Header) (x y : List ℕ) → IsFramed h x → packet_read (x ++ y) ≡ packet_read x
unfolding packet_read
read-front h x y f =
    let len : h.length ≤ length x = omega (arith, f.whole) in
    let time : time_at h.pkt_type (x ++ y) ≡ time_at h.pkt_type x = time-front h.pkt_type x y (omega (arith, f.start, len)) in
    let words : words_at (x ++ y) (8 + type_time h.pkt_type) h.num_mdata ≡ words_at x (8 + type_time h.pkt_type) h.num_mdata =
    words_at-front h.num_mdata x y (8 + type_time h.pkt_type) (omega (arith, f.start, len)) in
    let slice : slice_range (x ++ y) (start_of h) h.length ≡ slice_range x (start_of h) h.length = slice-front x y (start_of h) h.length f.start len in
    ap (opened (x ++ y)) (frame_is (x ++ y) h (framed-front h x y f))
    ∙ packed-front h x y (body_read h.pkt_type (time_at h.pkt_type (x ++ y)) (slice_range (x ++ y) (start_of h) h.length)) words
    ∙ ap (λ (t : Option ℕ). packed h x (body_read h.pkt_type t (slice_range (x ++ y) (start_of h) h.length))) time
    ∙ ap (λ (z : List ℕ). packed h x (body_read h.pkt_type (time_at h.pkt_type x) z)) slice
    ∙ sym (ap (opened x) (frame_is x h f))

-- ---- a packet that was read

abbrev pub found : Packet → ℕ → Result (Option (Packet × ℕ)) PacketFault
found p n = Ok (Some (p, n))

-- the parts of a packet that was read
pub record Found (b : List ℕ) (p : Packet) (n : ℕ) : Type 0 where
  pub header : Header
  pub framed_by : IsFramed header b
  pub body : Body
  pub body_is : body_read header.pkt_type (time_at header.pkt_type b) (slice_range b (start_of header) header.length) ≡ Ok body
  pub packet : packet_of header b body ≡ p
  pub size : wire_size_of header.length ≡ n

packed_ok : (h : Header) (b : List ℕ) (r : Result Body PacketFault) (p : Packet) (n : ℕ) → packed h b r ≡ found p n → (body : Body) × (r ≡ Ok body) × (packet_of h b body ≡ p) × (wire_size_of h.length ≡ n)
packed_ok h b (Ok body) p n e = (body, refl, ap (λ (r : Result (Option (Packet × ℕ)) PacketFault). the_packet p r) e, ap (λ (r : Result (Option (Packet × ℕ)) PacketFault). the_size n r) e)
packed_ok h b (Err fault) p n e = absurd cc

pub found_parts : (b : List ℕ) (p : Packet) (n : ℕ) → packet_read b ≡ found p n → Found b p n
unfolding packet_read
found_parts b p n e = cases (frame_read b) refl e
  where
    cases : (r : Result (Option Header) PacketFault) → frame_read b ≡ r → opened b r ≡ found p n → Found b p n
    cases (Ok None) is e = absurd cc
    cases (Ok (Some h)) is e =
        let x = packed_ok h b (body_read h.pkt_type (time_at h.pkt_type b) (slice_range b (start_of h) h.length)) p n e in
        record { header = h; framed_by = frame_ok b h is; body = x.0; body_is = x.1; packet = x.2; size = x.3 }
    cases (Err fault) is e = absurd cc

-- the packet's own bytes are enough
pub read-take : (b : List ℕ) (p : Packet) (n : ℕ) → packet_read b ≡ found p n → (n ≤ length b) × (8 ≤ n) × (packet_read (take n b) ≡ found p n)
read-take b p n e =
    let f = found_parts b p n e in
    let h = f.header in
    let le : n ≤ length b = omega (arith, f.framed_by.whole, f.size) in
    let long : 8 ≤ start_of h = omega arith in
    let least : 8 ≤ n = omega (arith, f.framed_by.start, f.size, long) in
    let x : List ℕ = take n b in
    let len : length x ≡ n = omega (arith, length-take n b, le) in
    let whole : x ++ drop n b ≡ b = take-append-drop n b in
    let first : word_at b 0 ≡ word_at x 0 = ap (λ (z : List ℕ). word_at z 0) (sym whole) ∙ word_at-front x (drop n b) 0 (omega (arith, len, least)) in
    let front : IsFramed h x = record { read = ap header_of (sym first) ∙ f.framed_by.read; good = f.framed_by.good; start = f.framed_by.start; whole = omega (arith, len, f.size) } in
    (le, least, sym (read-front h x (drop n b) front) ∙ ap packet_read whole ∙ e)

-- ---- what a call answered

pub gives_within : (b : List ℕ) (r : Result (Option (Packet × ℕ)) PacketFault) → Gives r (packet_read b) → IfOk r (λ found. IfSome found (λ x. (x.1 ≤ length b) × (8 ≤ x.1)))
gives_within b (Ok None) g = tt
gives_within b (Ok (Some x)) g = let t = read-take b x.0 x.1 g in (t.0, t.1)
gives_within b (Err fault) g = tt

-- ---- what follows doesn't change what was found

pub read_more : (x y : List ℕ) (p : Packet) (n : ℕ) → packet_read x ≡ found p n → packet_read (x ++ y) ≡ found p n
read_more x y p n e = let f = found_parts x p n e in read-front f.header x y f.framed_by ∙ e

-- less than a packet is short
pub none_few : (b : List ℕ) → packet_read b ≡ Ok None → length b < 65536
unfolding packet_read
none_few b e = frames (frame_read b) refl e
  where
    packed_some : (h : Header) (r : Result Body PacketFault) → packed h b r ≡ Ok None → length b < 65536
    packed_some h (Ok body) e = absurd cc
    packed_some h (Err fault) e = absurd cc

    header_few : (reserved small cut short : Bool) (h : Header) → h.length < 65536 → ltb (length b) 8 ≡ short → ltb (length b) (wire_size_of h.length) ≡ cut
        → cond short (Ok None) (tested reserved small cut h) ≡ nothing → length b < 65536
    header_few reserved small cut true h wide e f g = omega (arith, ltb-true (length b) 8 e)
    header_few true small cut false h wide e f g = absurd cc
    header_few false true cut false h wide e f g = absurd cc
    header_few false false true false h wide e f g = omega (arith, ltb-true (length b) (wire_size_of h.length) f)
    header_few false false false false h wide e f g = absurd cc

    frames : (r : Result (Option Header) PacketFault) → frame_read b ≡ r → opened b r ≡ Ok None → length b < 65536
    frames (Ok None) is e =
        let h = header_of (word_at b 0) in
        header_few (is_reserved h.pkt_type) (ltb h.length (start_of h)) (ltb (length b) (wire_size_of h.length)) (ltb (length b) 8) h (omega arith) refl refl is
    frames (Ok (Some h)) is e = packed_some h (body_read h.pkt_type (time_at h.pkt_type b) (slice_range b (start_of h) h.length)) e
    frames (Err fault) is e = absurd cc

pub gives_few : (b : List ℕ) (r : Result (Option (Packet × ℕ)) PacketFault) → Gives r (packet_read b) → r ≡ Ok None → length b < 65536
gives_few b (Ok None) g e = none_few b g
gives_few b (Ok (Some x)) g e = absurd cc
gives_few b (Err fault) g e = absurd cc

pub passed_within : (b : List ℕ) (r : Result (Option (ℕ × Bool)) PacketFault) → r ≡ passed b (packet_read b) → IfOk r (λ found. IfSome found (λ x. (x.0 ≤ length b) × (8 ≤ x.0)))
passed_within b r e = subst (λ (x : Result (Option (ℕ × Bool)) PacketFault). IfOk x (λ found. IfSome found (λ x. (x.0 ≤ length b) × (8 ≤ x.0)))) (sym e) (cases (packet_read b) refl)
  where
    cases : (r : Result (Option (Packet × ℕ)) PacketFault) → packet_read b ≡ r → IfOk (passed b r) (λ found. IfSome found (λ x. (x.0 ≤ length b) × (8 ≤ x.0)))
    cases (Ok None) is = tt
    cases (Ok (Some x)) is = let t = read-take b x.0 x.1 is in (t.0, t.1)
    cases (Err fault) is = tt

pub passed_few : (b : List ℕ) (r : Result (Option (ℕ × Bool)) PacketFault) → r ≡ passed b (packet_read b) → r ≡ Ok None → length b < 65536
passed_few b r e none = cases (packet_read b) refl (sym e ∙ none)
  where
    cases : (r : Result (Option (Packet × ℕ)) PacketFault) → packet_read b ≡ r → passed b r ≡ Ok None → length b < 65536
    cases (Ok None) is none = none_few b is
    cases (Ok (Some x)) is none = absurd cc
    cases (Err fault) is none = absurd cc

-- ---- faults and canonical bytes don't change either

plain-slices : (t : PktType) (a b c d : List ℕ) → a ≡ b → c ≡ d → (payload_plain t a && list_all (λ byte. eqb byte 0) c) ≡ (payload_plain t b && list_all (λ byte. eqb byte 0) d)
plain-slices t a b c d e f = ap (λ (x : List ℕ). payload_plain t x && list_all (λ byte. eqb byte 0) c) e ∙ ap (λ (x : List ℕ). payload_plain t b && list_all (λ byte. eqb byte 0) x) f

pub plain_more : (x y : List ℕ) (p : Packet) (n : ℕ) → packet_read x ≡ found p n → is_plain (x ++ y) ≡ is_plain x
plain_more x y p n e =
    let f = found_parts x p n e in
    let h = f.header in
    let first : word_at (x ++ y) 0 ≡ word_at x 0 = word_at-front x y 0 (wire_long h x f.framed_by) in
    let len : h.length ≤ length x = omega (arith, f.framed_by.whole) in
    let wire : h.length ≤ wire_size_of h.length = omega arith in
    ap (λ (w : ℕ). plain_under (header_of w) (x ++ y)) first
    ∙ ap (λ (g : Header). plain_under g (x ++ y)) f.framed_by.read
    ∙ plain-slices h.pkt_type _ _ _ _ (slice-front x y (start_of h) h.length f.framed_by.start len) (slice-front x y h.length (wire_size_of h.length) wire f.framed_by.whole)
    ∙ sym (ap (λ (g : Header). plain_under g x) f.framed_by.read)

abbrev fault_of : PacketFault → Result (Option Header) PacketFault
fault_of fault = Err fault

abbrev pub failed : PacketFault → Result (Option (Packet × ℕ)) PacketFault
failed fault = Err fault

-- where the header's tests fail they fail whatever follows
tests_more : (reserved small cut short cut' short' : Bool) (h : Header) (fault : PacketFault) → short' ≡ short → cond short (Ok None) (tested reserved small cut h) ≡ fault_of fault
    → cond short' (Ok None) (tested reserved small cut' h) ≡ fault_of fault
tests_more reserved small cut true cut' short' h fault s e = absurd cc
tests_more true small cut false cut' short' h fault s e = rw s e
tests_more false true cut false cut' short' h fault s e = rw s e
tests_more false false true false cut' short' h fault s e = absurd cc
tests_more false false false false cut' short' h fault s e = absurd cc

not_short : (reserved small cut short : Bool) (h : Header) (fault : PacketFault) → cond short (Ok None) (tested reserved small cut h) ≡ fault_of fault → short ≡ false
not_short reserved small cut true h fault e = absurd cc
not_short reserved small cut false h fault e = refl

frame_more : (x y : List ℕ) (fault : PacketFault) → frame_read x ≡ fault_of fault → frame_read (x ++ y) ≡ fault_of fault
frame_more x y fault e =
    let h = header_of (word_at x 0) in
    let long = not_short (is_reserved h.pkt_type) (ltb h.length (start_of h)) (ltb (length x) (wire_size_of h.length)) (ltb (length x) 8) h fault e in
    let le : 8 ≤ length x = ltb-false _ _ long in
    let first : word_at (x ++ y) 0 ≡ word_at x 0 = word_at-front x y 0 le in
    let short : ltb (length (x ++ y)) 8 ≡ ltb (length x) 8 = le-ltb _ _ (omega (arith, length-append x y, le)) ∙ sym long in
    ap (λ (w : ℕ). cond (ltb (length (x ++ y)) 8) (Ok None) (tests_of (header_of w) (length (x ++ y)))) first
    ∙ tests_more (is_reserved h.pkt_type) (ltb h.length (start_of h)) (ltb (length x) (wire_size_of h.length)) (ltb (length x) 8)
    (ltb (length (x ++ y)) (wire_size_of h.length)) (ltb (length (x ++ y)) 8) h fault short e

same_fault : (a b : PacketFault) → failed a ≡ failed b → a ≡ b
same_fault a b e = cc

pub fails_more : (x y : List ℕ) (fault : PacketFault) → packet_read x ≡ failed fault → packet_read (x ++ y) ≡ failed fault
unfolding packet_read
fails_more x y fault e = cases (frame_read x) refl e
  where
    cases : (r : Result (Option Header) PacketFault) → frame_read x ≡ r → opened x r ≡ failed fault → packet_read (x ++ y) ≡ failed fault
    cases (Ok None) is e = absurd cc
    cases (Ok (Some h)) is f = read-front h x y (frame_ok x h is) ∙ e
    cases (Err other) is e =
        let o : other ≡ fault = same_fault other fault e in
        ap (opened (x ++ y)) (frame_more x y other is) ∙ ap failed o

pub nothing_read : (fault : PacketFault) → packet_read [] ≡ failed fault → ⊥
unfolding packet_read
nothing_read fault e = absurd cc

pub nothing_there : packet_read [] ≡ Ok None
unfolding packet_read
nothing_there = refl
