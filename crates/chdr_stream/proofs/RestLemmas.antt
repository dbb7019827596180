-- What a decoder still shows where more bytes follow.
use Rattle.std.proofs.Common.{◌≡◌, ℕ, ◌+◌, ◌≤◌, Bool, true, false, cond, eqb, List, [], ◌∷◌, ◌++◌, length, drop, Option, None, Some, Result, Ok, Err, refl, sym, ap, ◌∙◌, append_assoc, arith}
use Rattle.std.proofs.lemmas.Bool.{eqb-true, eqb-false}
use Rattle.std.proofs.lemmas.List.{append-nil, nil_from_length, drop-append-le}
use Rattle.chdr_packets.specs.Grammar.{is_plain}
use Rattle.chdr_packets.specs.Reading.{packet_read}
use Rattle.chdr_packets.specs.declared.fault.PacketFault.{PacketFault}
use Rattle.chdr_packets.specs.declared.packet.Packet.{Packet}
use Rattle.chdr_packets.proofs.Laws.{read_within, read_stands, fault_stands}
use Rattle.chdr_stream.specs.declared.placed.StreamFault.TheVariants.{Bad}
use Rattle.chdr_stream.specs.Capture.{reason_of, truncated, behind, capture_from}
use Rattle.chdr_stream.specs.Stream.{Stream, fed_with, reading, after, answer_at}
use Rattle.chdr_stream.specs.Calls.{answer_of, given}
use Rattle.chdr_stream.specs.Rest.{rest_past, rest_of, ShowsAll, ShowsFed, ShowsGiven, ShowsFault, ShowsCut, PassesBytes}
use Rattle.chdr_stream.proofs.StreamLemmas.{found, with_items, marked, capture-part, capture-bad, capture-cut}

abbrev state : ℕ → List ℕ → Option PacketFault → ℕ → Stream
state at kept fault held = record { at = at; kept = kept; fault = fault; held = held }

rest-is : (at held : ℕ) (kept more : List ℕ) (fault : Option PacketFault) → rest_of (state at kept fault held) more ≡ rest_past fault at (kept ++ more)
unfolding rest_of
rest-is at held kept more fault = refl

pub shows_all : ShowsAll
unfolding rest_of
shows_all bytes = refl

fed_parts : (at held : ℕ) (kept : List ℕ) (fault : Option PacketFault) (piece more : List ℕ) → rest_of (fed_with (state at kept fault held) piece) more ≡ rest_of (state at kept fault held) (piece ++ more)
fed_parts at held kept None piece more = rest-is at (held + length piece) (kept ++ piece) more None ∙ ap (capture_from 0 at) (append_assoc kept piece more) ∙ sym (rest-is at held kept (piece ++ more) None)
fed_parts at held kept (Some fault) piece more = rest-is at held kept more (Some fault) ∙ sym (rest-is at held kept (piece ++ more) (Some fault))

pub shows_fed : ShowsFed
shows_fed s piece more = fed_parts s.at s.held s.kept s.fault piece more

given_parts : (at held : ℕ) (kept : List ℕ) (r : Result (Option (Packet × ℕ)) PacketFault) (more : List ℕ) → packet_read kept ≡ r
    → rest_of (state at kept None held) more ≡ behind (given (answer_at (state at kept None held) r)) (rest_of (after (state at kept None held) r) more)
given_parts at held kept (Ok None) more e = rest-is at held kept more None ∙ sym (rest-is at (length kept) kept more None)
given_parts at held kept (Ok (Some x)) more e =
    let p : Packet = x.0 in
    let n : ℕ = x.1 in
    let t = read_within kept p n e in
    let whole = (read_stands kept more p n e).0 in
    let same : is_plain (kept ++ more) ≡ is_plain kept = (read_stands kept more p n e).1 in
    rest-is at held kept more None ∙ capture-part at (kept ++ more) p n whole
    ∙ ap (λ (c : Bool). behind (marked at c p ∷ []) (capture_from 0 (at + n) (drop n (kept ++ more)))) same
    ∙ ap (λ (b : List ℕ). behind (marked at (is_plain kept) p ∷ []) (capture_from 0 (at + n) b)) (drop-append-le n kept more t.0)
    ∙ ap (behind (marked at (is_plain kept) p ∷ [])) (sym (rest-is (at + n) held (drop n kept) more None))
given_parts at held kept (Err fault) more e =
    rest-is at held kept more None ∙ capture-bad at (kept ++ more) fault (fault_stands kept more fault e) ∙ sym (rest-is at held kept more (Some fault))

given_from : (at held : ℕ) (kept : List ℕ) (fault : Option PacketFault) (more : List ℕ)
    → rest_of (state at kept fault held) more ≡ behind (given (answer_of (state at kept fault held))) (rest_of (after (state at kept fault held) (reading (state at kept fault held))) more)
given_from at held kept None more = given_parts at held kept (packet_read kept) more refl
given_from at held kept (Some fault) more = refl

pub shows_given : ShowsGiven
shows_given s more = given_from s.at s.held s.kept s.fault more

fault_parts : (at held : ℕ) (kept : List ℕ) (r : Result (Option (Packet × ℕ)) PacketFault) (more : List ℕ) (place : ℕ) (fault : PacketFault) → packet_read kept ≡ r
    → answer_at (state at kept None held) r ≡ Err (Bad place fault) → rest_of (state at kept None held) more ≡ with_items [] (Some (place, reason_of fault))
fault_parts at held kept (Ok None) more place fault e a = absurd cc
fault_parts at held kept (Ok (Some x)) more place fault e a = absurd cc
fault_parts at held kept (Err other) more place fault e a =
    let places : at ≡ place = cc in
    let faults : other ≡ fault = cc in
    rest-is at held kept more None ∙ capture-bad at (kept ++ more) other (fault_stands kept more other e)
    ∙ ap (λ (k : ℕ). with_items [] (Some (k, reason_of other))) places ∙ ap (λ (f : PacketFault). with_items [] (Some (place, reason_of f))) faults

fault_from : (at held : ℕ) (kept : List ℕ) (stood : Option PacketFault) (more : List ℕ) (place : ℕ) (fault : PacketFault)
    → answer_of (state at kept stood held) ≡ Err (Bad place fault) → rest_of (state at kept stood held) more ≡ with_items [] (Some (place, reason_of fault))
fault_from at held kept None more place fault a = fault_parts at held kept (packet_read kept) more place fault refl a
fault_from at held kept (Some other) more place fault a =
    let places : at ≡ place = cc in
    let faults : other ≡ fault = cc in
    rest-is at held kept more (Some other) ∙ ap (λ (k : ℕ). with_items [] (Some (k, reason_of other))) places ∙ ap (λ (f : PacketFault). with_items [] (Some (place, reason_of f))) faults

pub shows_fault : ShowsFault
shows_fault s more at fault a = fault_from s.at s.held s.kept s.fault more at fault a

none_left : (at : ℕ) → capture_from 0 at [] ≡ with_items [] None
unfolding capture_from
none_left at = refl

cut_parts : (at held : ℕ) (kept : List ℕ) (t : Bool) → eqb (length kept) 0 ≡ t → packet_read kept ≡ Ok None
    → rest_of (state at kept None held) [] ≡ with_items [] (cond t None (Some (at, truncated)))
cut_parts at held kept true none e =
    rest-is at held kept [] None ∙ ap (capture_from 0 at) (append-nil kept ∙ nil_from_length kept (eqb-true _ _ none)) ∙ none_left at
cut_parts at held kept false some e =
    let ne = eqb-false (length kept) 0 some in
    rest-is at held kept [] None ∙ ap (capture_from 0 at) (append-nil kept) ∙ capture-cut at kept e (omega arith)

cut_from : (at held : ℕ) (kept : List ℕ) (fault : Option PacketFault) → reading (state at kept fault held) ≡ Ok None
    → rest_of (state at kept fault held) [] ≡ with_items [] (cond (eqb (length kept) 0) None (Some (at, truncated)))
cut_from at held kept None e = cut_parts at held kept (eqb (length kept) 0) refl e
cut_from at held kept (Some fault) e = absurd cc

pub shows_cut : ShowsCut
shows_cut s e = cut_from s.at s.held s.kept s.fault e

passes_parts : (at held : ℕ) (kept : List ℕ) (fault : Option PacketFault) (packet : Packet) (size : ℕ) → reading (state at kept fault held) ≡ found packet size → (8 ≤ size) × (size ≤ length kept)
passes_parts at held kept None packet size e = let t = read_within kept packet size e in (t.1, t.0)
passes_parts at held kept (Some fault) packet size e = absurd cc

pub passes_bytes : PassesBytes
passes_bytes s packet size e = passes_parts s.at s.held s.kept s.fault packet size e
