-- What a reader still shows of the bytes that follow.
use Rattle.std.proofs.Common.{◌≡◌, ℕ, zero, suc, ◌+◌, ◌-◌, ◌<◌, ◌≤◌, Bool, true, false, cond, eqb, List, [], ◌∷◌, ◌++◌, length, drop, Option, None, Some, Result, Ok, Err, refl, sym, ap, subst, ◌∙◌, append_assoc, arith}
use Rattle.std.specs.Prelude.{is_some, ◌&&◌, slice_range}
use Rattle.std.proofs.lemmas.Bool.{eqb-true, eqb-false}
use Rattle.std.proofs.lemmas.List.{append-nil, nil_from_length, drop-append-le, length-drop, length-take}
use Rattle.pcap_input.specs.declared.header.Order.{Order}
use Rattle.pcap_input.specs.declared.item.PcapItem.{PcapItem}
use Rattle.pcap_input.specs.declared.item.PcapItem.TheVariants.{Datagram, Cut, Other}
use Rattle.pcap_input.specs.declared.item.PcapFault.{PcapFault}
use Rattle.pcap_input.specs.declared.item.PcapFault.TheVariants.{Bad}
use Rattle.pcap_input.specs.declared.item.PcapReason.{PcapReason}
use Rattle.pcap_input.specs.Header.{header_read, header_size}
use Rattle.pcap_input.specs.Record.{record_size, size_read, frame_at}
use Rattle.pcap_input.specs.Frame.{from_of, is_datagram, is_stored, item_of, length_of, payload_of, to_of, udp_of}
use Rattle.pcap_input.specs.File.{Why, bad, truncated, File, behind, part_at, records_from, headed, file_of}
use Rattle.pcap_input.specs.Reader.{Pcap, IsDrained, opened, fed_with, with_header, begun, front, no_size, answer_at, after, released, answer_of, next_of}
use Rattle.pcap_input.specs.Rest.{rest_past, rest_of, given, payload_in, ShowsAll, ShowsFed, ShowsGiven, ShowsFault, ShowsCut, DrainsAll, PassesBytes}
use Rattle.pcap_input.proofs.ReadLemmas.{header_found, header_fails, header_none, size_found, size_fails, size_none}

abbrev pub shown : List PcapItem → Option (ℕ × Why) → File
shown items fault = record { items = items; fault = fault }

-- ---- records

pub records-skip : (port : ℕ) (order : Order) (number skip at : ℕ) (b : List ℕ) → skip ≤ length b → records_from port order number skip at b ≡ records_from port order number 0 (at + skip) (drop skip b)
unfolding records_from
records-skip port order number zero at [] le = refl
records-skip port order number zero at (x ∷ b) le = let e : at + 0 ≡ at = omega arith in ap (λ (k : ℕ). records_from port order number 0 k (x ∷ b)) (sym e)
records-skip port order number (suc skip) at [] le = absurd (omega arith)
records-skip port order number (suc skip) at (x ∷ b) le =
    let e : at + 1 + skip ≡ at + suc skip = omega arith in
    records-skip port order number skip (at + 1) b (omega arith) ∙ ap (λ (k : ℕ). records_from port order number 0 k (drop skip b)) e

abbrev more_records : ℕ → Order → ℕ → ℕ → List ℕ → ℕ → File
more_records port order number at b skip = records_from port order (number + 1) skip (at + 1) b

-- what stands at a place is the record found there
pub records-part : (port : ℕ) (order : Order) (number at : ℕ) (b : List ℕ) (size : ℕ) → size_read order b ≡ Ok (Some size)
    → records_from port order number 0 at b ≡ behind (item_of port number (frame_at b size) ∷ []) (records_from port order (number + 1) 0 (at + (16 + size)) (drop (16 + size) b))
unfolding records_from
records-part port order number at [] size e = let w = size_found order [] [] size e in absurd (omega (arith, w.within))
records-part port order number at (x ∷ b) size e =
    let w = size_found order (x ∷ b) [] size e in
    let le : 15 + size ≤ length b = omega (arith, w.within) in
    let skip : 16 + size - 1 ≡ 15 + size = omega arith in
    let place : at + 1 + (15 + size) ≡ at + (16 + size) = omega arith in
    let count : suc (15 + size) ≡ 16 + size = omega arith in
    ap (λ (r : Result (Option ℕ) PcapReason). part_at port number at (x ∷ b) r (more_records port order number at b)) e
    ∙ ap (λ (k : ℕ). behind (item_of port number (frame_at (x ∷ b) size) ∷ []) (records_from port order (number + 1) k (at + 1) b)) skip
    ∙ ap (behind (item_of port number (frame_at (x ∷ b) size) ∷ []))
    (records-skip port order (number + 1) (15 + size) (at + 1) b le ∙ ap (λ (k : ℕ). records_from port order (number + 1) 0 k (drop (15 + size) b)) place
    ∙ ap (λ (n : ℕ). records_from port order (number + 1) 0 (at + (16 + size)) (drop n (x ∷ b))) count)

abbrev failed : PcapReason → Result (Option ℕ) PcapReason
failed reason = Err reason

abbrev no_size_yet : Result (Option ℕ) PcapReason
no_size_yet = Ok None

not_failed : (reason : PcapReason) → no_size_yet ≡ failed reason → ⊥
not_failed reason e = cc

pub records-bad : (port : ℕ) (order : Order) (number at : ℕ) (b : List ℕ) (reason : PcapReason) → size_read order b ≡ Err reason → records_from port order number 0 at b ≡ shown [] (Some (at, bad reason))
unfolding records_from
records-bad port order number at [] reason e = absurd (not_failed reason (sym (size_none order) ∙ e))
records-bad port order number at (x ∷ b) reason e = ap (λ (r : Result (Option ℕ) PcapReason). part_at port number at (x ∷ b) r (more_records port order number at b)) e

pub records-cut : (port : ℕ) (order : Order) (number at : ℕ) (b : List ℕ) → size_read order b ≡ Ok None → 0 < length b → records_from port order number 0 at b ≡ shown [] (Some (at, truncated))
unfolding records_from
records-cut port order number at [] e some = absurd (omega arith)
records-cut port order number at (x ∷ b) e some = ap (λ (r : Result (Option ℕ) PcapReason). part_at port number at (x ∷ b) r (more_records port order number at b)) e

pub records-none : (port : ℕ) (order : Order) (number at : ℕ) → records_from port order number 0 at [] ≡ shown [] None
unfolding records_from
records-none port order number at = refl

-- ---- the reader

abbrev state : ℕ → Option Order → ℕ → ℕ → List ℕ → Option PcapReason → ℕ → Pcap
state port order number at kept fault held = record { port = port; order = order; number = number; at = at; kept = kept; fault = fault; held = held }

rest-is : (port : ℕ) (order : Option Order) (number at : ℕ) (kept : List ℕ) (fault : Option PcapReason) (held : ℕ) (more : List ℕ)
    → rest_of (state port order number at kept fault held) more ≡ rest_past fault order port number at (kept ++ more)
unfolding rest_of
rest-is port order number at kept fault held more = refl

pub shows_all : ShowsAll
unfolding rest_of
shows_all port bytes = refl

fed_parts : (port : ℕ) (order : Option Order) (number at : ℕ) (kept : List ℕ) (fault : Option PcapReason) (held : ℕ) (piece more : List ℕ)
    → rest_of (fed_with (state port order number at kept fault held) piece) more ≡ rest_of (state port order number at kept fault held) (piece ++ more)
fed_parts port order number at kept None held piece more =
    rest-is port order number at (kept ++ piece) None (held + length piece) more ∙ ap (rest_past None order port number at) (append_assoc kept piece more) ∙ sym (rest-is port order number at kept None held (piece ++ more))
fed_parts port order number at kept (Some reason) held piece more =
    rest-is port order number at kept (Some reason) held more ∙ sym (rest-is port order number at kept (Some reason) held (piece ++ more))

pub shows_fed : ShowsFed
shows_fed s piece more = fed_parts s.port s.order s.number s.at s.kept s.fault s.held piece more

-- reading the header changes nothing of what is shown
begun_parts : (port number at : ℕ) (kept : List ℕ) (held : ℕ) (r : Result (Option Order) PcapReason) (more : List ℕ) → header_read kept ≡ r
    → rest_of (state port None number at kept None held) more ≡ rest_of (with_header (state port None number at kept None held) r) more
begun_parts port number at kept held (Ok None) more e = refl
begun_parts port number at kept held (Ok (Some order)) more e =
    let h = header_found kept more order e in
    rest-is port None number at kept None held more ∙ ap (headed port number at (kept ++ more)) h.1
    ∙ ap (λ (b : List ℕ). records_from port order number 0 (at + 24) b) (drop-append-le 24 kept more h.0) ∙ sym (rest-is port (Some order) number (at + 24) (drop 24 kept) None held more)
begun_parts port number at kept held (Err reason) more e = refl

begun_from : (port : ℕ) (order : Option Order) (number at : ℕ) (kept : List ℕ) (fault : Option PcapReason) (held : ℕ) (more : List ℕ)
    → rest_of (state port order number at kept fault held) more ≡ rest_of (begun (state port order number at kept fault held)) more
begun_from port None number at kept None held more = begun_parts port number at kept held (header_read kept) more refl
begun_from port (Some order) number at kept None held more = refl
begun_from port order number at kept (Some reason) held more = refl

shows_begun : (s : Pcap) (more : List ℕ) → rest_of s more ≡ rest_of (begun s) more
shows_begun s more = begun_from s.port s.order s.number s.at s.kept s.fault s.held more

-- ---- a record is found, or not

found_parts : (port : ℕ) (order : Order) (number at : ℕ) (kept : List ℕ) (held : ℕ) (r : Result (Option ℕ) PcapReason) (more : List ℕ) → size_read order kept ≡ r
    → rest_of (state port (Some order) number at kept None held) more
    ≡ behind (given (answer_at (state port (Some order) number at kept None held) r)) (rest_of (after (state port (Some order) number at kept None held) r) more)
unfolding rest_of
found_parts port order number at kept held (Ok None) more e = refl
found_parts port order number at kept held (Ok (Some size)) more e =
    let w = size_found order kept more size e in
    rest-is port (Some order) number at kept None held more ∙ records-part port order number at (kept ++ more) size w.more
    ∙ ap (λ (f : List ℕ). behind (item_of port number f ∷ []) (records_from port order (number + 1) 0 (at + (16 + size)) (drop (16 + size) (kept ++ more)))) w.frame
    ∙ ap (λ (b : List ℕ). behind (item_of port number (frame_at kept size) ∷ []) (records_from port order (number + 1) 0 (at + (16 + size)) b)) (drop-append-le (16 + size) kept more w.within)
    ∙ ap (behind (item_of port number (frame_at kept size) ∷ [])) (sym (rest-is port (Some order) (number + 1) (at + (16 + size)) (drop (16 + size) kept) None held more))
found_parts port order number at kept held (Err reason) more e =
    rest-is port (Some order) number at kept None held more ∙ records-bad port order number at (kept ++ more) reason (size_fails order kept more reason e)
    ∙ sym (rest-is port (Some order) number at kept (Some reason) held more)

no_header_parts : (port number at : ℕ) (kept : List ℕ) (held : ℕ) (r : Result (Option Order) PcapReason) (more : List ℕ) → header_read kept ≡ r → ((order : Order) → r ≡ Ok (Some order) → ⊥)
    → rest_of (state port None number at kept None held) more
    ≡ behind (given (answer_at (state port None number at kept None held) (no_size r))) (rest_of (after (state port None number at kept None held) (no_size r)) more)
unfolding rest_of
no_header_parts port number at kept held (Ok None) more e none = refl
no_header_parts port number at kept held (Ok (Some order)) more e none = absurd (none order refl)
no_header_parts port number at kept held (Err reason) more e none =
    rest-is port None number at kept None held more ∙ ap (headed port number at (kept ++ more)) (header_fails kept more reason e) ∙ sym (rest-is port None number at kept (Some reason) held more)

-- what is given is shown first, from the state behind the header
abbrev GivenFront : List ℕ → Pcap → Type 0
GivenFront more t = rest_of t more ≡ behind (given (answer_at t (front t))) (rest_of (after t (front t)) more)

abbrev ordered_by : Order → Result (Option Order) PcapReason
ordered_by order = Ok (Some order)

abbrev no_order : Result (Option Order) PcapReason
no_order = Ok None

abbrev bad_header : PcapReason → Result (Option Order) PcapReason
bad_header reason = Err reason

not_yet : (order : Order) → no_order ≡ ordered_by order → ⊥
not_yet order e = cc

not_good : (reason : PcapReason) (order : Order) → bad_header reason ≡ ordered_by order → ⊥
not_good reason order e = cc

with_header_parts : (port number at : ℕ) (kept : List ℕ) (held : ℕ) (r : Result (Option Order) PcapReason) (more : List ℕ) → header_read kept ≡ r
    → GivenFront more (with_header (state port None number at kept None held) r)
with_header_parts port number at kept held (Ok None) more e =
    let none : (order : Order) → header_read kept ≡ Ok (Some order) → ⊥ = λ order f. not_yet order (sym e ∙ f) in
    no_header_parts port number at kept held (header_read kept) more refl none
with_header_parts port number at kept held (Ok (Some order)) more e = found_parts port order number (at + 24) (drop 24 kept) held (size_read order (drop 24 kept)) more refl
with_header_parts port number at kept held (Err reason) more e =
    let none : (order : Order) → header_read kept ≡ Ok (Some order) → ⊥ = λ order f. not_good reason order (sym e ∙ f) in
    no_header_parts port number at kept held (header_read kept) more refl none

front_from : (port : ℕ) (order : Option Order) (number at : ℕ) (kept : List ℕ) (fault : Option PcapReason) (held : ℕ) (more : List ℕ) → GivenFront more (begun (state port order number at kept fault held))
front_from port None number at kept None held more = with_header_parts port number at kept held (header_read kept) more refl
front_from port (Some order) number at kept None held more = found_parts port order number at kept held (size_read order kept) more refl
front_from port order number at kept (Some reason) held more = refl

pub shows_given : ShowsGiven
shows_given s more = shows_begun s more ∙ front_from s.port s.order s.number s.at s.kept s.fault s.held more

-- ---- faults

fault_parts : (s : Pcap) (r : Result (Option ℕ) PcapReason) (at : ℕ) (reason : PcapReason) → answer_at s r ≡ Err (Bad at reason) → (r ≡ failed reason) × (s.at ≡ at)
fault_parts s (Ok None) at reason e = absurd cc
fault_parts s (Ok (Some size)) at reason e = absurd cc
fault_parts s (Err other) at reason e = let same : other ≡ reason = cc in let place : s.at ≡ at = cc in (ap failed same, place)

stuck_at : (port : ℕ) (order : Option Order) (number at : ℕ) (kept : List ℕ) (held : ℕ) (reason : PcapReason) (more : List ℕ) → rest_of (state port order number at kept (Some reason) held) more ≡ shown [] (Some (at, bad reason))
stuck_at port order number at kept held reason more = rest-is port order number at kept (Some reason) held more

stuck : (t : Pcap) (reason : PcapReason) (more : List ℕ) → rest_of (after t (Err reason)) more ≡ shown [] (Some (t.at, bad reason))
stuck t reason more = stuck_at t.port t.order t.number t.at t.kept t.held reason more

pub shows_fault : ShowsFault
shows_fault s more at reason e =
    let t = begun s in
    let f = fault_parts t (front t) at reason e in
    shows_given s more ∙ ap (λ (r : Result (Option ℕ) PcapReason). behind (given (answer_at t r)) (rest_of (after t r) more)) f.0 ∙ stuck t reason more ∙ ap (λ (k : ℕ). shown [] (Some (k, bad reason))) f.1

-- ---- the end

cut_parts : (port : ℕ) (order : Order) (number at : ℕ) (kept : List ℕ) (held : ℕ) (t : Bool) → eqb (length kept) 0 ≡ t → size_read order kept ≡ Ok None
    → rest_of (state port (Some order) number at kept None held) [] ≡ shown [] (cond t None (Some (at, truncated)))
cut_parts port order number at kept held true none e =
    rest-is port (Some order) number at kept None held [] ∙ ap (records_from port order number 0 at) (append-nil kept ∙ nil_from_length kept (eqb-true _ _ none)) ∙ records-none port order number at
cut_parts port order number at kept held false some e =
    let ne = eqb-false (length kept) 0 some in
    rest-is port (Some order) number at kept None held [] ∙ ap (records_from port order number 0 at) (append-nil kept) ∙ records-cut port order number at kept e (omega arith)

cut_from : (port : ℕ) (order : Option Order) (number at : ℕ) (kept : List ℕ) (fault : Option PcapReason) (held : ℕ) → IsDrained (state port order number at kept fault held)
    → rest_of (state port order number at kept fault held) [] ≡ shown [] (cond (is_some order && eqb (length kept) 0) None (Some (at, truncated)))
cut_from port None number at kept None held d =
    rest-is port None number at kept None held [] ∙ ap (λ (b : List ℕ). headed port number at b (header_read b)) (append-nil kept) ∙ ap (headed port number at kept) d
cut_from port (Some order) number at kept None held d = cut_parts port order number at kept held (eqb (length kept) 0) refl d
cut_from port order number at kept (Some reason) held d = absurd d

pub shows_cut : ShowsCut
shows_cut s d = cut_from s.port s.order s.number s.at s.kept s.fault s.held d

no_record : (t : Pcap) (r : Result (Option ℕ) PcapReason) → answer_at t r ≡ Ok None → r ≡ Ok None
no_record t (Ok None) e = refl
no_record t (Ok (Some size)) e = absurd cc
no_record t (Err reason) e = absurd cc

drains_header : (port number at : ℕ) (kept : List ℕ) (held : ℕ) (r : Result (Option Order) PcapReason) → header_read kept ≡ r → front (with_header (state port None number at kept None held) r) ≡ Ok None
    → IsDrained (released (with_header (state port None number at kept None held) r))
drains_header port number at kept held (Ok None) e f = e
drains_header port number at kept held (Ok (Some order)) e f = f
drains_header port number at kept held (Err reason) e f = absurd (not_failed reason (sym f ∙ ap no_size e))

drains_from : (port : ℕ) (order : Option Order) (number at : ℕ) (kept : List ℕ) (fault : Option PcapReason) (held : ℕ) → front (begun (state port order number at kept fault held)) ≡ Ok None
    → IsDrained (released (begun (state port order number at kept fault held)))
drains_from port None number at kept None held f = drains_header port number at kept held (header_read kept) refl f
drains_from port (Some order) number at kept None held f = f
drains_from port order number at kept (Some reason) held f = absurd cc

pub drains_all : DrainsAll
drains_all s e =
    let f = no_record (begun s) (front (begun s)) e in
    subst IsDrained (sym (ap (after (begun s)) f)) (drains_from s.port s.order s.number s.at s.kept s.fault s.held f)

begun_at : (port : ℕ) (order : Option Order) (number at : ℕ) (kept : List ℕ) (fault : Option PcapReason) (held : ℕ) → at ≤ (begun (state port order number at kept fault held)).at
begun_at port None number at kept None held = header (header_read kept)
  where
    header : (r : Result (Option Order) PcapReason) → at ≤ (with_header (state port None number at kept None held) r).at
    header (Ok None) = omega arith
    header (Ok (Some order)) = omega arith
    header (Err reason) = omega arith
begun_at port (Some order) number at kept None held = omega arith
begun_at port order number at kept (Some reason) held = omega arith

range_few : (frame : List ℕ) (from to : ℕ) → length (slice_range frame from to) ≤ length frame
range_few frame from to = omega (arith, length-take (to - from) (drop from frame), length-drop from frame)

item_parts : (port number : ℕ) (frame : List ℕ) (t u : Bool) → length (payload_in (cond t (cond u (Datagram number (from_of frame) (to_of frame) (payload_of frame)) (Cut number)) (Other number))) ≤ length frame
item_parts port number frame true true = range_few frame (udp_of frame + 8) (udp_of frame + length_of frame)
item_parts port number frame true false = omega arith
item_parts port number frame false u = omega arith

item_few : (port number : ℕ) (frame : List ℕ) → length (payload_in (item_of port number frame)) ≤ length frame
unfolding item_of
item_few port number frame = item_parts port number frame (is_datagram port frame) (is_stored frame)

passes_parts : (t : Pcap) (r : Result (Option ℕ) PcapReason) (item : PcapItem) → answer_at t r ≡ Ok (Some item) → t.at + 16 + length (payload_in item) ≤ (after t r).at
passes_parts t (Ok None) item e = absurd cc
passes_parts t (Ok (Some size)) item e =
    let same : item_of t.port t.number (frame_at t.kept size) ≡ item = cc in
    omega (arith, ap (λ (x : PcapItem). length (payload_in x)) same, item_few t.port t.number (frame_at t.kept size), length-take (16 + size - 16) (drop 16 t.kept))
passes_parts t (Err reason) item e = absurd cc

pub passes_bytes : PassesBytes
passes_bytes s item e = omega (arith, begun_at s.port s.order s.number s.at s.kept s.fault s.held, passes_parts (begun s) (front (begun s)) item e)
