-- What is shown of bytes: the packets of their longest front that is a capture, and the first fault behind it.
use Rattle.std.proofs.Common.{◌^◌, Bool, true, false, ◌≡◌, ℕ, zero, suc, ◌+◌, ◌<◌, ◌≤◌, List, [], ◌∷◌, ◌++◌, length, take, drop, Option, None, Some, Result, Ok, Err, refl, sym, ap, subst, ◌∙◌, append_assoc, arith}
use Rattle.std.specs.Prelude.{IsTrue}
use Rattle.std.proofs.Math.Seq.{take-add, take-append_seam, drop-append_seam}
use Rattle.std.proofs.lemmas.List.{append-nil, length-drop, drop-drop, length-take-le, length-append}
use Rattle.std.proofs.lemmas.List.Elements.{All-drop, All-take}
use Rattle.chdr_packets.specs.Grammar.{is_plain}
use Rattle.chdr_packets.specs.Reading.{packet_read}
use Rattle.chdr_packets.specs.declared.fault.PacketFault.{PacketFault}
use Rattle.chdr_packets.specs.declared.packet.Packet.{Packet}
use Rattle.chdr_packets.specs.Laws.{IsBytes}
use Rattle.chdr_packets.proofs.Laws.{read_within, read_spelled, read_marked, read_stands, reads_back}
use Rattle.chdr_stream.specs.declared.placed.Placed.{Placed}
use Rattle.chdr_stream.specs.Capture.{IsCaptureOf, Reason, reason_of, truncated, Capture, behind, capture_from}
use Rattle.chdr_stream.specs.Places.{packets_of, IsPlaced, ArePlaced}
use Rattle.chdr_stream.proofs.ReasonLemmas.{Finds, finds_fault}
use Rattle.chdr_stream.proofs.StreamLemmas.{found, capture-part, capture-bad, capture-cut, marked, with_items}

-- ---- bytes

pub take_bytes : (n : ℕ) (b : List ℕ) → IsBytes b → IsBytes (take n b)
take_bytes n b all = All-take (λ (byte : ℕ). byte < 2 ^ 8) n b all

pub drop_bytes : (n : ℕ) (b : List ℕ) → IsBytes b → IsBytes (drop n b)
drop_bytes n b all = All-drop (λ (byte : ℕ). byte < 2 ^ 8) n b all

pub front_bytes : (x y : List ℕ) → IsBytes (x ++ y) → IsBytes x
front_bytes x y all = subst IsBytes (take-append_seam x y) (take_bytes (length x) (x ++ y) all)

pub back_bytes : (x y : List ℕ) → IsBytes (x ++ y) → IsBytes y
back_bytes x y all = subst IsBytes (drop-append_seam x y) (drop_bytes (length x) (x ++ y) all)

-- ---- a capture is read packet by packet

same_tests : (a b : Bool) → (IsTrue a → IsTrue b) → (IsTrue b → IsTrue a) → a ≡ b
same_tests true true f g = refl
same_tests true false f g = sym (f refl)
same_tests false true f g = g refl
same_tests false false f g = refl

-- a packet at its place is what reading shows there
placed_is : (at : ℕ) (item : Placed) (b : List ℕ) → IsPlaced at item b → item ≡ marked at (is_plain b) item.packet
placed_is at item b one =
    let canonical : item.canonical ≡ is_plain b = same_tests item.canonical (is_plain b) (λ t. (one.canonical.0 t).plain) (λ t. one.canonical.1 (record { spells = one.spells; plain = t })) in
    ap (λ (k : ℕ). marked k item.canonical item.packet) one.place ∙ ap (λ (c : Bool). marked at c item.packet) canonical

pub placed_shown : (at : ℕ) (items : List Placed) (x y : List ℕ) → IsBytes x → ArePlaced at items x → capture_from 0 at (x ++ y) ≡ behind items (capture_from 0 (at + length x) y)
placed_shown at [] x y small none =
    let here : at + length x ≡ at = omega (arith, ap length none) in
    ap (λ (b : List ℕ). capture_from 0 at (b ++ y)) none ∙ ap (λ (k : ℕ). capture_from 0 k y) (sym here)
placed_shown at (item ∷ items) x y small (front, rest, split, one, others) =
    let bytes : IsBytes (front ++ rest) = subst IsBytes split small in
    let read = reads_back item.packet front (rest ++ y) one.spells in
    let alone : packet_read front ≡ found item.packet (length front) = ap packet_read (sym (append-nil front)) ∙ reads_back item.packet front [] one.spells in
    let plain : is_plain (front ++ (rest ++ y)) ≡ is_plain front = (read_stands front (rest ++ y) item.packet (length front) alone).1 in
    let whole : x ++ y ≡ front ++ (rest ++ y) = ap (λ (b : List ℕ). b ++ y) split ∙ append_assoc front rest y in
    let len : at + length front + length rest ≡ at + length x = omega (arith, ap length split, length-append front rest) in
    ap (capture_from 0 at) whole
    ∙ capture-part at (front ++ (rest ++ y)) item.packet (length front) read
    ∙ ap (λ (c : Bool). behind (marked at c item.packet ∷ []) (capture_from 0 (at + length front) (drop (length front) (front ++ (rest ++ y))))) plain
    ∙ ap (λ (i : Placed). behind (i ∷ []) (capture_from 0 (at + length front) (drop (length front) (front ++ (rest ++ y))))) (sym (placed_is at item front one))
    ∙ ap (λ (b : List ℕ). behind (item ∷ []) (capture_from 0 (at + length front) b)) (drop-append_seam front (rest ++ y))
    ∙ ap (behind (item ∷ [])) (placed_shown (at + length front) items rest y (back_bytes front rest bytes) others)
    ∙ ap (λ (k : ℕ). behind (item ∷ items) (capture_from 0 k y)) len

-- each capture's packets have their places
pub record Places (at : ℕ) (packets : List Packet) (b : List ℕ) : Type 0 where
  pub items : List Placed
  pub same : packets_of items ≡ packets
  pub placed : ArePlaced at items b

pub places_of : (at : ℕ) (packets : List Packet) (b : List ℕ) → IsCaptureOf packets b → Places at packets b
places_of at [] b none = record { items = []; same = refl; placed = none }
places_of at (p ∷ packets) b (front, rest, split, spells, others) =
    let more = places_of (at + length front) packets rest others in
    let one : IsPlaced at (marked at (is_plain front) p) front = record { place = refl; spells = spells; canonical = (λ t. record { spells = spells; plain = t }, λ canon. canon.plain) } in
    record { items = marked at (is_plain front) p ∷ more.items; same = ap (λ (ps : List Packet). p ∷ ps) more.same; placed = (front, rest, split, one, more.placed) }

pub placed_capture : (at : ℕ) (items : List Placed) (b : List ℕ) → ArePlaced at items b → IsCaptureOf (packets_of items) b
placed_capture at [] b none = none
placed_capture at (item ∷ items) b (front, rest, split, one, others) = (front, rest, split, one.spells, placed_capture (at + length front) items rest others)

-- ---- what is shown

-- why what is shown ends behind so many bytes
abbrev pub StopsBy : Option (ℕ × Reason) → ℕ → ℕ → List ℕ → Type 0
StopsBy None at size b = size ≡ length b
StopsBy (Some fault) at size b = (fault.0 ≡ at + size) × Finds fault.1 (drop size b)

pub record Shows (at : ℕ) (b : List ℕ) (c : Capture) : Type 0 where
  pub size : ℕ
  pub within : size ≤ length b
  pub placed : ArePlaced at c.items (take size b)
  pub stops : StopsBy c.fault at size b

shows_none : (at : ℕ) → Shows at [] (capture_from 0 at [])
unfolding capture_from
shows_none at = record { size = 0; within = omega arith; placed = refl; stops = refl }

shows_fault : (at : ℕ) (b : List ℕ) (reason : Reason) → Finds reason b → Shows at b (with_items [] (Some (at, reason)))
shows_fault at b reason fails = record { size = 0; within = omega arith; placed = refl; stops = (omega arith, fails) }

stops_behind : (fault : Option (ℕ × Reason)) (at n size : ℕ) (b : List ℕ) → n ≤ length b → StopsBy fault (at + n) size (drop n b) → StopsBy fault at (n + size) b
stops_behind None at n size b le stops = omega (arith, stops, length-drop n b)
stops_behind (Some fault) at n size b le stops = (omega (arith, stops.0), subst (Finds fault.1) (drop-drop size n b) stops.1)

-- the packet that is read stands at its place
pub one_placed : (at : ℕ) (b : List ℕ) (p : Packet) (n : ℕ) → IsBytes b → packet_read b ≡ found p n → IsPlaced at (marked at (is_plain b) p) (take n b)
one_placed at b p n small e = record { place = refl; spells = (read_spelled b p n small e).0; canonical = read_marked b p n small e }

shows_part : (at : ℕ) (b : List ℕ) (p : Packet) (n : ℕ) → IsBytes b → packet_read b ≡ found p n → Shows (at + n) (drop n b) (capture_from 0 (at + n) (drop n b))
    → Shows at b (behind (marked at (is_plain b) p ∷ []) (capture_from 0 (at + n) (drop n b)))
shows_part at b p n small e s =
    let t = read_within b p n e in
    let len : length (take n b) ≡ n = length-take-le n b t.0 in
    let items : List Placed = (capture_from 0 (at + n) (drop n b)).items in
    record {
      size = n + s.size;
      within = omega (arith, s.within, length-drop n b, t.0);
      placed = (take n b, take s.size (drop n b), take-add n s.size b, one_placed at b p n small e, subst (λ (k : ℕ). ArePlaced (at + k) items (take s.size (drop n b))) (sym len) s.placed);
      stops = stops_behind (capture_from 0 (at + n) (drop n b)).fault at n s.size b t.0 s.stops;
    }

shows : (most at : ℕ) (b : List ℕ) → length b ≤ most → IsBytes b → Shows at b (capture_from 0 at b)
shows most at [] le small = shows_none at
shows zero at (x ∷ b) le small = absurd (omega arith)
shows (suc most) at (x ∷ b) le small = cases (λ k c less small. shows most k c less small) (packet_read (x ∷ b)) refl
  where
    cases : ((k : ℕ) (c : List ℕ) → length c ≤ most → IsBytes c → Shows k c (capture_from 0 k c)) → (r : Result (Option (Packet × ℕ)) PacketFault) → packet_read (x ∷ b) ≡ r → Shows at (x ∷ b) (capture_from 0 at (x ∷ b))
    cases more (Ok None) is =
        let some : 0 < length (x ∷ b) = omega arith in
        subst (Shows at (x ∷ b)) (sym (capture-cut at (x ∷ b) is some)) (shows_fault at (x ∷ b) truncated (is, some))
    cases more (Ok (Some (p, n))) is =
        let t = read_within (x ∷ b) p n is in
        let less : length (drop n (x ∷ b)) ≤ most = omega (arith, length-drop n (x ∷ b), t.0, t.1) in
        subst (Shows at (x ∷ b)) (sym (capture-part at (x ∷ b) p n is))
        (shows_part at (x ∷ b) p n small is (more (at + n) (drop n (x ∷ b)) less (drop_bytes n (x ∷ b) small)))
    cases more (Err fault) is = subst (Shows at (x ∷ b)) (sym (capture-bad at (x ∷ b) fault is)) (shows_fault at (x ∷ b) (reason_of fault) (finds_fault fault (x ∷ b) small is))

pub shows_bytes : (at : ℕ) (b : List ℕ) → IsBytes b → Shows at b (capture_from 0 at b)
shows_bytes at b small = shows (length b) at b (omega arith) small
