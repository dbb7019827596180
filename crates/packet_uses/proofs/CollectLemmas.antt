-- What feeding a decoder and taking its packets leaves to be shown.
use Rattle.std.proofs.Common.{◌≡◌, ℕ, ◌+◌, ◌<◌, ◌≤◌, ◌==◌, if◌then◌else◌, Bool, true, false, suc, List, [], ◌∷◌, ◌++◌, length, drop, get_or, Option, None, Some, Result, Ok, Err, refl, sym, ap, subst, ◌∙◌, append_assoc, inl, lit<, arith}
use Rattle.std.proofs.Math.Seq.{drop-cons}
use Rattle.std.proofs.lemmas.List.{append-nil, drop_all, length-append}
use Rattle.chdr_packets.proofs.Laws.{none_exactly}
use Rattle.chdr_packets.specs.declared.fault.PacketFault.{PacketFault}
use Rattle.chdr_packets.specs.declared.packet.Packet.{Packet}
use Rattle.chdr_stream.specs.Calls.{answer_of, given, opened}
use Rattle.chdr_stream.specs.Capture.{Capture, Reason, behind, capture_of, reason_of, truncated}
use Rattle.chdr_stream.specs.Rest.{rest_of}
use Rattle.chdr_stream.specs.Stream.{Stream, after, answer_at, fed_with, finish_at, past, reading}
use Rattle.chdr_stream.specs.declared.placed.FinishFault.{FinishFault}
use Rattle.chdr_stream.specs.declared.placed.FinishFault.TheVariants.{Truncated}
use Rattle.chdr_stream.specs.declared.placed.Placed.{Placed}
use Rattle.chdr_stream.specs.declared.placed.StreamFault.{StreamFault}
use Rattle.chdr_stream.specs.declared.placed.StreamFault.TheVariants.{Bad}
use Rattle.chdr_stream.proofs.Laws.{passes_bytes, shows_all, shows_cut, shows_fault, shows_fed, shows_given}
use Rattle.packet_uses.specs.Collected.{ShowsSame, joined}

abbrev pub Answer : Type 0
Answer = Result (Option Placed) StreamFault

abbrev pub gives : Placed → Answer
gives x = Ok (Some x)

abbrev pub stands : ℕ → PacketFault → Answer
stands at fault = Err (Bad at fault)

abbrev pub shows : List Placed → Option (ℕ × Reason) → Capture
shows items fault = record { items = items; fault = fault }

-- ---- a packet is taken

same_given : (old mid new : Stream) (packets taken : List Placed) → ShowsSame old mid packets taken → new ≡ after mid (reading mid) → ShowsSame old new packets (taken ++ given (answer_of mid))
same_given old mid new packets taken same moves = λ more.
    same more ∙ ap (behind taken) (shows_given mid more ∙ ap (λ (s : Stream). behind (given (answer_of mid)) (rest_of s more)) (sym moves))
    ∙ ap (λ (l : List Placed). shows l (rest_of new more).fault) (sym (append_assoc taken (given (answer_of mid)) (rest_of new more).items))

pub same_taken : (old mid new : Stream) (packets taken took : List Placed) (x : Placed) → ShowsSame old mid packets taken → answer_of mid ≡ gives x → new ≡ after mid (reading mid) → took ≡ taken ++ x ∷ []
    → ShowsSame old new packets took
same_taken old mid new packets taken took x same e moves is =
    subst (λ (l : List Placed). ShowsSame old new packets l) (ap (λ (a : Answer). taken ++ given a) e ∙ sym is) (same_given old mid new packets taken same moves)

-- ---- none is there

none_reads : (s : Stream) (r : Result (Option (Packet × ℕ)) PacketFault) → answer_at s r ≡ Ok None → r ≡ Ok None
none_reads s (Ok None) e = refl
none_reads s (Ok (Some found)) e = absurd cc
none_reads s (Err fault) e = absurd cc

pub none_left : (old mid new : Stream) (packets taken : List Placed) → ShowsSame old mid packets taken → answer_of mid ≡ Ok None → new ≡ after mid (reading mid)
    → ShowsSame old new packets taken × (reading new ≡ Ok None)
none_left old mid new packets taken same e moves =
    let is = none_reads mid (reading mid) e in (
      subst (λ (l : List Placed). ShowsSame old new packets l) (ap (λ (a : Answer). taken ++ given a) e ∙ append-nil taken) (same_given old mid new packets taken same moves),
      ap reading (moves ∙ ap (after mid) is) ∙ is,
    )

pub at_fault : (old mid : Stream) (packets taken : List Placed) (at : ℕ) (fault : PacketFault) → ShowsSame old mid packets taken → answer_of mid ≡ stands at fault
    → (more : List ℕ) → behind packets (rest_of old more) ≡ shows taken (Some (at, reason_of fault))
at_fault old mid packets taken at fault same e = λ more.
    same more ∙ ap (behind taken) (shows_fault mid more at fault e) ∙ ap (λ (l : List Placed). shows l (Some (at, reason_of fault))) (append-nil taken)

-- ---- how far it goes

record Moved (s : Stream) (r : Result (Option (Packet × ℕ)) PacketFault) : Type 0 where
  packet : Packet
  size : ℕ
  is : r ≡ Ok (Some (packet, size))

moved : (s : Stream) (r : Result (Option (Packet × ℕ)) PacketFault) (x : Placed) → answer_at s r ≡ gives x → Moved s r
moved s (Ok None) x e = absurd cc
moved s (Ok (Some found)) x e = record { packet = found.0; size = found.1; is = refl }
moved s (Err fault) x e = absurd cc

pub less : (old new : Stream) (x : Placed) → answer_of old ≡ gives x → new ≡ after old (reading old) → new.at + length new.kept ≡ old.at + length old.kept → length new.kept < length old.kept
less old new x e moves place =
    let m = moved old (reading old) x e in
    let new_is : new ≡ past old m.size = moves ∙ ap (after old) m.is in
    omega (arith, (passes_bytes old m.packet m.size m.is).0, ap (λ (s : Stream). s.at) new_is, place)

-- ---- pieces

-- feeding keeps the place, and adds no more than the piece
record Fed (old new : Stream) (piece : List ℕ) : Type 0 where
  place : new.at ≡ old.at
  long : length new.kept ≤ length old.kept + length piece

abbrev state : ℕ → List ℕ → Option PacketFault → ℕ → Stream
state at kept fault held = record { at = at; kept = kept; fault = fault; held = held }

fed_parts : (at : ℕ) (kept : List ℕ) (fault : Option PacketFault) (held : ℕ) (piece : List ℕ) → Fed (state at kept fault held) (fed_with (state at kept fault held) piece) piece
fed_parts at kept None held piece = record { place = refl; long = omega (arith, length-append kept piece) }
fed_parts at kept (Some fault) held piece = record { place = refl; long = omega arith }

-- a decoder and the packets taken show what all pieces are, if those from number i on follow
pub record Follows (pieces : List (List ℕ)) (i : ℕ) (s : Stream) (taken : List Placed) : Type 0 where
  pub shows : behind taken (rest_of s (joined (drop i pieces))) ≡ capture_of (joined pieces)
  pub room : s.at + length s.kept + length (joined (drop i pieces)) ≤ length (joined pieces)
  pub read : reading s ≡ Ok None

follows_all : (pieces : List (List ℕ)) → Follows pieces 0 opened []
follows_all pieces = record {
  shows = shows_all (joined pieces);
  room = omega arith;
  read = (none_exactly []).1 (inl (lit< tt));
}

pub follows_start : (pieces : List (List ℕ)) (s : Stream) (taken : List Placed) → s ≡ opened → taken ≡ [] → Follows pieces 0 s taken
follows_start pieces s taken e f = subst (λ (x : Stream). Follows pieces 0 x taken) (sym e) (subst (λ (l : List Placed). Follows pieces 0 opened l) (sym f) (follows_all pieces))

next_piece : (pieces : List (List ℕ)) (i : ℕ) (piece : List ℕ) → i < length pieces → piece ≡ get_or pieces i piece → joined (drop i pieces) ≡ piece ++ joined (drop (i + 1) pieces)
next_piece pieces i piece lt is =
    let one : suc i ≡ i + 1 = omega arith in
    ap joined (drop-cons pieces i piece lt) ∙ ap (λ (p : List ℕ). p ++ joined (drop (suc i) pieces)) (sym is) ∙ ap (λ (k : ℕ). piece ++ joined (drop k pieces)) one

pub feeds : (pieces : List (List ℕ)) (i : ℕ) (s : Stream) (taken : List Placed) (piece : List ℕ) → i < length pieces → piece ≡ get_or pieces i piece → Follows pieces i s taken
    → s.at + length s.kept + length piece ≤ length (joined pieces)
feeds pieces i s taken piece lt is f =
    omega (arith, f.room, ap length (next_piece pieces i piece lt is), length-append piece (joined (drop (i + 1) pieces)))

-- what follows a piece that was fed
fed_shows : (pieces : List (List ℕ)) (i : ℕ) (s fed : Stream) (taken : List Placed) (piece : List ℕ) → i < length pieces → piece ≡ get_or pieces i piece → fed ≡ fed_with s piece → Follows pieces i s taken
    → behind taken (rest_of fed (joined (drop (i + 1) pieces))) ≡ capture_of (joined pieces)
fed_shows pieces i s fed taken piece lt is e f =
    ap (λ (x : Stream). behind taken (rest_of x (joined (drop (i + 1) pieces)))) e ∙ ap (behind taken) (shows_fed s piece (joined (drop (i + 1) pieces)))
    ∙ ap (λ (l : List ℕ). behind taken (rest_of s l)) (sym (next_piece pieces i piece lt is)) ∙ f.shows

pub follows_next : (pieces : List (List ℕ)) (i : ℕ) (s fed new : Stream) (taken took : List Placed) (piece : List ℕ) → i < length pieces → piece ≡ get_or pieces i piece → fed ≡ fed_with s piece
    → ShowsSame fed new taken took × (reading new ≡ Ok None) → new.at + length new.kept ≡ fed.at + length fed.kept → Follows pieces i s taken → Follows pieces (i + 1) new took
follows_next pieces i s fed new taken took piece lt is e takes place f =
    let p = fed_parts s.at s.kept s.fault s.held piece in
    record {
      shows = sym (takes.0 (joined (drop (i + 1) pieces))) ∙ fed_shows pieces i s fed taken piece lt is e f;
      room = omega (
        arith,
        f.room,
        place,
        p.place,
        p.long,
        ap (λ (x : Stream). x.at) e,
        ap (λ (x : Stream). length x.kept) e,
        ap length (next_piece pieces i piece lt is),
        length-append piece (joined (drop (i + 1) pieces)),
      );
      read = takes.1;
    }

pub stops : (pieces : List (List ℕ)) (i : ℕ) (s fed : Stream) (taken : List Placed) (piece : List ℕ) (found : Capture) → i < length pieces → piece ≡ get_or pieces i piece → fed ≡ fed_with s piece
    → ((more : List ℕ) → behind taken (rest_of fed more) ≡ found) → Follows pieces i s taken → capture_of (joined pieces) ≡ found
stops pieces i s fed taken piece found lt is e takes f = sym (fed_shows pieces i s fed taken piece lt is e f) ∙ takes (joined (drop (i + 1) pieces))

pub ends : (pieces : List (List ℕ)) (i : ℕ) (s : Stream) (taken : List Placed) (fault : Option (ℕ × Reason)) → length pieces ≤ i → Follows pieces i s taken → rest_of s [] ≡ shows [] fault
    → capture_of (joined pieces) ≡ shows taken fault
ends pieces i s taken fault all f e =
    sym f.shows ∙ ap (λ (l : List (List ℕ)). behind taken (rest_of s (joined l))) (drop_all i pieces all) ∙ ap (behind taken) e ∙ ap (λ (l : List Placed). shows l fault) (append-nil taken)

-- ---- the end

abbrev ended : Bool → ℕ → Result (Unit {0}) FinishFault
ended none at = if none then Ok tt else Err (Truncated at)

abbrev cut : Bool → ℕ → Option (ℕ × Reason)
cut none at = if none then None else Some (at, truncated)

whole_if : (none : Bool) (at : ℕ) (done : Unit {0}) → ended none at ≡ Ok done → cut none at ≡ None
whole_if true at done e = refl
whole_if false at done e = absurd cc

cut_if : (none : Bool) (at place : ℕ) → ended none at ≡ Err (Truncated place) → cut none at ≡ Some (place, truncated)
cut_if true at place e = absurd cc
cut_if false at place e = let same : at ≡ place = cc in ap (λ (k : ℕ). Some (k, truncated)) same

pub whole : (s : Stream) (done : Unit {0}) → reading s ≡ Ok None → finish_at s ≡ Ok done → rest_of s [] ≡ shows [] None
whole s done read e = shows_cut s read ∙ ap (shows []) (whole_if (length s.kept == 0) s.at done e)

pub cut_at : (s : Stream) (place : ℕ) → reading s ≡ Ok None → finish_at s ≡ Err (Truncated place) → rest_of s [] ≡ shows [] (Some (place, truncated))
cut_at s place read e = shows_cut s read ∙ ap (shows []) (cut_if (length s.kept == 0) s.at place e)

pub truncated_at : (fault : FinishFault) → (place : ℕ) × (fault ≡ Truncated place)
truncated_at (Truncated place) = (place, refl)
