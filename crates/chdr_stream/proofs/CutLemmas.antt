-- What lists of calls give, whatever pieces the bytes came in.
use Rattle.std.proofs.Common.{Bool, true, false, cond, eqb, ne_eqb, ◌≡◌, ℕ, ◌+◌, List, [], ◌∷◌, ◌++◌, length, take, drop, Option, None, Some, Result, Ok, Err, refl, sym, ap, subst, ◌∙◌, append_assoc, arith}
use Rattle.std.proofs.Math.Seq.{take-append_seam}
use Rattle.std.proofs.lemmas.Bool.{eqb-true}
use Rattle.std.proofs.lemmas.List.{append-nil, nil_from_length, length-append, length-take-le, take-append-drop}
use Rattle.chdr_packets.specs.Grammar.{is_plain}
use Rattle.chdr_packets.specs.Reading.{packet_read}
use Rattle.chdr_packets.specs.declared.fault.PacketFault.{PacketFault}
use Rattle.chdr_packets.specs.declared.packet.Packet.{Packet}
use Rattle.chdr_packets.proofs.Laws.{read_within, fault_stands}
use Rattle.chdr_stream.specs.declared.placed.Placed.{Placed}
use Rattle.chdr_stream.specs.declared.placed.StreamFault.{StreamFault}
use Rattle.chdr_stream.specs.declared.placed.StreamFault.TheVariants.{Bad, Memory}
use Rattle.chdr_stream.specs.declared.placed.FinishFault.{FinishFault}
use Rattle.chdr_stream.specs.declared.placed.FinishFault.TheVariants as finishes
use Rattle.chdr_stream.specs.Capture.{Reason, reason_of, truncated, Capture, behind, capture_from, capture_of}
use Rattle.chdr_stream.specs.Places.{IsPlaced, ArePlaced}
use Rattle.chdr_stream.specs.Stream.{Stream, fed_with, reading, answer_at, after, passing_at, released}
use Rattle.chdr_stream.specs.Calls.{Call, feeds, asks, fails, opened, with_call, given, given_with, fed_with_call, with_calls, decoder_of, given_from, given_by, fed_by, IsRead, FindsNone, IsDrained, stop_at}
use Rattle.chdr_stream.specs.Laws.{KeepsRest, NamesFault, NamesCut, EndsWhole, IsAnyCut, StaysAtFault, IsACall, PassTells, without_packet}
use Rattle.chdr_stream.proofs.StreamLemmas.{found, with_items, marked, capture-bad, capture-cut}
use Rattle.chdr_packets.specs.Laws.{IsBytes}
use Rattle.chdr_stream.proofs.ReasonLemmas.{IsOfReason, known}
use Rattle.chdr_stream.proofs.CaptureLemmas.{front_bytes, back_bytes, placed_shown, one_placed}
use Rattle.chdr_stream.proofs.FaultLemmas.{capture_none, first_shown}

abbrev state : ℕ → List ℕ → Option PacketFault → ℕ → Stream
state at kept fault held = record { at = at; kept = kept; fault = fault; held = held }

-- the bytes behind the packets given are kept, or have the fault
abbrev pub Stands : Option PacketFault → List ℕ → List ℕ → Type 0
Stands None kept rest = rest ≡ kept
Stands (Some fault) kept rest = packet_read rest ≡ Err fault

pub record Cut (fed : List ℕ) (items : List Placed) (s : Stream) : Type 0 where
  pub front : List ℕ
  pub rest : List ℕ
  pub whole : fed ≡ front ++ rest
  pub place : s.at ≡ length front
  pub placed : ArePlaced 0 items front
  pub stands : Stands s.fault s.kept rest

-- ---- a call

placed_more : (at : ℕ) (items : List Placed) (x : List ℕ) (item : Placed) (b : List ℕ) → ArePlaced at items x → IsPlaced (at + length x) item b → ArePlaced at (items ++ item ∷ []) (x ++ b)
placed_more at [] x item b none one =
    let here : at + length x ≡ at = omega (arith, ap length none) in
    (b, [], ap (λ (l : List ℕ). l ++ b) none ∙ sym (append-nil b), subst (λ (k : ℕ). IsPlaced k item b) here one, refl)
placed_more at (first ∷ items) x item b (front, rest, split, head, others) one =
    let len : at + length x ≡ at + length front + length rest = omega (arith, ap length split, length-append front rest) in
    (front, rest ++ b, ap (λ (l : List ℕ). l ++ b) split ∙ append_assoc front rest b, head, placed_more (at + length front) items rest item b others (subst (λ (k : ℕ). IsPlaced k item b) len one))

fed_stands : (at : ℕ) (kept : List ℕ) (fault : Option PacketFault) (held : ℕ) (rest piece : List ℕ) → Stands fault kept rest → Stands fault (fed_with (state at kept fault held) piece).kept (rest ++ piece)
fed_stands at kept None held rest piece e = ap (λ (l : List ℕ). l ++ piece) e
fed_stands at kept (Some fault) held rest piece e = fault_stands rest piece fault e

cut_fed : (fed : List ℕ) (items : List Placed) (s : Stream) (piece : List ℕ) → Cut fed items s → Cut (fed ++ piece) items (fed_with s piece)
cut_fed fed items s piece c = record {
  front = c.front;
  rest = c.rest ++ piece;
  whole = ap (λ (l : List ℕ). l ++ piece) c.whole ∙ append_assoc c.front c.rest piece;
  place = c.place;
  placed = c.placed;
  stands = fed_stands s.at s.kept s.fault s.held c.rest piece c.stands;
}

-- what is found at the front of the bytes kept is given
cut_found : (fed : List ℕ) (items : List Placed) (at : ℕ) (kept : List ℕ) (held : ℕ) (p : Packet) (n : ℕ) → IsBytes fed → packet_read kept ≡ found p n → Cut fed items (state at kept None held)
    → Cut fed (items ++ marked at (is_plain kept) p ∷ []) (state (at + n) (drop n kept) None held)
cut_found fed items at kept held p n small e c =
    let t = read_within kept p n e in
    let bytes : IsBytes kept = subst IsBytes c.stands (back_bytes c.front c.rest (subst IsBytes c.whole small)) in
    let one : IsPlaced (0 + length c.front) (marked at (is_plain kept) p) (take n kept) = subst (λ (k : ℕ). IsPlaced k (marked at (is_plain kept) p) (take n kept)) (omega (arith, c.place)) (one_placed at kept p n bytes e) in
    record {
      front = c.front ++ take n kept;
      rest = drop n kept;
      whole = c.whole ∙ ap (λ (l : List ℕ). c.front ++ l) (c.stands ∙ sym (take-append-drop n kept)) ∙ sym (append_assoc c.front (take n kept) (drop n kept));
      place = omega (arith, c.place, length-append c.front (take n kept), length-take-le n kept t.0);
      placed = placed_more 0 items c.front (marked at (is_plain kept) p) (take n kept) c.placed one;
      stands = refl;
    }

cut_kept : (fed : List ℕ) (items : List Placed) (s : Stream) → Cut fed items s → Cut fed (items ++ []) s
cut_kept fed items s c = subst (λ (l : List Placed). Cut fed l s) (sym (append-nil items)) c

cut_asked : (fed : List ℕ) (items : List Placed) (at : ℕ) (kept : List ℕ) (fault : Option PacketFault) (held : ℕ) → IsBytes fed → Cut fed items (state at kept fault held)
    → Cut fed (items ++ given (answer_at (state at kept fault held) (reading (state at kept fault held)))) (after (state at kept fault held) (reading (state at kept fault held)))
cut_asked fed items at kept (Some fault) held small c = cut_kept fed items (state at kept (Some fault) held) c
cut_asked fed items at kept None held small c = cases (packet_read kept) refl
  where
    cases : (r : Result (Option (Packet × ℕ)) PacketFault) → packet_read kept ≡ r → Cut fed (items ++ given (answer_at (state at kept None held) r)) (after (state at kept None held) r)
    cases (Ok None) is = cut_kept fed items (released (state at kept None held)) (record { front = c.front; rest = c.rest; whole = c.whole; place = c.place; placed = c.placed; stands = c.stands })
    cases (Ok (Some (p, n))) is = cut_found fed items at kept held p n small is c
    cases (Err fault) is = cut_kept fed items (state at kept (Some fault) held) (record { front = c.front; rest = c.rest; whole = c.whole; place = c.place; placed = c.placed; stands = ap packet_read c.stands ∙ is })

cut_call : (fed : List ℕ) (items : List Placed) (s : Stream) (call : Call) → IsBytes fed → Cut fed items s → Cut (fed ++ fed_with_call call) (items ++ given_with s call) (with_call s call)
cut_call fed items s (feeds piece) small c = cut_kept (fed ++ piece) items (fed_with s piece) (cut_fed fed items s piece c)
cut_call fed items s asks small c = subst (λ (l : List ℕ). Cut l (items ++ given_with s asks) (with_call s asks)) (sym (append-nil fed)) (cut_asked fed items s.at s.kept s.fault s.held small c)
cut_call fed items s fails small c = subst (λ (l : List ℕ). Cut l (items ++ []) s) (sym (append-nil fed)) (cut_kept fed items s c)

cut_calls : (calls : List Call) (fed : List ℕ) (items : List Placed) (s : Stream) → IsBytes (fed ++ fed_by calls) → Cut fed items s → Cut (fed ++ fed_by calls) (items ++ given_from s calls) (with_calls s calls)
cut_calls [] fed items s small c = subst (λ (l : List ℕ). Cut l (items ++ []) s) (sym (append-nil fed)) (cut_kept fed items s c)
cut_calls (call ∷ calls) fed items s small c =
    let split : (fed ++ fed_with_call call) ++ fed_by calls ≡ fed ++ (fed_with_call call ++ fed_by calls) = append_assoc fed (fed_with_call call) (fed_by calls) in
    let some : (items ++ given_with s call) ++ given_from (with_call s call) calls ≡ items ++ (given_with s call ++ given_from (with_call s call) calls) = append_assoc items (given_with s call) (given_from (with_call s call) calls) in
    let more = cut_calls calls (fed ++ fed_with_call call) (items ++ given_with s call) (with_call s call) (subst IsBytes (sym split) small) (cut_call fed items s call (front_bytes fed (fed_with_call call ++ fed_by calls) small) c) in
    subst (λ (l : List ℕ). Cut l (items ++ (given_with s call ++ given_from (with_call s call) calls)) (with_calls (with_call s call) calls)) split
    (subst (λ (l : List Placed). Cut ((fed ++ fed_with_call call) ++ fed_by calls) l (with_calls (with_call s call) calls)) some more)

pub cut : (calls : List Call) → IsBytes (fed_by calls) → Cut (fed_by calls) (given_by calls) (decoder_of calls)
cut calls small = cut_calls calls [] [] opened small (record { front = []; rest = []; whole = refl; place = refl; placed = refl; stands = refl })

-- the fault at which it stands is one that bytes have
stands_of : (at : ℕ) (kept : List ℕ) (fault : Option PacketFault) (held : ℕ) (rest : List ℕ) → IsBytes rest → Stands fault kept rest → IsOfReason (reading (state at kept fault held))
stands_of at kept (Some fault) held rest all stands = known fault rest all stands
stands_of at kept None held rest all stands = cases (packet_read kept) refl
  where
    cases : (r : Result (Option (Packet × ℕ)) PacketFault) → packet_read kept ≡ r → IsOfReason r
    cases (Ok found) is = tt
    cases (Err fault) is = known fault rest all (ap packet_read stands ∙ is)

pub of_reason : (calls : List Call) → IsBytes (fed_by calls) → IsOfReason (reading (decoder_of calls))
of_reason calls all =
    let s = decoder_of calls in
    let c = cut calls all in
    stands_of s.at s.kept s.fault s.held c.rest (back_bytes c.front c.rest (subst IsBytes c.whole all)) c.stands

-- ---- the laws

keeps : (fed : List ℕ) (items : List Placed) (at : ℕ) (kept : List ℕ) (fault : Option PacketFault) (held : ℕ) → fault ≡ None → Cut fed items (state at kept fault held) → IsRead fed items at kept
keeps fed items at kept None held e c = record { front = c.front; whole = c.whole ∙ ap (λ (l : List ℕ). c.front ++ l) c.stands; place = c.place; placed = c.placed }
keeps fed items at kept (Some fault) held e c = absurd cc

pub keeps_rest : KeepsRest
keeps_rest calls all none =
    let s = decoder_of calls in
    keeps (fed_by calls) (given_by calls) s.at s.kept s.fault s.held none (cut calls all)

-- what is shown where the bytes behind the packets given have a fault, whatever follows
shown_bad : (fed more : List ℕ) (items : List Placed) (s : Stream) (c : Cut fed items s) (fault : PacketFault) → IsBytes fed → packet_read c.rest ≡ Err fault
    → capture_of (fed ++ more) ≡ with_items items (Some (s.at, reason_of fault))
shown_bad fed more items s c fault small e =
    let place : 0 + length c.front ≡ s.at = omega (arith, c.place) in
    ap (λ (l : List ℕ). capture_of (l ++ more)) c.whole ∙ ap capture_of (append_assoc c.front c.rest more)
    ∙ placed_shown 0 items c.front (c.rest ++ more) (front_bytes c.front c.rest (subst IsBytes c.whole small)) c.placed
    ∙ ap (λ (k : ℕ). behind items (capture_from 0 k (c.rest ++ more))) place
    ∙ ap (behind items) (capture-bad s.at (c.rest ++ more) fault (fault_stands c.rest more fault e))
    ∙ ap (λ (l : List Placed). with_items l (Some (s.at, reason_of fault))) (append-nil items)

-- an answered fault stands behind the packets given
record Answered (s : Stream) (rest : List ℕ) (at : ℕ) (fault : PacketFault) : Type 0 where
  pub place : at ≡ s.at
  pub read : packet_read rest ≡ Err fault

bad_answer : (a : ℕ) (kept : List ℕ) (f : Option PacketFault) (held : ℕ) (rest : List ℕ) (at : ℕ) (fault : PacketFault) → Stands f kept rest
    → answer_at (state a kept f held) (reading (state a kept f held)) ≡ Err (Bad at fault) → Answered (state a kept f held) rest at fault
bad_answer a kept (Some f) held rest at fault stands e = let p = parts a at f fault e in record { place = sym p.0; read = stands ∙ ap (λ (g : PacketFault). Err g) p.1 }
  where
    parts : (a at : ℕ) (f g : PacketFault) → ◌≡◌ {A = Result (Option Placed) StreamFault} (Err (Bad a f)) (Err (Bad at g)) → (a ≡ at) × (f ≡ g)
    parts a at f g e = (cc, cc)
bad_answer a kept None held rest at fault stands e = cases (packet_read kept) refl e
  where
    parts : (a at : ℕ) (f g : PacketFault) → ◌≡◌ {A = Result (Option Placed) StreamFault} (Err (Bad a f)) (Err (Bad at g)) → (a ≡ at) × (f ≡ g)
    parts a at f g e = (cc, cc)

    cases : (r : Result (Option (Packet × ℕ)) PacketFault) → packet_read kept ≡ r → answer_at (state a kept None held) r ≡ Err (Bad at fault) → Answered (state a kept None held) rest at fault
    cases (Ok None) is e = absurd cc
    cases (Ok (Some x)) is e = absurd cc
    cases (Err f) is e = let p = parts a at f fault e in record { place = sym p.0; read = ap packet_read stands ∙ is ∙ ap (λ (g : PacketFault). Err g) p.1 }

pub names_fault : NamesFault
names_fault calls more at fault all e =
    let fed = fed_by calls in
    let s = decoder_of calls in
    let small : IsBytes fed = front_bytes fed more all in
    let c = cut calls small in
    let a = bad_answer s.at s.kept s.fault s.held c.rest at fault c.stands e in
    let is : capture_of (fed ++ more) ≡ with_items (given_by calls) (Some (at, reason_of fault)) =
    shown_bad fed more (given_by calls) s c fault small a.read ∙ ap (λ (k : ℕ). with_items (given_by calls) (Some (k, reason_of fault))) (sym a.place) in
    let front : c.front ≡ take at (fed ++ more) =
    sym (take-append_seam c.front (c.rest ++ more)) ∙ ap (λ (k : ℕ). take k (c.front ++ (c.rest ++ more))) (sym (a.place ∙ c.place))
    ∙ ap (take at) (sym (ap (λ (l : List ℕ). l ++ more) c.whole ∙ append_assoc c.front c.rest more)) in
    (first_shown (fed ++ more) at (reason_of fault) all (ap (λ (x : Capture). x.fault) is), subst (ArePlaced 0 (given_by calls)) front c.placed, known fault c.rest (back_bytes c.front c.rest (subst IsBytes c.whole small)) a.read)

abbrev ending : Bool → ℕ → Option (ℕ × Reason)
ending none at = cond none None (Some (at, truncated))

-- what is shown where no whole packet is left
rest_shown : (at : ℕ) (kept : List ℕ) (held : ℕ) → packet_read kept ≡ Ok None → capture_from 0 at kept ≡ with_items [] (stop_at (state at kept None held) (Ok None))
rest_shown at [] held is = capture_none at
rest_shown at (x ∷ kept) held is =
    let some : eqb (length (x ∷ kept)) 0 ≡ false = ne_eqb _ _ (λ e. omega (arith, e)) in
    capture-cut at (x ∷ kept) is (omega arith) ∙ ap (λ (none : Bool). with_items [] (ending none at)) (sym some)

shown_rest : (fed : List ℕ) (items : List Placed) (at : ℕ) (kept : List ℕ) (held : ℕ) → IsBytes fed → packet_read kept ≡ Ok None → Cut fed items (state at kept None held)
    → capture_of fed ≡ with_items items (stop_at (state at kept None held) (Ok None))
shown_rest fed items at kept held small is c =
    let place : 0 + length c.front ≡ at = omega (arith, c.place) in
    ap capture_of c.whole ∙ placed_shown 0 items c.front c.rest (front_bytes c.front c.rest (subst IsBytes c.whole small)) c.placed
    ∙ ap (λ (k : ℕ). behind items (capture_from 0 k c.rest)) place
    ∙ ap (λ (l : List ℕ). behind items (capture_from 0 at l)) c.stands
    ∙ ap (behind items) (rest_shown at kept held is)
    ∙ ap (λ (l : List Placed). with_items l (stop_at (state at kept None held) (Ok None))) (append-nil items)

bad_shown : (fed : List ℕ) (items : List Placed) (s : Stream) (c : Cut fed items s) (fault : PacketFault) → IsBytes fed → packet_read c.rest ≡ Err fault → capture_of fed ≡ with_items items (Some (s.at, reason_of fault))
bad_shown fed items s c fault small e = ap capture_of (sym (append-nil fed)) ∙ shown_bad fed [] items s c fault small e

drained_shown : (fed : List ℕ) (items : List Placed) (at : ℕ) (kept : List ℕ) (fault : Option PacketFault) (held : ℕ) → IsBytes fed → IsDrained (state at kept fault held) → Cut fed items (state at kept fault held)
    → capture_of fed ≡ with_items items (stop_at (state at kept fault held) (reading (state at kept fault held)))
drained_shown fed items at kept (Some fault) held small drained c = bad_shown fed items (state at kept (Some fault) held) c fault small c.stands
drained_shown fed items at kept None held small drained c = cases (packet_read kept) refl drained
  where
    cases : (r : Result (Option (Packet × ℕ)) PacketFault) → packet_read kept ≡ r → FindsNone r → capture_of fed ≡ with_items items (stop_at (state at kept None held) r)
    cases (Ok None) is none = shown_rest fed items at kept held small is c
    cases (Ok (Some x)) is none = absurd none
    cases (Err fault) is none = bad_shown fed items (state at kept None held) c fault small (ap packet_read c.stands ∙ is)

pub any_cut : IsAnyCut
any_cut calls all drained =
    let s = decoder_of calls in
    let small = all in
    drained_shown (fed_by calls) (given_by calls) s.at s.kept s.fault s.held small drained (cut calls small)

-- ---- the end

ended_shown : (calls : List Call) → IsBytes (fed_by calls) → reading (decoder_of calls) ≡ Ok None → capture_of (fed_by calls) ≡ with_items (given_by calls) (stop_at (decoder_of calls) (Ok None))
ended_shown calls all none =
    any_cut calls all (subst FindsNone (sym none) tt) ∙ ap (λ (r : Result (Option (Packet × ℕ)) PacketFault). with_items (given_by calls) (stop_at (decoder_of calls) r)) none

abbrev finished : Bool → ℕ → Result (Unit {0}) FinishFault
finished none at = cond none (Ok tt) (Err (finishes.Truncated at))

refused : (none : Bool) (at place : ℕ) → finished none at ≡ Err (finishes.Truncated place) → ending none at ≡ Some (place, truncated)
refused true at place e = absurd cc
refused false at place e = let same : at ≡ place = cc in ap (λ (k : ℕ). Some (k, truncated)) same

pub names_cut : NamesCut
names_cut calls at all none e =
    let s = decoder_of calls in
    first_shown (fed_by calls) at truncated all (ap (λ (x : Capture). x.fault) (ended_shown calls all none) ∙ refused (eqb (length s.kept) 0) s.at at e)

accepted : (none : Bool) (at : ℕ) → finished none at ≡ Ok tt → none ≡ true
accepted true at e = refl
accepted false at e = absurd cc

pub ends_whole : EndsWhole
ends_whole calls all none e =
    let s = decoder_of calls in
    let c = cut calls all in
    let left : length s.kept ≡ 0 = eqb-true _ _ (accepted (eqb (length s.kept) 0) s.at e) in
    let kept : IsRead (fed_by calls) (given_by calls) s.at s.kept = keeps_rest calls all (unfaulted s.at s.kept s.fault s.held none) in
    subst (ArePlaced 0 (given_by calls)) (sym (kept.whole ∙ ap (λ (l : List ℕ). kept.front ++ l) (nil_from_length s.kept left) ∙ append-nil kept.front)) kept.placed
  where
    unfaulted : (at : ℕ) (kept : List ℕ) (fault : Option PacketFault) (held : ℕ) → reading (state at kept fault held) ≡ Ok None → fault ≡ None
    unfaulted at kept None held e = refl
    unfaulted at kept (Some fault) held e = absurd cc

-- ---- what the clauses say

pub next_calls : IsACall
next_calls old new (Ok found) answers = (asks, answers.1, ap given (sym answers.0), refl)
next_calls old new (Err (Bad at fault)) answers = (asks, answers.1, ap given (sym answers.0), refl)
next_calls old new (Err Memory) answers = (fails, answers, refl, refl)

pub pass_tells : PassTells
pass_tells s = cases (reading s)
  where
    cases : (r : Result (Option (Packet × ℕ)) PacketFault) → passing_at s r ≡ without_packet (answer_at s r)
    cases (Ok None) = refl
    cases (Ok (Some x)) = refl
    cases (Err fault) = refl

-- ---- at a fault

stays : (at : ℕ) (kept : List ℕ) (fault : PacketFault) (held : ℕ) (calls : List Call)
    → (with_calls (state at kept (Some fault) held) calls ≡ state at kept (Some fault) held) × (given_from (state at kept (Some fault) held) calls ≡ [])
stays at kept fault held [] = (refl, refl)
stays at kept fault held (feeds piece ∷ calls) = stays at kept fault held calls
stays at kept fault held (asks ∷ calls) = stays at kept fault held calls
stays at kept fault held (fails ∷ calls) = stays at kept fault held calls

pub stays_at_fault : StaysAtFault
stays_at_fault s fault calls e =
    subst (λ (f : Option PacketFault). (with_calls (state s.at s.kept f s.held) calls ≡ state s.at s.kept f s.held) × (given_from (state s.at s.kept f s.held) calls ≡ [])) (sym e) (stays s.at s.kept fault s.held calls)
