-- What is read is spelled and fits, stands whatever follows, and stops at the first failing test.
use Rattle.std.proofs.Common.{Bool, true, false, cond, ltb, ◌≡◌, ℕ, List, length, take, drop, Option, None, Some, Result, Ok, Err, refl, sym, ap, subst, ◌∙◌, ◌<◌, ◌≤◌}
use Rattle.std.specs.Prelude.{◌↔◌, IfSome, IfOk, IsTrue, slice_range}
use Rattle.std.proofs.lemmas.List.{take-append-drop}
use Rattle.std.proofs.lemmas.List.Elements.{All-from_get_or}
use Rattle.chdr_words.specs.Field.{word_at}
use Rattle.chdr_words.specs.Header.{header_of}
use Rattle.chdr_words.specs.Wire.{wire_size_of}
use Rattle.chdr_words.specs.Status.{status_read}
use Rattle.chdr_words.specs.Command.{command_read}
use Rattle.chdr_words.specs.Control.{control_read}
use Rattle.chdr_words.specs.Management.{management_read}
use Rattle.chdr_words.specs.declared.fault.MsgFault.{MsgFault}
use Rattle.chdr_words.specs.declared.header.Header.{Header}
use Rattle.chdr_words.specs.declared.header.PktType.{PktType}
use Rattle.chdr_words.specs.declared.header.PktType.TheVariants as types
use Rattle.chdr_words.specs.Laws.{IsBytes as SmallBytes}
use Rattle.chdr_packets.specs.Fits.{FitsPacket}
use Rattle.chdr_packets.specs.Grammar.{IsCanon, Spells, is_plain, start_of}
use Rattle.chdr_packets.specs.Reading.{Gives, is_reserved, as_body, time_at, body_read, marked, packed, opened, frame_read, packet_read}
use Rattle.chdr_packets.specs.Laws.{IsBytes, FaultStands, NoMemory, NoneExactly, ReadMarked, ReadSpelled, ReadStands, ReadWithin, RefusedExactly}
use Rattle.chdr_packets.specs.declared.fault.PacketFault.{PacketFault}
use Rattle.chdr_packets.specs.declared.fault.PacketFault.TheVariants.{ReservedType, BadLength, Message, Memory}
use Rattle.chdr_packets.specs.declared.packet.Packet.{Packet}
use Rattle.chdr_packets.specs.declared.packet.Front.{Front}
use Rattle.chdr_packets.specs.declared.packet.Body.{Body}
use Rattle.chdr_packets.specs.declared.packet.Body.TheVariants as bodies
use Rattle.chdr_packets.proofs.PacketLemmas.{found, read-take, read_more, plain_more, fails_more, none_few}
use Rattle.chdr_packets.proofs.GrammarLemmas.{read_spells}
use Rattle.chdr_packets.proofs.LawLemmas.{small_bytes, spelled_fits}
use Rattle.chdr_packets.proofs.RefusalLemmas.{short_exactly, refuses_exactly}

-- ---- what is read

pub read_within : ReadWithin
read_within b p n e = let t = read-take b p n e in (t.0, t.1)

pub read_spelled : ReadSpelled
read_spelled b p n all e =
    let s = read_spells b p n (small_bytes b all) e in
    (s, spelled_fits p (take n b) s)

pub read_marked : ReadMarked
read_marked b p n all e =
    let spells : Spells p (take n b) = read_spells b p n (small_bytes b all) e in
    let plain : is_plain b ≡ is_plain (take n b) = ap is_plain (sym (take-append-drop n b)) ∙ plain_more (take n b) (drop n b) p n (read-take b p n e).2 in
    (λ v. record { spells = spells; plain = subst IsTrue plain v }, λ canon. subst IsTrue (sym plain) canon.plain)

pub read_stands : ReadStands
read_stands b more p n e = (read_more b more p n e, plain_more b more p n e)

pub fault_stands : FaultStands
fault_stands b more fault e = fails_more b more fault e

-- a packet that a call gave fits
pub gives_fits : (r : Result (Option (Packet × ℕ)) PacketFault) (b : List ℕ) → IfOk r (λ found. IfSome found (λ x. Spells x.0 (take x.1 b))) → IfOk r (λ found. IfSome found (λ x. FitsPacket x.0))
gives_fits (Ok None) b s = tt
gives_fits (Ok (Some x)) b s = spelled_fits x.0 (take x.1 b) s
gives_fits (Err fault) b s = tt

-- ---- the packet at the front with its size and mark

all_bytes : (b : List ℕ) → SmallBytes b → IsBytes b
all_bytes b small = All-from_get_or (λ (byte : ℕ). byte < 256) b 0 (λ i lt. small i)

pub record FrontIs (b : List ℕ) (x : Front) : Type 0 where
  pub within : (x.size ≤ length b) × (8 ≤ x.size)
  pub spells : Spells x.packet (take x.size b)
  pub marks : IsTrue x.canonical ↔ IsCanon x.packet (take x.size b)
  pub fits : FitsPacket x.packet

front_parts : (b : List ℕ) (r : Result (Option (Packet × ℕ)) PacketFault) (x : Front) → marked b r ≡ Ok (Some x) → (r ≡ found x.packet x.size) × (is_plain b ≡ x.canonical)
front_parts b (Ok None) x e = absurd cc
front_parts b (Ok (Some y)) x e =
    let same : record { packet = y.0; size = y.1; canonical = is_plain b } ≡ x = cc in
    (ap (λ (f : Front). found f.packet f.size) same, ap (λ (f : Front). f.canonical) same)
front_parts b (Err fault) x e = absurd cc

front_is : (b : List ℕ) (x : Front) → SmallBytes b → marked b (packet_read b) ≡ Ok (Some x) → FrontIs b x
front_is b x small e =
    let parts = front_parts b (packet_read b) x e in
    let all = all_bytes b small in
    let spelled = read_spelled b x.packet x.size all parts.0 in
    record {
      within = read_within b x.packet x.size parts.0;
      spells = spelled.0;
      marks = subst (λ (c : Bool). IsTrue c ↔ IsCanon x.packet (take x.size b)) parts.1 (read_marked b x.packet x.size all parts.0);
      fits = spelled.1;
    }

-- what holds of a packet found at the front holds of what a call gave
pub gives_front : (P : Front → Type 0) (b : List ℕ) (r : Result (Option Front) PacketFault) → ((x : Front) → FrontIs b x → P x) → SmallBytes b → Gives r (marked b (packet_read b)) → IfOk r (λ found. IfSome found P)
gives_front P b (Ok None) holds small g = tt
gives_front P b (Ok (Some x)) holds small g = holds x (front_is b x small g)
gives_front P b (Err fault) holds small g = tt

none_marked : (b : List ℕ) (r : Result (Option (Packet × ℕ)) PacketFault) → marked b r ≡ Ok None → r ≡ Ok None
none_marked b (Ok None) e = refl
none_marked b (Ok (Some y)) e = absurd cc
none_marked b (Err fault) e = absurd cc

pub front_few : (b : List ℕ) (r : Result (Option Front) PacketFault) → Gives r (marked b (packet_read b)) → r ≡ Ok None → length b < 65536
front_few b (Ok None) g none = none_few b (none_marked b (packet_read b) g)
front_few b (Ok (Some x)) g none = absurd cc
front_few b (Err fault) g none = absurd cc

-- ---- reading never runs out of memory

abbrev no_header : Result (Option Header) PacketFault
no_header = Err Memory

abbrev no_body : Result Body PacketFault
no_body = Err Memory

abbrev no_packet : Result (Option (Packet × ℕ)) PacketFault
no_packet = Err Memory

frame_memory : (short reserved small cut : Bool) (h : Header) → cond short (Ok None) (cond reserved (Err ReservedType) (cond small (Err BadLength) (cond cut (Ok None) (Ok (Some h))))) ≡ no_header → ⊥
frame_memory true reserved small cut h e = cc
frame_memory false true small cut h e = cc
frame_memory false false true cut h e = cc
frame_memory false false false true h e = cc
frame_memory false false false false h e = cc

as_body_memory : {X : Type 0} (make : X → Body) (r : Result X MsgFault) → as_body make r ≡ no_body → ⊥
as_body_memory make (Ok x) e = cc
as_body_memory make (Err fault) e = cc

body_memory : (t : PktType) (time : Option ℕ) (payload : List ℕ) → body_read t time payload ≡ no_body → ⊥
body_memory types.Management time payload e = as_body_memory bodies.Management (management_read payload) e
body_memory types.Status time payload e = as_body_memory bodies.Status (status_read payload) e
body_memory types.Command time payload e = as_body_memory bodies.Command (command_read payload) e
body_memory types.Control time payload e = as_body_memory bodies.Control (control_read payload) e
body_memory types.Plain time payload e = cc
body_memory types.Timed time payload e = cc
body_memory (types.Reserved n) time payload e = cc

packed_memory : (h : Header) (b : List ℕ) (r : Result Body PacketFault) → (r ≡ no_body → ⊥) → packed h b r ≡ no_packet → ⊥
packed_memory h b (Ok body) never e = cc
packed_memory h b (Err fault) never e = let same : fault ≡ Memory = cc in never cc

read_memory : (b : List ℕ) → packet_read b ≡ no_packet → ⊥
unfolding packet_read
read_memory b e =
    let h = header_of (word_at b 0) in
    cases (frame_read b) (frame_memory (ltb (length b) 8) (is_reserved h.pkt_type) (ltb h.length (start_of h)) (ltb (length b) (wire_size_of h.length)) h) e
  where
    cases : (r : Result (Option Header) PacketFault) → (r ≡ no_header → ⊥) → opened b r ≡ no_packet → ⊥
    cases (Ok None) never e = cc
    cases (Ok (Some h)) never e =
        packed_memory h b (body_read h.pkt_type (time_at h.pkt_type b) (slice_range b (start_of h) h.length)) (body_memory h.pkt_type (time_at h.pkt_type b) (slice_range b (start_of h) h.length)) e
    cases (Err fault) never e = let same : fault ≡ Memory = cc in never cc

-- ---- reading stops at the first test that fails

gives_itself : (r : Result (Option (Packet × ℕ)) PacketFault) → Gives r r
gives_itself (Ok found) = refl
gives_itself (Err ReservedType) = refl
gives_itself (Err BadLength) = refl
gives_itself (Err (Message fault)) = refl
gives_itself (Err Memory) = tt

pub no_memory : NoMemory
no_memory b e = read_memory b e

pub none_exactly : NoneExactly
none_exactly b = short_exactly b (packet_read b) (gives_itself (packet_read b)) (read_memory b)

pub refused_exactly : RefusedExactly
refused_exactly b all = refuses_exactly b (packet_read b) (small_bytes b all) (gives_itself (packet_read b)) (read_memory b)
