-- Where no packet is found the first failing test is the cause, and where a test fails first it is what is told.
use Rattle.std.proofs.Common.{◌≡◌, ℕ, zero, suc, ◌<◌, ◌≤◌, ◌⊎◌, inl, inr, Bool, true, false, cond, eqb, ltb, List, length, Option, None, Some, Result, Ok, Err, refl, sym, ap, subst, ◌∙◌, arith}
use Rattle.std.specs.Prelude.{◌↔◌, slice_range}
use Rattle.std.proofs.lemmas.Bool.{eqb-true, ltb-true, ltb-false, le-ltb, lt-ltb}
use Rattle.chdr_words.specs.Header.{type_of}
use Rattle.chdr_words.specs.Wire.{wire_size_of}
use Rattle.chdr_words.specs.Status.{status_of, status_read}
use Rattle.chdr_words.specs.Command.{command_of, command_read}
use Rattle.chdr_words.specs.Control.{control_of, control_read, control_sized}
use Rattle.chdr_words.specs.Management.{management_of, management_read, management_formed}
use Rattle.chdr_words.specs.declared.fault.MsgFault.{MsgFault}
use Rattle.chdr_words.specs.declared.fault.MsgFault.TheVariants.{BadStatusLength, BadCommandLength, BadControlLength, BadManagement}
use Rattle.chdr_words.specs.declared.header.Header.{Header}
use Rattle.chdr_words.specs.declared.header.PktType.{PktType}
use Rattle.chdr_words.specs.declared.header.PktType.TheVariants as types
use Rattle.chdr_words.specs.Laws.{IsBytes}
use Rattle.chdr_words.proofs.Laws.{status_takes, status_again, command_takes, command_again, control_takes, control_again, management_takes, management_again}
use Rattle.chdr_packets.specs.declared.fault.PacketFault.{PacketFault}
use Rattle.chdr_packets.specs.declared.fault.PacketFault.TheVariants.{ReservedType, BadLength, Message, Memory}
use Rattle.chdr_packets.specs.declared.packet.Packet.{Packet}
use Rattle.chdr_packets.specs.declared.packet.Body.{Body}
use Rattle.chdr_packets.specs.declared.packet.Body.TheVariants as bodies
use Rattle.chdr_packets.specs.Grammar.{body_type, SpellsBody, start_of}
use Rattle.chdr_packets.specs.Reading.{Gives, is_reserved, frame_read, as_body, time_at, body_read, packed, opened, packet_read, IsFramed}
use Rattle.chdr_packets.specs.Refusals.{front, type_code, IsReserved, HasGoodType, HasBadLength, HasGoodLength, IsShort, IsFaultUnder, SpellsNone, HasBadPayload, HasMemory, Refuses}
use Rattle.chdr_packets.proofs.PacketLemmas.{failed, frame_ok, frame_is, wire_long}
use Rattle.chdr_packets.proofs.GrammarLemmas.{fine, small_slice}

-- ---- types

reserved_code : (n : ℕ) → n < 8 → is_reserved (type_of n) ≡ true → (n ≡ 3) ⊎ (n ≡ 5)
reserved_code zero lt e = absurd cc
reserved_code (suc zero) lt e = absurd cc
reserved_code (suc (suc zero)) lt e = absurd cc
reserved_code (suc (suc (suc zero))) lt e = inl refl
reserved_code (suc (suc (suc (suc zero)))) lt e = absurd cc
reserved_code (suc (suc (suc (suc (suc zero))))) lt e = inr refl
reserved_code (suc (suc (suc (suc (suc (suc zero)))))) lt e = absurd cc
reserved_code (suc (suc (suc (suc (suc (suc (suc zero))))))) lt e = absurd cc
reserved_code (suc (suc (suc (suc (suc (suc (suc (suc n)))))))) lt e = absurd (omega (arith, lt))

is_reserved_code : (n : ℕ) → (n ≡ 3) ⊎ (n ≡ 5) → is_reserved (type_of n) ≡ true
is_reserved_code n (inl e) = rw e refl
is_reserved_code n (inr e) = rw e refl

not_both : (b : Bool) → b ≡ false → b ≡ true → ⊥
not_both true e f = absurd cc
not_both false e f = absurd cc

is_false : (b : Bool) → (b ≡ true → ⊥) → b ≡ false
is_false true h = absurd (h refl)
is_false false h = refl

good_type : (b : List ℕ) → HasGoodType b → is_reserved (front b).pkt_type ≡ false
good_type b t = is_false _ (λ e. either (reserved_code (type_code b) (omega arith) e))
  where
    either : (type_code b ≡ 3) ⊎ (type_code b ≡ 5) → ⊥
    either (inl e) = t.not_three e
    either (inr e) = t.not_five e

type_good : (b : List ℕ) → 8 ≤ length b → is_reserved (front b).pkt_type ≡ false → HasGoodType b
type_good b there e = record {
  there = there;
  not_three = λ f. not_both _ e (is_reserved_code (type_code b) (inl f));
  not_five = λ f. not_both _ e (is_reserved_code (type_code b) (inr f));
}

-- ---- the header's tests

abbrev framed : Option Header → Result (Option Header) PacketFault
framed h = Ok h

abbrev tested : Bool → Bool → Bool → Bool → Header → Result (Option Header) PacketFault
tested short reserved small cut h = cond short (Ok None) (cond reserved (Err ReservedType) (cond small (Err BadLength) (cond cut (Ok None) (Ok (Some h)))))

frame_short : (b : List ℕ) → IsShort b → frame_read b ≡ Ok None
frame_short b (inl few) = rw (lt-ltb _ _ few) refl
frame_short b (inr cut) = rw (le-ltb _ _ cut.0.typed.there, good_type b cut.0.typed, le-ltb _ _ cut.0.enough, lt-ltb _ _ cut.1) refl

frame_reserved : (b : List ℕ) → IsReserved b → frame_read b ≡ Err ReservedType
frame_reserved b r = rw (le-ltb _ _ r.there, is_reserved_code (type_code b) r.code) refl

frame_bad_length : (b : List ℕ) → HasBadLength b → frame_read b ≡ Err BadLength
frame_bad_length b r = rw (le-ltb _ _ r.typed.there, good_type b r.typed, lt-ltb _ _ r.less) refl

-- what the header's tests say
abbrev Said : List ℕ → Result (Option Header) PacketFault → Type 0
Said b (Ok None) = IsShort b
Said b (Ok (Some h)) = Unit {0}
Said b (Err ReservedType) = IsReserved b
Said b (Err BadLength) = HasBadLength b
Said b (Err (Message fault)) = ⊥
Said b (Err Memory) = ⊥

frame_said : (b : List ℕ) → Said b (frame_read b)
frame_said b = cases (ltb (length b) 8) refl (is_reserved (front b).pkt_type) refl (ltb (front b).length (start_of (front b))) refl (ltb (length b) (wire_size_of (front b).length)) refl
  where
    cases : (short : Bool) → ltb (length b) 8 ≡ short → (reserved : Bool) → is_reserved (front b).pkt_type ≡ reserved
        → (small : Bool) → ltb (front b).length (start_of (front b)) ≡ small → (cut : Bool) → ltb (length b) (wire_size_of (front b).length) ≡ cut
        → Said b (tested short reserved small cut (front b))
    cases true s reserved r small m cut c = inl (ltb-true _ _ s)
    cases false s true r small m cut c = record { there = ltb-false _ _ s; code = reserved_code (type_code b) (omega arith) r }
    cases false s false r true m cut c = record { typed = type_good b (ltb-false _ _ s) r; less = ltb-true _ _ m }
    cases false s false r false m true c = inr (record { typed = type_good b (ltb-false _ _ s) r; enough = ltb-false _ _ m }, ltb-true _ _ c)
    cases false s false r false m false c = tt

-- ---- the payload

abbrev refused : MsgFault → Result Body PacketFault
refused fault = Err (Message fault)

fault_is : {X : Type 0} (make : X → Body) (sized : Bool) (x : X) (own fault : MsgFault) → as_body make (cond sized (Ok x) (Err own)) ≡ refused fault → (sized ≡ false) × (fault ≡ own)
fault_is make true x own fault e = absurd cc
fault_is make false x own fault e = (refl, cc)

refuse_by : {X : Type 0} (make : X → Body) (sized : Bool) (x : X) (own fault : MsgFault) → fault ≡ own → (sized ≡ true → ⊥) → as_body make (cond sized (Ok x) (Err own)) ≡ refused fault
refuse_by make sized x own fault e never = ap (λ (b : Bool). as_body make (cond b (Ok x) (Err own))) (is_false sized never) ∙ ap refused (sym e)

ok_no : (body : Body) (fault : MsgFault) → fine body ≡ refused fault → ⊥
ok_no body fault e = absurd cc

fault_kind : (t : PktType) (time : Option ℕ) (payload : List ℕ) (fault : MsgFault) → body_read t time payload ≡ refused fault → IsFaultUnder t fault
fault_kind types.Management time payload fault e = (fault_is bodies.Management (management_formed payload) (management_of payload) BadManagement fault e).1
fault_kind types.Status time payload fault e = (fault_is bodies.Status (eqb (length payload) 32) (status_of payload) BadStatusLength fault e).1
fault_kind types.Command time payload fault e = (fault_is bodies.Command (eqb (length payload) 16) (command_of payload) BadCommandLength fault e).1
fault_kind types.Control time payload fault e = (fault_is bodies.Control (control_sized payload) (control_of payload) BadControlLength fault e).1
fault_kind types.Plain time payload fault e = absurd cc
fault_kind types.Timed time payload fault e = absurd cc
fault_kind (types.Reserved n) time payload fault e = absurd cc

spells_none : (t : PktType) (time : Option ℕ) (payload : List ℕ) (fault : MsgFault) → body_read t time payload ≡ refused fault → SpellsNone t payload
spells_none t time payload fault e = λ body kind s. clash body s (subst (λ (t : PktType). body_read t time payload ≡ refused fault) (sym kind) e)
  where
    clash : (body : Body) → SpellsBody body payload → body_read (body_type body) time payload ≡ refused fault → ⊥
    clash (bodies.Samples None bytes) s e = ok_no _ _ e
    clash (bodies.Samples (Some t) bytes) s e = ok_no _ _ e
    clash (bodies.Status status) s e = ok_no _ _ (sym (ap (as_body bodies.Status) (status_again payload status s)) ∙ e)
    clash (bodies.Command command) s e = ok_no _ _ (sym (ap (as_body bodies.Command) (command_again payload command s)) ∙ e)
    clash (bodies.Control control) s e = ok_no _ _ (sym (ap (as_body bodies.Control) (control_again payload control s)) ∙ e)
    clash (bodies.Management m) s e = ok_no _ _ (sym (ap (as_body bodies.Management) (management_again payload m s)) ∙ e)

bad_read : (t : PktType) (time : Option ℕ) (payload : List ℕ) (fault : MsgFault) → IsBytes payload → IsFaultUnder t fault → SpellsNone t payload → body_read t time payload ≡ refused fault
bad_read types.Management time payload fault small kind none = refuse_by bodies.Management (management_formed payload) (management_of payload) BadManagement fault kind (λ e. none (bodies.Management (management_of payload)) refl (management_takes payload small e))
bad_read types.Status time payload fault small kind none = refuse_by bodies.Status (eqb (length payload) 32) (status_of payload) BadStatusLength fault kind (λ e. none (bodies.Status (status_of payload)) refl (status_takes payload (eqb-true _ _ e)))
bad_read types.Command time payload fault small kind none = refuse_by bodies.Command (eqb (length payload) 16) (command_of payload) BadCommandLength fault kind (λ e. none (bodies.Command (command_of payload)) refl (command_takes payload (eqb-true _ _ e)))
bad_read types.Control time payload fault small kind none = refuse_by bodies.Control (control_sized payload) (control_of payload) BadControlLength fault kind (λ e. none (bodies.Control (control_of payload)) refl (control_takes payload e))
bad_read types.Plain time payload fault small kind none = absurd kind
bad_read types.Timed time payload fault small kind none = absurd kind
bad_read (types.Reserved n) time payload fault small kind none = absurd kind

-- ---- what is told of bytes

abbrev body_fault : PacketFault → Result Body PacketFault
body_fault fault = Err fault

message_alone : {X : Type 0} (make : X → Body) (r : Result X MsgFault) (fault : PacketFault) → as_body make r ≡ body_fault fault → (f : MsgFault) × (fault ≡ Message f)
message_alone make (Ok x) fault e = absurd cc
message_alone make (Err f) fault e = (f, cc)

only_message : (t : PktType) (time : Option ℕ) (payload : List ℕ) (fault : PacketFault) → is_reserved t ≡ false → body_read t time payload ≡ body_fault fault → (f : MsgFault) × (fault ≡ Message f)
only_message types.Management time payload fault good e = message_alone bodies.Management (management_read payload) fault e
only_message types.Status time payload fault good e = message_alone bodies.Status (status_read payload) fault e
only_message types.Command time payload fault good e = message_alone bodies.Command (command_read payload) fault e
only_message types.Control time payload fault good e = message_alone bodies.Control (control_read payload) fault e
only_message types.Plain time payload fault good e = absurd cc
only_message types.Timed time payload fault good e = absurd cc
only_message (types.Reserved n) time payload fault good e = absurd cc

abbrev IsMessage : PacketFault → Type 0
IsMessage ReservedType = ⊥
IsMessage BadLength = ⊥
IsMessage (Message fault) = Unit {0}
IsMessage Memory = ⊥

is_message : (t : PktType) (time : Option ℕ) (payload : List ℕ) (fault : PacketFault) → is_reserved t ≡ false → body_read t time payload ≡ body_fault fault → IsMessage fault
is_message t time payload fault good e = let x = only_message t time payload fault good e in subst IsMessage (sym x.1) tt

abbrev Told : List ℕ → Result (Option (Packet × ℕ)) PacketFault → Type 0
Told b (Ok None) = IsShort b
Told b (Ok (Some x)) = Unit {0}
Told b (Err ReservedType) = IsReserved b
Told b (Err BadLength) = HasBadLength b
Told b (Err (Message fault)) = HasBadPayload fault b
Told b (Err Memory) = ⊥

abbrev payload_of : List ℕ → List ℕ
payload_of b = slice_range b (start_of (front b)) (front b).length

abbrev body_of : List ℕ → Result Body PacketFault
body_of b = body_read (front b).pkt_type (time_at (front b).pkt_type b) (payload_of b)

sized : (b : List ℕ) → IsFramed (front b) b → HasGoodLength b
sized b f = record { typed = type_good b (wire_long (front b) b f) f.good; enough = f.start }

body_told : (b : List ℕ) → IsFramed (front b) b → (r : Result Body PacketFault) → body_of b ≡ r → Told b (packed (front b) b r)
body_told b f (Ok body) e = tt
body_told b f (Err ReservedType) e = absurd (is_message (front b).pkt_type _ _ ReservedType f.good e)
body_told b f (Err BadLength) e = absurd (is_message (front b).pkt_type _ _ BadLength f.good e)
body_told b f (Err (Message fault)) e = record {
  sized = sized b f;
  whole = f.whole;
  kind = fault_kind (front b).pkt_type _ _ fault e;
  unspelled = spells_none (front b).pkt_type _ _ fault e;
}
body_told b f (Err Memory) e = absurd (is_message (front b).pkt_type _ _ Memory f.good e)

read_told : (b : List ℕ) → Told b (packet_read b)
unfolding packet_read
read_told b = cases (frame_read b) refl (frame_said b)
  where
    at_front : (h : Header) → front b ≡ h → IsFramed h b → Told b (opened b (Ok (Some h)))
    at_front h e f = subst (λ (h : Header). Told b (opened b (Ok (Some h)))) e (body_told b (subst (λ (h : Header). IsFramed h b) (sym e) f) (body_of b) refl)

    cases : (r : Result (Option Header) PacketFault) → frame_read b ≡ r → Said b r → Told b (opened b r)
    cases (Ok None) is said = said
    cases (Ok (Some h)) is said = let f = frame_ok b h is in at_front h f.read f
    cases (Err ReservedType) is said = said
    cases (Err BadLength) is said = said
    cases (Err (Message fault)) is said = absurd said
    cases (Err Memory) is said = absurd said

abbrev nothing : Result (Option (Packet × ℕ)) PacketFault
nothing = Ok None

short_told : (b : List ℕ) → IsShort b → packet_read b ≡ nothing
unfolding packet_read
short_told b s = ap (opened b) (frame_short b s)

reserved_told : (b : List ℕ) → IsReserved b → packet_read b ≡ failed ReservedType
unfolding packet_read
reserved_told b s = ap (opened b) (frame_reserved b s)

bad_length_told : (b : List ℕ) → HasBadLength b → packet_read b ≡ failed BadLength
unfolding packet_read
bad_length_told b s = ap (opened b) (frame_bad_length b s)

message_told : (b : List ℕ) (fault : MsgFault) → IsBytes b → HasBadPayload fault b → packet_read b ≡ failed (Message fault)
unfolding packet_read
message_told b fault small s =
    let f : IsFramed (front b) b = record { read = refl; good = good_type b s.sized.typed; start = s.sized.enough; whole = s.whole } in
    let e : body_of b ≡ refused fault = bad_read (front b).pkt_type _ _ fault (small_slice b (start_of (front b)) (front b).length small) s.kind s.unspelled in
    ap (opened b) (frame_is b (front b) f) ∙ ap (packed (front b) b) e

-- ---- what a call answered

gives_is : (b : List ℕ) (r : Result (Option (Packet × ℕ)) PacketFault) → Gives r (packet_read b) → HasMemory r → packet_read b ≡ r
gives_is b (Ok x) g m = g
gives_is b (Err ReservedType) g m = g
gives_is b (Err BadLength) g m = g
gives_is b (Err (Message fault)) g m = g
gives_is b (Err Memory) g m = absurd (m refl)

-- an answer comes exactly where its cause holds
exactly : (b : List ℕ) (r answer : Result (Option (Packet × ℕ)) PacketFault) → packet_read b ≡ r → (Told b answer → packet_read b ≡ answer) → (r ≡ answer) ↔ Told b answer
exactly b r answer is comes = (λ e. subst (Told b) (is ∙ e) (read_told b), λ t. sym is ∙ comes t)

pub short_exactly : (b : List ℕ) (r : Result (Option (Packet × ℕ)) PacketFault) → Gives r (packet_read b) → HasMemory r → (r ≡ nothing) ↔ IsShort b
short_exactly b r g m = exactly b r nothing (gives_is b r g m) (short_told b)

pub refuses_exactly : (b : List ℕ) (r : Result (Option (Packet × ℕ)) PacketFault) → IsBytes b → Gives r (packet_read b) → HasMemory r → Refuses r b
refuses_exactly b r small g m = record {
  reserved = exactly b r (failed ReservedType) (gives_is b r g m) (reserved_told b);
  bad_length = exactly b r (failed BadLength) (gives_is b r g m) (bad_length_told b);
  message = λ fault. exactly b r (failed (Message fault)) (gives_is b r g m) (message_told b fault small);
}
