-- A packet is read from bytes exactly where they spell it.
use Rattle.std.proofs.Common.{◌≡◌, ℕ, ◌≤◌, ◌+◌, ◌-◌, Bool, true, false, cond, eqb, List, ◌++◌, length, take, drop, Option, None, Some, Result, Ok, Err, refl, sym, ap, subst, ◌∙◌, arith}
use Rattle.std.specs.Prelude.{IfSome, IfOk, slice_range}
use Rattle.std.proofs.lemmas.Bool.{eqb-true}
use Rattle.std.proofs.lemmas.List.{length-take, get_or-drop, take-append-drop}
use Rattle.chdr_words.specs.Field.{word_at, words_at}
use Rattle.chdr_words.specs.Wire.{time_bytes}
use Rattle.chdr_words.specs.Status.{SpellsStatus, status_of, status_read}
use Rattle.chdr_words.specs.Command.{SpellsCommand, command_of, command_read}
use Rattle.chdr_words.specs.Control.{control_read}
use Rattle.chdr_words.specs.Management.{management_read}
use Rattle.chdr_words.specs.declared.fault.MsgFault.{MsgFault}
use Rattle.chdr_words.specs.declared.fault.MsgFault.TheVariants.{BadStatusLength, BadCommandLength}
use Rattle.chdr_words.specs.declared.header.Header.{Header}
use Rattle.chdr_words.specs.declared.header.PktType.{PktType}
use Rattle.chdr_words.specs.declared.header.PktType.TheVariants as types
use Rattle.chdr_words.specs.declared.status.Status as statuses
use Rattle.chdr_words.specs.declared.command.Command as commands
use Rattle.chdr_words.specs.Laws.{IsBytes}
use Rattle.chdr_words.proofs.Laws.{length-each_at, status_takes, status_again, command_takes, command_again, control_again, control_reads, small_take, management_again, management_reads}
use Rattle.chdr_packets.specs.declared.fault.PacketFault.{PacketFault}
use Rattle.chdr_packets.specs.declared.packet.Packet.{Packet}
use Rattle.chdr_packets.specs.declared.packet.Body.{Body}
use Rattle.chdr_packets.specs.declared.packet.Body.TheVariants as bodies
use Rattle.chdr_packets.specs.Grammar.{body_time, body_type, header_for, SpellsBody, payload_start, Spells, type_time, start_of}
use Rattle.chdr_packets.specs.Reading.{Gives, is_reserved, as_body, time_at, body_read, packet_of, packed, opened, packet_read, IsFramed}
use Rattle.chdr_packets.proofs.PacketLemmas.{found, found_parts, frame_is, read-front, read-take}

-- ---- what is read is spelled so

abbrev pub fine : Body → Result Body PacketFault
fine body = Ok body

abbrev the_body : Body → Result Body PacketFault → Body
the_body other (Ok body) = body
the_body other (Err fault) = other

abbrev ok_of : {X : Type 0} → X → Result X MsgFault
ok_of x = Ok x

abbrev the_ok : {X : Type 0} → X → Result X MsgFault → X
the_ok other (Ok x) = x
the_ok other (Err fault) = other

-- what a payload was read as
pub record BodyIs (t : PktType) (time : Option ℕ) (payload : List ℕ) (body : Body) : Type 0 where
  pub kind : body_type body ≡ t
  pub timed : body_time body ≡ time
  pub start : type_time t ≡ time_bytes (body_time body)
  pub spelled : SpellsBody body payload

as_body_ok : {X : Type 0} (make : X → Body) (r : Result X MsgFault) (body : Body) → as_body make r ≡ fine body → (x : X) × (r ≡ ok_of x) × (make x ≡ body)
as_body_ok make (Ok x) body e = (x, refl, ap (λ (r : Result Body PacketFault). the_body body r) e)
as_body_ok make (Err fault) body e = absurd cc

cond_ok : {X : Type 0} (b : Bool) (x : X) (fault : MsgFault) (y : X) → cond b (Ok x) (Err fault) ≡ ok_of y → (b ≡ true) × (x ≡ y)
cond_ok true x fault y e = (refl, ap (the_ok y) e)
cond_ok false x fault y e = absurd cc

status_spelled : (payload : List ℕ) (s : statuses.Status) → status_read payload ≡ ok_of s → SpellsStatus s payload
status_spelled payload s e =
    let x = cond_ok (eqb (length payload) 32) (status_of payload) BadStatusLength s e in
    subst (λ (s : statuses.Status). SpellsStatus s payload) x.1 (status_takes payload (eqb-true _ _ x.0))

command_spelled : (payload : List ℕ) (c : commands.Command) → command_read payload ≡ ok_of c → SpellsCommand c payload
command_spelled payload c e =
    let x = cond_ok (eqb (length payload) 16) (command_of payload) BadCommandLength c e in
    subst (λ (c : commands.Command). SpellsCommand c payload) x.1 (command_takes payload (eqb-true _ _ x.0))

body_parts : (t : PktType) (b payload : List ℕ) (body : Body) → IsBytes payload → is_reserved t ≡ false → body_read t (time_at t b) payload ≡ fine body → BodyIs t (time_at t b) payload body
body_parts types.Management b payload body small good e =
    let x = as_body_ok bodies.Management (management_read payload) body e in
    subst (λ (body : Body). BodyIs types.Management None payload body) x.2
    (record { kind = refl; timed = refl; start = refl; spelled = management_reads payload x.0 small x.1 })
body_parts types.Status b payload body small good e =
    let x = as_body_ok bodies.Status (status_read payload) body e in
    subst (λ (body : Body). BodyIs types.Status None payload body) x.2
    (record { kind = refl; timed = refl; start = refl; spelled = status_spelled payload x.0 x.1 })
body_parts types.Command b payload body small good e =
    let x = as_body_ok bodies.Command (command_read payload) body e in
    subst (λ (body : Body). BodyIs types.Command None payload body) x.2
    (record { kind = refl; timed = refl; start = refl; spelled = command_spelled payload x.0 x.1 })
body_parts types.Control b payload body small good e =
    let x = as_body_ok bodies.Control (control_read payload) body e in
    subst (λ (body : Body). BodyIs types.Control None payload body) x.2
    (record { kind = refl; timed = refl; start = refl; spelled = control_reads payload x.0 x.1 })
body_parts types.Plain b payload body small good e =
    subst (λ (body : Body). BodyIs types.Plain None payload body) (ap (the_body body) e)
    (record { kind = refl; timed = refl; start = refl; spelled = refl })
body_parts types.Timed b payload body small good e =
    subst (λ (body : Body). BodyIs types.Timed (Some (word_at b 8)) payload body) (ap (the_body body) e)
    (record { kind = refl; timed = refl; start = refl; spelled = refl })
body_parts (types.Reserved n) b payload body small good e = absurd cc

time_stands : (t : PktType) (b : List ℕ) → IfSome (time_at t b) (λ time. word_at b 8 ≡ time)
time_stands types.Management b = tt
time_stands types.Status b = tt
time_stands types.Command b = tt
time_stands types.Control b = tt
time_stands types.Plain b = tt
time_stands types.Timed b = refl
time_stands (types.Reserved n) b = tt

pub small_slice : (b : List ℕ) (i j : ℕ) → IsBytes b → IsBytes (slice_range b i j)
small_slice b i j small = λ k. small_take (j - i) (drop i b) k (λ m. rw get_or-drop (small (i + m)))

with_type : (h : Header) (t : PktType) (count : ℕ) → t ≡ h.pkt_type → count ≡ h.num_mdata
    → h ≡ record { vc = h.vc; eob = h.eob; eov = h.eov; pkt_type = t; num_mdata = count; seq = h.seq; length = h.length; dst = h.dst }
with_type h t count e f = rw (e, f) refl

-- a whole packet, and nothing behind it
whole_spells : (x : List ℕ) (p : Packet) (n : ℕ) → IsBytes x → length x ≡ n → packet_read x ≡ found p n → Spells p x
whole_spells x p n small len e =
    let f = found_parts x p n e in
    let h = f.header in
    let payload : List ℕ = slice_range x (start_of h) h.length in
    let parts = body_parts h.pkt_type x payload f.body (small_slice x (start_of h) h.length small) f.framed_by.good f.body_is in
    let count : length (words_at x (8 + type_time h.pkt_type) h.num_mdata) ≡ h.num_mdata = length-each_at word_at 8 x (8 + type_time h.pkt_type) h.num_mdata in
    let start : payload_start (packet_of h x f.body) ≡ start_of h = rw (← parts.start, count) refl in
    subst (λ (p : Packet). Spells p x) f.packet
    (record {
      len = h.length;
      size = len ∙ sym f.size;
      first = f.framed_by.read ∙ with_type h (body_type f.body) _ parts.kind count;
      within = rw start f.framed_by.start;
      time = rw parts.timed (time_stands h.pkt_type x);
      mdata = rw (← parts.start, count) refl;
      payload = rw start parts.spelled;
    })

pub read_spells : (b : List ℕ) (p : Packet) (n : ℕ) → IsBytes b → packet_read b ≡ found p n → Spells p (take n b)
read_spells b p n small e =
    let t = read-take b p n e in
    whole_spells (take n b) p n (λ i. small_take n b i small) (omega (arith, length-take n b, t.0)) t.2

-- ---- what is spelled so is read

-- how a body is read again
pub record BodyAgain (t : PktType) (b payload : List ℕ) (body : Body) : Type 0 where
  pub good : is_reserved t ≡ false
  pub start : type_time t ≡ time_bytes (body_time body)
  pub read : body_read t (time_at t b) payload ≡ fine body

body_again : (body : Body) (b payload : List ℕ) → IfSome (body_time body) (λ time. word_at b 8 ≡ time) → SpellsBody body payload → BodyAgain (body_type body) b payload body
body_again (bodies.Samples None bytes) b payload time spelled = record { good = refl; start = refl; read = ap (λ (x : List ℕ). fine (bodies.Samples None x)) spelled }
body_again (bodies.Samples (Some t) bytes) b payload time spelled = record {
  good = refl;
  start = refl;
  read = ap (λ (x : ℕ). fine (bodies.Samples (Some x) payload)) time ∙ ap (λ (x : List ℕ). fine (bodies.Samples (Some t) x)) spelled;
}
body_again (bodies.Status s) b payload time spelled = record { good = refl; start = refl; read = ap (as_body bodies.Status) (status_again payload s spelled) }
body_again (bodies.Command c) b payload time spelled = record { good = refl; start = refl; read = ap (as_body bodies.Command) (command_again payload c spelled) }
body_again (bodies.Control c) b payload time spelled = record { good = refl; start = refl; read = ap (as_body bodies.Control) (control_again payload c spelled) }
body_again (bodies.Management m) b payload time spelled = record { good = refl; start = refl; read = ap (as_body bodies.Management) (management_again payload m spelled) }

with_mdata : (p : Packet) (ws : List ℕ) → ws ≡ p.mdata → record { vc = p.vc; eob = p.eob; eov = p.eov; seq = p.seq; dst = p.dst; mdata = ws; body = p.body } ≡ p
with_mdata p ws e = rw e refl

found_same : (p q : Packet) (n m : ℕ) → p ≡ q → n ≡ m → found p n ≡ found q m
found_same p q n m e f = cc

framed_again : (b : List ℕ) (p : Packet) (s : Spells p b) (payload : List ℕ) → BodyAgain (body_type p.body) b payload p.body → IsFramed (header_for p s.len) b
framed_again b p s payload a = record { read = s.first; good = a.good; start = omega (arith, s.within, a.start); whole = omega (arith, s.size) }

whole_read : (b : List ℕ) (p : Packet) → Spells p b → packet_read b ≡ found p (length b)
unfolding packet_read
whole_read b p s =
    let h = header_for p s.len in
    let payload : List ℕ = slice_range b (payload_start p) s.len in
    let a = body_again p.body b payload s.time s.payload in
    let start : start_of h ≡ payload_start p = rw a.start refl in
    let mdata : words_at b (8 + type_time (body_type p.body)) (length p.mdata) ≡ p.mdata = rw a.start s.mdata in
    ap (opened b) (frame_is b h (framed_again b p s payload a))
    ∙ ap (λ (i : ℕ). packed h b (body_read h.pkt_type (time_at h.pkt_type b) (slice_range b i s.len))) start
    ∙ ap (packed h b) a.read
    ∙ found_same _ _ _ _ (with_mdata p _ mdata) (sym s.size)

pub spelled_read : (b more : List ℕ) (p : Packet) → Spells p b → packet_read (b ++ more) ≡ found p (length b)
spelled_read b more p s =
    let payload : List ℕ = slice_range b (payload_start p) s.len in
    read-front (header_for p s.len) b more (framed_again b p s payload (body_again p.body b payload s.time s.payload)) ∙ whole_read b p s

pub spells_read : (b more : List ℕ) (p : Packet) → IsBytes b → Spells p b → packet_read (b ++ more) ≡ found p (length b)
spells_read b more p small s = spelled_read b more p s

-- ---- what a call answered

pub gives_reads : (b : List ℕ) (r : Result (Option (Packet × ℕ)) PacketFault) → IsBytes b → Gives r (packet_read b) → IfOk r (λ found. IfSome found (λ x. Spells x.0 (take x.1 b)))
gives_reads b (Ok None) small g = tt
gives_reads b (Ok (Some x)) small g = read_spells b x.0 x.1 small g
gives_reads b (Err fault) small g = tt

-- what stands in front is read, whatever follows
pub front_read : (b : List ℕ) (p : Packet) (n : ℕ) → n ≤ length b → Spells p (take n b) → packet_read b ≡ found p n
front_read b p n le s =
    let whole : take n b ++ drop n b ≡ b = take-append-drop n b in
    let len : length (take n b) ≡ n = omega (arith, length-take n b, le) in
    sym (ap packet_read whole) ∙ spelled_read (take n b) (drop n b) p s ∙ ap (found p) len

pub gives_accepts : (b : List ℕ) (r : Result (Option (Packet × ℕ)) PacketFault) (p : Packet) (n : ℕ) → Gives r (packet_read b) → n ≤ length b → Spells p (take n b) → Gives r (found p n)
gives_accepts b r p n g le s = subst (Gives r) (front_read b p n le s) g
