-- What is written of a packet is its canonical spelling, and has the size of it.
use Rattle.std.proofs.Common.{◌≡◌, ℕ, zero, suc, ◌+◌, ◌-◌, ◌*◌, ◌^◌, ◌<◌, ◌≤◌, Bool, true, false, eqb, List, [], ◌∷◌, ◌++◌, length, drop, Option, None, Some, refl, sym, ap, subst, ◌∙◌, append_assoc, arith}
use Rattle.std.specs.Prelude.{IfSome, IsTrue, slice_range, ◌&&◌, ◌||◌, replicate}
use Rattle.std.specs.Int.{w64, to_le_bytes}
use Rattle.std.specs.List.{list_all, sum_by}
use Rattle.std.proofs.lemmas.Bool.{eqb-true}
use Rattle.std.proofs.lemmas.Nat.{from_le_bytes-to_le_bytes_8}
use Rattle.std.proofs.lemmas.List.{length-append, length-take, length-drop, drop_at}
use Rattle.std.proofs.lemmas.List.Concat.{flat_map-cons, length-flat_map}
use Rattle.std.proofs.lemmas.List.Sums.{sum_by-cons}
use Rattle.std.proofs.Math.Seq.{take-append_seam, take-length}
use Rattle.chdr_words.specs.Field.{field, word_at, half_at, words_at, words_bytes}
use Rattle.chdr_words.specs.Header.{header_of}
use Rattle.chdr_words.specs.Wire.{time_bytes, wire_size_of}
use Rattle.chdr_words.specs.Control.{SpellsControl, time_bit, time_spelled, control_plain, control_size, told_time, told_count}
use Rattle.chdr_words.specs.Management.{hop_words, hops_words}
use Rattle.chdr_words.specs.declared.control.Control.{Control}
use Rattle.chdr_words.specs.declared.management.MgmtOp.{MgmtOp}
use Rattle.chdr_words.specs.declared.header.Header.{Header}
use Rattle.chdr_words.specs.Laws.{Below}
use Rattle.chdr_words.proofs.Laws.{words_at-written}
use Rattle.chdr_packets.specs.declared.packet.Packet.{Packet}
use Rattle.chdr_packets.specs.declared.packet.Body.{Body}
use Rattle.chdr_packets.specs.declared.packet.Body.TheVariants as bodies
use Rattle.chdr_packets.specs.Length.{body_length, length_of, wire_of}
use Rattle.chdr_packets.specs.Grammar.{body_time, body_type, header_for, SpellsBody, payload_plain, payload_start, plain_under, IsCanon, type_time, start_of}

-- ---- parts of what is written

length-time : (time : Option ℕ) → length (time_spelled time) ≡ time_bytes time
length-time None = refl
length-time (Some t) = refl

pub length-words : (ws : List ℕ) → length (words_bytes ws) ≡ 8 * length ws
length-words ws = length-flat_map (to_le_bytes w64) ws ∙ eights ws
  where
    eights : (ws : List ℕ) → sum_by (λ x. 8) ws ≡ 8 * length ws
    eights [] = refl
    eights (w ∷ ws) = omega (arith, eights ws, sum_by-cons (λ (x : ℕ). 8) w ws)

-- header, time, metadata, payload and pad, one behind another
abbrev pub parts : ℕ → Option ℕ → List ℕ → List ℕ → List ℕ → List ℕ
parts w time mdata payload pad = to_le_bytes w64 w ++ time_spelled time ++ words_bytes mdata ++ payload ++ pad

abbrev head_of : ℕ → Option ℕ → List ℕ
head_of w time = to_le_bytes w64 w ++ time_spelled time

abbrev start_with : ℕ → Option ℕ → List ℕ → List ℕ
start_with w time mdata = head_of w time ++ words_bytes mdata

first_word : (w : ℕ) (time : Option ℕ) (mdata payload pad : List ℕ) → w < 2 ^ 64 → word_at (parts w time mdata payload pad) 0 ≡ w
unfolding word_at
first_word w time mdata payload pad wide = from_le_bytes-to_le_bytes_8 w wide

time_word : (w : ℕ) (time : Option ℕ) (mdata payload pad : List ℕ) → IfSome time (λ t. t < 2 ^ 64) → IfSome time (λ t. word_at (parts w time mdata payload pad) 8 ≡ t)
unfolding word_at
time_word w None mdata payload pad wide = tt
time_word w (Some t) mdata payload pad wide = from_le_bytes-to_le_bytes_8 t wide

length-head : (w : ℕ) (time : Option ℕ) → length (head_of w time) ≡ 8 + time_bytes time
length-head w time = length-append (to_le_bytes w64 w) (time_spelled time) ∙ ap (λ (n : ℕ). 8 + n) (length-time time)

length-start : (w : ℕ) (time : Option ℕ) (mdata : List ℕ) → length (start_with w time mdata) ≡ 8 + time_bytes time + 8 * length mdata
length-start w time mdata = omega (arith, length-append (head_of w time) (words_bytes mdata), length-head w time, length-words mdata)

mdata_words : (w : ℕ) (time : Option ℕ) (mdata payload pad : List ℕ) → Below (2 ^ 64) mdata → words_at (parts w time mdata payload pad) (8 + time_bytes time) (length mdata) ≡ mdata
mdata_words w time mdata payload pad below =
    let behind : parts w time mdata payload pad ≡ head_of w time ++ (words_bytes mdata ++ (payload ++ pad)) =
    append_assoc (start_with w time mdata) payload pad ∙ append_assoc (head_of w time) (words_bytes mdata) (payload ++ pad) in
    rw (behind, ← length-head w time) (words_at-written mdata (head_of w time) (payload ++ pad) below)

slice_between : (x y z : List ℕ) (i j : ℕ) → length x ≡ i → i + length y ≡ j → slice_range (x ++ y ++ z) i j ≡ y
slice_between x y z i j e f =
    let n : j - i ≡ length y = omega (arith, f) in
    rw (append_assoc x y z, n, drop_at x (y ++ z) i e) (take-append_seam y z)

slice_end : (x y : List ℕ) (i j : ℕ) → length x ≡ i → i + length y ≡ j → slice_range (x ++ y) i j ≡ y
slice_end x y i j e f =
    let n : j - i ≡ length y = omega (arith, f) in
    rw (n, drop_at x y i e) (take-length y)

-- ---- sizes of payloads

pub size_of_hops : (hops : List (List MgmtOp)) → length (hops_words hops) ≡ sum_by length hops
size_of_hops [] = refl
size_of_hops (hop ∷ hops) =
    ap length (flat_map-cons hop_words hop hops) ∙ length-append (hop_words hop) (hops_words hops)
    ∙ omega (arith, size_of_hop hop, size_of_hops hops, sum_by-cons length hop hops)
  where
    size_of_hop : (hop : List MgmtOp) → length (hop_words hop) ≡ length hop
    size_of_hop [] = refl
    size_of_hop (op ∷ ops) = ap suc (size_of_hop ops)

pub and_parts : (a b : Bool) → (a && b) ≡ true → (a ≡ true) × (b ≡ true)
and_parts true b e = (refl, e)
and_parts false b e = absurd cc

pub eight_times : (n : ℕ) (time : Option ℕ) → n ≡ time_bit time → 8 * n ≡ time_bytes time
eight_times n None e = omega (arith, e)
eight_times n (Some t) e = omega (arith, e)

pub control_size_is : (payload : List ℕ) (c : Control) → SpellsControl c payload → control_plain payload ≡ true → length payload ≡ wire_size_of (control_size (time_bytes c.time) (length c.words))
control_size_is payload c s plain =
    let told : told_time payload ≡ time_bytes c.time = eight_times _ c.time s.has_time in
    let reserved : Bool = eqb (field (word_at payload 0) 63 48) 0 && eqb (field (half_at payload (8 + told_time payload)) 29 28) 0 in
    let rounded : Bool = eqb (length payload) (wire_size_of (control_size (told_time payload) (told_count payload))) in
    let rest : Bool = eqb (length payload) (control_size (told_time payload) (told_count payload)) || eqb (half_at payload (control_size (told_time payload) (told_count payload))) 0 in
    let is = eqb-true _ _ (and_parts reserved rounded (and_parts (reserved && rounded) rest plain).0).1 in
    is ∙ rw (told, s.count) refl

-- a canonical payload has the size that the body's value tells
pub body_size : (body : Body) (payload : List ℕ) → SpellsBody body payload → IsTrue (payload_plain (body_type body) payload) → time_bytes (body_time body) + length payload ≡ body_length body
body_size (bodies.Samples None bytes) payload s plain = omega (arith, ap length s)
body_size (bodies.Samples (Some t) bytes) payload s plain = ap (λ (n : ℕ). 8 + n) (ap length s)
body_size (bodies.Status status) payload s plain = omega (arith, s.size)
body_size (bodies.Command command) payload s plain = omega (arith, s.size)
body_size (bodies.Control control) payload s plain = omega (arith, control_size_is payload control s plain)
body_size (bodies.Management m) payload s plain = omega (arith, s.head, length-drop 8 payload, ap length s.hops, length-words (hops_words m.hops), size_of_hops m.hops)

-- ---- the whole packet

-- what is known of the parts that were written
pub record Written (p : Packet) (w : ℕ) (payload rest : List ℕ) : Type 0 where
  pub wide : w < 2 ^ 64
  pub header : header_of w ≡ header_for p (length_of p)
  pub time : IfSome (body_time p.body) (λ t. t < 2 ^ 64)
  pub mdata : Below (2 ^ 64) p.mdata
  pub spelled : SpellsBody p.body payload
  pub plain : IsTrue (payload_plain (body_type p.body) payload)
  pub pad : length rest ≡ wire_of p - length_of p
  pub zeros : list_all (λ byte. eqb byte 0) rest ≡ true

type_time-body : (body : Body) → type_time (body_type body) ≡ time_bytes (body_time body)
type_time-body (bodies.Samples None bytes) = refl
type_time-body (bodies.Samples (Some t) bytes) = refl
type_time-body (bodies.Status s) = refl
type_time-body (bodies.Command c) = refl
type_time-body (bodies.Control c) = refl
type_time-body (bodies.Management m) = refl

and_true : (a b : Bool) → a ≡ true → b ≡ true → (a && b) ≡ true
and_true a b e f = rw (e, f) refl

pub written_canon : (p : Packet) (w : ℕ) (payload pad : List ℕ) → Written p w payload pad → IsCanon p (parts w (body_time p.body) p.mdata payload pad)
written_canon p w payload pad r =
    let time = body_time p.body in
    let b : List ℕ = parts w time p.mdata payload pad in
    let s : List ℕ = start_with w time p.mdata in
    let start : length s ≡ payload_start p = length-start w time p.mdata in
    let size : time_bytes time + length payload ≡ body_length p.body = body_size p.body payload r.spelled r.plain in
    let fill : payload_start p + length payload ≡ length_of p = omega (arith, size) in
    let both : length (s ++ payload) ≡ length_of p = length-append s payload ∙ rw start fill in
    let ends : length_of p + length pad ≡ wire_of p = omega (arith, r.pad) in
    let first : word_at b 0 ≡ w = first_word w time p.mdata payload pad r.wide in
    let is_payload : slice_range b (payload_start p) (length_of p) ≡ payload = slice_between s payload pad (payload_start p) (length_of p) start fill in
    let is_pad : slice_range b (length_of p) (wire_of p) ≡ pad = slice_end (s ++ payload) pad (length_of p) (wire_of p) both ends in
    let header : header_of (word_at b 0) ≡ header_for p (length_of p) = ap header_of first ∙ r.header in
    let begins : start_of (header_for p (length_of p)) ≡ payload_start p = rw type_time-body refl in
    record {
      spells = record {
        len = length_of p;
        size = length-append (s ++ payload) pad ∙ rw both ends;
        first = header;
        within = omega (arith, fill);
        time = time_word w time p.mdata payload pad r.time;
        mdata = mdata_words w time p.mdata payload pad r.mdata;
        payload = rw is_payload r.spelled;
      };
      plain = subst (λ (h : Header). IsTrue (plain_under h b)) (sym header) (rw begins (and_true (payload_plain (body_type p.body) (slice_range b (payload_start p) (length_of p))) (list_all (λ byte. eqb byte 0) (slice_range b (length_of p) (wire_of p)))
          (rw is_payload r.plain) (rw is_pad r.zeros)));
    }

-- one part was put behind another
pub gathered : (p : Packet) (w : ℕ) (payload pad : List ℕ) → Written p w payload pad → (time : Option ℕ) (first words o0 o1 o2 o3 o4 o5 : List ℕ)
    → o0 ≡ [] → o1 ≡ o0 ++ first → first ≡ to_le_bytes w64 w → o2 ≡ o1 ++ time_spelled time → time ≡ body_time p.body → o3 ≡ o2 ++ words_bytes words → words ≡ p.mdata
    → o4 ≡ o3 ++ payload → o5 ≡ o4 ++ pad → IsCanon p o5
gathered p w payload pad r time first words o0 o1 o2 o3 o4 o5 h0 h1 h2 h3 h4 h5 h6 h7 h8 =
    let whole : o5 ≡ parts w (body_time p.body) p.mdata payload pad = rw (h8, h7, h5, h6, h3, h4, h1, h0, h2) refl in
    subst (λ (b : List ℕ). IsCanon p b) (sym whole) (written_canon p w payload pad r)

pub zeros : (n : ℕ) → list_all (λ byte. eqb byte 0) (replicate n 0) ≡ true
zeros zero = refl
zeros (suc n) = zeros n

-- ---- what a canonical spelling is

pub length-slice : (b : List ℕ) (i j : ℕ) → i ≤ j → j ≤ length b → length (slice_range b i j) ≡ j - i
length-slice b i j order within = omega (arith, order, within, length-take (j - i) (drop i b), length-drop i b)

-- reserved bits and pad are zero
pub canon_plain : (p : Packet) (b : List ℕ) (c : IsCanon p b)
    → (payload_plain (body_type p.body) (slice_range b (payload_start p) c.spells.len) ≡ true) × (list_all (λ byte. eqb byte 0) (slice_range b c.spells.len (wire_size_of c.spells.len)) ≡ true)
canon_plain p b c =
    let under : IsTrue (plain_under (header_for p c.spells.len) b) = subst (λ (h : Header). IsTrue (plain_under h b)) c.spells.first c.plain in
    let begins : start_of (header_for p c.spells.len) ≡ payload_start p = rw type_time-body refl in
    and_parts (payload_plain (body_type p.body) (slice_range b (payload_start p) c.spells.len)) (list_all (λ byte. eqb byte 0) (slice_range b c.spells.len (wire_size_of c.spells.len)))
    (subst (λ (i : ℕ). IsTrue (payload_plain (body_type p.body) (slice_range b i c.spells.len) && list_all (λ byte. eqb byte 0) (slice_range b c.spells.len (wire_size_of c.spells.len)))) begins under)

-- and its Length is that of the packet's value
pub canon_length : (p : Packet) (b : List ℕ) (c : IsCanon p b) → c.spells.len ≡ length_of p
canon_length p b c =
    let s = c.spells in
    let within : s.len ≤ length b = omega (arith, s.size) in
    omega (arith, s.within, length-slice b (payload_start p) s.len s.within within, body_size p.body (slice_range b (payload_start p) s.len) s.payload (canon_plain p b c).0)

pub canon_size : (p : Packet) (b : List ℕ) → IsCanon p b → length b ≡ wire_of p
canon_size p b c = c.spells.size ∙ ap wire_size_of (canon_length p b c)
