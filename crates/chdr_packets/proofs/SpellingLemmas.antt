-- A packet that fits has a canonical spelling: each payload, the header's word, and the whole.
use Rattle.std.proofs.Common.{◌≡◌, ℕ, ◌+◌, ◌-◌, ◌*◌, ◌%◌, ◌^◌, ◌<◌, ◌≤◌, Bool, true, false, cond, eqb, eq-eqb, List, [], ◌∷◌, ◌++◌, length, replicate, Option, None, Some, refl, sym, subst, arith}
use Rattle.std.specs.Prelude.{IfSome, IsTrue}
use Rattle.std.specs.Int.{w32, w64, to_le_bytes}
use Rattle.std.proofs.lemmas.Nat.{from_le_bytes-to_le_bytes_8}
use Rattle.std.proofs.lemmas.List.{length-replicate}
use Rattle.std.proofs.lemmas.List.Concat.{flat_map-cons}
use Rattle.std.proofs.lemmas.List.Elements.{All-from_recursion, recursion_from_All, All-nil, All-append, All-replicate}
use Rattle.chdr_words.specs.Field.{field, word_at, words_bytes, halves_bytes}
use Rattle.chdr_words.specs.Header.{bit_of, header_of, header_word, type_of, type_number}
use Rattle.chdr_words.specs.Status.{FitsStatus, FitsStatusCode, status_number}
use Rattle.chdr_words.specs.Command.{FitsCmdOp, FitsCommand, cmd_number}
use Rattle.chdr_words.specs.Control.{FitsControl, control_bytes, control_head, control_op, control_rest, control_size, time_spelled}
use Rattle.chdr_words.specs.Management.{FitsManagement, management_words}
use Rattle.chdr_words.specs.Wire.{time_bytes}
use Rattle.chdr_words.specs.declared.status.Status.{Status}
use Rattle.chdr_words.specs.declared.status.StatusCode.{StatusCode}
use Rattle.chdr_words.specs.declared.status.StatusCode.TheVariants as codes
use Rattle.chdr_words.specs.declared.command.Command.{Command}
use Rattle.chdr_words.specs.declared.command.CmdOp.{CmdOp}
use Rattle.chdr_words.specs.declared.command.CmdOp.TheVariants as cmds
use Rattle.chdr_words.specs.declared.control.Control.{Control}
use Rattle.chdr_words.specs.declared.management.Management.{Management}
use Rattle.chdr_words.specs.Laws.{Ranged}
use Rattle.chdr_words.proofs.Laws.{control_spelled, management_spelled}
use Rattle.chdr_packets.specs.declared.packet.Packet.{Packet}
use Rattle.chdr_packets.specs.declared.packet.Body.{Body}
use Rattle.chdr_packets.specs.declared.packet.Body.TheVariants as bodies
use Rattle.chdr_packets.specs.Fits.{FitsBody, FitsPacket}
use Rattle.chdr_packets.specs.Grammar.{body_time, body_type, header_for, SpellsBody, payload_plain}
use Rattle.chdr_packets.specs.Laws.{FittingSpelled, IsBytes}
use Rattle.chdr_packets.specs.Length.{length_of, wire_of}
use Rattle.chdr_packets.specs.Ranges.{IsRangedBody, IsRangedCommand, IsRangedControl, IsRangedManagement, IsRangedStatus, IsRanged}
use Rattle.chdr_packets.proofs.WritingLemmas.{Written, parts, written_canon, zeros}

-- ---- what is written is bytes

abbrev IsByte : ℕ → Type 0
IsByte byte = byte < 2 ^ 8

both : (a b : List ℕ) → IsBytes a → IsBytes b → IsBytes (a ++ b)
both a b small small' = All-append IsByte a b small small'

digit : (n : ℕ) → n % 256 < 256
digit n = omega arith

eight : (n : ℕ) → IsBytes (to_le_bytes w64 n)
eight n = All-from_recursion IsByte (to_le_bytes w64 n) (digit _, (digit _, (digit _, (digit _, (digit _, (digit _, (digit _, (digit _, tt))))))))

four : (n : ℕ) → IsBytes (to_le_bytes w32 n)
four n = All-from_recursion IsByte (to_le_bytes w32 n) (digit _, (digit _, (digit _, (digit _, tt))))

small_words : (ws : List ℕ) → IsBytes (words_bytes ws)
small_words [] = All-nil IsByte
small_words (w ∷ ws) = subst IsBytes (sym (flat_map-cons (to_le_bytes w64) w ws)) (both (to_le_bytes w64 w) (words_bytes ws) (eight w) (small_words ws))

small_halves : (ws : List ℕ) → IsBytes (halves_bytes ws)
small_halves [] = All-nil IsByte
small_halves (w ∷ ws) = subst IsBytes (sym (flat_map-cons (to_le_bytes w32) w ws)) (both (to_le_bytes w32 w) (halves_bytes ws) (four w) (small_halves ws))

small_time : (time : Option ℕ) → IsBytes (time_spelled time)
small_time None = All-nil IsByte
small_time (Some t) = eight t

-- ---- words side by side

abbrev two_words : ℕ → ℕ → List ℕ
two_words a b = to_le_bytes w64 a ++ to_le_bytes w64 b

abbrev four_words : ℕ → ℕ → ℕ → ℕ → List ℕ
four_words a b c d = two_words a b ++ two_words c d

small_two : (a b : ℕ) → IsBytes (two_words a b)
small_two a b = both (to_le_bytes w64 a) (to_le_bytes w64 b) (eight a) (eight b)

two_first : (a b : ℕ) → a < 2 ^ 64 → word_at (two_words a b) 0 ≡ a
unfolding word_at
two_first a b wide = from_le_bytes-to_le_bytes_8 a wide

two_second : (a b : ℕ) → b < 2 ^ 64 → word_at (two_words a b) 8 ≡ b
unfolding word_at
two_second a b wide = from_le_bytes-to_le_bytes_8 b wide

four_first : (a b c d : ℕ) → a < 2 ^ 64 → word_at (four_words a b c d) 0 ≡ a
unfolding word_at
four_first a b c d wide = from_le_bytes-to_le_bytes_8 a wide

four_second : (a b c d : ℕ) → b < 2 ^ 64 → word_at (four_words a b c d) 8 ≡ b
unfolding word_at
four_second a b c d wide = from_le_bytes-to_le_bytes_8 b wide

four_third : (a b c d : ℕ) → c < 2 ^ 64 → word_at (four_words a b c d) 16 ≡ c
unfolding word_at
four_third a b c d wide = from_le_bytes-to_le_bytes_8 c wide

four_fourth : (a b c d : ℕ) → d < 2 ^ 64 → word_at (four_words a b c d) 24 ≡ d
unfolding word_at
four_fourth a b c d wide = from_le_bytes-to_le_bytes_8 d wide

-- ---- payloads

-- a canonical payload of the body
record Payload (body : Body) : Type 0 where
  pub bytes : List ℕ
  pub small : IsBytes bytes
  pub spelled : SpellsBody body bytes
  pub plain : IsTrue (payload_plain (body_type body) bytes)

-- the first word of a status or a command: a number of 40 bits, and three behind it
record First (w count extra code src : ℕ) : Type 0 where
  pub below : w < 2 ^ 64
  pub count_is : field w 63 24 ≡ count
  pub extra_is : field w 23 20 ≡ extra
  pub code_is : field w 19 16 ≡ code
  pub src_is : field w 15 0 ≡ src

first_spells : (count extra code src : ℕ) → count < 2 ^ 40 → extra < 2 ^ 4 → code < 2 ^ 4 → src < 2 ^ 16
    → First (count * 2 ^ 24 + extra * 2 ^ 20 + code * 2 ^ 16 + src) count extra code src
first_spells count extra code src h1 h2 h3 h4 = record {
  below = omega arith;
  count_is = omega arith;
  extra_is = omega arith;
  code_is = omega arith;
  src_is = omega arith;
}

-- two numbers in one word
record Pair (w high low cut : ℕ) : Type 0 where
  pub below : w < 2 ^ 64
  pub high_is : field w 63 cut ≡ high
  pub low_is : field w (cut - 1) 0 ≡ low

pair_24 : (high low : ℕ) → high < 2 ^ 40 → low < 2 ^ 24 → Pair (high * 2 ^ 24 + low) high low 24
pair_24 high low h1 h2 = record { below = omega arith; high_is = omega arith; low_is = omega arith }

pair_16 : (high low : ℕ) → high < 2 ^ 48 → low < 2 ^ 16 → Pair (high * 2 ^ 16 + low) high low 16
pair_16 high low h1 h2 = record { below = omega arith; high_is = omega arith; low_is = omega arith }

status_below : (code : StatusCode) → FitsStatusCode code → status_number code < 2 ^ 4
status_below codes.Okay fits = omega arith
status_below codes.CmdErr fits = omega arith
status_below codes.SeqErr fits = omega arith
status_below codes.DataErr fits = omega arith
status_below codes.RtErr fits = omega arith
status_below (codes.Other n) fits = fits.1

cmd_below : (op : CmdOp) → FitsCmdOp op → cmd_number op < 2 ^ 4
cmd_below cmds.Init fits = omega arith
cmd_below cmds.Ping fits = omega arith
cmd_below cmds.Resync fits = omega arith
cmd_below (cmds.Other n) fits = fits.1

status_payload : (s : Status) → FitsStatus s → IsRangedStatus s → Payload (bodies.Status s)
status_payload s fits ranged =
    let a : ℕ = s.cap_bytes * 2 ^ 24 + 0 * 2 ^ 20 + status_number s.code * 2 ^ 16 + s.src.0 in
    let b : ℕ = s.got_packets * 2 ^ 24 + s.cap_packets in
    let d : ℕ = s.info * 2 ^ 16 + s.buffer in
    let first = first_spells s.cap_bytes 0 (status_number s.code) s.src.0 fits.cap_bytes (omega arith) (status_below s.code fits.code) ranged.src in
    let second = pair_24 s.got_packets s.cap_packets fits.got_packets fits.cap_packets in
    let fourth = pair_16 s.info s.buffer fits.info ranged.buffer in
    let is_a : word_at (four_words a b s.got_bytes d) 0 ≡ a = four_first a b s.got_bytes d first.below in
    let is_b : word_at (four_words a b s.got_bytes d) 8 ≡ b = four_second a b s.got_bytes d second.below in
    let is_d : word_at (four_words a b s.got_bytes d) 24 ≡ d = four_fourth a b s.got_bytes d fourth.below in
    record {
      bytes = four_words a b s.got_bytes d;
      small = both (two_words a b) (two_words s.got_bytes d) (small_two a b) (small_two s.got_bytes d);
      spelled = record {
        size = refl;
        cap_bytes = rw is_a first.count_is;
        code = rw is_a first.code_is;
        listed = fits.code;
        src = rw is_a first.src_is;
        got_packets = rw is_b second.high_is;
        cap_packets = rw is_b second.low_is;
        got_bytes = four_third a b s.got_bytes d ranged.got_bytes;
        info = rw is_d fourth.high_is;
        buffer = rw is_d fourth.low_is;
      };
      plain = eq-eqb _ _ (rw is_a first.extra_is);
    }

command_payload : (c : Command) → FitsCommand c → IsRangedCommand c → Payload (bodies.Command c)
command_payload c fits ranged =
    let a : ℕ = c.packets * 2 ^ 24 + c.op_data * 2 ^ 20 + cmd_number c.op * 2 ^ 16 + c.src.0 in
    let first = first_spells c.packets c.op_data (cmd_number c.op) c.src.0 fits.packets fits.op_data (cmd_below c.op fits.op) ranged.src in
    let is_a : word_at (two_words a c.bytes) 0 ≡ a = two_first a c.bytes first.below in
    record {
      bytes = two_words a c.bytes;
      small = small_two a c.bytes;
      spelled = record {
        size = refl;
        packets = rw is_a first.count_is;
        op_data = rw is_a first.extra_is;
        op = rw is_a first.code_is;
        listed = fits.op;
        src = rw is_a first.src_is;
        bytes_counted = two_second a c.bytes ranged.bytes;
      };
      plain = refl;
    }

small_rest : (whole : Bool) → IsBytes (cond whole [] (to_le_bytes w32 0))
small_rest true = All-nil IsByte
small_rest false = four 0

small_control : (c : Control) → IsBytes (control_bytes c)
small_control c =
    let head : List ℕ = to_le_bytes w64 (control_head c) in
    let op : List ℕ = to_le_bytes w32 (control_op c) in
    let size : ℕ = control_size (time_bytes c.time) (length c.words) in
    both (head ++ time_spelled c.time ++ op ++ halves_bytes c.words) (control_rest size)
    (both (head ++ time_spelled c.time ++ op) (halves_bytes c.words)
    (both (head ++ time_spelled c.time) op (both head (time_spelled c.time) (eight (control_head c)) (small_time c.time)) (four (control_op c)))
    (small_halves c.words))
    (small_rest (eqb (size % 8) 0))

control_payload : (c : Control) → FitsControl c → IsRangedControl c → Payload (bodies.Control c)
control_payload c fits ranged =
    let below : Ranged c = record { src = ranged.src; time = ranged.time; words = recursion_from_All (λ (word : ℕ). word < 2 ^ 32) c.words ranged.words } in
    let is = control_spelled c fits below in
    record { bytes = control_bytes c; small = small_control c; spelled = is.0; plain = is.1 }

management_payload : (m : Management) → FitsManagement m → IsRangedManagement m → Payload (bodies.Management m)
management_payload m fits ranged =
    let is = management_spelled m fits ranged.version ranged.src in
    record { bytes = words_bytes (management_words m); small = small_words (management_words m); spelled = is.0; plain = is.1 }

payload_of : (body : Body) → FitsBody body → IsRangedBody body → Payload body
payload_of (bodies.Samples None bytes) fits ranged = record { bytes = bytes; small = ranged.1; spelled = refl; plain = refl }
payload_of (bodies.Samples (Some t) bytes) fits ranged = record { bytes = bytes; small = ranged.1; spelled = refl; plain = refl }
payload_of (bodies.Status s) fits ranged = status_payload s fits ranged
payload_of (bodies.Command c) fits ranged = command_payload c fits ranged
payload_of (bodies.Control c) fits ranged = control_payload c fits ranged
payload_of (bodies.Management m) fits ranged = management_payload m fits ranged

-- ---- the header's word

bit_back : (flag : Bool) → eqb (bit_of flag) 1 ≡ flag
bit_back true = refl
bit_back false = refl

bit_below : (flag : Bool) → bit_of flag < 2
bit_below true = omega arith
bit_below false = omega arith

type_back : (body : Body) → type_of (type_number (body_type body)) ≡ body_type body
type_back (bodies.Samples None bytes) = refl
type_back (bodies.Samples (Some t) bytes) = refl
type_back (bodies.Status s) = refl
type_back (bodies.Command c) = refl
type_back (bodies.Control c) = refl
type_back (bodies.Management m) = refl

type_below : (body : Body) → type_number (body_type body) < 8
type_below (bodies.Samples None bytes) = omega arith
type_below (bodies.Samples (Some t) bytes) = omega arith
type_below (bodies.Status s) = omega arith
type_below (bodies.Command c) = omega arith
type_below (bodies.Control c) = omega arith
type_below (bodies.Management m) = omega arith

-- the fields of the word
record Fields (w vc eob eov kind count seq len dst : ℕ) : Type 0 where
  pub below : w < 2 ^ 64
  pub vc_is : field w 63 58 ≡ vc
  pub eob_is : field w 57 57 ≡ eob
  pub eov_is : field w 56 56 ≡ eov
  pub kind_is : field w 55 53 ≡ kind
  pub count_is : field w 52 48 ≡ count
  pub seq_is : field w 47 32 ≡ seq
  pub len_is : field w 31 16 ≡ len
  pub dst_is : field w 15 0 ≡ dst

fields_spell : (vc eob eov kind count seq len dst : ℕ) → vc < 2 ^ 6 → eob < 2 → eov < 2 → kind < 8 → count ≤ 31 → seq < 2 ^ 16 → len ≤ 65535 → dst < 2 ^ 16
    → Fields (vc * 2 ^ 58 + eob * 2 ^ 57 + eov * 2 ^ 56 + kind * 2 ^ 53 + count * 2 ^ 48 + seq * 2 ^ 32 + len * 2 ^ 16 + dst) vc eob eov kind count seq len dst
fields_spell vc eob eov kind count seq len dst h1 h2 h3 h4 h5 h6 h7 h8 = record {
  below = omega arith;
  vc_is = omega arith;
  eob_is = omega arith;
  eov_is = omega arith;
  kind_is = omega arith;
  count_is = omega arith;
  seq_is = omega arith;
  len_is = omega arith;
  dst_is = omega arith;
}

-- the word of the packet's header
abbrev word_for : Packet → ℕ
word_for p = header_word (header_for p (length_of p))

word_fields : (p : Packet) → IsRanged p → FitsPacket p
    → Fields (word_for p) p.vc (bit_of p.eob) (bit_of p.eov) (type_number (body_type p.body)) (length p.mdata) p.seq (length_of p) p.dst.0
word_fields p ranged fits =
    fields_spell p.vc (bit_of p.eob) (bit_of p.eov) (type_number (body_type p.body)) (length p.mdata) p.seq (length_of p) p.dst.0
    fits.vc (bit_below p.eob) (bit_below p.eov) (type_below p.body) fits.mdata ranged.seq fits.len ranged.dst

header_back : (p : Packet) (w : ℕ) → Fields w p.vc (bit_of p.eob) (bit_of p.eov) (type_number (body_type p.body)) (length p.mdata) p.seq (length_of p) p.dst.0
    → header_of w ≡ header_for p (length_of p)
header_back p w f = rw (f.vc_is, f.eob_is, f.eov_is, f.kind_is, f.count_is, f.seq_is, f.len_is, f.dst_is, bit_back p.eob, bit_back p.eov, type_back p.body) refl

-- ---- the whole packet

time_ranged : (body : Body) → IsRangedBody body → IfSome (body_time body) (λ t. t < 2 ^ 64)
time_ranged (bodies.Samples None bytes) ranged = tt
time_ranged (bodies.Samples (Some t) bytes) ranged = ranged.0
time_ranged (bodies.Status s) ranged = tt
time_ranged (bodies.Command c) ranged = tt
time_ranged (bodies.Control c) ranged = tt
time_ranged (bodies.Management m) ranged = tt

small_parts : (w : ℕ) (time : Option ℕ) (mdata payload pad : List ℕ) → IsBytes payload → IsBytes pad → IsBytes (parts w time mdata payload pad)
small_parts w time mdata payload pad small small' =
    let head : List ℕ = to_le_bytes w64 w in
    both (head ++ time_spelled time ++ words_bytes mdata ++ payload) pad
    (both (head ++ time_spelled time ++ words_bytes mdata) payload
    (both (head ++ time_spelled time) (words_bytes mdata) (both head (time_spelled time) (eight w) (small_time time)) (small_words mdata))
    small)
    small'

pub fitting_spelled : FittingSpelled
fitting_spelled p ranged fits =
    let w : ℕ = word_for p in
    let n : ℕ = wire_of p - length_of p in
    let fields = word_fields p ranged fits in
    let body = payload_of p.body fits.body ranged.body in
    let written : Written p w body.bytes (replicate n 0) = record {
      wide = fields.below;
      header = header_back p w fields;
      time = time_ranged p.body ranged.body;
      mdata = recursion_from_All (λ (word : ℕ). word < 2 ^ 64) p.mdata ranged.mdata;
      spelled = body.spelled;
      plain = body.plain;
      pad = length-replicate n 0;
      zeros = zeros n;
    } in (
      parts w (body_time p.body) p.mdata body.bytes (replicate n 0),
      small_parts w (body_time p.body) p.mdata body.bytes (replicate n 0) body.small (All-replicate IsByte n 0 (omega arith)),
      written_canon p w body.bytes (replicate n 0) written,
    )
