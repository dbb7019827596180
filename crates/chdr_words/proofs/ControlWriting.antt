-- What is written of a control payload spells it, and is its canonical spelling.
use Rattle.std.proofs.Common.{eq-eqb, ◌≡◌, ◌≢◌, ℕ, ◌+◌, ◌*◌, ◌%◌, ◌^◌, ◌<◌, ◌≤◌, inr, Bool, true, false, cond, eqb, List, [], ◌∷◌, ◌++◌, length, Option, Some, None, refl, sym, ap, ◌∙◌, arith}
use Rattle.std.specs.Prelude.{IfSome, IsTrue, ◌&&◌, ◌||◌}
use Rattle.std.specs.Int.{w32, w64, to_le_bytes}
use Rattle.std.specs.List.{sum_by}
use Rattle.std.proofs.lemmas.Bool.{eqb-true, eqb-false}
use Rattle.std.proofs.lemmas.Nat.{from_le_bytes-to_le_bytes_4, from_le_bytes-to_le_bytes_8}
use Rattle.std.proofs.lemmas.List.{length-append, append-nil}
use Rattle.std.proofs.lemmas.List.Concat.{length-flat_map}
use Rattle.std.proofs.lemmas.List.Sums.{sum_by-cons}
use Rattle.chdr_words.specs.Field.{field, word_at, half_at, halves_at, halves_bytes}
use Rattle.chdr_words.specs.Header.{bit_of}
use Rattle.chdr_words.specs.Wire.{time_bytes, wire_size_of}
use Rattle.chdr_words.specs.declared.control.Control.{Control}
use Rattle.chdr_words.specs.declared.control.CtrlOp.{CtrlOp}
use Rattle.chdr_words.specs.declared.control.CtrlStatus.{CtrlStatus}
use Rattle.chdr_words.specs.declared.control.CtrlOp.TheVariants as ops
use Rattle.chdr_words.specs.declared.control.CtrlStatus.TheVariants as statuses
use Rattle.chdr_words.specs.Control.{FitsControl, FitsCtrlOp, SpellsControl, ctrl_status_number, ctrl_op_number, time_bit, told_time, told_count, control_size, control_plain, control_bytes, control_head, control_op, control_rest, time_spelled}
use Rattle.chdr_words.specs.Laws.{Below, Ranged}
use Rattle.chdr_words.proofs.WordLemmas.{each_at-written, half_code}

bit_below : (b : Bool) → bit_of b < 2
bit_below true = omega arith
bit_below false = omega arith

status_below : (s : CtrlStatus) → ctrl_status_number s < 4
status_below statuses.Okay = omega arith
status_below statuses.CmdErr = omega arith
status_below statuses.TsErr = omega arith
status_below statuses.Warning = omega arith

op_below : (op : CtrlOp) → FitsCtrlOp op → ctrl_op_number op < 16
op_below ops.Sleep fits = omega arith
op_below ops.Write fits = omega arith
op_below ops.Read fits = omega arith
op_below ops.ReadWrite fits = omega arith
op_below ops.BlockWrite fits = omega arith
op_below ops.BlockRead fits = omega arith
op_below ops.Poll fits = omega arith
op_below (ops.Other code) fits = omega (arith, fits.1)
op_below (ops.User code) fits = fits.1

-- the fields of word 0
pub record Head (w src ack timed seq count src_port dst_port : ℕ) : Type 0 where
  pub below : w < 2 ^ 48
  pub src_is : field w 47 32 ≡ src
  pub ack_is : field w 31 31 ≡ ack
  pub timed_is : field w 30 30 ≡ timed
  pub seq_is : field w 29 24 ≡ seq
  pub count_is : field w 23 20 ≡ count
  pub src_port_is : field w 19 10 ≡ src_port
  pub dst_port_is : field w 9 0 ≡ dst_port
  pub plain : field w 63 48 ≡ 0

head_spells : (src ack timed seq count src_port dst_port : ℕ)
    → src < 2 ^ 16 → ack < 2 → timed < 2 → seq < 2 ^ 6 → count ≤ 15 → src_port < 2 ^ 10 → dst_port < 2 ^ 10
    → Head (src * 2 ^ 32 + ack * 2 ^ 31 + timed * 2 ^ 30 + seq * 2 ^ 24 + count * 2 ^ 20 + src_port * 2 ^ 10 + dst_port) src ack timed seq count src_port dst_port
head_spells src ack timed seq count src_port dst_port h1 h2 h3 h4 h5 h6 h7 = record {
  below = omega arith;
  src_is = omega arith;
  ack_is = omega arith;
  timed_is = omega arith;
  seq_is = omega arith;
  count_is = omega arith;
  src_port_is = omega arith;
  dst_port_is = omega arith;
  plain = omega arith;
}

-- the fields of the operation
pub record Operation (w status op enables addr : ℕ) : Type 0 where
  pub below : w < 2 ^ 32
  pub status_is : field w 31 30 ≡ status
  pub op_is : field w 27 24 ≡ op
  pub enables_is : field w 23 20 ≡ enables
  pub addr_is : field w 19 0 ≡ addr
  pub plain : field w 29 28 ≡ 0

op_spells : (status op enables addr : ℕ) → status < 4 → op < 16 → enables < 2 ^ 4 → addr < 2 ^ 20
    → Operation (status * 2 ^ 30 + op * 2 ^ 24 + enables * 2 ^ 20 + addr) status op enables addr
op_spells status op enables addr h1 h2 h3 h4 = record {
  below = omega arith;
  status_is = omega arith;
  op_is = omega arith;
  enables_is = omega arith;
  addr_is = omega arith;
  plain = omega arith;
}

head_first : (time : Option ℕ) (head op : ℕ) (words rest : List ℕ) → head < 2 ^ 64
    → word_at (to_le_bytes w64 head ++ time_spelled time ++ to_le_bytes w32 op ++ halves_bytes words ++ rest) 0 ≡ head
unfolding word_at
head_first None head op words rest wide = from_le_bytes-to_le_bytes_8 head wide
head_first (Some time) head op words rest wide = from_le_bytes-to_le_bytes_8 head wide

time_second : (time : Option ℕ) (head op : ℕ) (words rest : List ℕ) → IfSome time (λ t. t < 2 ^ 64)
    → IfSome time (λ t. word_at (to_le_bytes w64 head ++ time_spelled time ++ to_le_bytes w32 op ++ halves_bytes words ++ rest) 8 ≡ t)
unfolding word_at
time_second None head op words rest wide = tt
time_second (Some time) head op words rest wide = from_le_bytes-to_le_bytes_8 time wide

op_third : (time : Option ℕ) (head op : ℕ) (words rest : List ℕ) → op < 2 ^ 32
    → half_at (to_le_bytes w64 head ++ time_spelled time ++ to_le_bytes w32 op ++ halves_bytes words ++ rest) (8 + time_bytes time) ≡ op
unfolding half_at
op_third None head op words rest wide = from_le_bytes-to_le_bytes_4 op wide
op_third (Some time) head op words rest wide = from_le_bytes-to_le_bytes_4 op wide

words_fourth : (time : Option ℕ) (head op : ℕ) (words rest : List ℕ) → Below (2 ^ 32) words
    → halves_at (to_le_bytes w64 head ++ time_spelled time ++ to_le_bytes w32 op ++ halves_bytes words ++ rest) (12 + time_bytes time) (length words) ≡ words
words_fourth None head op words rest below =
    each_at-written (to_le_bytes w32) half_at 4 (2 ^ 32) half_code words (to_le_bytes w64 head ++ to_le_bytes w32 op) rest below
words_fourth (Some time) head op words rest below =
    each_at-written (to_le_bytes w32) half_at 4 (2 ^ 32) half_code words (to_le_bytes w64 head ++ to_le_bytes w64 time ++ to_le_bytes w32 op) rest below

length-halves : (words : List ℕ) → length (halves_bytes words) ≡ 4 * length words
length-halves words = length-flat_map (to_le_bytes w32) words ∙ fours words
  where
    fours : (words : List ℕ) → sum_by (λ x. 4) words ≡ 4 * length words
    fours [] = refl
    fours (w ∷ words) = omega (arith, fours words, sum_by-cons (λ (x : ℕ). 4) w words)

length-whole : (time : Option ℕ) (head op : ℕ) (words rest : List ℕ)
    → length (to_le_bytes w64 head ++ time_spelled time ++ to_le_bytes w32 op ++ halves_bytes words ++ rest) ≡ control_size (time_bytes time) (length words) + length rest
length-whole None head op words rest = omega (arith, length-append (halves_bytes words) rest, length-halves words)
length-whole (Some time) head op words rest = omega (arith, length-append (halves_bytes words) rest, length-halves words)

or_left : (a b : Bool) → a ≡ true → (a || b) ≡ true
or_left true b e = refl
or_left false b e = absurd cc

or_right : (a b : Bool) → b ≡ true → (a || b) ≡ true
or_right true b e = refl
or_right false b e = e

and_true : (a b : Bool) → a ≡ true → b ≡ true → (a && b) ≡ true
and_true true b e f = f
and_true false b e f = e

-- what rounding added reads as zero
rest_read : (size : ℕ) (time : Option ℕ) (head op : ℕ) (words : List ℕ) → size ≡ control_size (time_bytes time) (length words)
    → half_at (to_le_bytes w64 head ++ time_spelled time ++ to_le_bytes w32 op ++ halves_bytes words ++ to_le_bytes w32 0) size ≡ 0
rest_read size time head op words is =
    let front : List ℕ = to_le_bytes w64 head ++ time_spelled time ++ to_le_bytes w32 op ++ halves_bytes words in
    let len : length front ≡ size = ap length (sym (append-nil front)) ∙ length-whole time head op words [] ∙ rw is (omega arith) in
    rw (← len) (half_code.back front [] 0 (omega arith))

-- rounding adds nothing or four bytes
rest_rounds : (b : Bool) (size : ℕ) → eqb (size % 8) 0 ≡ b → size % 4 ≡ 0 → size + length (cond b [] (to_le_bytes w32 0)) ≡ wire_size_of size
rest_rounds true size e whole = let z : size % 8 ≡ 0 = eqb-true _ _ e in omega arith
rest_rounds false size e whole = let z : size % 8 ≢ 0 = eqb-false _ _ e in omega arith

rest_zero : (b : Bool) (size : ℕ) (time : Option ℕ) (head op : ℕ) (words : List ℕ) → eqb (size % 8) 0 ≡ b → size ≡ control_size (time_bytes time) (length words)
    → (eqb (length (to_le_bytes w64 head ++ time_spelled time ++ to_le_bytes w32 op ++ halves_bytes words ++ cond b [] (to_le_bytes w32 0))) size
    || eqb (half_at (to_le_bytes w64 head ++ time_spelled time ++ to_le_bytes w32 op ++ halves_bytes words ++ cond b [] (to_le_bytes w32 0)) size) 0) ≡ true
rest_zero true size time head op words e is =
    or_left _ _ (eq-eqb _ _ (length-whole time head op words [] ∙ rw is (omega arith)))
rest_zero false size time head op words e is =
    or_right _ _ (eq-eqb _ _ (rest_read size time head op words is))

bit_of_time : (o : Option ℕ) → time_bit o < 2
bit_of_time None = omega arith
bit_of_time (Some t) = omega arith

eight_times : (o : Option ℕ) → 8 * time_bit o ≡ time_bytes o
eight_times None = refl
eight_times (Some t) = refl

multiple : (o : Option ℕ) (n : ℕ) → control_size (time_bytes o) n % 4 ≡ 0
multiple None n = omega arith
multiple (Some t) n = omega arith

pub control_spelled : (c : Control) → FitsControl c → Ranged c → SpellsControl c (control_bytes c) × IsTrue (control_plain (control_bytes c))
control_spelled c fits ranged =
    let size = control_size (time_bytes c.time) (length c.words) in
    let rest = control_rest size in
    let head = head_spells c.src.0 (bit_of c.ack) (time_bit c.time) c.seq (length c.words) c.src_port c.dst_port
    ranged.src (bit_below c.ack) (bit_of_time c.time) fits.seq fits.words fits.src_port fits.dst_port in
    let op = op_spells (ctrl_status_number c.status) (ctrl_op_number c.op) c.enables c.addr (status_below c.status) (op_below c.op fits.op) fits.enables fits.addr in
    let below : control_head c < 2 ^ 64 = omega (arith, head.below) in
    let first = head_first c.time (control_head c) (control_op c) c.words rest below in
    let third = op_third c.time (control_head c) (control_op c) c.words rest op.below in
    let whole = length-whole c.time (control_head c) (control_op c) c.words rest in
    let rounded : length (control_bytes c) ≡ wire_size_of size = whole ∙ rest_rounds (eqb (size % 8) 0) size refl (multiple c.time (length c.words)) in
    let told : told_time (control_bytes c) ≡ time_bytes c.time = rw (first, head.timed_is) (eight_times c.time) in
    let count : told_count (control_bytes c) ≡ length c.words = rw first head.count_is in
    let plain_head : eqb (field (word_at (control_bytes c) 0) 63 48) 0 ≡ true = eq-eqb _ _ (rw first head.plain) in
    let plain_op : eqb (field (half_at (control_bytes c) (8 + told_time (control_bytes c))) 29 28) 0 ≡ true = rw (told, third) (eq-eqb _ _ op.plain) in
    let plain_size : eqb (length (control_bytes c)) (wire_size_of (control_size (told_time (control_bytes c)) (told_count (control_bytes c)))) ≡ true =
    rw (told, count) (eq-eqb _ _ rounded) in
    let plain_rest : (eqb (length (control_bytes c)) (control_size (told_time (control_bytes c)) (told_count (control_bytes c)))
    || eqb (half_at (control_bytes c) (control_size (told_time (control_bytes c)) (told_count (control_bytes c)))) 0) ≡ true =
    rw (told, count) (rest_zero (eqb (size % 8) 0) size c.time (control_head c) (control_op c) c.words refl refl) in (
      record {
        size = inr rounded;
        src = rw first head.src_is;
        ack = rw first head.ack_is;
        has_time = rw first head.timed_is;
        seq = rw first head.seq_is;
        count = count;
        src_port = rw first head.src_port_is;
        dst_port = rw first head.dst_port_is;
        time = time_second c.time (control_head c) (control_op c) c.words rest ranged.time;
        status = rw third op.status_is;
        op = rw third op.op_is;
        listed = fits.op;
        enables = rw third op.enables_is;
        addr = rw third op.addr_is;
        words = words_fourth c.time (control_head c) (control_op c) c.words rest ranged.words;
      },
      and_true _ _ (and_true _ _ (and_true _ _ plain_head plain_op) plain_size) plain_rest,
    )
