-- The payload of a control request or acknowledgement.
use Rattle.std.specs.Prelude.{◌≡◌, ◌⊎◌, ℕ, ◌+◌, ◌*◌, ◌%◌, ◌<◌, ◌≤◌, ◌^◌, ◌==◌, ◌&&◌, ◌||◌, Bool, if◌then◌else◌, List, [], ◌++◌, length, IfSome, Option, Some, None, Result, Ok, Err}
use Rattle.std.specs.Int.{w32, w64, to_le_bytes}
use Rattle.chdr_words.specs.Field.{field, word_at, half_at, halves_at, halves_bytes}
use Rattle.chdr_words.specs.Header.{bit_of}
use Rattle.chdr_words.specs.Wire.{time_bytes, wire_size_of}
use Rattle.chdr_words.specs.declared.fault.MsgFault.{MsgFault}
use Rattle.chdr_words.specs.declared.fault.MsgFault.TheVariants.{BadControlLength}
use Rattle.chdr_words.specs.declared.control.CtrlStatus.{CtrlStatus}
use Rattle.chdr_words.specs.declared.control.CtrlStatus.TheVariants.{Okay, CmdErr, TsErr, Warning}
use Rattle.chdr_words.specs.declared.control.Control.{Control}
use Rattle.chdr_words.specs.declared.control.CtrlOp.{CtrlOp}
use Rattle.chdr_words.specs.declared.control.CtrlOp.TheVariants.{Sleep, Write, Read, ReadWrite, BlockWrite, BlockRead, Poll, Other, User}

-- the codes without a name are 7 to 9, those of users 10 to 15
abbrev pub FitsCtrlOp : CtrlOp → Type 0
FitsCtrlOp Sleep = Unit {0}
FitsCtrlOp Write = Unit {0}
FitsCtrlOp Read = Unit {0}
FitsCtrlOp ReadWrite = Unit {0}
FitsCtrlOp BlockWrite = Unit {0}
FitsCtrlOp BlockRead = Unit {0}
FitsCtrlOp Poll = Unit {0}
FitsCtrlOp (Other n) = (7 ≤ n) × (n < 10)
FitsCtrlOp (User n) = (10 ≤ n) × (n < 2 ^ 4)

-- each field fits its bits
pub record FitsControl (c : Control) : Type 0 where
  pub seq : c.seq < 2 ^ 6
  pub src_port : c.src_port < 2 ^ 10
  pub dst_port : c.dst_port < 2 ^ 10
  pub op : FitsCtrlOp c.op
  pub enables : c.enables < 2 ^ 4
  pub addr : c.addr < 2 ^ 20
  pub words : length c.words ≤ 15

-- the status's number on the wire
abbrev pub ctrl_status_number : CtrlStatus → ℕ
ctrl_status_number Okay = 0
ctrl_status_number CmdErr = 1
ctrl_status_number TsErr = 2
ctrl_status_number Warning = 3

-- the operation's number on the wire
abbrev pub ctrl_op_number : CtrlOp → ℕ
ctrl_op_number Sleep = 0
ctrl_op_number Write = 1
ctrl_op_number Read = 2
ctrl_op_number ReadWrite = 3
ctrl_op_number BlockWrite = 4
ctrl_op_number BlockRead = 5
ctrl_op_number Poll = 6
ctrl_op_number (Other n) = n
ctrl_op_number (User n) = n

-- 1 where there is a time
abbrev pub time_bit : Option ℕ → ℕ
time_bit None = 0
time_bit (Some time) = 1

-- word 0, the time of 0 or 8 bytes, the operation and the words
abbrev pub control_size : ℕ → ℕ → ℕ
control_size time count = 12 + time + 4 * count

-- the bytes spell the control payload: word 0, the time, the operation, the words, and at the rounded size a free rest
pub record SpellsControl (c : Control) (bytes : List ℕ) : Type 0 where
  pub size : (length bytes ≡ control_size (time_bytes c.time) (length c.words)) ⊎ (length bytes ≡ wire_size_of (control_size (time_bytes c.time) (length c.words)))
  pub src : field (word_at bytes 0) 47 32 ≡ c.src.0
  pub ack : field (word_at bytes 0) 31 31 ≡ bit_of c.ack
  pub has_time : field (word_at bytes 0) 30 30 ≡ time_bit c.time
  pub seq : field (word_at bytes 0) 29 24 ≡ c.seq
  pub count : field (word_at bytes 0) 23 20 ≡ length c.words
  pub src_port : field (word_at bytes 0) 19 10 ≡ c.src_port
  pub dst_port : field (word_at bytes 0) 9 0 ≡ c.dst_port
  pub time : IfSome c.time (λ time. word_at bytes 8 ≡ time)
  pub status : field (half_at bytes (8 + time_bytes c.time)) 31 30 ≡ ctrl_status_number c.status
  pub op : field (half_at bytes (8 + time_bytes c.time)) 27 24 ≡ ctrl_op_number c.op
  pub listed : FitsCtrlOp c.op
  pub enables : field (half_at bytes (8 + time_bytes c.time)) 23 20 ≡ c.enables
  pub addr : field (half_at bytes (8 + time_bytes c.time)) 19 0 ≡ c.addr
  pub words : halves_at bytes (12 + time_bytes c.time) (length c.words) ≡ c.words

-- the bytes spell no control payload
abbrev pub SpellsNoControl : List ℕ → Type 0
SpellsNoControl bytes = (c : Control) → ¬ SpellsControl c bytes

-- the bytes of the time that word 0 announces
abbrev pub told_time : List ℕ → ℕ
told_time bytes = 8 * field (word_at bytes 0) 30 30

-- the words that word 0 announces
abbrev pub told_count : List ℕ → ℕ
told_count bytes = field (word_at bytes 0) 23 20

-- its reserved bits are zero, its size is the rounded one, and what rounding added is zero
abbrev pub control_plain : List ℕ → Bool
control_plain bytes =
    field (word_at bytes 0) 63 48 == 0 && field (half_at bytes (8 + told_time bytes)) 29 28 == 0
    && length bytes == wire_size_of (control_size (told_time bytes) (told_count bytes))
    && (length bytes == control_size (told_time bytes) (told_count bytes) || half_at bytes (control_size (told_time bytes) (told_count bytes)) == 0)

-- the status that a number below 4 stands for
abbrev pub ctrl_status_of : ℕ → CtrlStatus
ctrl_status_of n = if n == 0 then Okay else if n == 1 then CmdErr else if n == 2 then TsErr else Warning

-- the operation that a number below 16 stands for
abbrev pub ctrl_op_of : ℕ → CtrlOp
ctrl_op_of n =
    if n == 0 then Sleep else if n == 1 then Write else if n == 2 then Read else if n == 3 then ReadWrite
    else if n == 4 then BlockWrite else if n == 5 then BlockRead else if n == 6 then Poll
    else if n == 7 then Other n else if n == 8 then Other n else if n == 9 then Other n else User n

-- reading: each field from its bits
abbrev pub control_of : List ℕ → Control
control_of bytes = record {
  src = record { 0 = field (word_at bytes 0) 47 32 };
  ack = field (word_at bytes 0) 31 31 == 1;
  time = if field (word_at bytes 0) 30 30 == 1 then Some (word_at bytes 8) else None;
  seq = field (word_at bytes 0) 29 24;
  src_port = field (word_at bytes 0) 19 10;
  dst_port = field (word_at bytes 0) 9 0;
  status = ctrl_status_of (field (half_at bytes (8 + told_time bytes)) 31 30);
  op = ctrl_op_of (field (half_at bytes (8 + told_time bytes)) 27 24);
  enables = field (half_at bytes (8 + told_time bytes)) 23 20;
  addr = field (half_at bytes (8 + told_time bytes)) 19 0;
  words = halves_at bytes (12 + told_time bytes) (told_count bytes);
}

-- a payload has the size that word 0 announces, or that size rounded up
abbrev pub control_sized : List ℕ → Bool
control_sized bytes =
    length bytes == control_size (told_time bytes) (told_count bytes)
    || length bytes == wire_size_of (control_size (told_time bytes) (told_count bytes))

-- a payload of another size is refused
abbrev pub control_read : List ℕ → Result Control MsgFault
control_read bytes = if control_sized bytes then Ok (control_of bytes) else Err BadControlLength

-- writing: word 0
abbrev pub control_head : Control → ℕ
control_head c = c.src.0 * 2 ^ 32 + bit_of c.ack * 2 ^ 31 + time_bit c.time * 2 ^ 30 + c.seq * 2 ^ 24 + length c.words * 2 ^ 20
    + c.src_port * 2 ^ 10 + c.dst_port

-- the operation
abbrev pub control_op : Control → ℕ
control_op c = ctrl_status_number c.status * 2 ^ 30 + ctrl_op_number c.op * 2 ^ 24 + c.enables * 2 ^ 20 + c.addr

-- the time's bytes
abbrev pub time_spelled : Option ℕ → List ℕ
time_spelled None = []
time_spelled (Some time) = to_le_bytes w64 time

-- four zero bytes where the size isn't whole words
abbrev pub control_rest : ℕ → List ℕ
control_rest size = if size % 8 == 0 then [] else to_le_bytes w32 0

-- the canonical spelling
abbrev pub control_bytes : Control → List ℕ
control_bytes c = to_le_bytes w64 (control_head c) ++ time_spelled c.time ++ to_le_bytes w32 (control_op c) ++ halves_bytes c.words
    ++ control_rest (control_size (time_bytes c.time) (length c.words))
