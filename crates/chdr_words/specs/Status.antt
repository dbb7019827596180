-- The payload of a stream status.
use Rattle.std.specs.Prelude.{◌≡◌, ℕ, ◌<◌, ◌≤◌, ◌^◌, ◌==◌, Bool, if◌then◌else◌, List, length, Result, Ok, Err}
use Rattle.chdr_words.specs.Field.{field, word_at}
use Rattle.chdr_words.specs.declared.fault.MsgFault.{MsgFault}
use Rattle.chdr_words.specs.declared.fault.MsgFault.TheVariants.{BadStatusLength}
use Rattle.chdr_words.specs.declared.status.Status.{Status}
use Rattle.chdr_words.specs.declared.status.StatusCode.{StatusCode}
use Rattle.chdr_words.specs.declared.status.StatusCode.TheVariants.{Okay, CmdErr, SeqErr, DataErr, RtErr, Other}

-- the codes without a name are 5 to 15
abbrev pub FitsStatusCode : StatusCode → Type 0
FitsStatusCode Okay = Unit {0}
FitsStatusCode CmdErr = Unit {0}
FitsStatusCode SeqErr = Unit {0}
FitsStatusCode DataErr = Unit {0}
FitsStatusCode RtErr = Unit {0}
FitsStatusCode (Other n) = (5 ≤ n) × (n < 2 ^ 4)

-- each field fits its bits
pub record FitsStatus (s : Status) : Type 0 where
  pub cap_bytes : s.cap_bytes < 2 ^ 40
  pub code : FitsStatusCode s.code
  pub got_packets : s.got_packets < 2 ^ 40
  pub cap_packets : s.cap_packets < 2 ^ 24
  pub info : s.info < 2 ^ 48

-- the code's number on the wire
abbrev pub status_number : StatusCode → ℕ
status_number Okay = 0
status_number CmdErr = 1
status_number SeqErr = 2
status_number DataErr = 3
status_number RtErr = 4
status_number (Other n) = n

-- the bytes spell the status: four words, the bits 23..20 of the first one free
pub record SpellsStatus (s : Status) (bytes : List ℕ) : Type 0 where
  pub size : length bytes ≡ 32
  pub cap_bytes : field (word_at bytes 0) 63 24 ≡ s.cap_bytes
  pub code : field (word_at bytes 0) 19 16 ≡ status_number s.code
  pub listed : FitsStatusCode s.code
  pub src : field (word_at bytes 0) 15 0 ≡ s.src.0
  pub got_packets : field (word_at bytes 8) 63 24 ≡ s.got_packets
  pub cap_packets : field (word_at bytes 8) 23 0 ≡ s.cap_packets
  pub got_bytes : word_at bytes 16 ≡ s.got_bytes
  pub info : field (word_at bytes 24) 63 16 ≡ s.info
  pub buffer : field (word_at bytes 24) 15 0 ≡ s.buffer

-- its reserved bits are zero
abbrev pub status_plain : List ℕ → Bool
status_plain bytes = field (word_at bytes 0) 23 20 == 0

-- the code that a number below 16 stands for
abbrev pub status_code_of : ℕ → StatusCode
status_code_of n =
    if n == 0 then Okay else if n == 1 then CmdErr else if n == 2 then SeqErr else if n == 3 then DataErr
    else if n == 4 then RtErr else Other n

-- reading: each field from its bits
abbrev pub status_of : List ℕ → Status
status_of bytes = record {
  cap_bytes = field (word_at bytes 0) 63 24;
  code = status_code_of (field (word_at bytes 0) 19 16);
  src = record { 0 = field (word_at bytes 0) 15 0 };
  got_packets = field (word_at bytes 8) 63 24;
  cap_packets = field (word_at bytes 8) 23 0;
  got_bytes = word_at bytes 16;
  info = field (word_at bytes 24) 63 16;
  buffer = field (word_at bytes 24) 15 0;
}

-- a payload of another size is refused
abbrev pub status_read : List ℕ → Result Status MsgFault
status_read bytes = if length bytes == 32 then Ok (status_of bytes) else Err BadStatusLength
