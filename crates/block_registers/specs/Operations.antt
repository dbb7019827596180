-- Control operations on registers; docs/registers.md has their table.
use Rattle.std.specs.Prelude.{◌≡◌, ◌+◌, ◌*◌, ◌&&◌, ℕ, Bool, true, false, List, [], ◌∷◌, Option, Some, None, if◌then◌else◌, nat_lt, length, map, slice_index}
use Rattle.std.specs.List.{flat_map, range_with_len, list_all, fold}
use Rattle.chdr_words.specs.declared.epid.Epid.{Epid}
use Rattle.chdr_words.specs.declared.control.Control.{Control}
use Rattle.chdr_words.specs.declared.control.CtrlOp.{CtrlOp}
use Rattle.chdr_words.specs.declared.control.CtrlOp.TheVariants.{Sleep, Write, Read, ReadWrite, BlockWrite, BlockRead, Poll, Other, User}
use Rattle.chdr_words.specs.declared.control.CtrlStatus.{CtrlStatus}
use Rattle.chdr_words.specs.declared.control.CtrlStatus.TheVariants.{Okay, CmdErr}
use Rattle.block_registers.specs.Registers.{Registers, is_register, word_at, Change, written}

-- what answers at a port: nothing, fixed words that cannot be written, or a bank
pub data Place : Type 0 where
  Nowhere : Place
  Fixed : List ℕ → Place
  Bank : Registers → Place

abbrev pub is_there : Place → Bool
is_there Nowhere = false
is_there (Fixed words) = true
is_there (Bank registers) = true

abbrev pub is_writable : Place → Bool
is_writable Nowhere = false
is_writable (Fixed words) = false
is_writable (Bank registers) = true

abbrev pub words_of : Place → List ℕ
words_of Nowhere = []
words_of (Fixed words) = words
words_of (Bank registers) = registers.words

-- `count` registers stand one after another from the address on
abbrev pub are_registers : List ℕ → ℕ → ℕ → Bool
are_registers words addr count = list_all (λ k. is_register words (addr + 4 * k)) (range_with_len 0 count)

-- their words
abbrev pub words_from : List ℕ → ℕ → ℕ → List ℕ
words_from words addr count = map (λ k. word_at words (addr + 4 * k)) (range_with_len 0 count)

-- where a bank or block is there, an operation is carried out
abbrev pub accepts_op : CtrlOp → Place → ℕ → List ℕ → Bool
accepts_op Sleep place addr values = true
accepts_op Write place addr values = is_writable place && nat_lt 0 (length values) && is_register (words_of place) addr
accepts_op Read place addr values = is_register (words_of place) addr
accepts_op ReadWrite place addr values =
    is_writable place && nat_lt 0 (length values) && is_register (words_of place) addr
accepts_op BlockWrite place addr values =
    is_writable place && nat_lt 0 (length values) && are_registers (words_of place) addr (length values)
accepts_op BlockRead place addr values =
    nat_lt 0 (length values) && are_registers (words_of place) addr (length values)
accepts_op Poll place addr values = false
accepts_op (Other code) place addr values = false
accepts_op (User code) place addr values = false

-- the words that an operation answers
abbrev pub reads_op : CtrlOp → List ℕ → ℕ → List ℕ → List ℕ
reads_op Sleep words addr values = []
reads_op Write words addr values = []
reads_op Read words addr values = word_at words addr ∷ []
reads_op ReadWrite words addr values = word_at words addr ∷ []
reads_op BlockWrite words addr values = []
reads_op BlockRead words addr values = words_from words addr (length values)
reads_op Poll words addr values = []
reads_op (Other code) words addr values = []
reads_op (User code) words addr values = []

abbrev pub first_change : ℕ → ℕ → List ℕ → Change
first_change enables addr values = record { addr = addr; value = slice_index values 0; enables = enables }

-- write k of a block of values
abbrev pub change_at : ℕ → ℕ → List ℕ → ℕ → Change
change_at enables addr values k = record { addr = addr + 4 * k; value = slice_index values k; enables = enables }

abbrev pub changes : ℕ → ℕ → List ℕ → ℕ → List Change
changes enables addr values count = map (change_at enables addr values) (range_with_len 0 count)

-- the writes of an operation, in order
abbrev pub writes_op : CtrlOp → ℕ → ℕ → List ℕ → List Change
writes_op Sleep enables addr values = []
writes_op Write enables addr values = first_change enables addr values ∷ []
writes_op Read enables addr values = []
writes_op ReadWrite enables addr values = first_change enables addr values ∷ []
writes_op BlockWrite enables addr values = changes enables addr values (length values)
writes_op BlockRead enables addr values = []
writes_op Poll enables addr values = []
writes_op (Other code) enables addr values = []
writes_op (User code) enables addr values = []

-- a request is carried out; every other is answered with CMDERR
unfoldable pub accepts : Place → Control → Bool
accepts place request = is_there place && accepts_op request.op place request.addr request.words

-- the words of the answer; none is CMDERR
unfoldable pub outcome : Place → Control → Option (List ℕ)
outcome place request =
    if accepts place request then Some (reads_op request.op (words_of place) request.addr request.words) else None

-- the writes that a request does
unfoldable pub accepted : Place → Control → List Change
accepted place request =
    if accepts place request then writes_op request.op request.enables request.addr request.words else []

-- the registers of a bank after a request
unfoldable pub registers_after : Registers → Control → Registers
registers_after bank request = record bank { words = written bank.masks bank.words (accepted (Bank bank) request) }

-- the registers after requests in turn
abbrev pub after_all : Registers → List Control → Registers
after_all bank requests = fold registers_after bank requests

-- requests in turn leave the words that their accepted writes leave, and the masks; which writes are accepted can be
-- judged beforehand, since that depends on the number of the words alone
abbrev pub WritesAreFolded : Type 0
WritesAreFolded = (bank : Registers) (requests : List Control) →
    ((after_all bank requests).words ≡ written bank.masks bank.words (flat_map (accepted (Bank bank)) requests))
    × ((after_all bank requests).masks ≡ bank.masks)
    × (length (after_all bank requests).words ≡ length bank.words)

abbrev pub status_of : Option (List ℕ) → CtrlStatus
status_of None = CmdErr
status_of (Some words) = Okay

abbrev pub words_in : Option (List ℕ) → List ℕ
words_in None = []
words_in (Some words) = words

-- the acknowledgement of a request by the endpoint `me`
unfoldable pub acknowledgement : Epid → Control → Option (List ℕ) → Control
acknowledgement me request words = record {
  src = me;
  ack = true;
  time = None;
  seq = request.seq;
  src_port = request.dst_port;
  dst_port = request.src_port;
  status = status_of words;
  op = request.op;
  enables = request.enables;
  addr = request.addr;
  words = words_in words;
}

-- what the endpoint `me` answers for the place at the request's port
abbrev pub answer : Epid → Place → Control → Control
answer me place request = acknowledgement me request (outcome place request)
