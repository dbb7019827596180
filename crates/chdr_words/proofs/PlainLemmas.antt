-- Statuses and commands: what is read is spelled so, and what is spelled so is read.
use Rattle.std.proofs.Common.{◌≡◌, ℕ, zero, suc, ◌<◌, ◌≤◌, List, length, Ok, refl, sym, ap, subst, arith}
use Rattle.std.proofs.lemmas.Bool.Decides.{nat_tests}
use Rattle.chdr_words.specs.Field.{field, word_at}
use Rattle.chdr_words.specs.declared.status.Status.{Status}
use Rattle.chdr_words.specs.declared.status.StatusCode.{StatusCode}
use Rattle.chdr_words.specs.declared.status.StatusCode.TheVariants as codes
use Rattle.chdr_words.specs.declared.command.Command.{Command}
use Rattle.chdr_words.specs.declared.command.CmdOp.{CmdOp}
use Rattle.chdr_words.specs.declared.command.CmdOp.TheVariants as ops
use Rattle.chdr_words.specs.Status.{FitsStatusCode, SpellsStatus, status_number, status_code_of, status_of, status_read}
use Rattle.chdr_words.specs.Command.{FitsCmdOp, SpellsCommand, cmd_number, cmd_op_of, command_of, command_read}

-- ---- status

pub record Code (n : ℕ) (code : StatusCode) : Type 0 where
  pub number : n ≡ status_number code
  pub listed : FitsStatusCode code

other_code : (n : ℕ) → 5 ≤ n → status_code_of n ≡ codes.Other n
other_code n low = grind (arith, nat_tests)

code_back_high : (n : ℕ) → 5 ≤ n → n < 16 → Code n (status_code_of n)
code_back_high n low high = subst (λ (code : StatusCode). Code n code) (sym (other_code n low)) (record { number = refl; listed = (low, high) })

code_back : (n : ℕ) → n < 16 → Code n (status_code_of n)
code_back zero lt = record { number = refl; listed = tt }
code_back (suc zero) lt = record { number = refl; listed = tt }
code_back (suc (suc zero)) lt = record { number = refl; listed = tt }
code_back (suc (suc (suc zero))) lt = record { number = refl; listed = tt }
code_back (suc (suc (suc (suc zero)))) lt = record { number = refl; listed = tt }
code_back (suc (suc (suc (suc (suc n))))) lt = code_back_high (suc (suc (suc (suc (suc n))))) (omega arith) lt

code_again : (n : ℕ) (code : StatusCode) → n ≡ status_number code → FitsStatusCode code → status_code_of n ≡ code
code_again n codes.Okay e fits = rw e refl
code_again n codes.CmdErr e fits = rw e refl
code_again n codes.SeqErr e fits = rw e refl
code_again n codes.DataErr e fits = rw e refl
code_again n codes.RtErr e fits = rw e refl
code_again n (codes.Other k) e fits = rw e (other_code k fits.0)

pub status_takes : (bytes : List ℕ) → length bytes ≡ 32 → SpellsStatus (status_of bytes) bytes
status_takes bytes size =
    let code = code_back (field (word_at bytes 0) 19 16) (omega arith) in
    record { size = size; cap_bytes = refl; code = code.number; listed = code.listed; src = refl; got_packets = refl; cap_packets = refl; got_bytes = refl; info = refl; buffer = refl }

abbrev status_made : StatusCode → ℕ → ℕ → ℕ → ℕ → ℕ → ℕ → ℕ → Status
status_made code src cap_bytes cap_packets got_packets got_bytes info buffer =
    record { code = code; src = record { 0 = src }; cap_bytes = cap_bytes; cap_packets = cap_packets; got_packets = got_packets; got_bytes = got_bytes; info = info; buffer = buffer }

status_same : (code code' : StatusCode) (a a' b b' c c' d d' e e' f f' g g' : ℕ) → code ≡ code' → a ≡ a' → b ≡ b' → c ≡ c' → d ≡ d' → e ≡ e' → f ≡ f' → g ≡ g'
    → status_made code a b c d e f g ≡ status_made code' a' b' c' d' e' f' g'
status_same code code' a a' b b' c c' d d' e e' f f' g g' h1 h2 h3 h4 h5 h6 h7 h8 = cc

pub status_again : (bytes : List ℕ) (s : Status) → SpellsStatus s bytes → status_read bytes ≡ Ok s
status_again bytes s h =
    let is : status_of bytes ≡ s = status_same _ s.code _ s.src.0 _ s.cap_bytes _ s.cap_packets _ s.got_packets _ s.got_bytes _ s.info _ s.buffer
    (code_again _ s.code h.code h.listed) h.src h.cap_bytes h.cap_packets h.got_packets h.got_bytes h.info h.buffer in
    rw h.size (ap (λ (x : Status). Ok x) is)

-- ---- command

pub record Op (n : ℕ) (op : CmdOp) : Type 0 where
  pub number : n ≡ cmd_number op
  pub listed : FitsCmdOp op

other_op : (n : ℕ) → 3 ≤ n → cmd_op_of n ≡ ops.Other n
other_op n low = grind (arith, nat_tests)

op_back_high : (n : ℕ) → 3 ≤ n → n < 16 → Op n (cmd_op_of n)
op_back_high n low high = subst (λ (op : CmdOp). Op n op) (sym (other_op n low)) (record { number = refl; listed = (low, high) })

op_back : (n : ℕ) → n < 16 → Op n (cmd_op_of n)
op_back zero lt = record { number = refl; listed = tt }
op_back (suc zero) lt = record { number = refl; listed = tt }
op_back (suc (suc zero)) lt = record { number = refl; listed = tt }
op_back (suc (suc (suc n))) lt = op_back_high (suc (suc (suc n))) (omega arith) lt

op_again : (n : ℕ) (op : CmdOp) → n ≡ cmd_number op → FitsCmdOp op → cmd_op_of n ≡ op
op_again n ops.Init e fits = rw e refl
op_again n ops.Ping e fits = rw e refl
op_again n ops.Resync e fits = rw e refl
op_again n (ops.Other k) e fits = rw e (other_op k fits.0)

pub command_takes : (bytes : List ℕ) → length bytes ≡ 16 → SpellsCommand (command_of bytes) bytes
command_takes bytes size =
    let op = op_back (field (word_at bytes 0) 19 16) (omega arith) in
    record { size = size; packets = refl; op_data = refl; op = op.number; listed = op.listed; src = refl; bytes_counted = refl }

abbrev command_made : CmdOp → ℕ → ℕ → ℕ → ℕ → Command
command_made op op_data src packets bytes = record { op = op; op_data = op_data; src = record { 0 = src }; packets = packets; bytes = bytes }

command_same : (op op' : CmdOp) (a a' b b' c c' d d' : ℕ) → op ≡ op' → a ≡ a' → b ≡ b' → c ≡ c' → d ≡ d' → command_made op a b c d ≡ command_made op' a' b' c' d'
command_same op op' a a' b b' c c' d d' h1 h2 h3 h4 h5 = cc

pub command_again : (bytes : List ℕ) (c : Command) → SpellsCommand c bytes → command_read bytes ≡ Ok c
command_again bytes c h =
    let is : command_of bytes ≡ c = command_same _ c.op _ c.op_data _ c.src.0 _ c.packets _ c.bytes (op_again _ c.op h.op h.listed) h.op_data h.src h.packets h.bytes_counted in
    rw h.size (ap (λ (x : Command). Ok x) is)
