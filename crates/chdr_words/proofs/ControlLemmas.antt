-- The control payload: what is read is spelled so, what is spelled so is read, and what is written is spelled so.
use Rattle.std.proofs.Common.{eq-eqb, ◌≡◌, ℕ, zero, suc, ◌+◌, ◌*◌, ◌<◌, ◌≤◌, ◌⊎◌, inl, inr, Bool, true, false, cond, eqb, List, Option, Some, None, Result, Ok, Err, refl, sym, ap, subst, ◌∙◌, arith}
use Rattle.std.specs.Prelude.{◌↔◌, IfSome, IfOk, ◌||◌}
use Rattle.std.proofs.lemmas.Bool.{eqb-true}
use Rattle.std.proofs.lemmas.Bool.Decides.{nat_tests}
use Rattle.chdr_words.specs.Field.{field, word_at, half_at, halves_at}
use Rattle.chdr_words.specs.Header.{bit_of}
use Rattle.chdr_words.specs.Wire.{time_bytes}
use Rattle.chdr_words.specs.declared.control.Control.{Control}
use Rattle.chdr_words.specs.declared.control.CtrlOp.{CtrlOp}
use Rattle.chdr_words.specs.declared.control.CtrlOp.TheVariants as ops
use Rattle.chdr_words.specs.declared.control.CtrlStatus.{CtrlStatus}
use Rattle.chdr_words.specs.declared.control.CtrlStatus.TheVariants as statuses
use Rattle.chdr_words.specs.declared.fault.MsgFault.{MsgFault}
use Rattle.chdr_words.specs.declared.fault.MsgFault.TheVariants.{BadControlLength}
use Rattle.chdr_words.specs.Control.{FitsCtrlOp, SpellsControl, SpellsNoControl, ctrl_status_number, ctrl_op_number, ctrl_status_of, ctrl_op_of, time_bit, told_time, told_count, control_sized, control_of, control_read}
use Rattle.chdr_words.proofs.WordLemmas.{length-each_at}

-- ---- flags and codes

bit_back : (n : ℕ) → n < 2 → n ≡ bit_of (eqb n 1)
bit_back n lt = grind (arith, nat_tests)

bit_again : (n : ℕ) (b : Bool) → n ≡ bit_of b → eqb n 1 ≡ b
bit_again n true e = rw e refl
bit_again n false e = rw e refl

-- a time that is told by a bit
pub record Timed (n t : ℕ) (o : Option ℕ) : Type 0 where
  pub bit : n ≡ time_bit o
  pub bytes : 8 * n ≡ time_bytes o
  pub is : IfSome o (λ x. t ≡ x)

time_back : (n t : ℕ) (b : Bool) → n ≡ bit_of b → Timed n t (cond b (Some t) None)
time_back n t true e = record { bit = e; bytes = rw e refl; is = refl }
time_back n t false e = record { bit = e; bytes = rw e refl; is = tt }

time_again : (n t : ℕ) (o : Option ℕ) → n ≡ time_bit o → IfSome o (λ x. t ≡ x) → cond (eqb n 1) (Some t) None ≡ o
time_again n t None e h = rw e refl
time_again n t (Some x) e h = rw (e, h) refl

eight_times : (n : ℕ) (o : Option ℕ) → n ≡ time_bit o → 8 * n ≡ time_bytes o
eight_times n None e = rw e refl
eight_times n (Some x) e = rw e refl

status_back : (n : ℕ) → n < 4 → n ≡ ctrl_status_number (ctrl_status_of n)
status_back zero lt = refl
status_back (suc zero) lt = refl
status_back (suc (suc zero)) lt = refl
status_back (suc (suc (suc n))) lt = let e : n ≡ 0 = omega arith in rw e refl

status_again : (n : ℕ) (s : CtrlStatus) → n ≡ ctrl_status_number s → ctrl_status_of n ≡ s
status_again n statuses.Okay e = rw e refl
status_again n statuses.CmdErr e = rw e refl
status_again n statuses.TsErr e = rw e refl
status_again n statuses.Warning e = rw e refl

pub record Lists (n : ℕ) (op : CtrlOp) : Type 0 where
  pub number : n ≡ ctrl_op_number op
  pub listed : FitsCtrlOp op

other_again : (n : ℕ) → 7 ≤ n → n < 10 → ctrl_op_of n ≡ ops.Other n
other_again n low high = grind (arith, nat_tests)

user_again : (n : ℕ) → 10 ≤ n → ctrl_op_of n ≡ ops.User n
user_again n low = grind (arith, nat_tests)

user_back : (n : ℕ) → 10 ≤ n → n < 16 → Lists n (ctrl_op_of n)
user_back n low high = subst (λ (op : CtrlOp). Lists n op) (sym (user_again n low)) (record { number = refl; listed = (low, high) })

op_back : (n : ℕ) → n < 16 → Lists n (ctrl_op_of n)
op_back zero lt = record { number = refl; listed = tt }
op_back (suc zero) lt = record { number = refl; listed = tt }
op_back (suc (suc zero)) lt = record { number = refl; listed = tt }
op_back (suc (suc (suc zero))) lt = record { number = refl; listed = tt }
op_back (suc (suc (suc (suc zero)))) lt = record { number = refl; listed = tt }
op_back (suc (suc (suc (suc (suc zero))))) lt = record { number = refl; listed = tt }
op_back (suc (suc (suc (suc (suc (suc zero)))))) lt = record { number = refl; listed = tt }
op_back (suc (suc (suc (suc (suc (suc (suc zero))))))) lt = record { number = refl; listed = (omega arith, omega arith) }
op_back (suc (suc (suc (suc (suc (suc (suc (suc zero)))))))) lt = record { number = refl; listed = (omega arith, omega arith) }
op_back (suc (suc (suc (suc (suc (suc (suc (suc (suc zero))))))))) lt = record { number = refl; listed = (omega arith, omega arith) }
op_back (suc (suc (suc (suc (suc (suc (suc (suc (suc (suc n)))))))))) lt = user_back (suc (suc (suc (suc (suc (suc (suc (suc (suc (suc n)))))))))) (omega arith) lt

op_again : (n : ℕ) (op : CtrlOp) → n ≡ ctrl_op_number op → FitsCtrlOp op → ctrl_op_of n ≡ op
op_again n ops.Sleep e fits = rw e refl
op_again n ops.Write e fits = rw e refl
op_again n ops.Read e fits = rw e refl
op_again n ops.ReadWrite e fits = rw e refl
op_again n ops.BlockWrite e fits = rw e refl
op_again n ops.BlockRead e fits = rw e refl
op_again n ops.Poll e fits = rw e refl
op_again n (ops.Other code) e fits = rw e (other_again code fits.0 fits.1)
op_again n (ops.User code) e fits = rw e (user_again code fits.0)

-- ---- reading

or_cases : (a b : Bool) → (a || b) ≡ true → (a ≡ true) ⊎ (b ≡ true)
or_cases true b e = inl refl
or_cases false b e = inr e

or_left : (a b : Bool) → a ≡ true → (a || b) ≡ true
or_left true b e = refl
or_left false b e = absurd cc

or_right : (a b : Bool) → b ≡ true → (a || b) ≡ true
or_right true b e = refl
or_right false b e = e

pub control_takes : (bytes : List ℕ) → control_sized bytes ≡ true → SpellsControl (control_of bytes) bytes
control_takes bytes sized =
    let first = word_at bytes 0 in
    let timed = time_back (field first 30 30) (word_at bytes 8) (eqb (field first 30 30) 1) (bit_back (field first 30 30) (omega arith)) in
    let op = op_back (field (half_at bytes (8 + told_time bytes)) 27 24) (omega arith) in
    let count = length-each_at half_at 4 bytes (12 + told_time bytes) (told_count bytes) in
    record {
      size = rw (← timed.bytes, count) (sizes (or_cases _ _ sized));
      src = refl;
      ack = bit_back (field first 31 31) (omega arith);
      has_time = timed.bit;
      seq = refl;
      count = sym count;
      src_port = refl;
      dst_port = refl;
      time = timed.is;
      status = rw (← timed.bytes) (status_back (field (half_at bytes (8 + told_time bytes)) 31 30) (omega arith));
      op = rw (← timed.bytes) op.number;
      listed = op.listed;
      enables = rw (← timed.bytes) refl;
      addr = rw (← timed.bytes) refl;
      words = rw (← timed.bytes, count) refl;
    }
  where
    sizes : {n a b : ℕ} → (eqb n a ≡ true) ⊎ (eqb n b ≡ true) → (n ≡ a) ⊎ (n ≡ b)
    sizes (inl e) = inl (eqb-true _ _ e)
    sizes (inr e) = inr (eqb-true _ _ e)

abbrev made : ℕ → Bool → Option ℕ → ℕ → ℕ → ℕ → CtrlStatus → CtrlOp → ℕ → ℕ → List ℕ → Control
made src ack time seq src_port dst_port status op enables addr words = record { src = record { 0 = src }; ack = ack; time = time; seq = seq; src_port = src_port; dst_port = dst_port; status = status; op = op; enables = enables; addr = addr; words = words }

-- field by field the same
rebuilt : (src src' : ℕ) (ack ack' : Bool) (time time' : Option ℕ) (seq seq' : ℕ) (src_port src_port' : ℕ) (dst_port dst_port' : ℕ) (status status' : CtrlStatus) (op op' : CtrlOp) (enables enables' : ℕ) (addr addr' : ℕ) (words words' : List ℕ)
    → src ≡ src' → ack ≡ ack' → time ≡ time' → seq ≡ seq' → src_port ≡ src_port' → dst_port ≡ dst_port' → status ≡ status' → op ≡ op' → enables ≡ enables' → addr ≡ addr' → words ≡ words'
    → made src ack time seq src_port dst_port status op enables addr words ≡ made src' ack' time' seq' src_port' dst_port' status' op' enables' addr' words'
rebuilt src src' ack ack' time time' seq seq' src_port src_port' dst_port dst_port' status status' op op' enables enables' addr addr' words words' h1 h2 h3 h4 h5 h6 h7 h8 h9 h10 h11 = cc

pub control_again : (bytes : List ℕ) (c : Control) → SpellsControl c bytes → control_read bytes ≡ Ok c
control_again bytes c s =
    let first = word_at bytes 0 in
    let told : told_time bytes ≡ time_bytes c.time = eight_times (field first 30 30) c.time s.has_time in
    let sized : control_sized bytes ≡ true = rw (told, s.count) (sizes s.size) in
    let ack : eqb (field first 31 31) 1 ≡ c.ack = bit_again (field first 31 31) c.ack s.ack in
    let time : cond (eqb (field first 30 30) 1) (Some (word_at bytes 8)) None ≡ c.time = time_again (field first 30 30) (word_at bytes 8) c.time s.has_time s.time in
    let status : ctrl_status_of (field (half_at bytes (8 + told_time bytes)) 31 30) ≡ c.status = rw told (status_again _ c.status s.status) in
    let op : ctrl_op_of (field (half_at bytes (8 + told_time bytes)) 27 24) ≡ c.op = rw told (op_again _ c.op s.op s.listed) in
    let enables : field (half_at bytes (8 + told_time bytes)) 23 20 ≡ c.enables = rw told s.enables in
    let addr : field (half_at bytes (8 + told_time bytes)) 19 0 ≡ c.addr = rw told s.addr in
    let words : halves_at bytes (12 + told_time bytes) (told_count bytes) ≡ c.words = rw (told, s.count) s.words in
    let is : control_of bytes ≡ c = rebuilt _ c.src.0 _ c.ack _ c.time _ c.seq _ c.src_port _ c.dst_port _ c.status _ c.op _ c.enables _ c.addr _ c.words s.src ack time s.seq s.src_port s.dst_port status op enables addr words in
    rw sized (ap (λ (x : Control). Ok x) is)
  where
    sizes : {n a b : ℕ} → (n ≡ a) ⊎ (n ≡ b) → (eqb n a || eqb n b) ≡ true
    sizes {n} {a} {b} (inl e) = or_left (eqb n a) (eqb n b) (eq-eqb n a e)
    sizes {n} {a} {b} (inr e) = or_right (eqb n a) (eqb n b) (eq-eqb n b e)

pub control_reads : (bytes : List ℕ) (r : Result Control MsgFault) → r ≡ control_read bytes → IfOk r (λ c. SpellsControl c bytes)
control_reads bytes r e = subst (λ (x : Result Control MsgFault). IfOk x (λ c. SpellsControl c bytes)) (sym e) (cases (control_sized bytes) refl)
  where
    cases : (b : Bool) → control_sized bytes ≡ b → IfOk (control_read bytes) (λ c. SpellsControl c bytes)
    cases true sized = rw sized (control_takes bytes sized)
    cases false sized = rw sized tt

abbrev bad : Result Control MsgFault
bad = Err BadControlLength

bad_no : (c : Control) → bad ≡ Ok c → ⊥
bad_no c e = absurd cc

-- refused exactly if nothing is spelled
pub control_refused : (bytes : List ℕ) → (control_read bytes ≡ Err BadControlLength) ↔ SpellsNoControl bytes
control_refused bytes = (λ e c s. bad_no c (sym e ∙ control_again bytes c s), λ none. back none (control_sized bytes) refl)
  where
    back : SpellsNoControl bytes → (b : Bool) → control_sized bytes ≡ b → control_read bytes ≡ Err BadControlLength
    back none true sized = absurd (none (control_of bytes) (control_takes bytes sized))
    back none false sized = rw sized refl
