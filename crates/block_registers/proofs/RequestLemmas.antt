-- A list of requests leaves the fold of their accepted writes.
use Rattle.std.proofs.Common.{◌≡◌, ◌∷◌, ◌∙◌, [], ℕ, List, Bool, true, false, cond, length, sym, ap, refl, length-set}
use Rattle.std.specs.List.{flat_map}
use Rattle.std.proofs.lemmas.List.Sums.{fold-append}
use Rattle.chdr_words.specs.declared.control.Control.{Control}
use Rattle.chdr_words.specs.declared.control.CtrlOp.{CtrlOp}
use Rattle.chdr_words.specs.declared.control.CtrlOp.TheVariants.{Sleep, Write, Read, ReadWrite, BlockWrite, BlockRead, Poll, Other, User}
use Rattle.block_registers.specs.Registers.{Registers, Change, is_register, written, written_one}
use Rattle.block_registers.specs.Operations.{Bank, accepts, accepts_op, accepted, writes_op, registers_after, after_all, WritesAreFolded}

length-cond : (b : Bool) (xs ys : List ℕ) → length xs ≡ length ys → length (cond b xs ys) ≡ length ys
length-cond true xs ys e = e
length-cond false xs ys e = refl

length-written_one : (masks words : List ℕ) (w : Change) → length (written_one masks words w) ≡ length words
unfolding written_one
length-written_one masks words w = length-cond (is_register words w.addr) _ words (length-set words _ _)

pub length-written : (masks words : List ℕ) (ws : List Change) → length (written masks words ws) ≡ length words
length-written masks words [] = refl
length-written masks words (w ∷ ws) =
    length-written masks (written_one masks words w) ws ∙ length-written_one masks words w

-- what is accepted depends on the number of the words alone
accepts_op-same : (op : CtrlOp) (a b : Registers) (addr : ℕ) (values : List ℕ) → length a.words ≡ length b.words →
    accepts_op op (Bank a) addr values ≡ accepts_op op (Bank b) addr values
accepts_op-same Sleep a b addr values e = refl
accepts_op-same Write a b addr values e = rw e refl
accepts_op-same Read a b addr values e = rw e refl
accepts_op-same ReadWrite a b addr values e = rw e refl
accepts_op-same BlockWrite a b addr values e = simp e
accepts_op-same BlockRead a b addr values e = simp e
accepts_op-same Poll a b addr values e = refl
accepts_op-same (Other n) a b addr values e = refl
accepts_op-same (User n) a b addr values e = refl

accepted-same : (a b : Registers) (request : Control) → length a.words ≡ length b.words →
    accepted (Bank a) request ≡ accepted (Bank b) request
unfolding accepted accepts
accepted-same a b request e =
    ap (λ test. cond test (writes_op request.op request.enables request.addr request.words) [])
    (accepts_op-same request.op a b request.addr request.words e)

flat_map-accepted : (a b : Registers) (requests : List Control) → length a.words ≡ length b.words →
    flat_map (accepted (Bank a)) requests ≡ flat_map (accepted (Bank b)) requests
flat_map-accepted a b [] e = refl
flat_map-accepted a b (r ∷ rs) e = rw (accepted-same a b r e, flat_map-accepted a b rs e) refl

pub words-after_all : (bank : Registers) (requests : List Control) →
    (after_all bank requests).words ≡ written bank.masks bank.words (flat_map (accepted (Bank bank)) requests)
unfolding registers_after
words-after_all bank [] = refl
words-after_all bank (r ∷ rs) =
    let next : Registers = registers_after bank r in
    let e : length next.words ≡ length bank.words = length-written bank.masks bank.words (accepted (Bank bank) r) in
    words-after_all next rs
    ∙ ap (written bank.masks next.words) (flat_map-accepted next bank rs e)
    ∙ sym (fold-append (written_one bank.masks) bank.words (accepted (Bank bank) r) (flat_map (accepted (Bank bank)) rs))

masks-after_all : (bank : Registers) (requests : List Control) → (after_all bank requests).masks ≡ bank.masks
unfolding registers_after
masks-after_all bank [] = refl
masks-after_all bank (r ∷ rs) = masks-after_all (registers_after bank r) rs

pub writes_are_folded : WritesAreFolded
writes_are_folded bank requests = (
  words-after_all bank requests,
  masks-after_all bank requests,
  ap length (words-after_all bank requests)
      ∙ length-written bank.masks bank.words (flat_map (accepted (Bank bank)) requests),
)
