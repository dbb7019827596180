-- Lists of requests to slots: what each slot sees, and what is answered.
use Rattle.std.proofs.Common.{◌≡◌, ◌∙◌, ℕ, List, [], ◌∷◌, ◌++◌, Option, Some, None, Bool, true, false, cond, eqb, refl, sym, ap, length, get_or, set, option_map, ⊎_elim, arith, length-set, ◌<◌, ◌≤◌, ◌⊎◌, inl, inr}
use Rattle.std.proofs.lemmas.Bool.{cases_eq, cases_lt, eq-eqb, eqb-true}
use Rattle.std.proofs.lemmas.List.{get_or_past, set_past}
use Rattle.std.proofs.Common.{get_or-set_same, get_or-set_other}
use Rattle.chdr_words.specs.declared.control.Control.{Control}
use Rattle.chdr_words.specs.declared.epid.Epid.{Epid}
use Rattle.block_registers.specs.Registers.{Registers}
use Rattle.block_registers.specs.Operations.{registers_after, after_all, answer}
use Rattle.block_registers.specs.Slots.{bank_at, place_of, slots_after, Call, slots_after_all, answers, is_at, requests_at, EachSlotSeesItsOwn, AnswersGoOn}

-- the bank of a slot after one request: that slot's, or another's
abbrev seen : Bool → Option Registers → Control → Option Registers
seen true bank request = option_map (λ b. registers_after b request) bank
seen false bank request = bank

bank_at-set : (slots : List (Option Registers)) (slot port : ℕ) (request : Control) (b : Bool) → eqb slot port ≡ b →
    bank_at (set slots slot (option_map (λ k. registers_after k request) (bank_at slots slot))) port ≡ seen b (bank_at slots port) request
bank_at-set slots slot port request false e =
    let apart : slot ≡ port → ⊥ = λ same. let z : true ≡ false = sym (eq-eqb slot port same) ∙ e in cc in
    get_or-set_other slots slot port (option_map (λ k. registers_after k request) (bank_at slots slot)) None (λ same. apart (sym same))
bank_at-set slots slot port request true e =
    ⊎_elim
    (λ in_range. rw (← eqb-true slot port e) (get_or-set_same slots slot (option_map (λ k. registers_after k request) (bank_at slots slot)) None in_range))
    (λ past. rw (← eqb-true slot port e)
    (ap (λ ss. get_or ss slot None) (set_past slots slot (option_map (λ k. registers_after k request) (bank_at slots slot)) past)
    ∙ get_or_past slots slot None past
    ∙ sym (ap (option_map (λ k. registers_after k request)) (get_or_past slots slot None past))))
    (cases_lt slot (length slots))

after_one : (slots : List (Option Registers)) (call : Call) (port : ℕ) →
    bank_at (slots_after slots call.0 call.1) port ≡ seen (is_at call.0 port) (bank_at slots port) call.1
unfolding slots_after
after_one slots (None, request) port = refl
after_one slots (Some slot, request) port = bank_at-set slots slot port request (eqb slot port) refl

length_one : (slots : List (Option Registers)) (call : Call) → length (slots_after slots call.0 call.1) ≡ length slots
unfolding slots_after
length_one slots (None, request) = refl
length_one slots (Some slot, request) = length-set slots slot _

map_map : {A B C : Type 0} (f : B → C) (g : A → B) (o : Option A) → option_map f (option_map g o) ≡ option_map (λ a. f (g a)) o
map_map f g None = refl
map_map f g (Some a) = refl

map_same : {A : Type 0} (o : Option A) → o ≡ option_map (λ a. a) o
map_same None = refl
map_same (Some a) = refl

each-slot : (slots : List (Option Registers)) (calls : List Call) (port : ℕ) →
    bank_at (slots_after_all slots calls) port ≡ option_map (λ bank. after_all bank (requests_at port calls)) (bank_at slots port)
unfolding slots_after_all requests_at
each-slot slots [] port = map_same (bank_at slots port)
each-slot slots (call ∷ calls) port =
    let next : List (Option Registers) = slots_after slots call.0 call.1 in
    each-slot next calls port
    ∙ ap (option_map (λ bank. after_all bank (requests_at port calls))) (after_one slots call port)
    ∙ by (is_at call.0 port) (bank_at slots port)
  where
    by : (b : Bool) (o : Option Registers) →
        option_map (λ bank. after_all bank (requests_at port calls)) (seen b o call.1)
        ≡ option_map (λ bank. after_all bank (cond b (call.1 ∷ requests_at port calls) (requests_at port calls))) o
    by true o = map_map (λ bank. after_all bank (requests_at port calls)) (λ k. registers_after k call.1) o
    by false o = refl

length_all : (slots : List (Option Registers)) (calls : List Call) → length (slots_after_all slots calls) ≡ length slots
unfolding slots_after_all
length_all slots [] = refl
length_all slots (call ∷ calls) = length_all (slots_after slots call.0 call.1) calls ∙ length_one slots call

pub each_slot_sees_its_own : EachSlotSeesItsOwn
each_slot_sees_its_own slots calls = (each-slot slots calls, length_all slots calls)

answers-append : (me : Epid) (slots : List (Option Registers)) (one other : List Call) →
    answers me slots (one ++ other) ≡ answers me slots one ++ answers me (slots_after_all slots one) other
unfolding answers slots_after_all
answers-append me slots [] other = refl
answers-append me slots (call ∷ one) other =
    ap (λ rest. answer me (place_of slots call.0) call.1 ∷ rest) (answers-append me (slots_after slots call.0 call.1) one other)

after-append : (slots : List (Option Registers)) (one other : List Call) →
    slots_after_all slots (one ++ other) ≡ slots_after_all (slots_after_all slots one) other
unfolding slots_after_all
after-append slots [] other = refl
after-append slots (call ∷ one) other = after-append (slots_after slots call.0 call.1) one other

pub answers_go_on : AnswersGoOn
answers_go_on me slots one other = (answers-append me slots one other, after-append slots one other)
