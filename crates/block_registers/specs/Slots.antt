-- The slots of banks.
use Rattle.std.specs.Prelude.{◌≡◌, ◌==◌, ◌++◌, ℕ, Bool, false, List, [], ◌∷◌, Option, Some, None, if◌then◌else◌, length, map, slice_index_or, slice_set, option_map}
use Rattle.std.specs.List.{fold}
use Rattle.chdr_words.specs.declared.epid.Epid.{Epid}
use Rattle.chdr_words.specs.declared.control.Control.{Control}
use Rattle.block_registers.specs.Registers.{Registers}
use Rattle.block_registers.specs.Operations.{Place, Nowhere, Bank, registers_after, after_all, answer}

-- a bank, by what tells its words and what its masks
abbrev pub registers_of : {B : Type 0} → (B → List ℕ) → (B → List ℕ) → B → Registers
registers_of words masks bank = record { words = words bank; masks = masks bank }

-- the registers in each slot, where it has a bank
unfoldable pub registers_in : {B : Type 0} → (B → List ℕ) → (B → List ℕ) → List (Option B) → List (Option Registers)
registers_in words masks slots = map (option_map (registers_of words masks)) slots

-- the bank of a slot; none where the slot is empty or isn't there
abbrev pub bank_at : List (Option Registers) → ℕ → Option Registers
bank_at slots port = slice_index_or slots port None

abbrev pub place_of_bank : Option Registers → Place
place_of_bank None = Nowhere
place_of_bank (Some bank) = Bank bank

-- what answers at a slot
unfoldable pub place_of : List (Option Registers) → Option ℕ → Place
place_of slots None = Nowhere
place_of slots (Some port) = place_of_bank (bank_at slots port)

-- the slots after a request to one of them; the others stay
unfoldable pub slots_after : List (Option Registers) → Option ℕ → Control → List (Option Registers)
slots_after slots None request = slots
slots_after slots (Some port) request =
    slice_set slots port (option_map (λ bank. registers_after bank request) (bank_at slots port))

-- a request to a slot
abbrev pub Call : Type 0
Call = Option ℕ × Control

-- the slots after requests in turn
unfoldable pub slots_after_all : List (Option Registers) → List Call → List (Option Registers)
slots_after_all slots [] = slots
slots_after_all slots (call ∷ calls) = slots_after_all (slots_after slots call.0 call.1) calls

-- what the endpoint `me` answers to requests in turn
unfoldable pub answers : Epid → List (Option Registers) → List Call → List Control
answers me slots [] = []
answers me slots (call ∷ calls) =
    answer me (place_of slots call.0) call.1 ∷ answers me (slots_after slots call.0 call.1) calls

abbrev pub is_at : Option ℕ → ℕ → Bool
is_at None port = false
is_at (Some slot) port = slot == port

-- those of the requests that go to a slot
unfoldable pub requests_at : ℕ → List Call → List Control
requests_at port [] = []
requests_at port (call ∷ calls) = if is_at call.0 port then call.1 ∷ requests_at port calls else requests_at port calls

-- of a list of requests each slot's bank sees those to it alone; there are as many slots then
abbrev pub EachSlotSeesItsOwn : Type 0
EachSlotSeesItsOwn = (slots : List (Option Registers)) (calls : List Call) →
    ((port : ℕ) → bank_at (slots_after_all slots calls) port ≡ option_map (λ bank. after_all bank (requests_at port calls)) (bank_at slots port))
    × (length (slots_after_all slots calls) ≡ length slots)

-- a list of requests is answered part by part: the later ones by the slots that the earlier ones leave
abbrev pub AnswersGoOn : Type 0
AnswersGoOn = (me : Epid) (slots : List (Option Registers)) (one other : List Call) →
    (answers me slots (one ++ other) ≡ answers me slots one ++ answers me (slots_after_all slots one) other)
    × (slots_after_all slots (one ++ other) ≡ slots_after_all (slots_after_all slots one) other)
