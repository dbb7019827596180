-- A change at one port changes the registers of that slot alone, and past the slots nothing.
use Rattle.std.proofs.Common.{◌≡◌, ℕ, List, Option, None, get_or, set, option_map, length, ◌≤◌, refl}
use Rattle.std.proofs.lemmas.List.{get_or_past, set_past, length-map}
use Rattle.chdr_words.specs.declared.control.Control.{Control}
use Rattle.block_registers.specs.Operations.{Nowhere, outcome, accepts}
use Rattle.std.proofs.Math.ListN.{get_or-map}
use Rattle.std.proofs.lemmas.List.{map-set}
use Rattle.block_registers.specs.Registers.{Registers}
use Rattle.block_registers.specs.Slots.{registers_of, registers_in, bank_at}

pub bank_at-registers_in : {B : Type 0} (words masks : B → List ℕ) (slots : List (Option B)) (port : ℕ) →
    bank_at (registers_in words masks slots) port ≡ option_map (registers_of words masks) (get_or slots port None)
unfolding registers_in
bank_at-registers_in words masks slots port = get_or-map (option_map (registers_of words masks)) slots port None

pub registers_in-set : {B : Type 0} (words masks : B → List ℕ) (slots : List (Option B)) (port : ℕ) (slot : Option B) →
    registers_in words masks (set slots port slot) ≡ set (registers_in words masks slots) port (option_map (registers_of words masks) slot)
unfolding registers_in
registers_in-set words masks slots port slot = map-set (option_map (registers_of words masks)) slots port slot

pub length-registers_in : {B : Type 0} (words masks : B → List ℕ) (slots : List (Option B)) →
    length (registers_in words masks slots) ≡ length slots
unfolding registers_in
length-registers_in words masks slots = length-map slots (option_map (registers_of words masks))

-- where there is no slot
pub bank_at-past : {B : Type 0} (words masks : B → List ℕ) (slots : List (Option B)) (port : ℕ) → length slots ≤ port →
    bank_at (registers_in words masks slots) port ≡ None
bank_at-past words masks slots port h =
    get_or_past (registers_in words masks slots) port None (rw (length-registers_in words masks slots) h)

pub registers_in-set_past : {B : Type 0} (words masks : B → List ℕ) (slots : List (Option B)) (port : ℕ) (slot : Option Registers) →
    length slots ≤ port → set (registers_in words masks slots) port slot ≡ registers_in words masks slots
registers_in-set_past words masks slots port slot h =
    set_past (registers_in words masks slots) port slot (rw (length-registers_in words masks slots) h)

pub outcome-nowhere : (request : Control) → outcome Nowhere request ≡ None
unfolding outcome accepts
outcome-nowhere request = refl

pub ruleset slot_lemmas = (bank_at-registers_in, registers_in-set)

pub ruleset size_lemmas = (length-registers_in)
