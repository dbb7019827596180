-- What is written of a number, a flag, an endpoint or a list is read back.
use Rattle.std.proofs.Common.{◌≡◌, ℕ, suc, ◌==◌, cond, List, [], ◌∷◌, ◌++◌, length, map, Bool, true, false, Option, None, Some, refl, sym, ap, ◌∙◌, append_assoc, append-nil, arith}
use Rattle.std.proofs.lemmas.Bool.Decides.{nat_tests}
use Rattle.std.specs.Prelude.{Result, Ok, ⊤}
use Rattle.chdr_words.specs.declared.epid.Epid.{Epid}
use Rattle.rf_script_types.specs.declared.field.Field.{Field}
use Rattle.rf_script_types.specs.declared.table.Number.{Number}
use Rattle.rf_script_types.specs.Fits.{IsIn, Each}
use Rattle.rf_script_types.specs.Text.{whole}
use Rattle.rf_script_parts.specs.declared.wrong.Wrong.{Wrong}
use Rattle.rf_script_parts.specs.declared.scope.Scope.{Scope}
use Rattle.rf_script_parts.specs.Entries.{entries}
use Rattle.rf_script_parts.specs.Scope.{endpoint, endpoint_field, number_field}
use Rattle.rf_script_parts.specs.Value.{find, within, number, optional, flag}
use Rattle.serde_json.specs.Data.{Data, boolean}
use Rattle.serde_json.specs.Events.{items_len}
use Rattle.serde_json.specs.View.{items_of}

pub within-in : (range : Number) (n : ℕ) → IsIn range n → within range n ≡ true
within-in range n h = grind (arith, nat_tests)

pub number-back : (range : Number) (d : Data) (n : ℕ) → find range.key d ≡ Some (whole n) → IsIn range n → number range d ≡ Ok n
unfolding number
number-back range d n e h = rw (e, within-in range n h)

pub optional-back : (range : Number) (d : Data) (n : ℕ) → find range.key d ≡ Some (whole n) → IsIn range n → optional range d ≡ Ok (Some n)
unfolding optional
optional-back range d n e h = rw (e, within-in range n h)

pub optional-none : (range : Number) (d : Data) → find range.key d ≡ None → optional range d ≡ Ok None
unfolding optional
optional-none range d e = rw e

pub flag-back : (f : Field) (default b : Bool) (d : Data) → find f d ≡ Some (boolean b) → flag f default d ≡ Ok b
unfolding flag
flag-back f default b d e = rw e

abbrev pub nothing : Result (Option (List ℕ)) Wrong
nothing = Ok None

abbrev pub fine : Result ⊤ Wrong
fine = Ok tt

pub either : {A : Type 0} (b : Bool) (x : A) → cond b x x ≡ x
either true x = refl
either false x = refl

pub endpoint-back : (scope : Scope) (range : Number) (epid : Epid) → IsIn range epid.0 → endpoint scope range (whole epid.0) ≡ Ok epid
unfolding endpoint
endpoint-back scope range epid h = rw (within-in range epid.0 h) (either (scope.version == 2) (Ok epid))

pub endpoint_field-back : (scope : Scope) (range : Number) (d : Data) (epid : Epid) → find range.key d ≡ Some (whole epid.0) → IsIn range epid.0
    → endpoint_field scope range d ≡ Ok epid
unfolding endpoint_field
endpoint_field-back scope range d epid e h = rw e (endpoint-back scope range epid h)

pub number_field-back : (range : Number) (d : Data) (epid : Epid) → find range.key d ≡ Some (whole epid.0) → IsIn range epid.0 → number_field range d ≡ Ok epid
unfolding number_field
number_field-back range d epid e h = rw (e, within-in range epid.0 h)

-- a list of entries each of which is read, whatever was read before it
pub entries-back : {A S : Type 0} (step : S → Data → Result S Wrong) (after : List A → S) (text : A → Data) (P : A → Type 0)
    → ((done : List A) (a : A) → P a → step (after done) (text a) ≡ Ok (after (done ++ a ∷ [])))
    → (done xs : List A) → Each P xs → entries step (after done) (items_of (map text xs)) ≡ Ok (after (done ++ xs))
entries-back step after text P one done [] h = ap (λ xs. Ok (after xs)) (sym (append-nil done))
entries-back step after text P one done (x ∷ xs) h = rw (one done x h.0)
    (entries-back step after text P one (done ++ x ∷ []) xs h.1 ∙ ap (λ ys. Ok (after ys)) (append_assoc done (x ∷ []) xs))

pub items_len-list : {A : Type 0} (text : A → Data) (xs : List A) → items_len (items_of (map text xs)) ≡ length xs
items_len-list text [] = refl
items_len-list text (x ∷ xs) = ap suc (items_len-list text xs)
