-- The numbers that are read are in their ranges.
use Rattle.std.proofs.Common.{◌≡◌, ℕ, ◌≤◌, List, Bool, true, Option, None, Some, refl, arith}
use Rattle.std.proofs.lemmas.Bool.Decides.{nat_tests}
use Rattle.std.specs.Prelude.{Result, Ok, Err, IfSome, nat_le, option_and_then}
use Rattle.rf_script_types.specs.declared.field.Field.{Field}
use Rattle.rf_script_types.specs.declared.fault.Why.TheVariants.{Range}
use Rattle.rf_script_types.specs.declared.table.Number.{Number}
use Rattle.rf_script_types.specs.Fits.{IsIn}
use Rattle.rf_script_parts.specs.declared.pair.Pair.{Pair}
use Rattle.rf_script_parts.specs.declared.wrong.Wrong.{Wrong}
use Rattle.rf_script_parts.specs.Pair.{pair_of, pair_at, pair_field, default_pair}
use Rattle.rf_script_parts.specs.Value.{◌>>=◌, bad, find, whole, within, ranged, present, number, number_at, optional, optional_at, sized, element, listed}
use Rattle.serde_json.specs.Data.{Data}
use Rattle.rf_script_fits.proofs.Gives.{Gives, good, faulty, bind, pass, after, passed}

within-low : (range : Number) (n : ℕ) → within range n ≡ true → range.low ≤ n
within-low range n h = grind (arith, nat_tests)

within-high : (range : Number) (n : ℕ) → within range n ≡ true → n ≤ range.high
within-high range n h = grind (arith, nat_tests)

pub ranged-fits : (range : Number) (n : ℕ) → Gives (ranged range n) (IsIn range)
ranged-fits range n = passed (within range n) (Ok n) (bad range.told Range) (IsIn range) (λ e. good (IsIn range) n (within-low range n e, within-high range n e))

-- what a value that is there gives
pub present-fits : {A : Type 0} (told : Field) (o : Option A) (P : A → Type 0) → IfSome o P → Gives (present told o) P
present-fits told None P h = faulty P _
present-fits told (Some a) P h = good P a h

pub listed-fits : {A : Type 0} (told : Field) (o : Option A) (P : A → Type 0) → IfSome o P → Gives (listed told o) P
listed-fits told None P h = faulty P _
listed-fits told (Some a) P h = good P a h

number_at-fits : (range : Number) (o : Option Data) → IfSome range.default (IsIn range) → Gives (number_at range o) (IsIn range)
number_at-fits range None h = present-fits range.told range.default (IsIn range) h
number_at-fits range (Some d) h = pass (whole range.told d) (ranged range) (IsIn range) (ranged-fits range)

pub number-fits : (range : Number) (d : Data) → IfSome range.default (IsIn range) → Gives (number range d) (IsIn range)
unfolding number
number-fits range d h = number_at-fits range (find range.key d) h

abbrev pub IsInIfSome : Number → Option ℕ → Type 0
IsInIfSome range o = IfSome o (IsIn range)

optional_at-fits : (range : Number) (o : Option Data) → Gives (optional_at range o) (IsInIfSome range)
optional_at-fits range None = good (IsInIfSome range) None tt
optional_at-fits range (Some d) = pass (whole range.told d) (λ m. _) (IsInIfSome range)
    (λ m. bind (ranged range m) (λ n. Ok (Some n)) (IsIn range) (IsInIfSome range) (ranged-fits range m) (λ n h. good (IsInIfSome range) (Some n) h))

pub optional-fits : (range : Number) (d : Data) → Gives (optional range d) (IsInIfSome range)
unfolding optional
optional-fits range d = optional_at-fits range (find range.key d)

-- both numbers of a pair
abbrev pub AreIn : Number → Number → Pair → Type 0
AreIn first second two = IsIn first two.first × IsIn second two.second

ranges-fit : (first second : Number) (x y : ℕ) → Gives (ranged first x >>= λ a. ranged second y >>= λ b. Ok (record { first = a; second = b })) (AreIn first second)
ranges-fit first second x y = bind (ranged first x) _ (IsIn first) (AreIn first second) (ranged-fits first x)
    (λ a h. bind (ranged second y) _ (IsIn second) (AreIn first second) (ranged-fits second y) (λ b k. good (AreIn first second) (record { first = a; second = b }) (h, k)))

pair_of-fits : (first second : Number) (d : Data) → Gives (pair_of first second d) (AreIn first second)
unfolding pair_of
pair_of-fits first second d = after (sized first.told 2 d) _ (AreIn first second) (pass (element first.told 0 d) _ (AreIn first second)
    (λ x. pass (element first.told 1 d) _ (AreIn first second) (λ y. ranges-fit first second x y)))

defaults-fit : (first second : Number) (told : Field) (o p : Option ℕ) → IfSome o (IsIn first) → IfSome p (IsIn second) → Gives (default_pair told o p) (AreIn first second)
defaults-fit first second told None None h k = faulty (AreIn first second) _
defaults-fit first second told None (Some b) h k = faulty (AreIn first second) _
defaults-fit first second told (Some a) None h k = faulty (AreIn first second) _
defaults-fit first second told (Some a) (Some b) h k = good (AreIn first second) (record { first = a; second = b }) (h, k)

pair_at-fits : (first second : Number) (o : Option Data) → IfSome first.default (IsIn first) → IfSome second.default (IsIn second) → Gives (pair_at first second o) (AreIn first second)
pair_at-fits first second None h k = defaults-fit first second first.told first.default second.default h k
pair_at-fits first second (Some d) h k = pair_of-fits first second d

pub pair_field-fits : (first second : Number) (d : Data) → IfSome first.default (IsIn first) → IfSome second.default (IsIn second)
    → Gives (pair_field first second d) (AreIn first second)
unfolding pair_field
pair_field-fits first second d h k = pair_at-fits first second (find first.key d) h k
