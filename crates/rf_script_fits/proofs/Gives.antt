-- What a step gives, if it gives something.
use Rattle.std.proofs.Common.{◌≡◌, List, [], ◌∷◌, ◌++◌, Bool, true, false, cond, Option, None, Some, refl, subst}
use Rattle.std.specs.Prelude.{Result, Ok, Err, IfSome, ⊤}
use Rattle.rf_script_types.specs.Fits.{Each}
use Rattle.rf_script_parts.specs.declared.wrong.Wrong.{Wrong}
use Rattle.rf_script_parts.specs.Entries.{entries}
use Rattle.rf_script_parts.specs.Value.{◌>>=◌, ◌>>◌}
use Rattle.serde_json.specs.Data.{Data, Items, no_items, item}

-- what comes has the property
pub record Gives {A E : Type 0} (result : Result A E) (P : A → Type 0) : Type 0 where
  pub of : (a : A) → result ≡ Ok a → P a

-- nothing is known of it
abbrev pub Any : {A : Type 0} → A → Type 0
Any a = Unit {0}

pub good : {A E : Type 0} (P : A → Type 0) (a : A) → P a → Gives {E = E} (Ok a) P
good P a h = record { of = λ b e. let same : a ≡ b = cc in subst P same h }

pub faulty : {A E : Type 0} (P : A → Type 0) (e : E) → Gives {A = A} (Err e) P
faulty P e = record { of = λ b q. absurd cc }

pub anything : {A E : Type 0} (result : Result A E) → Gives result Any
anything result = record { of = λ a e. tt }

pub weaker : {A E : Type 0} (result : Result A E) (P Q : A → Type 0) → Gives result P → ((a : A) → P a → Q a) → Gives result Q
weaker result P Q h k = record { of = λ a e. k a (h.of a e) }

pub bind : {A B : Type 0} (first : Result A Wrong) (f : A → Result B Wrong) (Q : A → Type 0) (P : B → Type 0) → Gives first Q
    → ((a : A) → Q a → Gives (f a) P) → Gives (first >>= f) P
bind (Ok a) f Q P h k = k a (h.of a refl)
bind (Err e) f Q P h k = faulty P e

pub pass : {A B : Type 0} (first : Result A Wrong) (f : A → Result B Wrong) (P : B → Type 0) → ((a : A) → Gives (f a) P) → Gives (first >>= f) P
pass (Ok a) f P k = k a
pass (Err e) f P k = faulty P e

pub after : {A B : Type 0} (first : Result A Wrong) (next : Result B Wrong) (P : B → Type 0) → Gives next P → Gives (first >> next) P
after (Ok a) next P h = h
after (Err e) next P h = faulty P e

-- either way
pub either : {A : Type 0} (b : Bool) (x y : Result A Wrong) (P : A → Type 0) → Gives x P → Gives y P → Gives (cond b x y) P
either true x y P h k = h
either false x y P h k = k

-- what a test passes
pub passed : {A E : Type 0} (b : Bool) (x : Result A E) (e : E) (P : A → Type 0) → (b ≡ true → Gives x P) → Gives (cond b x (Err e)) P
passed true x e P h = h refl
passed false x e P h = faulty P e

-- what a test doesn't stop
pub unstopped : {A E : Type 0} (b : Bool) (x : Result A E) (e : E) (P : A → Type 0) → (b ≡ false → Gives x P) → Gives (cond b (Err e) x) P
unstopped true x e P h = faulty P e
unstopped false x e P h = h refl

pub each-append : {A : Type 0} (P : A → Type 0) (xs : List A) (x : A) → Each P xs → P x → Each P (xs ++ x ∷ [])
each-append P [] x h k = (k, tt)
each-append P (y ∷ ys) x h k = (h.0, each-append P ys x h.1 k)

-- a list of entries, entry by entry: what holds with those entries left
pub entries-give : {S : Type 0} (step : S → Data → Result S Wrong) (I : Items → S → Type 0)
    → ((d : Data) (ds : Items) (s : S) → I (item d ds) s → Gives (step s d) (I ds)) → (ds : Items) (s : S) → I ds s → Gives (entries step s ds) (I no_items)
entries-give step I one no_items s h = good (I no_items) s h
entries-give step I one (item d ds) s h = bind (step s d) (λ t. entries step t ds) (I ds) (I no_items) (one d ds s h) (λ t k. entries-give step I one ds t k)
