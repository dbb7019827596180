-- Which of a list of events pass a test, counted place by place.
use Rattle.std.proofs.Common.{◌≡◌, ℕ, zero, suc, ◌+◌, ◌-◌, ◌<◌, ◌≤◌, Bool, true, false, List, [], ◌∷◌, length, refl, sym, ◌∙◌, ap, take, None, Some, arith}
use Rattle.std.specs.Prelude.{if◌then◌else◌, slice_get}
use Rattle.std.specs.List.{filter}
use Rattle.std.proofs.lemmas.List.{length-map}
use Rattle.std.proofs.lemmas.Option.{slice_get_past}
use Rattle.net_machine.specs.Choice.{seed_after}
use Rattle.net_machine.specs.declared.event.Event.{Event}
use Rattle.net_present.specs.Present.{Present, front_now_of}
use Rattle.fabric_events.specs.Choosing.{doable_list, doable_now, sizes_of}
use Rattle.fabric_events.specs.Sizes.{candidates_in}

-- 1 if a test passes
abbrev pub told : Bool → ℕ
told true = 1
told false = 0

-- how many of the first k pass
abbrev pub passing : {X : Type 0} → (X → Bool) → List X → ℕ → ℕ
passing test xs k = length (filter test (take k xs))

one : {X : Type 0} (b : Bool) (x : X) (xs : List X) → length (if b then x ∷ xs else xs) ≡ told b + length xs
one true x xs = omega arith
one false x xs = omega arith

-- one place more
step : {X : Type 0} (test : X → Bool) (xs : List X) (k : ℕ) (x : X) → slice_get xs k ≡ Some x
    → passing test xs (k + 1) ≡ passing test xs k + told (test x)
step test [] k x is = cc
step test (y ∷ ys) zero x is =
    let same : y ≡ x = cc in
    let first : passing test (y ∷ ys) (0 + 1) ≡ told (test y) + 0 = one (test y) y [] in
    let here : told (test y) ≡ told (test x) = ap (λ z. told (test z)) same in
    let none : passing test (y ∷ ys) 0 ≡ 0 = refl in
    omega arith
step test (y ∷ ys) (suc k) x is =
    let e : suc k + 1 ≡ suc (k + 1) = omega arith in
    let rest : passing test ys (k + 1) ≡ passing test ys k + told (test x) = step test ys k x is in
    let more : passing test (y ∷ ys) (suc (k + 1)) ≡ told (test y) + passing test ys (k + 1) = one (test y) y (filter test (take (k + 1) ys)) in
    let less : passing test (y ∷ ys) (suc k) ≡ told (test y) + passing test ys k = one (test y) y (filter test (take k ys)) in
    let whole : passing test (y ∷ ys) (suc k + 1) ≡ passing test (y ∷ ys) (suc (k + 1)) = ap (λ n. passing test (y ∷ ys) n) e in
    omega arith

pub counts_more : {X : Type 0} (test : X → Bool) (xs : List X) (k n : ℕ) (x : X) → slice_get xs k ≡ Some x → n ≡ passing test xs k
    → test x ≡ true → n + 1 ≡ passing test xs (k + 1)
counts_more test xs k n x is so_far passes =
    let all : passing test xs (k + 1) ≡ passing test xs k + told (test x) = step test xs k x is in
    let here : told (test x) ≡ 1 = ap told passes in
    omega arith

pub counts_same : {X : Type 0} (test : X → Bool) (xs : List X) (k n : ℕ) (x : X) → slice_get xs k ≡ Some x → n ≡ passing test xs k
    → test x ≡ false → n ≡ passing test xs (k + 1)
counts_same test xs k n x is so_far fails =
    let all : passing test xs (k + 1) ≡ passing test xs k + told (test x) = step test xs k x is in
    let here : told (test x) ≡ 0 = ap told fails in
    omega arith

behind : {X : Type 0} (test : X → Bool) (y : X) (ys : List X) (k : ℕ) (x : X) (b : Bool) → test y ≡ b
    → slice_get (filter test ys) (passing test ys k) ≡ Some x
    → slice_get (filter test (y ∷ ys)) (passing test (y ∷ ys) (suc k)) ≡ Some x
behind test y ys k x true first rest =
    let more : passing test (y ∷ ys) (suc k) ≡ suc (passing test ys k) =
    ap (λ b. length (if b then y ∷ filter test (take k ys) else filter test (take k ys))) first in
    ap (λ n. slice_get (filter test (y ∷ ys)) n) more
    ∙ ap (λ b. slice_get (if b then y ∷ filter test ys else filter test ys) (suc (passing test ys k))) first ∙ rest
behind test y ys k x false first rest =
    let same : passing test (y ∷ ys) (suc k) ≡ passing test ys k =
    ap (λ b. length (if b then y ∷ filter test (take k ys) else filter test (take k ys))) first in
    ap (λ n. slice_get (filter test (y ∷ ys)) n) same
    ∙ ap (λ b. slice_get (if b then y ∷ filter test ys else filter test ys) (passing test ys k)) first ∙ rest

-- the one at place k that passes stands behind those before it
at : {X : Type 0} (test : X → Bool) (xs : List X) (k : ℕ) (x : X) → slice_get xs k ≡ Some x → test x ≡ true
    → slice_get (filter test xs) (passing test xs k) ≡ Some x
at test [] k x is passes = cc
at {X} test (y ∷ ys) zero x is passes =
    let same : y ≡ x = cc in
    let first : test y ≡ true = ap test same ∙ passes in
    ap (λ b. slice_get (if b then y ∷ filter test ys else filter test ys) 0) first ∙ ap (λ (z : X). Some z) same
at test (y ∷ ys) (suc k) x is passes = behind test y ys k x (test y) refl (at test ys k x is passes)

pub is_at : {X : Type 0} (test : X → Bool) (xs : List X) (k n : ℕ) (x : X) → slice_get xs k ≡ Some x → test x ≡ true
    → n ≡ passing test xs k → Some x ≡ slice_get (filter test xs) n
is_at test xs k n x is passes so_far = sym (at test xs k x is passes) ∙ ap (slice_get (filter test xs)) (sym so_far)

all : {X : Type 0} (xs : List X) (k : ℕ) → length xs ≤ k → take k xs ≡ xs
all [] zero h = refl
all [] (suc k) h = refl
all (x ∷ xs) zero h = absurd (omega arith)
all (x ∷ xs) (suc k) h = ap (λ ys. x ∷ ys) (all xs k (omega arith))

-- once all are passed
pub passes_all : {X : Type 0} (test : X → Bool) (xs : List X) (k n : ℕ) → length xs ≤ k → n ≡ passing test xs k → n ≡ length (filter test xs)
passes_all test xs k n h so_far = so_far ∙ ap (λ ys. length (filter test ys)) (all xs k h)

pub none_left : {X : Type 0} (test : X → Bool) (xs : List X) (k n place : ℕ) → length xs ≤ k → n ≡ passing test xs k → n ≤ place
    → None ≡ slice_get (filter test xs) place
none_left test xs k n place h so_far few =
    let whole = passes_all test xs k n h so_far in
    let past : length (filter test xs) ≤ place = omega arith in
    sym (slice_get_past (filter test xs) place past)

-- a place whose item fails
skip_one : {X : Type 0} (test : X → Bool) (xs : List X) (k : ℕ) → ((x : X) → slice_get xs k ≡ Some x → test x ≡ false)
    → passing test xs (suc k) ≡ passing test xs k
skip_one test [] zero h = refl
skip_one test [] (suc k) h = refl
skip_one test (y ∷ ys) zero h = ap (λ b. length (if b then y ∷ filter test (take 0 ys) else filter test (take 0 ys))) (h y refl)
skip_one test (y ∷ ys) (suc k) h =
    let rest : passing test ys (suc k) ≡ passing test ys k = skip_one test ys k h in
    let more : passing test (y ∷ ys) (suc (suc k)) ≡ told (test y) + passing test ys (suc k) = one (test y) y (filter test (take (suc k) ys)) in
    let less : passing test (y ∷ ys) (suc k) ≡ told (test y) + passing test ys k = one (test y) y (filter test (take k ys)) in
    omega arith

skip_some : {X : Type 0} (test : X → Bool) (xs : List X) (k d : ℕ)
    → ((i : ℕ) (x : X) → k ≤ i → i < k + d → slice_get xs i ≡ Some x → test x ≡ false) → passing test xs (k + d) ≡ passing test xs k
skip_some test xs k zero h = let e : k + 0 ≡ k = omega arith in ap (λ n. passing test xs n) e
skip_some test xs k (suc d) h =
    let e : k + suc d ≡ suc (k + d) = omega arith in
    ap (λ n. passing test xs n) e ∙ skip_one test xs (k + d) (λ x is. h (k + d) x (omega arith) (omega arith) is)
    ∙ skip_some test xs k d (λ i x from to is. h i x from (omega arith) is)

-- places whose items fail
pub skips : {X : Type 0} (test : X → Bool) (xs : List X) (k n : ℕ) → k ≤ n
    → ((i : ℕ) (x : X) → k ≤ i → i < n → slice_get xs i ≡ Some x → test x ≡ false) → passing test xs n ≡ passing test xs k
skips test xs k n from h =
    let e : k + (n - k) ≡ n = omega arith in
    ap (λ m. passing test xs m) (sym e) ∙ skip_some test xs k (n - k) (λ i x lo hi is. h i x lo (omega arith) is)

-- what a choice looks at is what the sizes name
pub list_is : (p : Present) → doable_list p ≡ filter (doable_now p) (candidates_in (sizes_of p))
unfolding doable_list
list_is p =
    ap (λ n. filter (doable_now p) (candidates_in (record { streams = n; blocks = length p.plan.blocks; nodes = length p.nodes; queues = length p.queues })))
    (length-map p.streams front_now_of)

-- the seed 0 stays
pub zero_stays : (seed : ℕ) (events : List Event) → seed ≡ 0 → seed ≡ seed_after seed events
zero_stays seed [] is = refl
zero_stays seed (e ∷ es) is = is ∙ sym (ap (λ (n : ℕ). seed_after n (e ∷ es)) is)
