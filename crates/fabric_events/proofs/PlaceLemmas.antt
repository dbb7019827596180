-- Which event stands at a place of the order in which a choice looks at events.
use Rattle.std.proofs.Common.{◌≡◌, ℕ, zero, suc, ◌+◌, ◌-◌, ◌*◌, ◌<◌, ◌≤◌, List, [], ◌∷◌, ◌++◌, length, refl, sym, ◌∙◌, ap, Option, Some, arith}
use Rattle.std.specs.Prelude.{◌/◌, ◌%◌, map, slice_get}
use Rattle.std.specs.List.{flat_map, range_with_len}
use Rattle.std.proofs.lemmas.List.{length-append, length-map}
use Rattle.std.proofs.lemmas.List.FromFn.{length-range_with_len}
use Rattle.net_machine.specs.declared.event.Event.{Event}
use Rattle.net_machine.specs.declared.event.Event.TheVariants.{Ask, Enter, Hop, Lose, Reply, Report}
use Rattle.net_machine.specs.Choice.{commands_of, feeds_of, for_each}
use Rattle.fabric_events.specs.declared.candidates.Sizes.{Sizes}
use Rattle.fabric_events.specs.Sizes.{candidate_count, candidates_in}

-- an item of the first of two lists
pub left_at : {X : Type 0} (xs ys : List X) (k : ℕ) → k < length xs → slice_get (xs ++ ys) k ≡ slice_get xs k
left_at [] ys k h = absurd (omega arith)
left_at (x ∷ xs) ys zero h = refl
left_at (x ∷ xs) ys (suc k) h = left_at xs ys k (omega arith)

-- an item of the second
pub right_at : {X : Type 0} (xs ys : List X) (k : ℕ) → length xs ≤ k → slice_get (xs ++ ys) k ≡ slice_get ys (k - length xs)
right_at [] ys k h = ap (λ n. slice_get ys n) (omega arith)
right_at (x ∷ xs) ys zero h = absurd (omega arith)
right_at (x ∷ xs) ys (suc k) h =
    let e : suc k - length (x ∷ xs) ≡ k - length xs = omega arith in
    right_at xs ys k (omega arith) ∙ ap (λ n. slice_get ys n) (sym e)

-- one event for each number
each_from : (event : ℕ → Event) (n a k : ℕ) → k < n → slice_get (map event (range_with_len a n)) k ≡ Some (event (a + k))
each_from event zero a k h = absurd (omega arith)
each_from event (suc n) a zero h = let e : a ≡ a + 0 = omega arith in ap (λ m. Some (event m)) e
each_from event (suc n) a (suc k) h =
    let e : (a + 1) + k ≡ a + suc k = omega arith in
    each_from event n (a + 1) k (omega arith) ∙ ap (λ m. Some (event m)) e

pub each_at : (event : ℕ → Event) (n k : ℕ) → k < n → slice_get (for_each event n) k ≡ Some (event k)
each_at event n k h = let e : 0 + k ≡ k = omega arith in each_from event n 0 k h ∙ ap (λ m. Some (event m)) e

-- three events for each stream
commands_from : (n a k : ℕ) → k < 3 * n → slice_get (flat_map commands_of (range_with_len a n)) k
    ≡ slice_get (commands_of (a + k / 3)) (k % 3)
commands_from zero a k h = absurd (omega arith)
commands_from (suc n) a zero h = let e : a ≡ a + 0 / 3 = omega arith in ap (λ m. slice_get (commands_of m) 0) e
commands_from (suc n) a (suc zero) h = let e : a ≡ a + 1 / 3 = omega arith in ap (λ m. slice_get (commands_of m) 1) e
commands_from (suc n) a (suc (suc zero)) h = let e : a ≡ a + 2 / 3 = omega arith in ap (λ m. slice_get (commands_of m) 2) e
commands_from (suc n) a (suc (suc (suc k))) h =
    let e : (a + 1) + k / 3 ≡ a + (suc (suc (suc k))) / 3 = omega arith in
    let r : k % 3 ≡ (suc (suc (suc k))) % 3 = omega arith in
    commands_from n (a + 1) k (omega arith)
    ∙ ap (λ m. slice_get (commands_of m) (k % 3)) e
    ∙ ap (λ m. slice_get (commands_of (a + (suc (suc (suc k))) / 3)) m) r

-- two for each block
feeds_from : (n a k : ℕ) → k < 2 * n → slice_get (flat_map feeds_of (range_with_len a n)) k
    ≡ slice_get (feeds_of (a + k / 2)) (k % 2)
feeds_from zero a k h = absurd (omega arith)
feeds_from (suc n) a zero h = let e : a ≡ a + 0 / 2 = omega arith in ap (λ m. slice_get (feeds_of m) 0) e
feeds_from (suc n) a (suc zero) h = let e : a ≡ a + 1 / 2 = omega arith in ap (λ m. slice_get (feeds_of m) 1) e
feeds_from (suc n) a (suc (suc k)) h =
    let e : (a + 1) + k / 2 ≡ a + (suc (suc k)) / 2 = omega arith in
    let r : k % 2 ≡ (suc (suc k)) % 2 = omega arith in
    feeds_from n (a + 1) k (omega arith)
    ∙ ap (λ m. slice_get (feeds_of m) (k % 2)) e
    ∙ ap (λ m. slice_get (feeds_of (a + (suc (suc k)) / 2)) m) r

-- how many events there are of each sort
pub each_length : (event : ℕ → Event) (n : ℕ) → length (for_each event n) ≡ n
each_length event n = length-map (range_with_len 0 n) event ∙ length-range_with_len 0 n

commands_length_from : (n a : ℕ) → length (flat_map commands_of (range_with_len a n)) ≡ 3 * n
commands_length_from zero a = refl
commands_length_from (suc n) a = let e = commands_length_from n (a + 1) in omega arith

pub commands_length : (n : ℕ) → length (flat_map commands_of (range_with_len 0 n)) ≡ 3 * n
commands_length n = commands_length_from n 0

feeds_length_from : (n a : ℕ) → length (flat_map feeds_of (range_with_len a n)) ≡ 2 * n
feeds_length_from zero a = refl
feeds_length_from (suc n) a = let e = feeds_length_from n (a + 1) in omega arith

pub feeds_length : (n : ℕ) → length (flat_map feeds_of (range_with_len 0 n)) ≡ 2 * n
feeds_length n = feeds_length_from n 0

-- a place among the first of two lists, and one behind them
pub among : (xs ys : List Event) (n k : ℕ) (r : Option Event) → length xs ≡ n → k < n → slice_get xs k ≡ r → slice_get (xs ++ ys) k ≡ r
among xs ys n k r e h there = left_at xs ys k (omega arith) ∙ there

pub behind : (xs ys : List Event) (n k : ℕ) (r : Option Event) → length xs ≡ n → n ≤ k → slice_get ys (k - n) ≡ r → slice_get (xs ++ ys) k ≡ r
behind xs ys n k r e h there =
    let at : k - length xs ≡ k - n = omega arith in
    right_at xs ys k (omega arith) ∙ ap (λ m. slice_get ys m) at ∙ there

-- how many events a choice looks at
pub all_length : (sizes : Sizes) → candidate_count sizes ≡ length (candidates_in sizes)
all_length sizes =
    let s = sizes.streams in
    let enters = for_each Enter s in
    let orders = flat_map commands_of (range_with_len 0 s) in
    let reports = for_each Report s in
    let feeds = flat_map feeds_of (range_with_len 0 sizes.blocks) in
    let replies = for_each Reply sizes.nodes in
    let asks = for_each Ask sizes.nodes in
    let loses = for_each Lose sizes.queues in
    let hops = for_each Hop sizes.queues in
    let e0 = length-append enters (orders ++ (reports ++ (feeds ++ (replies ++ (asks ++ (loses ++ hops)))))) in
    let e1 = length-append orders (reports ++ (feeds ++ (replies ++ (asks ++ (loses ++ hops))))) in
    let e2 = length-append reports (feeds ++ (replies ++ (asks ++ (loses ++ hops)))) in
    let e3 = length-append feeds (replies ++ (asks ++ (loses ++ hops))) in
    let e4 = length-append replies (asks ++ (loses ++ hops)) in
    let e5 = length-append asks (loses ++ hops) in
    let e6 = length-append loses hops in
    let l0 = each_length Enter s in
    let l1 = commands_length s in
    let l2 = each_length Report s in
    let l3 = feeds_length sizes.blocks in
    let l4 = each_length Reply sizes.nodes in
    let l5 = each_length Ask sizes.nodes in
    let l6 = each_length Lose sizes.queues in
    let l7 = each_length Hop sizes.queues in
    omega arith

pub commands_at : (n k : ℕ) → k < 3 * n → slice_get (flat_map commands_of (range_with_len 0 n)) k ≡ slice_get (commands_of (k / 3)) (k % 3)
commands_at n k h = let e : 0 + k / 3 ≡ k / 3 = omega arith in commands_from n 0 k h ∙ ap (λ m. slice_get (commands_of m) (k % 3)) e

pub feeds_at : (n k : ℕ) → k < 2 * n → slice_get (flat_map feeds_of (range_with_len 0 n)) k ≡ slice_get (feeds_of (k / 2)) (k % 2)
feeds_at n k h = let e : 0 + k / 2 ≡ k / 2 = omega arith in feeds_from n 0 k h ∙ ap (λ m. slice_get (feeds_of m) (k % 2)) e
