-- At which places of the order of choosing no event can happen, by which queues hold and lose an entry.
use Rattle.std.proofs.Common.{◌≡◌, ◌⊎◌, ℕ, zero, suc, ◌+◌, ◌-◌, ◌*◌, ◌<◌, ◌≤◌, true, false, List, [], ◌∷◌, ◌++◌, length, refl, sym, ◌∙◌, ap, subst, max, Option, None, Some, inl, inr, arith}
use Rattle.std.specs.Prelude.{MatchOption, slice_get}
use Rattle.std.specs.List.{flat_map, range_with_len}
use Rattle.std.proofs.lemmas.Bool.{cases_order, false≢true}
use Rattle.fabric_flags.specs.Set.{IsNext, NoneFrom}
use Rattle.net_machine.specs.declared.event.Event.{Event}
use Rattle.net_machine.specs.declared.event.Event.TheVariants.{Ask, Enter, Hop, Lose, Reply, Report}
use Rattle.net_machine.specs.Choice.{commands_of, feeds_of, for_each}
use Rattle.net_machine.specs.Conditions.{can_hop, may}
use Rattle.net_machine.specs.Front.{Front, Queued}
use Rattle.net_present.specs.Onward.{entries_at}
use Rattle.net_present.specs.Present.{Present, front_now}
use Rattle.fabric_lists.specs.QueuesView.{holds, is_held, loses}
use Rattle.fabric_events.specs.declared.candidates.Sizes.{Sizes}
use Rattle.fabric_events.specs.Choosing.{IsStill, doable_now, sizes_of}
use Rattle.fabric_events.specs.Sizes.{candidate_count, candidates_in, first_loss, first_reply}
use Rattle.fabric_events.proofs.PlaceLemmas.{among, behind, commands_length, each_at, each_length, feeds_length}

-- the events of nodes and queues, behind those of streams and blocks
abbrev pub later : Sizes → List Event
later s = for_each Reply s.nodes ++ (for_each Ask s.nodes ++ (for_each Lose s.queues ++ for_each Hop s.queues))

pub later_at : (s : Sizes) (k : ℕ) (r : Option Event) → slice_get (later s) k ≡ r → slice_get (candidates_in s) (first_reply s + k) ≡ r
later_at s k r there =
    let place = first_reply s + k in
    let enters = for_each Enter s.streams in
    let orders = flat_map commands_of (range_with_len 0 s.streams) in
    let reports = for_each Report s.streams in
    let feeds = flat_map feeds_of (range_with_len 0 s.blocks) in
    let e : place - s.streams - 3 * s.streams - s.streams - 2 * s.blocks ≡ k = omega arith in
    behind enters (orders ++ (reports ++ (feeds ++ later s))) s.streams place r (each_length Enter s.streams) (omega arith)
    (behind orders (reports ++ (feeds ++ later s)) (3 * s.streams) (place - s.streams) r (commands_length s.streams) (omega arith)
    (behind reports (feeds ++ later s) s.streams (place - s.streams - 3 * s.streams) r (each_length Report s.streams) (omega arith)
    (behind feeds (later s) (2 * s.blocks) (place - s.streams - 3 * s.streams - s.streams) r (feeds_length s.blocks) (omega arith)
    (ap (λ (n : ℕ). slice_get (later s) n) e ∙ there))))

-- each of those of queues stands at its place
pub lose_at : (s : Sizes) (q : ℕ) → q < s.queues → slice_get (candidates_in s) (first_loss s + q) ≡ Some (Lose q)
lose_at s q h =
    let at : first_loss s + q ≡ first_reply s + (s.nodes + s.nodes + q) = omega arith in
    let e : s.nodes + s.nodes + q - s.nodes - s.nodes ≡ q = omega arith in
    let replies = for_each Reply s.nodes in
    let asks = for_each Ask s.nodes in
    let loses = for_each Lose s.queues in
    let hops = for_each Hop s.queues in
    let k = s.nodes + s.nodes + q in
    ap (slice_get (candidates_in s)) at
    ∙ later_at s k (Some (Lose q))
    (behind replies (asks ++ (loses ++ hops)) s.nodes k (Some (Lose q)) (each_length Reply s.nodes) (omega arith)
    (behind asks (loses ++ hops) s.nodes (k - s.nodes) (Some (Lose q)) (each_length Ask s.nodes) (omega arith)
    (ap (λ (n : ℕ). slice_get (loses ++ hops) n) e
    ∙ among loses hops s.queues q (Some (Lose q)) (each_length Lose s.queues) h (each_at Lose s.queues q h))))

pub hop_at : (s : Sizes) (q : ℕ) → q < s.queues → slice_get (candidates_in s) (first_loss s + s.queues + q) ≡ Some (Hop q)
hop_at s q h =
    let at : first_loss s + s.queues + q ≡ first_reply s + (s.nodes + s.nodes + s.queues + q) = omega arith in
    let e : s.nodes + s.nodes + s.queues + q - s.nodes - s.nodes - s.queues ≡ q = omega arith in
    let replies = for_each Reply s.nodes in
    let asks = for_each Ask s.nodes in
    let loses = for_each Lose s.queues in
    let hops = for_each Hop s.queues in
    let k = s.nodes + s.nodes + s.queues + q in
    ap (slice_get (candidates_in s)) at
    ∙ later_at s k (Some (Hop q))
    (behind replies (asks ++ (loses ++ hops)) s.nodes k (Some (Hop q)) (each_length Reply s.nodes) (omega arith)
    (behind asks (loses ++ hops) s.nodes (k - s.nodes) (Some (Hop q)) (each_length Ask s.nodes) (omega arith)
    (behind loses hops s.queues (k - s.nodes - s.nodes) (Some (Hop q)) (each_length Lose s.queues) (omega arith)
    (ap (λ (n : ℕ). slice_get hops n) e ∙ each_at Hop s.queues q h))))

no_hop : (f : Front) (q : ℕ) (es : List Queued) → is_held es ≡ false → can_hop f q es ≡ false
no_hop f q [] h = refl
no_hop f q (e ∷ es) h = absurd (false≢true (sym h))

-- a queue whose front entry isn't marked loses none, and an empty one lets none hop
idle_lose : (p : Present) (q : ℕ) → loses p.queues q ≡ false → doable_now p (Lose q) ≡ false
unfolding doable_now may
idle_lose p q h = h

idle_hop : (p : Present) (q : ℕ) → holds p.queues q ≡ false → doable_now p (Hop q) ≡ false
unfolding doable_now may
idle_hop p q h = no_hop (front_now p) q (entries_at p.queues q) h

pub same_event : (d e : Event) → Some d ≡ Some e → e ≡ d
same_event d e h = cc

-- the events of one sort, for the numbers from a to before b, stand from place m on, and none of them can happen
pub still_run : (p : Present) (s : Sizes) (sort : ℕ → Event) (m a b : ℕ)
    → ((x : ℕ) → a ≤ x → x < b → slice_get (candidates_in s) (m + x) ≡ Some (sort x))
    → ((x : ℕ) → a ≤ x → x < b → doable_now p (sort x) ≡ false) → IsStill p s (m + a) (m + b)
still_run p s sort m a b there idle = λ i e from to is.
    let x = i - m in
    let at : m + x ≡ i = omega arith in
    let low : a ≤ x = omega arith in
    let high : x < b = omega arith in
    let same : e ≡ sort x = same_event (sort x) e (sym (there x low high) ∙ ap (slice_get (candidates_in s)) at ∙ is) in
    ap (doable_now p) same ∙ idle x low high

-- no place
pub still_past : (p : Present) (s : Sizes) (k m : ℕ) → m ≤ k → IsStill p s k m
still_past p s k m past = λ i e from to is. absurd (omega arith)

still_by : (p : Present) (s : Sizes) (k m n i : ℕ) (e : Event) → IsStill p s k m → IsStill p s (m + (k - m)) n → k ≤ i → i < n
    → slice_get (candidates_in s) i ≡ Some e → (i ≡ m) ⊎ ((i < m) ⊎ (m < i)) → doable_now p e ≡ false
still_by p s k m n i e first rest from to is (inl same) = rest i e (omega arith) to is
still_by p s k m n i e first rest from to is (inr (inl before)) = first i e from before is
still_by p s k m n i e first rest from to is (inr (inr past)) = rest i e (omega arith) to is

-- up to m, and from there on
pub still_on : (p : Present) (s : Sizes) (k m n : ℕ) → IsStill p s k m → IsStill p s (m + (k - m)) n → IsStill p s k n
still_on p s k m n first rest = λ i e from to is. still_by p s k m n i e first rest from to is (cases_order i m)

-- so where the second place is told as the greater of two
pub still_by_max : (p : Present) (s : Sizes) (k l m n : ℕ) → IsStill p s k l → m ≡ max k l → IsStill p s m n → IsStill p s k n
still_by_max p s k l m n first at rest =
    let same : m ≡ l + (k - l) = omega arith in
    still_on p s k l n first (subst (λ (x : ℕ). IsStill p s x n) same rest)

-- and where there may be no place behind it
pub still_if : (p : Present) (s : Sizes) (k l m end : ℕ) (next : Option ℕ) → IsStill p s k l → m ≡ max k l
    → MatchOption next (IsStill p s m end) (λ n. IsStill p s m n) → MatchOption next (IsStill p s k end) (λ n. IsStill p s k n)
still_if p s k l m end None first at rest = still_by_max p s k l m end first at rest
still_if p s k l m end (Some n) first at rest = still_by_max p s k l m n first at rest

-- up to the first Lose, and from there on
pub still_through : (p : Present) (s : Sizes) (k l n : ℕ) → l ≡ first_loss s → k ≤ l → IsStill p s k (first_loss s) → IsStill p s l n
    → IsStill p s k n
still_through p s k l n at before first rest =
    let same : l ≡ l + (k - l) = omega arith in
    still_on p s k l n (subst (IsStill p s k) (sym at) first) (subst (λ (m : ℕ). IsStill p s m n) same rest)

held_within : (queues : List (List Queued)) (q : ℕ) → holds queues q ≡ true → q < length queues
held_within [] q h = absurd (false≢true h)
held_within (es ∷ queues) zero h = omega arith
held_within (es ∷ queues) (suc q) h = let rest = held_within queues q h in omega arith

marked_within : (queues : List (List Queued)) (q : ℕ) → loses queues q ≡ true → q < length queues
marked_within [] q h = absurd (false≢true h)
marked_within (es ∷ queues) zero h = omega arith
marked_within (es ∷ queues) (suc q) h = let rest = marked_within queues q h in omega arith

-- of a present with these sizes, whose first Lose stands at place l
module _ (p : Present) (s : Sizes) (l : ℕ) (many : s ≡ sizes_of p) (at : l ≡ first_loss s) where
  still_losses : (a b : ℕ) → b ≤ s.queues → ((q : ℕ) → a ≤ q → q < b → loses p.queues q ≡ false) → IsStill p s (l + a) (l + b)
  still_losses a b few idle =
      still_run p s Lose l a b (λ q from to. ap (λ (n : ℕ). slice_get (candidates_in s) (n + q)) at ∙ lose_at s q (omega arith))
      (λ q from to. idle_lose p q (idle q from to))

  still_hops : (a b : ℕ) → b ≤ s.queues → ((q : ℕ) → a ≤ q → q < b → holds p.queues q ≡ false)
      → IsStill p s (l + s.queues + a) (l + s.queues + b)
  still_hops a b few idle =
      still_run p s Hop (l + s.queues) a b
      (λ q from to. ap (λ (n : ℕ). slice_get (candidates_in s) (n + s.queues + q)) at ∙ hop_at s q (omega arith))
      (λ q from to. idle_hop p q (idle q from to))

  -- a queue that holds an entry is there
  pub queue_within : (q : ℕ) → holds p.queues q ≡ true → q < s.queues
  queue_within q h =
      let there : q < length p.queues = held_within p.queues q h in
      let queues : s.queues ≡ length p.queues = ap (λ (z : Sizes). z.queues) many in
      omega arith

  -- so is one that loses an entry
  pub loss_within : (q : ℕ) → loses p.queues q ≡ true → q < s.queues
  loss_within q h =
      let there : q < length p.queues = marked_within p.queues q h in
      let queues : s.queues ≡ length p.queues = ap (λ (z : Sizes). z.queues) many in
      omega arith

  -- up to the next queue that loses an entry, and past the last
  pub loss_next : (k q : ℕ) → IsStill p s k l → IsNext (loses p.queues) (k - l) q → IsStill p s k (l + q)
  loss_next k q before next =
      let there = loss_within q next.here in
      still_on p s k l (l + q) before (still_losses (k - l) q (omega arith) next.none)

  pub past_losses : (k : ℕ) → IsStill p s k l → NoneFrom (loses p.queues) (k - l) → IsStill p s k (l + s.queues)
  past_losses k before none =
      still_on p s k l (l + s.queues) before (still_losses (k - l) s.queues (omega arith) (λ q low high. none q low))

  -- so with hops
  pub hop_next : (k q : ℕ) → IsStill p s k (l + s.queues) → IsNext (holds p.queues) (k - (l + s.queues)) q
      → IsStill p s k (l + s.queues + q)
  hop_next k q before next =
      let there = queue_within q next.here in
      still_on p s k (l + s.queues) (l + s.queues + q) before (still_hops (k - (l + s.queues)) q (omega arith) next.none)

  pub past_hops : (k n : ℕ) → IsStill p s k (l + s.queues) → NoneFrom (holds p.queues) (k - (l + s.queues)) → n ≡ candidate_count s
      → IsStill p s k n
  past_hops k n before none last =
      let whole : l + s.queues + s.queues ≡ n = omega arith in
      subst (IsStill p s k) whole
      (still_on p s k (l + s.queues) (l + s.queues + s.queues) before
      (still_hops (k - (l + s.queues)) s.queues (omega arith) (λ q low high. none q low)))
