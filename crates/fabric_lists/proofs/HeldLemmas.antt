-- Which queues hold an entry or lose one, by their flags, and what follows of the others.
use Rattle.std.proofs.Common.{◌≡◌, ◌⊎◌, ℕ, zero, suc, ◌+◌, ◌<◌, Bool, true, false, List, [], ◌∷◌, ◌++◌, length, refl, sym, ◌∙◌, ap, subst, Option, None, Some, get_or, set, inl, inr, arith}
use Rattle.std.specs.Prelude.{◌&&◌, All, MatchOption, map, nat_lt, replicate}
use Rattle.std.proofs.Math.ListN.{get_or-map}
use Rattle.std.proofs.lemmas.Bool.{cases_order, false≢true, lt-ltb}
use Rattle.std.proofs.lemmas.List.{length-map, map-set}
use Rattle.std.proofs.lemmas.List.Elements.{All-get_or, All-set}
use Rattle.std.proofs.lemmas.List.Folds.{list_all_at}
use Rattle.fabric_flags.specs.Set.{IsNext, NoneFrom, flag_at}
use Rattle.fabric_parts.specs.Queues.{QueueSeen}
use Rattle.net_machine.specs.Conditions.{none_under_way}
use Rattle.net_machine.specs.Front.{Queued}
use Rattle.net_machine.specs.declared.plan.StreamPlan.{StreamPlan}
use Rattle.net_present.specs.Onward.{entries_at}
use Rattle.fabric_lists.specs.QueuesView.{entries_of, has_none, holds, is_held}

-- Flags of the queues by what is read of their entries: of an empty queue it is false.
module _ (read : List Queued → Bool) (blank : read [] ≡ false) where
  -- there is a flag for each queue
  pub flags_count : (parts : List QueueSeen) (flags : List Bool) → flags ≡ map read (map entries_of parts)
      → length flags ≡ length (map entries_of parts)
  flags_count parts flags is = ap (λ (fs : List Bool). length fs) is ∙ length-map (map entries_of parts) read

  flag_is : (queues : List (List Queued)) (q : ℕ) → flag_at (map read queues) q ≡ read (entries_at queues q)
  flag_is queues q = ap (λ (none : Bool). get_or (map read queues) q none) (sym blank) ∙ get_or-map read queues q []

  -- the next set flag is that of the next queue of which this holds
  pub next_is : (queues : List (List Queued)) (n : ℕ) (next : Option ℕ)
      → MatchOption next (NoneFrom (flag_at (map read queues)) n) (IsNext (flag_at (map read queues)) n)
      → MatchOption next (NoneFrom (λ q. read (entries_at queues q)) n) (IsNext (λ q. read (entries_at queues q)) n)
  next_is queues n None none = λ j from. sym (flag_is queues j) ∙ none j from
  next_is queues n (Some q) next = record {
    from = next.from;
    here = sym (flag_is queues q) ∙ next.here;
    none = λ j from before. sym (flag_is queues j) ∙ next.none j from before;
  }

  -- it holds of no empty queue
  pub none_set : (count : ℕ) → replicate count false ≡ map read (replicate count [])
  none_set zero = refl
  none_set (suc n) = ap (λ (b : Bool). b ∷ replicate n false) (sym blank) ∙ ap (λ (flags : List Bool). read [] ∷ flags) (none_set n)

  -- a flag that says of its queue whether it does
  pub flag_set : (parts : List QueueSeen) (flags : List Bool) (q : ℕ) (part : QueueSeen) (on : Bool) → flags ≡ map read (map entries_of parts)
      → on ≡ read part.entries → set flags q on ≡ map read (map entries_of (set parts q part))
  flag_set parts flags q part on is here =
      ap (λ (fs : List Bool). set fs q on) is ∙ ap (set (map read (map entries_of parts)) q) here
      ∙ sym (ap (map read) (map-set entries_of parts q part) ∙ map-set read (map entries_of parts) q part.entries)

-- a queue that was written keeps its room
pub rooms_set : (parts : List QueueSeen) (room q : ℕ) (old new : QueueSeen) → All (λ (p : QueueSeen). p.room ≡ room) parts
    → q < length (map entries_of parts) → old ≡ get_or parts q old → new.room ≡ old.room
    → All (λ (p : QueueSeen). p.room ≡ room) (set parts q new)
rooms_set parts room q old new rooms there is same =
    let within : q < length parts = subst (λ (n : ℕ). q < n) (length-map parts entries_of) there in
    let here : old.room ≡ room = subst (λ (p : QueueSeen). p.room ≡ room) (sym is)
    (All-get_or (λ (p : QueueSeen). p.room ≡ room) parts q old within rooms) in
    All-set (λ (p : QueueSeen). p.room ≡ room) parts q new (same ∙ here) rooms

-- a queue that an entry joined holds one
pub joined_held : (es : List Queued) (e : Queued) → true ≡ is_held (es ++ e ∷ [])
joined_held [] e = refl
joined_held (x ∷ es) e = refl

-- a queue holds an entry if its length isn't 0
pub held_by_length : (es : List Queued) → nat_lt 0 (length es) ≡ is_held es
held_by_length [] = refl
held_by_length (e ∷ es) = lt-ltb 0 (length (e ∷ es)) (omega arith)

-- no entry of a stream is in one of the first n queues
abbrev pub NoneBelow : StreamPlan → List (List Queued) → ℕ → Type 0
NoneBelow plan queues n = (j : ℕ) → j < n → has_none plan (entries_at queues j) ≡ true

none_in : (plan : StreamPlan) (es : List Queued) → is_held es ≡ false → has_none plan es ≡ true
none_in plan [] h = refl
none_in plan (e ∷ es) h = absurd (false≢true (sym h))

less_of : (plan : StreamPlan) (queues : List (List Queued)) (n q j : ℕ) → NoneBelow plan queues n → IsNext (holds queues) n q → j < q
    → (j ≡ n) ⊎ ((j < n) ⊎ (n < j)) → has_none plan (entries_at queues j) ≡ true
less_of plan queues n q j before next less (inl same) = none_in plan (entries_at queues j) (next.none j (omega arith) less)
less_of plan queues n q j before next less (inr (inl below)) = before j below
less_of plan queues n q j before next less (inr (inr past)) = none_in plan (entries_at queues j) (next.none j (omega arith) less)

more_of : (plan : StreamPlan) (queues : List (List Queued)) (n q j : ℕ) → NoneBelow plan queues n → IsNext (holds queues) n q
    → has_none plan (entries_at queues q) ≡ true → j < q + 1 → (j ≡ q) ⊎ ((j < q) ⊎ (q < j)) → has_none plan (entries_at queues j) ≡ true
more_of plan queues n q j before next here there (inl same) = ap (λ (k : ℕ). has_none plan (entries_at queues k)) same ∙ here
more_of plan queues n q j before next here there (inr (inl less)) = less_of plan queues n q j before next less (cases_order j n)
more_of plan queues n q j before next here there (inr (inr past)) = absurd (omega arith)

-- nor in those up to the next that holds an entry, if it has none of the stream
pub none_more : (plan : StreamPlan) (queues : List (List Queued)) (n q : ℕ) → NoneBelow plan queues n → IsNext (holds queues) n q
    → has_none plan (entries_at queues q) ≡ true → NoneBelow plan queues (q + 1)
none_more plan queues n q before next here = λ j there. more_of plan queues n q j before next here there (cases_order j q)

both_true : (a b : Bool) → a ≡ true → b ≡ true → (a && b) ≡ true
both_true true b first second = second
both_true false b first second = absurd (false≢true first)

none_from : (plan : StreamPlan) (queues : List (List Queued)) → ((j : ℕ) → has_none plan (entries_at queues j) ≡ true)
    → none_under_way queues plan ≡ true
none_from plan [] h = refl
none_from plan (es ∷ queues) h =
    both_true (has_none plan es) (none_under_way queues plan) (h 0) (none_from plan queues (λ j. h (suc j)))

past_of : (plan : StreamPlan) (queues : List (List Queued)) (n j : ℕ) → NoneBelow plan queues n → NoneFrom (holds queues) n
    → (j ≡ n) ⊎ ((j < n) ⊎ (n < j)) → has_none plan (entries_at queues j) ≡ true
past_of plan queues n j before none (inl same) = none_in plan (entries_at queues j) (none j (omega arith))
past_of plan queues n j before none (inr (inl below)) = before j below
past_of plan queues n j before none (inr (inr past)) = none_in plan (entries_at queues j) (none j (omega arith))

-- nor in any, if none from n on holds an entry
pub none_at_all : (plan : StreamPlan) (queues : List (List Queued)) (n : ℕ) → NoneBelow plan queues n → NoneFrom (holds queues) n
    → true ≡ none_under_way queues plan
none_at_all plan queues n before none = sym (none_from plan queues (λ j. past_of plan queues n j before none (cases_order j n)))

-- an entry of a stream in one queue
pub one_there : (plan : StreamPlan) (queues : List (List Queued)) (q : ℕ) → q < length queues → has_none plan (entries_at queues q) ≡ false
    → false ≡ none_under_way queues plan
one_there plan queues q there h = sym (list_all_at (has_none plan) queues q [] there h)

held_within : (queues : List (List Queued)) (q : ℕ) → holds queues q ≡ true → q < length queues
held_within [] q h = absurd (false≢true h)
held_within (es ∷ queues) zero h = omega arith
held_within (es ∷ queues) (suc q) h = let rest = held_within queues q h in omega arith

-- a queue that holds an entry is there
pub next_within : (queues : List (List Queued)) (n q : ℕ) → IsNext (holds queues) n q → q < length queues
next_within queues n q next = held_within queues q next.here
