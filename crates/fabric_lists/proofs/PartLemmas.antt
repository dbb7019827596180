-- Parts at their places, seen through what contracts read of each.
use Rattle.std.proofs.Common.{◌≡◌, ℕ, ◌+◌, ◌<◌, List, [], ◌∷◌, ◌++◌, length, sym, ◌∙◌, ap, arith, subst, get_or, set}
use Rattle.std.specs.Prelude.{map, not}
use Rattle.std.specs.List.{list_all, range_with_len}
use Rattle.std.proofs.lemmas.List.Folds.{list_all-map}
use Rattle.net_machine.specs.Conditions.{is_of, none_under_way}
use Rattle.net_machine.specs.Front.{Queued}
use Rattle.net_machine.specs.declared.plan.StreamPlan.{StreamPlan}
use Rattle.fabric_parts.specs.Queues.{QueueSeen}
use Rattle.fabric_lists.specs.QueuesView.{entries_of}
use Rattle.std.proofs.lemmas.List.{map-append, map-set, get_or-map, length-map}
use Rattle.std.proofs.lemmas.List.FromFn.{map-range_with_len_more}

-- what is read of a part at a place that is there
pub read-at : {A B : Type 0} (read : A → B) (parts : List A) (i : ℕ) (part : A) (none : B) → i < length (map read parts)
    → part ≡ get_or parts i part → read part ≡ get_or (map read parts) i none
read-at read parts i part none there is =
    let within : i < length parts = subst (λ (n : ℕ). i < n) (length-map parts read) there in
    ap read is ∙ sym (get_or-map read parts i part none within)

-- what is read once a part was written
pub read-set : {A B : Type 0} (read : A → B) (parts : List A) (i : ℕ) (part : A) (next : B) → read part ≡ next
    → map read (set parts i part) ≡ set (map read parts) i next
read-set read parts i part next is = map-set read parts i part ∙ ap (set (map read parts) i) is

-- what is read of some parts, once one more was made
pub one-more : {A B : Type 0} (read : A → B) (parts next : List A) (part : A) (made : ℕ → B) (n : ℕ) → next ≡ parts ++ part ∷ []
    → map read parts ≡ map made (range_with_len 0 n) → read part ≡ made n → map read next ≡ map made (range_with_len 0 (n + 1))
one-more read parts next part made n is before here =
    let e : 0 + n ≡ n = omega arith in
    ap (map read) is ∙ map-append read parts (part ∷ []) ∙ ap (λ ys. ys ++ read part ∷ []) before
    ∙ ap (λ y. map made (range_with_len 0 n) ++ y ∷ []) here ∙ sym (map-range_with_len_more made 0 n n e)

-- a stream has no entry in the queues that contracts see
pub none_in_all : (queues : List QueueSeen) (plan : StreamPlan) → none_under_way (map entries_of queues) plan
    ≡ list_all (λ (q : QueueSeen). list_all (λ (e : Queued). not (is_of plan e.packet.dst e.packet.body)) q.entries) queues
none_in_all queues plan =
    list_all-map (λ (es : List Queued). list_all (λ (e : Queued). not (is_of plan e.packet.dst e.packet.body)) es) entries_of queues
