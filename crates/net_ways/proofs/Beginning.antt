-- A network is built with its queues, and a run begins with the ways of its streams.
use Rattle.std.proofs.Common.{◌≡◌, ℕ, ◌≤◌, ◌<◌, ◌⊎◌, inl, inr, Bool, true, false, cond, List, [], length, refl, ◌∙◌, ap, arith, get_or, eq-eqb}
use Rattle.std.specs.Prelude.{◌==◌, Some, None, position}
use Rattle.std.specs.List.{AllByRecursion, position_or_len}
use Rattle.std.proofs.lemmas.Bool.{cases_Bool, cases_lt, eqb-true, lt-ltb}
use Rattle.std.proofs.lemmas.List.{get_or_past, length-map, length-replicate}
use Rattle.std.proofs.lemmas.List.Sums.{position_or_len_is}
use Rattle.std.proofs.Math.Dec.{ltb}
use Rattle.chdr_words.specs.declared.epid.Epid.{Epid}
use Rattle.net_machine.specs.declared.plan.RunPlan.{RunPlan}
use Rattle.net_machine.specs.declared.plan.StreamPlan.{StreamPlan}
use Rattle.net_machine.specs.Begin.{opened}
use Rattle.net_machine.specs.CanBegin.{HaveOwnEnds, from_of, to_of}
use Rattle.net_machine.specs.Plans.{is_from, is_to, no_stream, plan_at, stream_from, stream_to}
use Rattle.net_machine.specs.Queues.{queue_count}
use Rattle.net_machine.specs.State.{Entry, queue_at}
use Rattle.net_machine.proofs.Laws.{shapes_stay as all_shapes}
use Rattle.net_ways.specs.Beginning.{BegunHasQueues, BegunHasWays, BuiltHasQueues, EmptyIsPlaced, QueuesStay}
use Rattle.net_ways.specs.Standing.{IsPlaced}

pub built-queues : BuiltHasQueues
built-queues tree routed banks is = record { tree = is; queues = length-replicate (queue_count tree) [] }

pub begun-queues : BegunHasQueues
begun-queues plan w has = record { tree = has.tree; queues = has.queues }

pub queues-stay : QueuesStay
queues-stay w moves has =
    let shape = all_shapes w moves in
    record { tree = rw shape.tree has.tree; queues = rw shape.tree (shape.queues ∙ has.queues) }

-- the first place that passes a test
first-place : {A : Type 0} (p : A → Bool) (xs : List A) (s : ℕ) (d : A) → s < length xs → p (get_or xs s d) ≡ true →
    ((k : ℕ) → k < s → p (get_or xs k d) ≡ false) → position p xs ≡ Some s
first-place p xs s d lt here before =
    let place : position_or_len p xs ≡ s = position_or_len_is p xs s d (omega (arith, lt)) before (λ l. here) in
    ap (λ i. cond (ltb i (length xs)) (Some i) None) place ∙ ap (λ b. cond b (Some s) None) (lt-ltb s (length xs) lt)

abbrev epid_of : ℕ → Epid
epid_of n = record { 0 = n }

same-epid : (a b : Epid) → a.0 ≡ b.0 → a ≡ b
same-epid a b same = ap epid_of same

-- no earlier stream has the end of stream s
none-before : (plan : RunPlan) (end_at : StreamPlan → Epid) → ((s t : ℕ) → s < length plan.streams → t < length plan.streams → end_at (plan_at plan s) ≡ end_at (plan_at plan t) → s ≡ t) →
    (s : ℕ) → s < length plan.streams → (k : ℕ) → k < s → ((end_at (plan_at plan k)).0 == (end_at (plan_at plan s)).0) ≡ false
none-before plan end_at own s lt k less =
    elim (cases_Bool ((end_at (plan_at plan k)).0 == (end_at (plan_at plan s)).0)) [
      | inl t ↦ let same : k ≡ s = own k s (omega (arith, less, lt)) lt (same-epid (end_at (plan_at plan k)) (end_at (plan_at plan s)) (eqb-true (end_at (plan_at plan k)).0 (end_at (plan_at plan s)).0 t)) in absurd (omega (arith, same, less))
      | inr f ↦ f
    ]

finds-to : (plan : RunPlan) → HaveOwnEnds plan (to_of plan) → (s : ℕ) → s < length plan.streams → stream_to plan (plan_at plan s).to ≡ Some s
finds-to plan own s lt =
    first-place (is_to (plan_at plan s).to) plan.streams s no_stream lt (eq-eqb (plan_at plan s).to.0 (plan_at plan s).to.0 refl)
    (none-before plan (λ (st : StreamPlan). st.to) own s lt)

finds-from : (plan : RunPlan) → HaveOwnEnds plan (from_of plan) → (s : ℕ) → s < length plan.streams → stream_from plan (plan_at plan s).from ≡ Some s
finds-from plan own s lt =
    first-place (is_from (plan_at plan s).from) plan.streams s no_stream lt (eq-eqb (plan_at plan s).from.0 (plan_at plan s).from.0 refl)
    (none-before plan (λ (st : StreamPlan). st.from) own s lt)

pub begun-ways : BegunHasWays
begun-ways plan w can = record {
  as_many = length-map plan.streams (opened plan);
  each = λ s lt. record {
    forth = (can.routed s lt).forth;
    back = (can.routed s lt).back;
    to = finds-to plan can.ports_free.1 s lt;
    from = finds-from plan can.ports_free.0 s lt;
  };
}

-- an empty queue has its entries placed
none-placed : (P : Entry → Type 0) (es : List Entry) → es ≡ [] → AllByRecursion P es
none-placed P es is = rw is tt

pub empty-placed : EmptyIsPlaced
empty-placed w empty q = by_order (cases_lt q (length w.queues))
  where
    by_order : (q < length w.queues) ⊎ (length w.queues ≤ q) → AllByRecursion (IsPlaced w.tree w.plan q) (queue_at w.queues q)
    by_order (inl lt) = none-placed (IsPlaced w.tree w.plan q) (queue_at w.queues q) (empty q [] lt)
    by_order (inr past) = none-placed (IsPlaced w.tree w.plan q) (queue_at w.queues q) (get_or_past w.queues q [] past)
