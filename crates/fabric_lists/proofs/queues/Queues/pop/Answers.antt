use Rattle.std.proofs.Common.{◌≡◌, ◌<◌, List, [], ◌∷◌, length, refl, ◌∙◌, sym, ap, subst, get_or, set, Option, None, Some, arith}
use Rattle.std.specs.Prelude.{map, nat_lt, MatchOption}
use Rattle.net_machine.specs.Conditions.{can_lose}
use Rattle.net_machine.specs.Front.{Queued}
use Rattle.fabric_lists.specs.QueuesView.{QueuesSeen, entries_of, is_held}
use Rattle.fabric_lists.proofs.queues.Queues.pop.Goals as goal
use Rattle.fabric_lists.proofs.HeldLemmas.{flag_set, flags_count, held_by_length, rooms_set}
use Rattle.fabric_lists.proofs.PartLemmas.{read-at, read-set}

-- what was popped of a queue with these entries
popped : (result : Option Queued) (old new : List Queued) (e : Queued) (rest : List Queued)
    → MatchOption result (old ≡ []) (λ first. old ≡ first ∷ new) → old ≡ e ∷ rest → (result ≡ Some e) × (new ≡ rest)
popped None old new e rest h is = absurd (cc (sym h ∙ is))
popped (Some first) old new e rest h is =
    let same : first ∷ new ≡ e ∷ rest = sym h ∙ is in
    let front : first ≡ e = cc in
    let left : new ≡ rest = cc in
    (ap (λ (q : Queued). Some q) front, left)

pub returns-clause-front : goal.returns-clause-front
returns-clause-front c e rest is =
    let parts = c.self.inside.queues.items in
    let seen : map entries_of parts ≡ c.args.self.now.entries = ap (λ (v : QueuesSeen). v.entries) c.self.view_is in
    let there : c.args.q < length (map entries_of parts) =
    subst (λ (es : List (List Queued)). c.args.q < length es) (sym seen) c.requires in
    let here : c.index_mut-queue.result.now.entries ≡ e ∷ rest =
    read-at entries_of parts c.args.q c.index_mut-queue.result.now [] there c.index_mut-queue.ensures.value
    ∙ ap (λ (es : List (List Queued)). get_or es c.args.q []) seen ∙ is in
    let both = popped c.pop-entry.result c.index_mut-queue.result.now.entries c.pop-entry.new.self.entries e rest c.pop-entry.ensures.front here in (
      both.0,
      read-set entries_of parts c.args.q c.pop-entry.new.self rest both.1 ∙ ap (λ (es : List (List Queued)). set es c.args.q rest) seen,
    )

pub set-requires : goal.set-requires
set-requires c =
    let parts = c.self.inside.queues.items in
    let there : c.args.q < length (map entries_of parts) =
    subst (λ (v : QueuesSeen). c.args.q < length v.entries) (sym c.self.view_is) c.requires in
    let many = flags_count is_held refl parts c.self.inside.held c.self.invariant.held in
    omega arith

pub set-requires-2 : goal.set-requires-2
set-requires-2 c =
    let parts = c.self.inside.queues.items in
    let there : c.args.q < length (map entries_of parts) =
    subst (λ (v : QueuesSeen). c.args.q < length v.entries) (sym c.self.view_is) c.requires in
    let many = flags_count can_lose refl parts c.self.inside.marked c.self.invariant.marked in
    omega arith

pub invariant_of-self : goal.invariant_of-self
invariant_of-self c =
    let parts = c.self.inside.queues.items in
    let new = c.pop-entry.new.self in
    let there : c.args.q < length (map entries_of parts) =
    subst (λ (v : QueuesSeen). c.args.q < length v.entries) (sym c.self.view_is) c.requires in
    let here : nat_lt 0 c.len-is_held.result ≡ is_held new.entries = ap (nat_lt 0) c.len-is_held.ensures ∙ held_by_length new.entries in
    record {
      rooms = rooms_set parts c.self.inside.room c.args.q c.index_mut-queue.result.now new c.self.invariant.rooms there
          c.index_mut-queue.ensures.value c.pop-entry.ensures.room;
      held = c.set.ensures ∙ flag_set is_held refl parts c.self.inside.held c.args.q new (nat_lt 0 c.len-is_held.result) c.self.invariant.held here;
      marked = c.set-2.ensures ∙ flag_set can_lose refl parts c.self.inside.marked c.args.q new c.is_front_marked-is_marked.result
          c.self.invariant.marked c.is_front_marked-is_marked.ensures;
    }
