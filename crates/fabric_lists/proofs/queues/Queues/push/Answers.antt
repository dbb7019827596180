use Rattle.std.proofs.Common.{◌≡◌, ◌<◌, true, List, [], ◌∷◌, ◌++◌, length, refl, ◌∙◌, sym, ap, subst, get_or, set, arith}
use Rattle.std.specs.Prelude.{map}
use Rattle.net_machine.specs.Conditions.{can_lose}
use Rattle.net_machine.specs.Front.{Queued}
use Rattle.fabric_lists.specs.QueuesView.{QueuesSeen, entries_of, is_held}
use Rattle.fabric_lists.proofs.queues.Queues.push.Goals as goal
use Rattle.fabric_lists.proofs.HeldLemmas.{flag_set, flags_count, joined_held, rooms_set}
use Rattle.fabric_lists.proofs.PartLemmas.{read-at, read-set}

pub returns-clause-entries : goal.returns-clause-entries
returns-clause-entries c =
    let parts = c.self.inside.queues.items in
    let seen : map entries_of parts ≡ c.args.self.now.entries = ap (λ (v : QueuesSeen). v.entries) c.self.view_is in
    let there : c.args.q < length (map entries_of parts) =
    subst (λ (es : List (List Queued)). c.args.q < length es) (sym seen) c.requires.there in
    read-set entries_of parts c.args.q c.push.new.self (get_or (map entries_of parts) c.args.q [] ++ c.args.entry ∷ [])
    (c.push.ensures.entries ∙ ap (λ (es : List Queued). es ++ c.args.entry ∷ [])
    (read-at entries_of parts c.args.q c.index_mut-joined.result.now [] there c.index_mut-joined.ensures.value))
    ∙ ap (λ (es : List (List Queued)). set es c.args.q (get_or es c.args.q [] ++ c.args.entry ∷ [])) seen

pub set-requires : goal.set-requires
set-requires c =
    let parts = c.self.inside.queues.items in
    let there : c.args.q < length (map entries_of parts) =
    subst (λ (v : QueuesSeen). c.args.q < length v.entries) (sym c.self.view_is) c.requires.there in
    let many = flags_count is_held refl parts c.self.inside.held c.self.invariant.held in
    omega arith

pub set-requires-2 : goal.set-requires-2
set-requires-2 c =
    let parts = c.self.inside.queues.items in
    let there : c.args.q < length (map entries_of parts) =
    subst (λ (v : QueuesSeen). c.args.q < length v.entries) (sym c.self.view_is) c.requires.there in
    let many = flags_count can_lose refl parts c.self.inside.marked c.self.invariant.marked in
    omega arith

pub invariant_of-self : goal.invariant_of-self
invariant_of-self c =
    let parts = c.self.inside.queues.items in
    let there : c.args.q < length (map entries_of parts) =
    subst (λ (v : QueuesSeen). c.args.q < length v.entries) (sym c.self.view_is) c.requires.there in
    let joined : true ≡ is_held c.push.new.self.entries =
    joined_held c.index_mut-joined.result.now.entries c.args.entry ∙ sym (ap is_held c.push.ensures.entries) in
    record {
      rooms = rooms_set parts c.self.inside.room c.args.q c.index_mut-joined.result.now c.push.new.self c.self.invariant.rooms there
          c.index_mut-joined.ensures.value c.push.ensures.room;
      held = c.set.ensures ∙ flag_set is_held refl parts c.self.inside.held c.args.q c.push.new.self true c.self.invariant.held joined;
      marked = c.set-2.ensures ∙ flag_set can_lose refl parts c.self.inside.marked c.args.q c.push.new.self c.is_front_marked-is_marked.result
          c.self.invariant.marked c.is_front_marked-is_marked.ensures;
    }
