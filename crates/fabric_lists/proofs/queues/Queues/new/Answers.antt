use Rattle.std.proofs.Common.{◌≡◌, ℕ, List, [], refl, ◌∙◌, sym, ap, arith}
use Rattle.std.specs.Prelude.{map, replicate}
use Rattle.net_machine.specs.Conditions.{can_lose}
use Rattle.net_machine.specs.Front.{Queued}
use Rattle.fabric_lists.specs.QueuesView.{entries_of, is_held}
use Rattle.fabric_lists.proofs.HeldLemmas.{none_set}
use Rattle.fabric_lists.proofs.queues.Queues.new.Goals as goal

pub invariant_of-result : goal.invariant_of-result
invariant_of-result c =
    let past = c.loop-test.false in
    let within = c.loop.auto.counter-end in
    let all : c.loop.counter ≡ c.args.count = omega arith in
    let built : map entries_of c.loop.queues.items ≡ replicate c.args.count [] =
    c.loop.invariant.0 ∙ ap (λ (n : ℕ). replicate n []) all in
    record {
      rooms = c.loop.invariant.1;
      held = c.in_ok-held.ensures ∙ none_set is_held refl c.args.count ∙ sym (ap (λ (qs : List (List Queued)). map is_held qs) built);
      marked = c.in_ok-marked.ensures ∙ none_set can_lose refl c.args.count ∙ sym (ap (λ (qs : List (List Queued)). map can_lose qs) built);
    }
