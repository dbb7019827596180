use Rattle.std.proofs.Common.{◌≡◌, []}
use Rattle.std.specs.Prelude.{All, map, replicate}
use Rattle.fabric_parts.specs.Queues.{QueueSeen}
use Rattle.fabric_lists.specs.QueuesView.{entries_of}
use Rattle.fabric_lists.proofs.queues.Queues.new.Given as goal

abbrev pub invariant-loop : goal.invariant-loop
invariant-loop l =
    (map entries_of l.queues.items ≡ replicate l.counter []) × All (λ (q : QueueSeen). q.room ≡ l.room) l.queues.items
