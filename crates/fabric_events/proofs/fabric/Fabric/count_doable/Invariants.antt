use Rattle.std.proofs.Common.{◌≡◌, ◌-◌, ◌≤◌}
use Rattle.fabric_events.specs.Choosing.{doable_now}
use Rattle.fabric_events.specs.Fabrics.{present_of}
use Rattle.fabric_events.specs.Sizes.{candidate_count, candidates_in}
use Rattle.fabric_events.proofs.fabric.Fabric.count_doable.Given as goal
use Rattle.fabric_events.proofs.ChoosingLemmas.{passing}

-- those that can happen are counted so far
abbrev pub invariant-loop-k : goal.invariant-loop-k
invariant-loop-k l =
    (l.count ≡ passing (doable_now (present_of l.self)) (candidates_in l.sizes) l.k) × ((l.count ≤ l.k) × (l.k ≤ candidate_count l.sizes))

abbrev pub decreases-loop-k : goal.decreases-loop-k
decreases-loop-k l = candidate_count l.sizes - l.k
