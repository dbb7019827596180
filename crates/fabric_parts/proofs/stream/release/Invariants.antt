use Rattle.std.proofs.Common.{◌≡◌, ◌+◌, drop, sum}
use Rattle.fabric_parts.proofs.stream.release.Given as goal

-- so many sizes are gone, and their bytes are counted
abbrev pub invariant-loop : goal.invariant-loop
invariant-loop l =
    (l.sizes.items ≡ drop l.counter l.initial.sizes.items)
    × (l.bytes + sum l.sizes.items ≡ sum l.initial.sizes.items)
    × (l.sizes.capacity ≡ l.initial.sizes.capacity)
