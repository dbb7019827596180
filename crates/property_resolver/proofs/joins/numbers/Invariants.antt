use Rattle.std.proofs.Common.{◌≡◌, length}
use Rattle.property_resolver.specs.Joined.{HasEdges}
use Rattle.property_resolver.proofs.joins.numbers.Given as goal

abbrev pub invariant-loop-number : goal.invariant-loop-number
invariant-loop-number l = (length l.numbers ≡ 64) × HasEdges l.side l.edges l.number l.numbers
