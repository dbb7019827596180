use Rattle.std.proofs.Common.{◌≡◌, ◌<◌, ℕ, length, slice_index}
use Rattle.net_topology.proofs.check.first_row.Given as goal

-- the nodes before this one are named
abbrev pub invariant-loop-x : goal.invariant-loop-x
invariant-loop-x l = (length l.row ≡ l.x) × ((y : ℕ) → y < l.x → slice_index l.row y ≡ y)
