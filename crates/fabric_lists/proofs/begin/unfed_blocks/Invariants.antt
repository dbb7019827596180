use Rattle.std.proofs.Common.{◌≡◌}
use Rattle.std.specs.Prelude.{map}
use Rattle.std.specs.List.{range_with_len}
use Rattle.fabric_lists.specs.Opened.{unfed}
use Rattle.fabric_lists.specs.BlocksView.{block_in}
use Rattle.fabric_lists.proofs.begin.unfed_blocks.Given as goal

-- the first blocks are made
abbrev pub invariant-loop-b : goal.invariant-loop-b
invariant-loop-b l = map block_in l.blocks.items ≡ map (unfed l.plan) (range_with_len 0 l.b)
