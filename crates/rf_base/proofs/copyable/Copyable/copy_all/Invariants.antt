use Rattle.std.proofs.Common.{◌≡◌, take}
use Rattle.rf_base.proofs.copyable.Copyable.copy_all.Given as goal

-- the items before this one are copied
abbrev pub invariant-loop-item : goal.invariant-loop-item
invariant-loop-item g l = l.made.items ≡ take l.item-index l.items
