use Rattle.std.proofs.Common.{◌≡◌, ◌++◌, take}
use Rattle.block_library.proofs.make.push_group.Given as goal

-- the members before this one are copied
abbrev pub invariant-loop-member : goal.invariant-loop-member
invariant-loop-member l = l.made.items ≡ l.initial.made.items ++ take l.member-index l.group
