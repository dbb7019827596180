use Rattle.std.proofs.Common.{◌≡◌, ◌+◌, ◌≤◌, drop}
use Rattle.net_nodes.specs.Operations.{asked_in}
use Rattle.net_nodes.proofs.room.asked_in.Given as goal

-- the answers so far and those of the rest are all of them
abbrev pub invariant-loop-op : goal.invariant-loop-op
invariant-loop-op l = record {
  all : l.count + asked_in (drop l.op-index l.ops) ≡ asked_in l.ops;
  few : l.count ≤ l.op-index;
}
