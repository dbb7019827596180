use Rattle.std.proofs.Common.{◌≡◌, take}
use Rattle.std.specs.Vec.{vec_capacity}
use Rattle.net_nodes.proofs.hop.in_room.Given as goal

-- the operations before this one are held
abbrev pub invariant-loop-op : goal.invariant-loop-op
invariant-loop-op l = record {
  items : l.held.items ≡ take l.op-index l.ops;
  room : vec_capacity l.held ≡ l.fn.room;
}
