use Rattle.std.proofs.Common.{◌≡◌, ◌-◌, ◌≤◌, length}
use mathlib.Core.List.{IsPrefix}
use Rattle.stream_lanes.proofs.source.fill.Given as goal

-- so many packets are put, after those before
abbrev pub invariant-loop-alloc : goal.invariant-loop-alloc
invariant-loop-alloc g l = record {
  lane : l.tx.lane ≡ l.fn.tx.lane;
  taken : l.tx.taken ≡ l.fn.tx.taken;
  next : l.next ≡ length l.tx.put;
  within : l.next ≤ l.makes.packets;
  longer : IsPrefix l.fn.tx.put l.tx.put;
}

abbrev pub decreases-loop-alloc : goal.decreases-loop-alloc
decreases-loop-alloc g l = l.makes.packets - l.next
