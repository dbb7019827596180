use Rattle.std.proofs.Common.{◌≡◌, ◌+◌}
use Rattle.route_writes.specs.Planned.{route_at}
use Rattle.route_writes.proofs.Along.{GoesOn}
use Rattle.route_writes.proofs.writes.write_along.Given as goal

-- the nodes so far are written
abbrev pub invariant-loop-index : goal.invariant-loop-index
invariant-loop-index g l = record {
  on : GoesOn (route_at l.fn.net.present.tree l.ends) l.index l.count
      (record { net = l.fn.net; banks = g.B.RegisterSlots.slots l.fn.banks })
      (record { net = l.net; banks = g.B.RegisterSlots.slots l.banks });
  number : l.count + 1 ≡ l.index;
}
