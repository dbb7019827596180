use Rattle.std.proofs.Common.{◌≡◌, ◌-◌, length}
use mathlib.Core.List.{IsPrefix}
use Rattle.stream_lanes.proofs.drain.take_all.Given as goal

-- the list has what was taken, after what was taken before
abbrev pub invariant-loop-list : goal.invariant-loop-list
invariant-loop-list l = record {
  lane : l.rx.lane ≡ l.fn.rx.lane;
  known : l.rx.known ≡ l.fn.rx.known;
  list : l.list.items ≡ l.rx.got;
  longer : IsPrefix l.fn.rx.got l.rx.got;
  order : IsPrefix l.rx.got l.rx.known;
}

abbrev pub decreases-loop-list : goal.decreases-loop-list
decreases-loop-list l = length l.rx.known - length l.rx.got
