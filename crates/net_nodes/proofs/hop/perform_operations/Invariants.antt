use Rattle.std.proofs.Common.{◌≡◌, ◌+◌, ◌≤◌, take, drop, fold}
use Rattle.std.specs.Vec.{vec_len, vec_capacity}
use Rattle.net_nodes.specs.Operations.{asked_in}
use Rattle.net_nodes.specs.Perform.{work_of, operated}
use Rattle.net_nodes.specs.declared.site.Done.TheVariants.{Dead}
use Rattle.net_nodes.proofs.hop.perform_operations.Given as goal

-- the operations before this one are performed, and there is room for the answers of the rest
abbrev pub invariant-loop-op : goal.invariant-loop-op
invariant-loop-op l = record {
  work : work_of l.table l.exit l.last.items ≡ fold (operated l.site l.src) (work_of l.initial.table Dead l.initial.last.items) (take l.op-index l.ops);
  room : vec_len l.last + asked_in (drop l.op-index l.ops) ≤ vec_capacity l.last;
}
