use Rattle.std.proofs.Common.{◌≡◌, ◌++◌, not, take}
use Rattle.std.specs.Prelude.{filter}
use Rattle.net_faults.specs.declared.fault.Fault.{Fault}
use Rattle.net_machine.specs.Faults.{is_transaction}
use Rattle.fabric_net.proofs.renaming.renamed.Given as goal

-- of the first old faults those of packets of streams
abbrev pub invariant-loop-fault : goal.invariant-loop-fault
invariant-loop-fault l = l.faults ≡ filter (λ (f : Fault). not (is_transaction f)) (take l.fault-index l.fault-items)

-- and of the first new ones those of requests and answers
abbrev pub invariant-loop-fault-2 : goal.invariant-loop-fault-2
invariant-loop-fault-2 l =
    l.faults ≡ filter (λ (f : Fault). not (is_transaction f)) l.old ++ filter is_transaction (take l.fault-index l.fault-items)
