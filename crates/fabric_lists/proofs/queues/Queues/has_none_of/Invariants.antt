use Rattle.std.proofs.Common.{◌-◌, ◌≤◌, length}
use Rattle.fabric_lists.proofs.HeldLemmas.{NoneBelow}
use Rattle.fabric_lists.proofs.queues.Queues.has_none_of.Given as goal

-- no entry of the stream is in one of the queues so far
abbrev pub invariant-loop-q : goal.invariant-loop-q
invariant-loop-q l = NoneBelow l.plan l.self.entries l.from × (l.from ≤ length l.self.entries)

abbrev pub decreases-loop-q : goal.decreases-loop-q
decreases-loop-q l = length l.self.entries - l.from
