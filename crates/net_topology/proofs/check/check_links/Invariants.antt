use Rattle.net_topology.specs.Parts.{HasRows}
use Rattle.net_topology.specs.Tree.{SoundBelow}
use Rattle.net_topology.proofs.check.check_links.Given as goal

-- the links before this one are sound, and the parts that they leave are known
abbrev pub invariant-loop-k : goal.invariant-loop-k
invariant-loop-k l = record { sound : SoundBelow l.plan l.k; rows : HasRows l.plan l.k l.rows }
