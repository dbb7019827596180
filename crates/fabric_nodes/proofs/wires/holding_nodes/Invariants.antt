use Rattle.std.specs.BTreeMap as tree
use Rattle.std.specs.Ordering.{nat_cmp}
use Rattle.chdr_words.specs.declared.epid.Epid.{Epid}
use Rattle.fabric_nodes.specs.Lookups.{HoldsBelow}
use Rattle.fabric_nodes.proofs.wires.holding_nodes.Given as goal

-- the EPIDs of the nodes so far are held
abbrev pub invariant-loop-node : goal.invariant-loop-node
invariant-loop-node l =
    (epid : Epid) → HoldsBelow l.topology.nodes (tree.get nat_cmp l.holders) l.node-index epid
