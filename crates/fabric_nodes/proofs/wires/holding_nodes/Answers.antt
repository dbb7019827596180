use Rattle.std.proofs.Common.{◌≡◌, ◌<◌, ◌∙◌, ℕ, length, sym, ap, subst, arith}
use Rattle.std.specs.BTreeMap as tree
use Rattle.std.specs.Ordering.{nat_cmp}
use Rattle.net_topology.specs.declared.plan.Plan.{Plan}
use Rattle.fabric_nodes.specs.Lookups.{HoldsBelow}
use Rattle.fabric_nodes.proofs.WiresLemmas.{found-node, holding-all, holding-more, holding-skip, read-epid}
use Rattle.fabric_nodes.proofs.wires.holding_nodes.Goals as goal
use Rattle.fabric_nodes.proofs.wires.holding_nodes.Goals.{in-Some+in-Some-node_of+in_ok-insert-in-Some-node_of, in-Some+in-None-node_of, in-None}

pub loop-node-preserved : goal.loop-node-preserved
loop-node-preserved c = λ epid.
    let plan = c.args.topology.now in
    let n = c.loop-node.node-index in
    let same = c.as_slice-node-items.ensures ∙ ap (λ (p : Plan). p.nodes) c.plan.ensures.same in
    let within : n < length c.as_slice-node-items.result.now = omega (arith, c.loop-node-test.true) in
    let read = read-epid _ plan.nodes n _ _ same within c.epid.ensures in
    elim c.match-epid.branch [
      | in-Some+in-Some-node_of+in_ok-insert-in-Some-node_of w ↦ rw w.holders-is
          (holding-more plan.nodes (tree.get nat_cmp c.loop-node.holders) (tree.get nat_cmp w.insert.new.self) n w.in-Some-node_of.holder
          w.in-Some.epid epid (read ∙ w.in-Some.is) (sym w.node_of.ensures ∙ w.in-Some-node_of.is) (w.in_ok-insert-in-Some-node_of.ensures.updates.0 epid.0)
          (c.loop-node.invariant epid))
      | in-Some+in-None-node_of w ↦
          absurd (found-node plan c.requires n w.in-Some.epid (read ∙ w.in-Some.is) (sym w.node_of.ensures ∙ w.in-None-node_of.is))
      | in-None w ↦ rw w.holders-is (holding-skip plan.nodes (tree.get nat_cmp c.loop-node.holders) n epid (c.loop-node.invariant epid) (read ∙ w.in-None.is))
    ]

pub returns : goal.returns
returns c =
    let plan = c.args.topology.now in
    let same = c.as_slice-node-items.ensures ∙ ap (λ (p : Plan). p.nodes) c.plan.ensures.same in
    let all : c.loop-node.node-index ≡ length plan.nodes = omega (arith, ap length same) in
    holding-all plan c.requires (tree.get nat_cmp c.loop-node.holders)
    (λ epid. subst (λ (n : ℕ). HoldsBelow plan.nodes (tree.get nat_cmp c.loop-node.holders) n epid) all (c.loop-node.invariant epid))
