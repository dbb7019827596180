use Rattle.std.proofs.Common.{◌≡◌, ◌+◌, ◌*◌, ◌≤◌, ◌<◌, ◌⊎◌, inl, inr, sym, ap, arith, length, None, get_or}
use Rattle.net_topology.specs.Links.{link_at}
use Rattle.fabric_nodes.proofs.WiresLemmas.{found-there, leaving-at, length-leaving, no-link}
use Rattle.fabric_nodes.proofs.wires.Wires.link_at.Goals as goal
use Rattle.fabric_nodes.proofs.wires.Wires.link_at.Goals.{else-node-len-via-then-node-len+else-port-lt-MOST_PORTS, else-node-len-via-else-node-len}

pub bounds-as_slice-node : goal.bounds-as_slice-node
bounds-as_slice-node c =
    let plan = c.self.inside.plan in
    omega (arith, ap length c.as_slice.ensures.value, ap length c.self.invariant.leaving, length-leaving plan, c.len.ensures, c.if-node-len.true, c.if-port-lt-MOST_PORTS.true)

pub returns-then-port-lt-MOST_PORTS-clause-value : goal.returns-then-port-lt-MOST_PORTS-clause-value
returns-then-port-lt-MOST_PORTS-clause-value c =
    let plan = c.self.inside.plan in
    let there : c.args.node < length plan.nodes = omega (arith, c.len.ensures, c.if-node-len.true) in
    let value : get_or c.as_slice.result.now (32 * c.args.node + c.args.port) None ≡ link_at plan.links c.args.node c.args.port =
    rw (c.as_slice.ensures.value, c.self.invariant.leaving)
    (leaving-at plan c.args.node c.args.port None there c.if-port-lt-MOST_PORTS.true) in
    rw (← c.self.view_is) value

pub returns-then-port-lt-MOST_PORTS-clause-there : goal.returns-then-port-lt-MOST_PORTS-clause-there
returns-then-port-lt-MOST_PORTS-clause-there c =
    let plan = c.self.inside.plan in
    let there : c.args.node < length plan.nodes = omega (arith, c.len.ensures, c.if-node-len.true) in
    let value : get_or c.as_slice.result.now (32 * c.args.node + c.args.port) None ≡ link_at plan.links c.args.node c.args.port =
    rw (c.as_slice.ensures.value, c.self.invariant.leaving)
    (leaving-at plan c.args.node c.args.port None there c.if-port-lt-MOST_PORTS.true) in
    rw (← c.self.view_is) (found-there plan c.args.node c.args.port _ value)

pub returns-else-node-len-clause-value : goal.returns-else-node-len-clause-value
returns-else-node-len-clause-value c =
    let plan = c.self.inside.plan in
    let out : (length plan.nodes ≤ c.args.node) ⊎ (32 ≤ c.args.port) = elim c.else-node-len.branch [
      | else-node-len-via-then-node-len+else-port-lt-MOST_PORTS w ↦ inr w.if-port-lt-MOST_PORTS.false
      | else-node-len-via-else-node-len w ↦ inl (omega (arith, w.if-node-len.false, c.len.ensures))
    ] in
    rw (← c.self.view_is) (sym (no-link plan c.self.invariant.checked c.args.node c.args.port out))
