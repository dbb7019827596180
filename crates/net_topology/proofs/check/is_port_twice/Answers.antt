use Rattle.std.proofs.Common.{sym, ◌∙◌, below_more}
use Rattle.net_topology.proofs.check.is_port_twice.Goals as goal

pub loop-j-preserved : goal.loop-j-preserved
loop-j-preserved c =
    below_more _ _ c.loop-j.invariant (sym c.shares_port.ensures ∙ c.if-shares_port.false)
