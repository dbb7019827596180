use Rattle.std.proofs.Common.{◌≡◌, take}
use Rattle.net_nodes.specs.declared.site.Site.{Site}
use Rattle.fabric_nodes.specs.Exits.{exit_of_hop}
use Rattle.fabric_nodes.proofs.ports.Ports.exit_of_hop.Given as goal

-- the exit so far
abbrev pub invariant-loop-op : goal.invariant-loop-op
invariant-loop-op l = (site : Site) → site.linked ≡ l.self.linked → site.arrival ≡ l.self.arrival
    → l.exit ≡ exit_of_hop site (take l.op-index l.ops)
