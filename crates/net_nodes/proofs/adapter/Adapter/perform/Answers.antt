use Rattle.std.proofs.Common.{rules, ◌<◌}
use Rattle.net_nodes.specs.Perform.{last_hop}
use Rattle.net_nodes.proofs.EntryLemmas.{adapter_performed}
use Rattle.net_nodes.proofs.adapter.Adapter.perform.Goals as goal

pub invariant_of-self : goal.invariant_of-self
invariant_of-self c =
    let port : c.args.port_in < c.self.inside.switch.ports = search rules in
    adapter_performed c.self.inside.switch c.perform.new.self c.args.port_in c.args.m.now c.perform.result (last_hop c.perform.new.m) c.self.invariant port c.perform.ensures.work c.perform.ensures.kept
