use Rattle.std.proofs.Common.{◌≡◌, ◌∙◌, [], ap}
use Rattle.net_nodes.specs.Perform.{Work, work_of, last_hop, performed}
use Rattle.net_nodes.specs.Switch.{end_site}
use Rattle.net_nodes.proofs.end_node.EndNode.perform.Goals as goal

pub returns-clause-exit : goal.returns-clause-exit
returns-clause-exit c =
    let work : work_of c.perform_hop.new.table c.perform_hop.result (last_hop c.perform_hop.new.m) ≡ performed (end_site c.args.self.now) [] c.args.m.now = c.perform_hop.ensures.work ∙ ap (λ site. performed site c.none-table.result c.args.m.now) c.site.ensures.value ∙ ap (λ table. performed (end_site c.args.self.now) table c.args.m.now) c.none-table.ensures in
    ap (λ (w : Work). w.exit) work

pub returns-clause-last : goal.returns-clause-last
returns-clause-last c =
    let work : work_of c.perform_hop.new.table c.perform_hop.result (last_hop c.perform_hop.new.m) ≡ performed (end_site c.args.self.now) [] c.args.m.now = c.perform_hop.ensures.work ∙ ap (λ site. performed site c.none-table.result c.args.m.now) c.site.ensures.value ∙ ap (λ table. performed (end_site c.args.self.now) table c.args.m.now) c.none-table.ensures in
    ap (λ (w : Work). w.last) work
