use Rattle.std.proofs.Common.{◌∙◌, List, ap, arith, sym}
use Rattle.net_machine.specs.State.{node_in}
use Rattle.fabric_nodes.specs.Shapes.{leaves_of}
use Rattle.fabric_nodes.specs.declared.node.Site.{Site}
use Rattle.fabric_lists.specs.SitesView.{shape_seen, sites_of}
use Rattle.fabric_events.proofs.Laws.{node_count}
use Rattle.fabric_net.proofs.Telling.{entry-is}
use Rattle.fabric_net.proofs.net.Net.entry.Goals as goal

pub is_switch-requires : goal.is_switch-requires
is_switch-requires c =
    let there = c.if-x-len.true in
    let many = node_count c.self.inside.fabric c.self.invariant.parts in
    omega (arith, there, many)

pub returns-then-is_switch : goal.returns-then-is_switch
returns-then-is_switch c =
    let there = c.if-x-len.true in
    let many = node_count c.self.inside.fabric c.self.invariant.parts in
    rw (← c.self.view_is)
    (c.exit.ensures
    ∙ ap (λ (sites : List Site). leaves_of (shape_seen (sites_of sites).shapes c.args.node) (node_in (sites_of sites).nodes c.args.node).table c.args.epid) c.as_slice.ensures.value
    ∙ entry-is c.self.inside.fabric c.args.node c.args.epid c.self.invariant.parts (omega (arith, there, many)) (sym c.if-is_switch.ensures))
