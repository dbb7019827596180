use Rattle.std.proofs.Common.{ℕ, List, ◌∙◌, sym, ap}
use Rattle.net_machine.specs.State.{node_in}
use Rattle.fabric_nodes.specs.Shapes.{leaves_of}
use Rattle.fabric_nodes.specs.declared.node.Site.{Site}
use Rattle.fabric_lists.specs.SitesView.{shape_seen, sites_of}
use Rattle.fabric_events.proofs.fabric.Fabric.table_onward.Goals as goal
use Rattle.fabric_events.proofs.OnwardLemmas.{by_table}

pub returns-in-Some-clause-value : goal.returns-in-Some-clause-value
returns-in-Some-clause-value c =
    let x = c.end_at-x.result.0 in
    by_table c.args.self.now x c.args.d c.in-Some.port c.args.dst c.turned_to.result c.requires.sound
    (ap (λ (e : ℕ × ℕ). e.0) c.end_at-x.ensures.value) c.end_at-x.ensures.there (sym c.is_switch.ensures ∙ c.if-not-is_switch.false)
    (sym c.in-Some.is ∙ c.exit.ensures
    ∙ ap (λ (s : List Site). leaves_of (shape_seen (sites_of s).shapes x) (node_in (sites_of s).nodes x).table c.args.dst) c.as_slice.ensures.value)
    c.turned_to.ensures.value
