use Rattle.std.proofs.Common.{◌≡◌, ℕ, ◌<◌, List, length, sym, ◌∙◌, ap, subst, Option}
use Rattle.std.specs.Option.{option_and_then}
use Rattle.net_machine.specs.State.{node_in}
use Rattle.net_topology.specs.Leads.{turned_to}
use Rattle.net_topology.specs.Links.{end_of}
use Rattle.fabric_nodes.specs.Shapes.{leaves_of}
use Rattle.fabric_nodes.specs.declared.node.Site.{Site}
use Rattle.fabric_lists.specs.SitesView.{shape_seen, sites_of}
use Rattle.fabric_events.proofs.fabric.Fabric.next_link.Goals as goal
use Rattle.fabric_events.proofs.HopLemmas.{sent_by}

pub returns-in-Some-clause-value : goal.returns-in-Some-clause-value
returns-in-Some-clause-value c =
    let f = c.args.self.now in
    let at : c.end_at-x.result.0 ≡ end_of f.wires.links c.args.d = ap (λ (r : ℕ × ℕ). r.0) c.end_at-x.ensures.value in
    c.turned_to.ensures.value
    ∙ ap (λ (o : Option ℕ). option_and_then (turned_to f.wires c.args.d) o) (sym c.in-Some.is)
    ∙ sent_by f c.args.d c.args.dst c.exit.result c.requires.sound (subst (λ (n : ℕ). n < length f.wires.nodes) at c.end_at-x.ensures.there) c.requires.switch
    (c.exit.ensures ∙ ap (λ (s : List Site). leaves_of (shape_seen (sites_of s).shapes c.end_at-x.result.0) (node_in (sites_of s).nodes c.end_at-x.result.0).table c.args.dst) c.as_slice.ensures.value
    ∙ ap (λ (x : ℕ). leaves_of (shape_seen (sites_of f.sites.items).shapes x) (node_in (sites_of f.sites.items).nodes x).table c.args.dst) at)
