use Rattle.std.proofs.Common.{ℕ, List, ◌∙◌, sym, ap, Option}
use Rattle.std.specs.Option.{option_and_then}
use Rattle.net_machine.specs.State.{node_in}
use Rattle.net_topology.specs.Links.{link_at}
use Rattle.fabric_nodes.specs.Shapes.{leaves_of}
use Rattle.fabric_nodes.specs.declared.node.Site.{Site}
use Rattle.fabric_lists.specs.SitesView.{shape_seen, sites_of}
use Rattle.fabric_events.proofs.fabric.Fabric.route_from.Goals as goal
use Rattle.fabric_events.proofs.FrontLemmas.{route_there}

pub returns-in-Some-clause-route : goal.returns-in-Some-clause-route
returns-in-Some-clause-route c =
    let f = c.args.self.now in
    c.link_at.ensures.value
    ∙ ap (λ (o : Option ℕ). option_and_then (link_at f.wires.links c.args.x) o)
    (sym c.in-Some.is ∙ c.exit.ensures
    ∙ ap (λ (s : List Site). leaves_of (shape_seen (sites_of s).shapes c.args.x) (node_in (sites_of s).nodes c.args.x).table c.args.dst)
    c.as_slice.ensures.value)
    ∙ route_there f c.args.x c.args.dst c.requires.sound c.requires.there

pub returns-in-None-clause-route : goal.returns-in-None-clause-route
returns-in-None-clause-route c =
    let f = c.args.self.now in
    ap (λ (o : Option ℕ). option_and_then (link_at f.wires.links c.args.x) o)
    (sym c.in-None.is ∙ c.exit.ensures
    ∙ ap (λ (s : List Site). leaves_of (shape_seen (sites_of s).shapes c.args.x) (node_in (sites_of s).nodes c.args.x).table c.args.dst)
    c.as_slice.ensures.value)
    ∙ route_there f c.args.x c.args.dst c.requires.sound c.requires.there
