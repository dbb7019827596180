use Rattle.std.proofs.Common.{◌≡◌, List, ◌∙◌, ap, refl}
use Rattle.net_nodes.specs.Perform.{Work, performed}
use Rattle.net_nodes.specs.declared.table.Place.{Place}
use Rattle.fabric_nodes.specs.Shapes.{Shape, site_of}
use Rattle.fabric_lists.specs.SitesView.{shape_seen, sites_of}
use Rattle.fabric_nodes.specs.Sites.{node_of}
use Rattle.fabric_nodes.specs.declared.node.Site.{Site}
use Rattle.fabric_lists.specs.SitesView.{shape_in, spare_in}
use Rattle.fabric_lists.proofs.sites.perform.Goals as goal
use Rattle.fabric_lists.proofs.SiteLemmas.{found, node-set, seen-same}

pub returns-clause-nodes : goal.returns-clause-nodes
returns-clause-nodes c =
    let new : Site = record { node = c.perform.new.self; pending = c.index_mut-site.result.now.pending; requests = c.index_mut-site.result.now.requests; answers = c.index_mut-site.result.now.answers } in
    let parts = c.args.sites.now.items in
    let here = found parts c.args.x c.index_mut-site.result.now c.requires.there c.index_mut-site.ensures.value in
    let table : c.perform.new.self.table ≡ (performed (site_of c.index_mut-site.result.now.node.shape c.args.port_in) c.index_mut-site.result.now.node.table c.args.m.now).table =
    ap (λ (w : Work). w.table) c.perform.ensures.work in
    node-set parts c.args.x c.index_mut-site.result.now new (λ n. record n { table = (performed (site_of (shape_seen (sites_of parts).shapes c.args.x) c.args.port_in) n.table c.args.m.now).table })
    c.requires.there c.index_mut-site.ensures.value
    (ap (λ (t : List Place). record (node_of c.index_mut-site.result.now) { table = t }) table
    ∙ ap (λ (s : Shape). record (node_of c.index_mut-site.result.now) { table = (performed (site_of s c.args.port_in) c.index_mut-site.result.now.node.table c.args.m.now).table }) here.shape)

pub returns-clause-shapes : goal.returns-clause-shapes
returns-clause-shapes c =
    let new : Site = record { node = c.perform.new.self; pending = c.index_mut-site.result.now.pending; requests = c.index_mut-site.result.now.requests; answers = c.index_mut-site.result.now.answers } in seen-same shape_in c.args.sites.now.items c.args.x c.index_mut-site.result.now new c.index_mut-site.ensures.value c.perform.ensures.kept

pub returns-clause-spares : goal.returns-clause-spares
returns-clause-spares c =
    let new : Site = record { node = c.perform.new.self; pending = c.index_mut-site.result.now.pending; requests = c.index_mut-site.result.now.requests; answers = c.index_mut-site.result.now.answers } in seen-same spare_in c.args.sites.now.items c.args.x c.index_mut-site.result.now new c.index_mut-site.ensures.value refl
