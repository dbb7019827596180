use Rattle.std.proofs.Common.{List, ap, refl}
use Rattle.std.specs.Prelude.{drop}
use Rattle.chdr_packets.specs.declared.packet.Packet.{Packet}
use Rattle.fabric_nodes.specs.Sites.{node_of}
use Rattle.fabric_nodes.specs.declared.node.Site.{Site}
use Rattle.fabric_lists.specs.SitesView.{shape_in}
use Rattle.fabric_lists.proofs.sites.take_answer.Goals as goal
use Rattle.fabric_lists.proofs.SiteLemmas.{node-set, left-of, seen-same}

pub returns-clause-nodes : goal.returns-clause-nodes
returns-clause-nodes c =
    let new : Site = record { node = c.index_mut-site.result.now.node; pending = c.index_mut-site.result.now.pending; requests = c.index_mut-site.result.now.requests; answers = c.pop.new.self } in
    node-set c.args.sites.now.items c.args.x c.index_mut-site.result.now new (λ n. record n { answers = drop 1 n.answers }) c.requires c.index_mut-site.ensures.value
    (ap (λ (ps : List Packet). record (node_of c.index_mut-site.result.now) { answers = ps })
    (left-of c.pop.result c.index_mut-site.result.now.answers.packets c.pop.new.self.packets c.pop.ensures.first c.pop.ensures.none))

pub returns-clause-shapes : goal.returns-clause-shapes
returns-clause-shapes c =
    let new : Site = record { node = c.index_mut-site.result.now.node; pending = c.index_mut-site.result.now.pending; requests = c.index_mut-site.result.now.requests; answers = c.pop.new.self } in seen-same shape_in c.args.sites.now.items c.args.x c.index_mut-site.result.now new c.index_mut-site.ensures.value refl
