use Rattle.std.proofs.Common.{List, [], ◌∷◌, ◌++◌, ap, refl}
use Rattle.chdr_packets.specs.declared.packet.Packet.{Packet}
use Rattle.fabric_nodes.specs.Sites.{node_of}
use Rattle.fabric_nodes.specs.declared.node.Site.{Site}
use Rattle.fabric_lists.specs.SitesView.{shape_in}
use Rattle.fabric_lists.proofs.sites.pend.Goals as goal
use Rattle.fabric_lists.proofs.SiteLemmas.{node-set, seen-same}

pub returns-clause-nodes : goal.returns-clause-nodes
returns-clause-nodes c =
    let new : Site = record { node = c.index_mut-site.result.now.node; pending = c.push_reserved.new.self; requests = c.index_mut-site.result.now.requests; answers = c.index_mut-site.result.now.answers } in
    node-set c.args.sites.now.items c.args.x c.index_mut-site.result.now new (λ n. record n { pending = n.pending ++ c.args.packet ∷ [] }) c.requires.there c.index_mut-site.ensures.value
    (ap (λ (ps : List Packet). record (node_of c.index_mut-site.result.now) { pending = ps }) c.push_reserved.ensures)

pub returns-clause-shapes : goal.returns-clause-shapes
returns-clause-shapes c =
    let new : Site = record { node = c.index_mut-site.result.now.node; pending = c.push_reserved.new.self; requests = c.index_mut-site.result.now.requests; answers = c.index_mut-site.result.now.answers } in seen-same shape_in c.args.sites.now.items c.args.x c.index_mut-site.result.now new c.index_mut-site.ensures.value refl
