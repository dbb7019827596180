use Rattle.std.proofs.Common.{◌≡◌, List, [], ◌∷◌, ◌++◌, ap, refl}
use Rattle.chdr_packets.specs.declared.packet.Packet.{Packet}
use Rattle.fabric_nodes.specs.Sites.{node_of}
use Rattle.fabric_nodes.specs.declared.node.Site.{Site}
use Rattle.fabric_lists.specs.SitesView.{shape_in}
use Rattle.fabric_lists.proofs.sites.ask.Goals as goal
use Rattle.fabric_lists.proofs.SiteLemmas.{node-set, on-err, on-ok, seen-same}

pub returns-clause-ok : goal.returns-clause-ok
returns-clause-ok c =
    let new : Site = record { node = c.index_mut-site.result.now.node; pending = c.index_mut-site.result.now.pending; requests = c.push.new.self; answers = c.index_mut-site.result.now.answers } in
    on-ok c.push.result (λ (h : c.push.new.self.packets ≡ c.index_mut-site.result.now.requests.packets ++ c.args.packet ∷ []).
    node-set c.args.sites.now.items c.args.x c.index_mut-site.result.now new (λ n. record n { requests = n.requests ++ c.args.packet ∷ [] }) c.requires c.index_mut-site.ensures.value
    (ap (λ (ps : List Packet). record (node_of c.index_mut-site.result.now) { requests = ps }) h)) c.push.ensures.ok

pub returns-clause-err : goal.returns-clause-err
returns-clause-err c =
    let new : Site = record { node = c.index_mut-site.result.now.node; pending = c.index_mut-site.result.now.pending; requests = c.push.new.self; answers = c.index_mut-site.result.now.answers } in
    on-err c.push.result (λ (h : c.push.new.self.packets ≡ c.index_mut-site.result.now.requests.packets).
    seen-same node_of c.args.sites.now.items c.args.x c.index_mut-site.result.now new c.index_mut-site.ensures.value (ap (λ (ps : List Packet). record (node_of c.index_mut-site.result.now) { requests = ps }) h))
    c.push.ensures.err

pub returns-clause-shapes : goal.returns-clause-shapes
returns-clause-shapes c =
    let new : Site = record { node = c.index_mut-site.result.now.node; pending = c.index_mut-site.result.now.pending; requests = c.push.new.self; answers = c.index_mut-site.result.now.answers } in seen-same shape_in c.args.sites.now.items c.args.x c.index_mut-site.result.now new c.index_mut-site.ensures.value refl
