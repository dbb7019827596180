use Rattle.std.proofs.Common.{◌≡◌, List, ◌∷◌, ◌∙◌, ap, refl}
use Rattle.chdr_packets.specs.declared.packet.Packet.{Packet}
use Rattle.net_machine.specs.State.{Node}
use Rattle.fabric_nodes.specs.Sites.{node_of}
use Rattle.fabric_nodes.specs.declared.node.Site.{Site}
use Rattle.fabric_lists.specs.SitesView.{shape_in}
use Rattle.fabric_lists.proofs.sites.take_pending.Goals as goal
use Rattle.fabric_lists.proofs.SiteLemmas.{found, node-set, seen-same, taken}

pub returns-clause-nodes : goal.returns-clause-nodes
returns-clause-nodes c p rest is =
    let new : Site = record { node = c.index_mut-site.result.now.node; pending = c.pop.new.self; requests = c.index_mut-site.result.now.requests; answers = c.index_mut-site.result.now.answers } in
    let here = found c.args.sites.now.items c.args.x c.index_mut-site.result.now c.requires c.index_mut-site.ensures.value in
    let list : c.index_mut-site.result.now.pending.packets ≡ p ∷ rest = ap (λ (n : Node). n.pending) here.node ∙ is in
    let both = taken c.pop.result c.index_mut-site.result.now.pending.packets c.pop.new.self.packets p rest c.pop.ensures.first list in (
      both.0,
      node-set c.args.sites.now.items c.args.x c.index_mut-site.result.now new (λ n. record n { pending = rest }) c.requires c.index_mut-site.ensures.value
          (ap (λ (ps : List Packet). record (node_of c.index_mut-site.result.now) { pending = ps }) both.1),
    )

pub returns-clause-shapes : goal.returns-clause-shapes
returns-clause-shapes c =
    let new : Site = record { node = c.index_mut-site.result.now.node; pending = c.pop.new.self; requests = c.index_mut-site.result.now.requests; answers = c.index_mut-site.result.now.answers } in seen-same shape_in c.args.sites.now.items c.args.x c.index_mut-site.result.now new c.index_mut-site.ensures.value refl
