use Rattle.std.proofs.Common.{List, ◌∙◌, sym, ap, subst, refl, ◌<◌}
use Rattle.chdr_packets.specs.declared.packet.Packet.{Packet}
use Rattle.fabric_nodes.specs.Sites.{node_of}
use Rattle.fabric_nodes.specs.declared.node.Site.{Site}
use Rattle.fabric_lists.specs.SitesView.{Spare, shape_in}
use Rattle.fabric_lists.proofs.sites.reserve.Goals as goal
use Rattle.fabric_lists.proofs.SiteLemmas.{on-ok, seen-same, spare-there}

pub returns-in_err-reserve-clause-nodes : goal.returns-in_err-reserve-clause-nodes
returns-in_err-reserve-clause-nodes c =
    let new : Site = record { node = c.index_mut-site.result.now.node; pending = c.reserve.new.self; requests = c.index_mut-site.result.now.requests; answers = c.index_mut-site.result.now.answers } in
    seen-same node_of c.args.sites.now.items c.args.x c.index_mut-site.result.now new c.index_mut-site.ensures.value
    (ap (λ (ps : List Packet). record (node_of c.index_mut-site.result.now) { pending = ps }) c.reserve.ensures.packets)

pub returns-in_err-reserve-clause-shapes : goal.returns-in_err-reserve-clause-shapes
returns-in_err-reserve-clause-shapes c =
    let new : Site = record { node = c.index_mut-site.result.now.node; pending = c.reserve.new.self; requests = c.index_mut-site.result.now.requests; answers = c.index_mut-site.result.now.answers } in seen-same shape_in c.args.sites.now.items c.args.x c.index_mut-site.result.now new c.index_mut-site.ensures.value refl

pub returns-clause-nodes : goal.returns-clause-nodes
returns-clause-nodes c =
    let new : Site = record { node = c.index_mut-site.result.now.node; pending = c.reserve.new.self; requests = c.index_mut-site.result.now.requests; answers = c.reserve-2.new.self } in
    seen-same node_of c.args.sites.now.items c.args.x c.index_mut-site.result.now new c.index_mut-site.ensures.value
    (ap (λ (ps : List Packet). record (node_of c.index_mut-site.result.now) { pending = ps; answers = c.reserve-2.new.self.packets }) c.reserve.ensures.packets
    ∙ ap (λ (ps : List Packet). record (node_of c.index_mut-site.result.now) { answers = ps }) c.reserve-2.ensures.packets)

pub returns-clause-shapes : goal.returns-clause-shapes
returns-clause-shapes c =
    let new : Site = record { node = c.index_mut-site.result.now.node; pending = c.reserve.new.self; requests = c.index_mut-site.result.now.requests; answers = c.reserve-2.new.self } in seen-same shape_in c.args.sites.now.items c.args.x c.index_mut-site.result.now new c.index_mut-site.ensures.value refl

pub returns-clause-pending : goal.returns-clause-pending
returns-clause-pending c =
    let new : Site = record { node = c.index_mut-site.result.now.node; pending = c.reserve.new.self; requests = c.index_mut-site.result.now.requests; answers = c.reserve-2.new.self } in
    let here : 0 < c.reserve.new.self.spare = c.in_ok-reserve.ensures.room in
    on-ok c.reserve-2.result (λ (h : 0 < c.reserve-2.new.self.spare).
    subst (λ (s : Spare). 0 < s.pending) (sym (spare-there c.args.sites.now.items c.args.x new c.requires)) here) c.reserve-2.ensures.room

pub returns-clause-answers : goal.returns-clause-answers
returns-clause-answers c =
    let new : Site = record { node = c.index_mut-site.result.now.node; pending = c.reserve.new.self; requests = c.index_mut-site.result.now.requests; answers = c.reserve-2.new.self } in
    on-ok c.reserve-2.result (λ (h : 0 < c.reserve-2.new.self.spare).
    subst (λ (s : Spare). 0 < s.answers) (sym (spare-there c.args.sites.now.items c.args.x new c.requires)) h) c.reserve-2.ensures.room
