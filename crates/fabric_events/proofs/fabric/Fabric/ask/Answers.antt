use Rattle.std.proofs.Common.{◌+◌, ◌∙◌, List, refl, sym, ap, arith}
use Rattle.net_machine.specs.State.{node_in}
use Rattle.fabric_nodes.specs.declared.node.Site.{Site}
use Rattle.fabric_lists.specs.SitesView.{has_work, sites_of}
use Rattle.fabric_events.proofs.fabric.Fabric.ask.Goals as goal
use Rattle.fabric_events.proofs.EventLemmas.{front_of, none_is_some}
use Rattle.fabric_events.proofs.WorkLemmas.{flag_count, flag_told, node_there, sound_sites}

pub unreachable-requires : goal.unreachable-requires
unreachable-requires c =
    let front = front_of (node_in (sites_of c.args.self.now.sites.items).nodes c.args.x).requests c.requires.some in
    none_is_some front.first (sym c.in-None.is ∙ (c.take_request.ensures.nodes front.first front.rest front.is).0)

pub set-requires : goal.set-requires
set-requires c =
    let flags = flag_count c.args.self.now c.requires.sound in
    let there = c.requires.there in
    omega arith

pub enter_over-requires-clause-sound : goal.enter_over-requires-clause-sound
enter_over-requires-clause-sound c =
    let f = c.args.self.now in
    let x = c.args.x in
    let nodes = (sites_of f.sites.items).nodes in
    let front = front_of (node_in nodes x).requests c.requires.some in
    let new = (sites_of c.take_request.new.sites.items).nodes in
    let changed = (c.take_request.ensures.nodes front.first front.rest front.is).1 in
    let told = c.has_work-has_work.ensures ∙ ap (λ (items : List Site). has_work (node_in (sites_of items).nodes x)) c.as_slice.ensures.value in
    sound_sites f (record f { sites = c.take_request.new.sites; working = c.set.new.self; requests = f.requests + 1 }) c.requires.sound refl
    c.take_request.ensures.shapes
    (c.set.ensures ∙ flag_told nodes new f.working x (λ n. record n { requests = front.rest }) c.has_work-has_work.result
    (node_there f x c.requires.there) c.requires.sound.working changed told)
