use Rattle.std.proofs.Common.{ℕ, ◌+◌, ◌<◌, List, length, ◌∙◌, refl, sym, ap, subst, Option, arith}
use Rattle.std.specs.Prelude.{IfSome}
use Rattle.net_machine.specs.Queues.{queue_of}
use Rattle.net_machine.specs.State.{node_in}
use Rattle.net_present.specs.Onward.{entries_at}
use Rattle.fabric_nodes.specs.declared.node.Site.{Site}
use Rattle.fabric_lists.specs.SitesView.{has_work, sites_of}
use Rattle.fabric_events.proofs.fabric.Fabric.reply.Goals as goal
use Rattle.fabric_events.proofs.EventLemmas.{front_of, none_is_some}
use Rattle.fabric_events.proofs.WorkLemmas.{flag_count, flag_told, node_there, sound_sites}

pub enter_over-requires-clause-room : goal.enter_over-requires-clause-room
enter_over-requires-clause-room c =
    let f = c.args.self.now in
    let front = front_of (node_in (sites_of f.sites.items).nodes c.args.x).pending c.requires.some in
    subst (λ (o : Option ℕ). IfSome o (λ d. length (entries_at f.queues.entries (queue_of d 1)) < f.wires.room))
    (sym (c.first_route-link.ensures.route front.first front.rest front.is)) (c.requires.room front.first front.rest front.is)

pub unreachable-requires : goal.unreachable-requires
unreachable-requires c =
    let front = front_of (node_in (sites_of c.args.self.now.sites.items).nodes c.args.x).pending c.requires.some in
    none_is_some front.first (sym c.in-None.is ∙ (c.take_pending.ensures.nodes front.first front.rest front.is).0)

pub set-requires : goal.set-requires
set-requires c =
    let flags = flag_count c.args.self.now c.requires.sound in
    let there = c.requires.there in
    omega arith

pub enter_over-requires-clause-sound : goal.enter_over-requires-clause-sound
enter_over-requires-clause-sound c =
    let f = c.args.self.now in
    let x = c.args.x in
    let nodes = (sites_of f.sites.items).nodes in
    let front = front_of (node_in nodes x).pending c.requires.some in
    let new = (sites_of c.take_pending.new.sites.items).nodes in
    let changed = (c.take_pending.ensures.nodes front.first front.rest front.is).1 in
    let told = c.has_work-has_work.ensures ∙ ap (λ (items : List Site). has_work (node_in (sites_of items).nodes x)) c.as_slice.ensures.value in
    sound_sites f (record f { sites = c.take_pending.new.sites; working = c.set.new.self; answers = f.answers + 1 }) c.requires.sound refl
    c.take_pending.ensures.shapes
    (c.set.ensures ∙ flag_told nodes new f.working x (λ n. record n { pending = front.rest }) c.has_work-has_work.result
    (node_there f x c.requires.there) c.requires.sound.working changed told)
