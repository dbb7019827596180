use Rattle.std.proofs.Common.{true, [], ◌∷◌, ◌++◌, ◌∙◌, refl, arith}
use Rattle.net_machine.specs.State.{node_in}
use Rattle.fabric_lists.specs.SitesView.{sites_of}
use Rattle.fabric_events.proofs.FrontLemmas.{node_count}
use Rattle.fabric_events.proofs.WorkLemmas.{flag_count, flag_set, pending_works, sound_sites}
use Rattle.fabric_events.proofs.fabric.Fabric.pend.Goals as goal

pub set-requires : goal.set-requires
set-requires c =
    let flags = flag_count c.args.self.now c.requires.sound in
    let nodes = node_count c.args.self.now c.requires.sound in
    let there = c.requires.there in
    omega arith

pub returns-in-Some-clause-sound : goal.returns-in-Some-clause-sound
returns-in-Some-clause-sound c =
    let f = c.args.self.now in
    let nodes = (sites_of f.sites.items).nodes in
    sound_sites f (record f { sites = c.pend.new.sites; working = c.set.new.self }) c.requires.sound refl c.pend.ensures.shapes
    (c.set.ensures ∙ flag_set nodes (sites_of c.pend.new.sites.items).nodes f.working c.args.x
    (λ n. record n { pending = n.pending ++ c.args.packet ∷ [] }) true c.requires.sound.working c.pend.ensures.nodes
    (pending_works (node_in nodes c.args.x) c.args.packet))
