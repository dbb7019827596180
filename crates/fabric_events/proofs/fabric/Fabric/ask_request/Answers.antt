use Rattle.std.proofs.Common.{true, [], ◌∷◌, ◌++◌, ◌∙◌, refl, sym, ap, arith}
use Rattle.net_machine.specs.State.{node_in}
use Rattle.fabric_lists.specs.SitesView.{sites_of, working_in}
use Rattle.fabric_events.proofs.WorkLemmas.{flag_count, flag_set, request_works, sound_sites}
use Rattle.fabric_events.proofs.fabric.Fabric.ask_request.Goals as goal

pub set-requires : goal.set-requires
set-requires c =
    let flags = flag_count c.args.self.now c.requires.sound in
    let there = c.requires.there in
    omega arith

pub returns-clause-sound : goal.returns-clause-sound
returns-clause-sound c =
    let f = c.args.self.now in
    let nodes = (sites_of f.sites.items).nodes in
    let new = (sites_of c.ask.new.sites.items).nodes in
    sound_sites f (record f { sites = c.ask.new.sites; working = c.set.new.self }) c.requires.sound refl c.ask.ensures.shapes
    (c.set.ensures ∙ flag_set nodes new f.working c.args.x (λ n. record n { requests = n.requests ++ c.args.packet ∷ [] }) true
    c.requires.sound.working c.in_ok-ask.ensures.ok (request_works (node_in nodes c.args.x) c.args.packet))

pub returns-in_err-ask-clause-sound : goal.returns-in_err-ask-clause-sound
returns-in_err-ask-clause-sound c =
    let f = c.args.self.now in
    sound_sites f (record f { sites = c.ask.new.sites }) c.requires.sound refl c.ask.ensures.shapes
    (c.requires.sound.working ∙ sym (ap working_in c.in_err-ask.ensures.err))
