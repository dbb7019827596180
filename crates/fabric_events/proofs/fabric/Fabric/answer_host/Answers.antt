use Rattle.std.proofs.Common.{[], ◌∷◌, ◌++◌, refl}
use Rattle.fabric_lists.specs.SitesView.{sites_of}
use Rattle.fabric_events.proofs.WorkLemmas.{flag_kept, sound_sites}
use Rattle.fabric_events.proofs.fabric.Fabric.answer_host.Goals as goal

pub returns-then-is_host-clause-sound : goal.returns-then-is_host-clause-sound
returns-then-is_host-clause-sound c =
    let f = c.args.self.now in
    sound_sites f (record f { sites = c.answer.new.sites }) c.requires.sound refl c.answer.ensures.shapes
    (flag_kept (sites_of f.sites.items).nodes (sites_of c.answer.new.sites.items).nodes f.working c.args.x
    (λ n. record n { answers = n.answers ++ c.args.packet ∷ [] }) c.requires.sound.working c.answer.ensures.nodes refl)
