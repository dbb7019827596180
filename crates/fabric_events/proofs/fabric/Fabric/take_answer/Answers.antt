use Rattle.std.proofs.Common.{refl}
use Rattle.std.specs.Prelude.{drop}
use Rattle.fabric_lists.specs.SitesView.{sites_of}
use Rattle.fabric_events.proofs.WorkLemmas.{flag_kept, sound_sites}
use Rattle.fabric_events.proofs.fabric.Fabric.take_answer.Goals as goal

pub returns-clause-sound : goal.returns-clause-sound
returns-clause-sound c =
    let f = c.args.self.now in
    sound_sites f (record f { sites = c.take_answer.new.sites }) c.requires.sound refl c.take_answer.ensures.shapes
    (flag_kept (sites_of f.sites.items).nodes (sites_of c.take_answer.new.sites.items).nodes f.working c.args.x
    (λ n. record n { answers = drop 1 n.answers }) c.requires.sound.working c.take_answer.ensures.nodes refl)
