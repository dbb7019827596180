use Rattle.std.proofs.Common.{◌≡◌, ◌∙◌, Some, ap, subst, sym}
use Rattle.script_worlds.specs.WorldView.{AreReady, WorldSeen}
use Rattle.script_books.specs.declared.refusal.Refusal.TheVariants as refusal
use Rattle.script_runner.specs.Standing.{AreToldFound, Talks}
use Rattle.script_runner.specs.Talks.{FitsIn}
use Rattle.script_runner.proofs.Talking.{fits-net, no_net, ready-settled, ready-talked, refused-found, talks-nowhere, talks-told, told-found}
use Rattle.script_runner.proofs.talks.converse.Goals as goal

pub talk-requires-clause-settled : goal.talk-requires-clause-settled
talk-requires-clause-settled g c = ready-settled c.args.world.now.setup.tree c.in-Some.net c.in-Some.ensures.ready

pub talk-requires-clause-fits : goal.talk-requires-clause-fits
talk-requires-clause-fits g c =
    fits-net c.args.world.now.setup.tree c.in-Some.net (g.T.Talk.Fits c.args.talk.now) c.in-Some.ensures.ready c.requires

pub put_net-requires : goal.put_net-requires
put_net-requires g c =
    let done = c.in_ok-book-in-Some.ensures in
    subst (λ (s : WorldSeen). AreReady s.setup.tree (Some c.talk.new.net)) (sym c.take_net.ensures.left)
    (ready-talked c.args.world.now.setup.tree c.in-Some.net c.talk.new.net c.in-Some.ensures.ready done.tree done.settled)

pub returns-in_ok-book-in-Some-clause-talks : goal.returns-in_ok-book-in-Some-clause-talks
returns-in_ok-book-in-Some-clause-talks g c = λ w stands.
    let slots = g.B.RegisterSlots.slots c.args.banks.now in
    let left = g.B.RegisterSlots.slots c.talk.new.banks in
    let world = c.args.world.now in
    let put : c.put_net.new.self ≡ record { setup = world.setup; net = Some c.talk.new.net } =
    c.put_net.ensures ∙ ap (λ (s : WorldSeen). record s { net = Some c.talk.new.net }) c.take_net.ensures.left in
    subst (λ (s : WorldSeen). Talks (g.T.Talk.Tells c.args.talk.now) w c.in_ok-book-in-Some.book s left) (sym put)
    (talks-told (g.T.Talk.Tells c.args.talk.now) world c.in-Some.net c.talk.new.net slots left
    c.in_ok-book-in-Some.book w (sym c.in-Some.ensures.net) c.in_ok-book-in-Some.ensures stands)

pub returns-in-None-clause-talks : goal.returns-in-None-clause-talks
returns-in-None-clause-talks g c = λ w stands.
    let slots = g.B.RegisterSlots.slots c.args.banks.now in
    let world = c.args.world.now in
    subst (λ (s : WorldSeen). Talks (g.T.Talk.Tells c.args.talk.now) w no_net s slots) (sym c.take_net.ensures.left)
    (talks-nowhere (g.T.Talk.Tells c.args.talk.now) world slots w (sym c.in-None.ensures.net) stands)

pub returns-in_ok-book-in-Some-clause-found : goal.returns-in_ok-book-in-Some-clause-found
returns-in_ok-book-in-Some-clause-found g c =
    subst (λ (s : WorldSeen). FitsIn s.setup.tree (λ tree. AreToldFound tree c.in_ok-book-in-Some.book))
    (sym (c.put_net.ensures ∙ ap (λ (s : WorldSeen). record s { net = Some c.talk.new.net }) c.take_net.ensures.left))
    (told-found c.args.world.now.setup.tree c.in-Some.net c.in_ok-book-in-Some.book c.in-Some.ensures.ready c.in_ok-book-in-Some.ensures.found)

pub returns-in-None-clause-found : goal.returns-in-None-clause-found
returns-in-None-clause-found g c = refused-found c.take_net.new.self.setup.tree refusal.NoNet
