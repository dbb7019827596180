use Rattle.std.proofs.Common.{◌≡◌, ◌∙◌, Some, ap, subst, sym}
use Rattle.rf_script_types.specs.declared.command.ScriptCommand.TheVariants as command
use Rattle.script_books.specs.declared.book.Book.TheVariants as book
use Rattle.script_worlds.specs.WorldView.{AreReady, WorldSeen}
use Rattle.script_runner.specs.Standing.{Performs}
use Rattle.script_runner.proofs.Running.{can-begin, ready-again, run-performs}
use Rattle.script_runner.proofs.runs.run.Goals as goal

pub put_net-requires : goal.put_net-requires
put_net-requires g c =
    let slots = g.B.RegisterSlots.slots c.args.banks.now in
    let one = c.stands.ensures slots in
    let ran = c.in_ok-run-in-Some.ensures in
    subst (λ (s : WorldSeen). AreReady s.setup.tree (Some c.run_one.new.net)) (sym c.take_net.ensures.left)
    (ready-again c.args.world.now.setup.tree c.args.seed.0 c.in-Ok.plan c.in-Some.net c.run_one.new.net slots
    (g.B.RegisterSlots.slots c.run_one.new.banks) c.in_ok-run-in-Some.run' one.0 c.in-Some.ensures.ready (can-begin c.args.world.now c.args.lose.now c.in-Ok.plan c.in-Some.net c.in-Ok.ensures.plan (sym c.in-Some.ensures.net))
    (record { book = ran.book; net = ran.net; banks = ran.banks }) ran.rest one.1 one.2)

pub returns : goal.returns
returns g c = λ w trace peak stands.
    let slots = g.B.RegisterSlots.slots c.args.banks.now in
    let left = g.B.RegisterSlots.slots c.run_one.new.banks in
    let world = c.args.world.now in
    let ran = c.in_ok-run-in-Some.ensures in
    let put : c.put_net.new.self ≡ record { setup = world.setup; net = Some c.run_one.new.net } =
    c.put_net.ensures ∙ ap (λ (s : WorldSeen). record s { net = Some c.run_one.new.net }) c.take_net.ensures.left in
    subst (λ (s : WorldSeen). Performs w (command.Run c.args.seed.0 trace peak c.args.lose.now) (book.Run c.in_ok-run-in-Some.run') s left) (sym put)
    (run-performs world c.args.seed.0 trace peak c.args.lose.now c.in-Ok.plan c.in-Some.net c.run_one.new.net slots left c.in_ok-run-in-Some.run' w
    c.in-Ok.ensures.plan (sym c.in-Some.ensures.net) c.in-Some.ensures.ready (record { book = ran.book; net = ran.net; banks = ran.banks }) stands)
