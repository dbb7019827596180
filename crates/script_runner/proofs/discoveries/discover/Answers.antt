use Rattle.std.proofs.Common.{◌≡◌, ◌∙◌, sym, subst}
use Rattle.rf_script_types.specs.declared.command.ScriptCommand.TheVariants as command
use Rattle.script_worlds.specs.WorldView.{WorldSeen}
use Rattle.script_runner.specs.Standing.{Performs}
use Rattle.script_runner.proofs.Walking.{keeps, keeps-found, keeps-none, walk-performs}
use Rattle.script_runner.proofs.discoveries.discover.Goals as goal
use Rattle.script_runner.proofs.discoveries.discover.Goals.{in-Discover+in_ok-copy, in_default}

pub returns : goal.returns
returns g c = λ w stands.
    let slots = g.B.RegisterSlots.slots c.converse.new.banks in
    let told = c.in_ok-book.book in
    let walked = walk-performs w c.args.host c.args.lose.now told c.converse.new.world slots (c.in_ok-book.ensures.talks w stands) in
    let kept : c.match-book.world ≡ keeps told c.converse.new.world =
    elim c.match-book.branch [
      | in-Discover+in_ok-copy d ↦
          d.world-is ∙ d.find.ensures ∙ keeps-found told d.in-Discover.found d.in_ok-copy.field-0 c.converse.new.world d.in-Discover.is d.in_ok-copy.ensures
      | in_default d ↦ d.world-is ∙ keeps-none told c.converse.new.world d.in_default.not-Discover
    ] in
    subst (λ (s : WorldSeen). Performs w (command.Discover c.args.host c.args.lose.now) told s slots) (sym kept) walked
