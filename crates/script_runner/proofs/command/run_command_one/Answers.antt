use Rattle.std.proofs.Common.{subst, sym}
use Rattle.std.specs.Prelude.{MatchOption, Option}
use Rattle.chdr_words.specs.declared.control.Control.{Control}
use Rattle.rf_script_types.specs.Fits.{FitsCommand}
use Rattle.rf_script_types.specs.declared.command.ScriptCommand.{ScriptCommand}
use Rattle.rf_script_types.specs.declared.command.ScriptCommand.TheVariants as command
use Rattle.script_books.specs.declared.book.Book.{Book}
use Rattle.script_worlds.specs.Quiet.{IsPassed, IsPerformed}
use Rattle.script_runner.specs.Controls.{IsFirstRequest}
use Rattle.script_runner.proofs.Controlling.{control-done, request-first}
use Rattle.script_runner.proofs.Quiet.{passed-stays, performed-behind, quiet-performs}
use Rattle.script_runner.proofs.Routing.{ends-differ}
use Rattle.script_runner.proofs.Talking.{fits-in}
use Rattle.script_runner.proofs.command.run_command_one.Goals as goal

pub returns-in-Some : goal.returns-in-Some
returns-in-Some g c = λ w stands.
    let slots = g.B.RegisterSlots.slots c.args.banks.now in
    let left = g.B.RegisterSlots.slots c.perform.new.banks in
    let command = c.args.command.now in
    let old = c.args.world.now in
    let new = c.perform.new.self in
    quiet-performs command old new slots left c.in-Some.book w stands
    (subst (λ (told : Option Book). MatchOption told (IsPassed command old new slots left) (IsPerformed command old new slots left)) c.in-Some.is c.in_ok-book.ensures)

pub returns-in-Discover : goal.returns-in-Discover
returns-in-Discover g c =
    let slots = g.B.RegisterSlots.slots in
    performed-behind c.args.world.now c.perform.new.self c.discover.new.world (slots c.args.banks.now) (slots c.perform.new.banks)
    (slots c.discover.new.banks) c.args.command.now (command.Discover c.in-Discover.host c.in-Discover.lose) c.discover.result c.in-Discover.is
    (passed-stays c.args.command.now c.args.world.now c.perform.new.self (slots c.args.banks.now) (slots c.perform.new.banks) c.in_ok-book.field-0
    c.in_default.is c.in_ok-book.ensures) c.discover.ensures

pub route-requires : goal.route-requires
route-requires g c =
    ends-differ c.in-Route.from c.in-Route.to
    (subst (λ (command : ScriptCommand). FitsCommand c.requires.0 command) c.in-Route.is c.requires.1).3

pub returns-in-Route : goal.returns-in-Route
returns-in-Route g c =
    let slots = g.B.RegisterSlots.slots in
    performed-behind c.args.world.now c.perform.new.self c.route.new.world (slots c.args.banks.now) (slots c.perform.new.banks) (slots c.route.new.banks)
    c.args.command.now (command.Route c.in-Route.host c.in-Route.from c.in-Route.to c.in-Route.lose) c.route.result c.in-Route.is
    (passed-stays c.args.command.now c.args.world.now c.perform.new.self (slots c.args.banks.now) (slots c.perform.new.banks) c.in_ok-book.field-0
    c.in_default.is c.in_ok-book.ensures) c.route.ensures

pub converse-requires : goal.converse-requires
converse-requires g c =
    fits-in c.perform.new.self.setup.tree (IsFirstRequest c.request_of-request.result)
    (subst (λ (request : Control). IsFirstRequest request) (sym c.request_of-request.ensures)
    (request-first c.requires.0 c.in-Control.host c.in-Control.to c.in-Control.port c.in-Control.op c.in-Control.addr c.in-Control.words
    c.in-Control.enables c.in-Control.lose
    (subst (λ (command : ScriptCommand). FitsCommand c.requires.0 command) c.in-Control.is c.requires.1)))

pub returns-in-Control : goal.returns-in-Control
returns-in-Control g c =
    let slots = g.B.RegisterSlots.slots in
    let it = c.in-Control in
    performed-behind c.args.world.now c.perform.new.self c.converse.new.world (slots c.args.banks.now) (slots c.perform.new.banks)
    (slots c.converse.new.banks) c.args.command.now (command.Control it.host it.to it.port it.op it.addr it.words it.enables it.lose) c.converse.result
    it.is
    (passed-stays c.args.command.now c.args.world.now c.perform.new.self (slots c.args.banks.now) (slots c.perform.new.banks) c.in_ok-book.field-0
    c.in_default.is c.in_ok-book.ensures)
    (control-done c.perform.new.self c.converse.new.world (slots c.perform.new.banks) (slots c.converse.new.banks) it.host it.to it.port it.op it.addr
    it.words it.enables it.lose c.request_of-request.result c.converse.result c.request_of-request.ensures c.converse.ensures.talks)
