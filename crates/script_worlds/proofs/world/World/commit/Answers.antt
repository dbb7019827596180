use Rattle.std.proofs.Common.{◌≡◌, ◌∙◌, true, not, Some, sym, ap}
use Rattle.std.specs.Prelude.{is_some, Ok}
use Rattle.script_books.specs.Refusals.{commit_refusal}
use Rattle.script_worlds.specs.Causes.{IsSettleCause}
use Rattle.script_worlds.proofs.Committing.{commit_refused}
use Rattle.script_worlds.proofs.Standing.{on_any}
use Rattle.script_worlds.proofs.world.World.commit.Goals as goal

pub returns-in-Err-clause-book : goal.returns-in-Err-clause-book
returns-in-Err-clause-book c =
    let diagram = c.self.inside.graph.diagram in
    let refusal = c.in_ok-of_commit.field-0 in
    let told : commit_refusal c.in-Err.fault ≡ Ok refusal = sym c.in_ok-of_commit.ensures in
    let there : is_some c.self.inside.topology ≡ true = c.is_none.ensures ∙ ap not c.if-is_none.false in
    rw (← c.self.view_is) (on_any c.self.inside.topology (IsSettleCause diagram) (Some refusal) there
    (commit_refused diagram c.in-Err.fault refusal told c.in-Err.ensures.cause c.in-Err.ensures.settled c.in-Err.ensures.unsettled))
