use Rattle.std.proofs.Common.{sym, ◌∙◌}
use Rattle.route_writes.proofs.Places.{place-found, place-missed}
use Rattle.route_writes.proofs.steps.place_of.Goals as goal

pub returns-in-Some : goal.returns-in-Some
returns-in-Some c = place-found c.args.nodes.now c.args.instance c.in-Some.place (sym c.first_numbered.ensures ∙ c.in-Some.is)

pub returns-in-None : goal.returns-in-None
returns-in-None c = place-missed c.args.nodes.now c.args.instance (sym c.first_numbered.ensures ∙ c.in-None.is)
