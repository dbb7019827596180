use Rattle.std.proofs.Common.{◌∙◌, Bool, cond, sym, ap}
use Rattle.net_machine.specs.Nodes.{is_endpoint, is_host}
use Rattle.run_plans.proofs.place.stands_on.Goals as goal

pub returns-then-is_on_host : goal.returns-then-is_on_host
returns-then-is_on_host c = c.is_host.ensures
    ∙ ap (λ (b : Bool). (cond b is_host is_endpoint) c.args.node) (sym c.if-is_on_host.true ∙ c.is_on_host.ensures)

pub returns-else-is_on_host : goal.returns-else-is_on_host
returns-else-is_on_host c = c.is_endpoint.ensures
    ∙ ap (λ (b : Bool). (cond b is_host is_endpoint) c.args.node) (sym c.if-is_on_host.false ∙ c.is_on_host.ensures)
