use Rattle.std.proofs.Common.{◌∙◌}
use Rattle.net_present.proofs.Laws.{present_tells}
use Rattle.fabric_net.proofs.net.Net.enabled.Goals as goal

pub returns-clause-machine : goal.returns-clause-machine
returns-clause-machine c = rw (← c.self.view_is) (λ w stands. c.enabled.ensures ∙ present_tells _ w c.args.event stands.now)
