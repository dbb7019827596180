use Rattle.net_weights.proofs.Laws.{led_weight_falls, weight_falls}
use Rattle.net_weights.proofs.law.each_event_lowers_the_weight.Goals as goal

pub returns-clause-acts : goal.returns-clause-acts
returns-clause-acts c = weight_falls

pub returns-clause-led : goal.returns-clause-led
returns-clause-led c = led_weight_falls
