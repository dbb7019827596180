use Rattle.net_flows.proofs.Beginning.{steady_is_ready}
use Rattle.net_flows.proofs.law.what_waits_may_enter.Goals as goal

pub returns : goal.returns
returns c = steady_is_ready
