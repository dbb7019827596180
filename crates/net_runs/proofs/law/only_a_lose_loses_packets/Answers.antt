use Rattle.net_runs.proofs.Laws.{begins_without_losses, only_loses_count}
use Rattle.net_runs.proofs.law.only_a_lose_loses_packets.Goals as goal

pub returns-clause-begun : goal.returns-clause-begun
returns-clause-begun c = begins_without_losses

pub returns-clause-events : goal.returns-clause-events
returns-clause-events c = only_loses_count
