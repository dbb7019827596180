use Rattle.net_ways.proofs.law.hops_come_to_streams.Goals as goal
use Rattle.net_ways.proofs.Laws.{commands_come, samples_come, statuses_come}

pub returns : goal.returns
returns c = record { samples = samples_come; commands = commands_come; statuses = statuses_come }
