use Rattle.net_ends.proofs.Laws.{all_end_plain, lines_are_plain}
use Rattle.net_ends.proofs.law.a_run_without_losses_ends_plain.Goals as goal

pub returns-clause-streams : goal.returns-clause-streams
returns-clause-streams c = all_end_plain

pub returns-clause-lines : goal.returns-clause-lines
returns-clause-lines c = lines_are_plain
