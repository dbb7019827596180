use Rattle.net_writes.proofs.Laws.{write_talks, writes_come_back}
use Rattle.net_writes.proofs.law.writes_come_back.Goals as goal

pub returns-clause-message : goal.returns-clause-message
returns-clause-message c = writes_come_back

pub returns-clause-talk : goal.returns-clause-talk
returns-clause-talk c = write_talks
