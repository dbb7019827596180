use Rattle.net_walks.proofs.Laws.{walkers_arrive, walkers_come_back, walkers_talk}
use Rattle.net_walks.proofs.law.walkers_come_back.Goals as goal

pub returns-clause-arrive : goal.returns-clause-arrive
returns-clause-arrive c = walkers_arrive

pub returns-clause-back : goal.returns-clause-back
returns-clause-back c = walkers_come_back

pub returns-clause-talk : goal.returns-clause-talk
returns-clause-talk c = walkers_talk
