use Rattle.net_lone.proofs.Laws.{answers_come_back, comes_on, messages_are_carried, requests_enter}
use Rattle.net_lone.proofs.law.messages_are_carried.Goals as goal

pub returns-clause-on : goal.returns-clause-on
returns-clause-on c = comes_on

pub returns-clause-enters : goal.returns-clause-enters
returns-clause-enters c = requests_enter

pub returns-clause-carried : goal.returns-clause-carried
returns-clause-carried c = messages_are_carried

pub returns-clause-back : goal.returns-clause-back
returns-clause-back c = answers_come_back
