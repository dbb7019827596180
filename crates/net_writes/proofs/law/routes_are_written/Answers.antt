use Rattle.net_writes.proofs.Laws.{may_be_written, routes_are_written, whole_routes_lead}
use Rattle.net_writes.proofs.law.routes_are_written.Goals as goal

pub returns-clause-may : goal.returns-clause-may
returns-clause-may c = may_be_written

pub returns-clause-written : goal.returns-clause-written
returns-clause-written c = routes_are_written

pub returns-clause-leads : goal.returns-clause-leads
returns-clause-leads c = whole_routes_lead
