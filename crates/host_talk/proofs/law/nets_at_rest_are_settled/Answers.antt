use Rattle.host_talk.proofs.Laws.{built_nets_are_settled, rest_settles}
use Rattle.host_talk.proofs.law.nets_at_rest_are_settled.Goals as goal

pub returns-clause-built : goal.returns-clause-built
returns-clause-built c = built_nets_are_settled

pub returns-clause-rest : goal.returns-clause-rest
returns-clause-rest c = rest_settles
