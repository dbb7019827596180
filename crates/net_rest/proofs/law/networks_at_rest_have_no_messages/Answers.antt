use Rattle.net_rest.proofs.Laws.{begun_has_no_messages, rest_has_no_messages}
use Rattle.net_rest.proofs.law.networks_at_rest_have_no_messages.Goals as goal

pub returns-clause-rest : goal.returns-clause-rest
returns-clause-rest c = rest_has_no_messages

pub returns-clause-begun : goal.returns-clause-begun
returns-clause-begun c = begun_has_no_messages
