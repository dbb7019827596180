use Rattle.host_talk.proofs.Laws.{settled_nets, settled_states}
use Rattle.host_talk.proofs.law.nets_are_settled_as_their_states.Goals as goal

pub returns-clause-states : goal.returns-clause-states
returns-clause-states c = settled_states

pub returns-clause-nets : goal.returns-clause-nets
returns-clause-nets c = settled_nets
