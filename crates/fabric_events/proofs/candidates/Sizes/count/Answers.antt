use Rattle.fabric_events.proofs.candidates.Sizes.count.Goals as goal
use Rattle.fabric_events.proofs.PlaceLemmas.{all_length}

pub returns-clause-all : goal.returns-clause-all
returns-clause-all c = all_length c.args.self
