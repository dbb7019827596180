use Rattle.fabric_nodes.proofs.Laws.{shapes_tell}
use Rattle.fabric_nodes.proofs.law.shapes_tell_sites.Goals as goal

pub returns : goal.returns
returns c = shapes_tell
