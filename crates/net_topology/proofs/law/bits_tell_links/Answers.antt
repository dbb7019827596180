use Rattle.net_topology.proofs.Laws.{bits_tell_links}
use Rattle.net_topology.proofs.law.bits_tell_links.Goals as goal

pub returns : goal.returns
returns c = bits_tell_links c.args.plan.now
