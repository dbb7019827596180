use Rattle.std.proofs.Common.{◌+◌}
use Rattle.found_nodes.specs.Found.{place_of}
use Rattle.route_writes.proofs.steps.+add_way.Given as goal

abbrev pub decreases-add_way : goal.decreases-add_way
decreases-add_way l = place_of l.nodes.now l.from + place_of l.nodes.now l.to
