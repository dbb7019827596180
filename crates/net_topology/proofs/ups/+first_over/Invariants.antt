use Rattle.net_topology.proofs.ups.+first_over.Given as goal

abbrev pub decreases-first_over : goal.decreases-first_over
decreases-first_over l = l.k
