use Rattle.run_plans.proofs.bounds.+bound_through.Given as goal

abbrev pub decreases-bound_through : goal.decreases-bound_through
decreases-bound_through l = l.k
