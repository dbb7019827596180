use Rattle.fabric_net.proofs.reaching.+leads_from.Given as goal

-- over how many more links
abbrev pub decreases-leads_from : goal.decreases-leads_from
decreases-leads_from l = l.k
