use Rattle.graph_tests.proofs.property_resolver_tests.resolve.Given as goal

abbrev pub ghosts-counted : goal.ghosts-counted
ghosts-counted a = record { name = a.blank.name; parts = a.blank.parts }
