use Rattle.script_worlds.proofs.world.World.commit.Given as goal

abbrev pub ghosts-commit_counted : goal.ghosts-commit_counted
ghosts-commit_counted a = record { name = a.blank.name; parts = a.blank.parts }
