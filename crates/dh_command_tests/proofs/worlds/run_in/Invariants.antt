use Rattle.dh_command_tests.proofs.worlds.run_in.Given as goal

-- the lists that the caller hands over
abbrev pub ghosts-run_over : goal.ghosts-run_over
ghosts-run_over g a = record { contents = a.contents; cache = a.cache }
