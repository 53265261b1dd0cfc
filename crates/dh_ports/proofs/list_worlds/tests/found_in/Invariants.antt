use Rattle.dh_ports.proofs.list_worlds.tests.found_in.Given as goal

-- the lists that the caller hands over
abbrev pub ghosts-found_over : goal.ghosts-found_over
ghosts-found_over a = record { contents = a.contents; cache = a.cache }
