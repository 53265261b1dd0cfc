use Rattle.dh_session.proofs.single.resolve_one.Given as goal

abbrev pub ghosts-run_one-Q-Rooted : goal.ghosts-run_one-Q-Rooted
ghosts-run_one-Q-Rooted g a = record { root = a.table.root.expr }

abbrev pub ghosts-run_one-N-Counted : goal.ghosts-run_one-N-Counted
ghosts-run_one-N-Counted g a = record { ledgers = a.blanks }
