use Rattle.dh_session.proofs.runs.resolve_all.Given as goal

abbrev pub ghosts-run-Q-Rooted : goal.ghosts-run-Q-Rooted
ghosts-run-Q-Rooted g a = record { root = a.table.root.expr }

abbrev pub ghosts-run-N-Counted : goal.ghosts-run-N-Counted
ghosts-run-N-Counted g a = record { ledgers = a.blanks }
