use Rattle.std.proofs.Common.{refl}
use Rattle.dh_top.proofs.program.run_words.Goals as goal

pub run_dhall-requires-clause-some : goal.run_dhall-requires-clause-some
run_dhall-requires-clause-some g c = λ κs within. c.requires

pub returns-in-Err-clause-runs : goal.returns-in-Err-clause-runs
returns-in-Err-clause-runs g c = λ told is. c.lack_memory.ensures.runs _ _ _ refl

pub returns-in-Err-clause-desks : goal.returns-in-Err-clause-desks
returns-in-Err-clause-desks g c = λ told is. record { idle = refl; others = refl }
