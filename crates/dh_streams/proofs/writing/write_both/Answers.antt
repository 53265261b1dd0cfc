use Rattle.std.proofs.Common.{refl}
use Rattle.dh_streams.proofs.Joining.{both-err, both-ok, stops-first}
use Rattle.dh_streams.proofs.writing.write_both.Goals as goal

pub returns-in-Ok-clause-ok : goal.returns-in-Ok-clause-ok
returns-in-Ok-clause-ok g c = both-ok _ _ _ _ _ _ _ _ _ refl _ c.in-Ok.ensures.ok c.write_all-in-Ok.ensures.ok

pub returns-in-Ok-clause-err : goal.returns-in-Ok-clause-err
returns-in-Ok-clause-err g c = both-err _ _ _ _ _ _ _ _ _ refl _ c.in-Ok.ensures.ok c.write_all-in-Ok.ensures.err

pub returns-in-Err-clause-err : goal.returns-in-Err-clause-err
returns-in-Err-clause-err g c = stops-first _ _ _ _ _ _ c.in-Err.ensures.err
