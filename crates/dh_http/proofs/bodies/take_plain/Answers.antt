use Rattle.std.proofs.Common.{rules}
use Rattle.dh_http.proofs.PlainLaws.{to_end, stated_result}
use Rattle.dh_http.proofs.bodies.take_plain.Goals as goal

pub returns-in_ok-_all-in-None-clause-taken : goal.returns-in_ok-_all-in-None-clause-taken
returns-in_ok-_all-in-None-clause-taken g c =
    rw c.in-None.is (to_end _ _ _ _ _ c.in_ok-_all-in-None.ensures.taken c.requires.empty)

pub returns-in-Some-clause-taken : goal.returns-in-Some-clause-taken
returns-in-Some-clause-taken g c =
    rw c.in-Some.is (stated_result _ _ _ _ _ _ c.take_bytes.result c.take_bytes.ensures.taken (search rules) c.requires.empty)
