use Rattle.std.proofs.Common.{rules}
use Rattle.dh_http.proofs.Places.{Took_stop, on_err_of}
use Rattle.dh_http.proofs.ContentLaws.{data_more, data_other, data_short}
use Rattle.dh_http.proofs.bodies.take_data.Goals as goal

pub returns-then-not-branch-clause-taken : goal.returns-then-not-branch-clause-taken
returns-then-not-branch-clause-taken g c =
    let short = rw c.if-not-branch.true at c.in_ok-take_bytes.ensures.taken in
    data_short _ _ _ _ _ _ short (search rules)

pub returns-in_err-take_crlf-clause-stopped : goal.returns-in_err-take_crlf-clause-stopped
returns-in_err-take_crlf-clause-stopped g c =
    let all = rw c.if-not-branch.false at c.in_ok-take_bytes.ensures.taken in
    on_err_of c.from_residual-in_err-take_crlf.result (Took_stop _ _ _ _ all.took c.in_err-take_crlf.ensures.stopped)

pub returns-in-true-clause-taken : goal.returns-in-true-clause-taken
returns-in-true-clause-taken g c =
    let all = rw c.if-not-branch.false at c.in_ok-take_bytes.ensures.taken in
    let crlf = rw c.in-true.is at c.in_ok-take_crlf.ensures.taken in
    data_more _ _ _ _ _ _ _ all (search rules) c.requires.room (search rules) crlf

pub returns-in-false-clause-taken : goal.returns-in-false-clause-taken
returns-in-false-clause-taken g c =
    let all = rw c.if-not-branch.false at c.in_ok-take_bytes.ensures.taken in
    let crlf = rw c.in-false.is at c.in_ok-take_crlf.ensures.taken in
    data_other _ _ _ _ _ _ _ all (search rules) c.requires.room (search rules) crlf
