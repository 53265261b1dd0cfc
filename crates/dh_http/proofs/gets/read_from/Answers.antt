use Rattle.dh_http.proofs.FormLaws.{stop_both}
use Rattle.dh_http.proofs.ReplyLaws.{head_result}
use Rattle.dh_http.proofs.gets.read_from.Goals as goal

pub returns-in-Some-clause-read : goal.returns-in-Some-clause-read
returns-in-Some-clause-read g c =
    let head = rw c.in-Some.is at c.in_ok-head.ensures.taken in
    let answer = rw c.into_parts-status.ensures at c.read_answer.ensures.read in
    head_result _ _ _ c.in-Some.head c.read_answer.result head answer

pub returns-in-Some-clause-stopped : goal.returns-in-Some-clause-stopped
returns-in-Some-clause-stopped g c =
    let head = rw c.in-Some.is at c.in_ok-head.ensures.taken in
    stop_both _ _ _ _ c.read_answer.result head.1 c.read_answer.ensures.stopped
