use Rattle.std.proofs.Common.{rules}
use Rattle.dh_http.proofs.Places.{Took_stop, on_err_of}
use Rattle.dh_http.proofs.FormLaws.{stop_both}
use Rattle.dh_http.proofs.ContentLaws.{chunk_none, chunk_last, chunk_no_trailer, chunk_result}
use Rattle.dh_http.proofs.bodies.take_chunk.Goals as goal

pub returns-in-None-clause-taken : goal.returns-in-None-clause-taken
returns-in-None-clause-taken g c =
    let line = rw c.in-None.is at c.in_ok-take_line.ensures.taken in
    chunk_none _ _ _ line

pub returns-in_err-take_trailer-in-Some-eq0-clause-stopped : goal.returns-in_err-take_trailer-in-Some-eq0-clause-stopped
returns-in_err-take_trailer-in-Some-eq0-clause-stopped g c =
    let line = rw c.in-Some-eq0.is at c.in_ok-take_line.ensures.taken in
    on_err_of c.from_residual-in_err-take_trailer-in-Some-eq0.result (Took_stop _ _ _ _ line.1 c.in_err-take_trailer-in-Some-eq0.ensures.stopped)

pub returns-in-true-clause-taken : goal.returns-in-true-clause-taken
returns-in-true-clause-taken g c =
    let line = rw (c.in-Some-eq0.is, c.in-Some-eq0.field-0-test) at c.in_ok-take_line.ensures.taken in
    let trailer = rw c.in-true.is at c.in_ok-take_trailer-in-Some-eq0.ensures.taken in
    chunk_last _ _ _ _ line trailer c.requires.room

pub returns-in-false-clause-taken : goal.returns-in-false-clause-taken
returns-in-false-clause-taken g c =
    let line = rw (c.in-Some-eq0.is, c.in-Some-eq0.field-0-test) at c.in_ok-take_line.ensures.taken in
    let trailer = rw c.in-false.is at c.in_ok-take_trailer-in-Some-eq0.ensures.taken in
    chunk_no_trailer _ _ _ _ line trailer c.requires.room

pub returns-in-Some-clause-taken : goal.returns-in-Some-clause-taken
returns-in-Some-clause-taken g c =
    let line = rw c.in-Some.is at c.in_ok-take_line.ensures.taken in
    chunk_result _ _ _ _ _ _ c.take_data.result line (search rules) c.requires.room c.take_data.ensures.taken

pub returns-in-Some-clause-stopped : goal.returns-in-Some-clause-stopped
returns-in-Some-clause-stopped g c =
    let line = rw c.in-Some.is at c.in_ok-take_line.ensures.taken in
    stop_both _ _ _ _ c.take_data.result line.1 c.take_data.ensures.stopped
