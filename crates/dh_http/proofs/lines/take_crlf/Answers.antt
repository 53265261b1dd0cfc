use Rattle.std.proofs.Common.{[], ◌∷◌}
use Rattle.dh_http.proofs.FormLaws.{bytes_both, stop_both}
use Rattle.dh_http.proofs.lines.take_crlf.Goals as goal

pub returns-clause-taken : goal.returns-clause-taken
returns-clause-taken g c =
    let first = rw c.if-not-branch.false at c.in_ok-take_byte.ensures.taken in
    bytes_both _ _ _ (13 ∷ []) (10 ∷ []) c.take_byte-2.result first c.take_byte-2.ensures.taken

pub returns-clause-stopped : goal.returns-clause-stopped
returns-clause-stopped g c =
    let first = rw c.if-not-branch.false at c.in_ok-take_byte.ensures.taken in
    stop_both _ _ _ _ c.take_byte-2.result first c.take_byte-2.ensures.stopped
