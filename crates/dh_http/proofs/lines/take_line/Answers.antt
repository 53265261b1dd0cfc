use Rattle.std.proofs.Common.{arith}
use Rattle.dh_http.proofs.Places.{Took_then, Took_stop, on_err_of}
use Rattle.dh_http.proofs.FormLaws.{line_front, took_line, no_line_end, no_line_cut}
use Rattle.dh_http.proofs.ScanLaws.{scanned_begin, scanned_then, scans_less}
use Rattle.dh_http.proofs.lines.take_line.Goals as goal

pub ends-init : goal.ends-init
ends-init g c = scanned_begin _ _ c.requires.fits c.of_lines-scan.ensures

pub skip-requires : goal.skip-requires
skip-requires g c =
    let at = rw (c.in-Ok-Complete.field-0-is, c.window.ensures) at c.in-Ok-Complete.ensures.complete in
    (line_front _ _ _ _ at.1).within

pub returns-in-Ok-Complete-clause-taken : goal.returns-in-Ok-Complete-clause-taken
returns-in-Ok-Complete-clause-taken g c =
    let at = rw (c.in-Ok-Complete.field-0-is, c.window.ensures) at c.in-Ok-Complete.ensures.complete in
    took_line _ _ _ _ _ (Took_then _ _ _ _ _ c.ends.invariant.took c.in_ok-may_come.ensures.gathered.took) at c.skip.ensures

pub returns-in_err-may_come-clause-stopped : goal.returns-in_err-may_come-clause-stopped
returns-in_err-may_come-clause-stopped g c =
    on_err_of c.from_residual.result (Took_stop _ _ _ _ c.ends.invariant.took c.in_err-may_come.ensures.stopped)

pub returns-then-not-may_come-clause-taken : goal.returns-then-not-may_come-clause-taken
returns-then-not-may_come-clause-taken g c =
    let none = rw (c.in-Ok-Partial.field-0-is, c.window.ensures) at c.in-Ok-Partial.ensures.partial in
    let full = rw c.if-not-may_come.true at c.in_ok-may_come.ensures.gathered.came in
    no_line_cut _ _ (Took_then _ _ _ _ _ c.ends.invariant.took c.in_ok-may_come.ensures.gathered.took) full none

pub ends-preserved : goal.ends-preserved
ends-preserved g c =
    let on = rw c.if-not-may_come.false at c.in_ok-may_come.ensures.gathered.came in
    scanned_then _ _ _ _ _ _ _ c.ends.invariant (omega (arith, on)) c.in_ok-may_come.ensures.gathered

pub returns-in-Err-clause-taken : goal.returns-in-Err-clause-taken
returns-in-Err-clause-taken g c =
    let never = rw c.window.ensures at c.in-Err.ensures.invalid in
    no_line_end _ _ (Took_then _ _ _ _ _ c.ends.invariant.took c.in_ok-may_come.ensures.gathered.took) never

pub ends-smaller : goal.ends-smaller
ends-smaller g c =
    let on = rw c.if-not-may_come.false at c.in_ok-may_come.ensures.gathered.came in
    scans_less _ _ _ on c.in_ok-may_come.ensures.gathered.within
