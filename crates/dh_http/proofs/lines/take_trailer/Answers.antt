use Rattle.std.proofs.Common.{arith}
use Rattle.dh_http.proofs.Places.{Took_then, Took_stop, Took_end, on_err_of}
use Rattle.dh_http.proofs.TrailerLaws.{trailer_there, no_trailer_end, no_trailer_cut}
use Rattle.dh_http.proofs.ScanLaws.{scanned_begin, scanned_then, scans_less}
use Rattle.dh_http.proofs.lines.take_trailer.Goals as goal

pub ends-init : goal.ends-init
ends-init g c = scanned_begin _ _ c.requires.fits c.of_lines-scan.ensures

pub returns-in-Whole-clause-taken : goal.returns-in-Whole-clause-taken
returns-in-Whole-clause-taken g c =
    let there = rw (c.in-Whole.is, c.window.ensures) at c.in_ok-trailer_at.ensures in
    trailer_there _ _ there.0 there.1 (Took_then _ _ _ _ _ c.ends.invariant.took c.in_ok-may_come.ensures.gathered.took) there.2

pub returns-in_err-may_come-clause-stopped : goal.returns-in_err-may_come-clause-stopped
returns-in_err-may_come-clause-stopped g c =
    on_err_of c.from_residual.result (Took_stop _ _ _ _ c.ends.invariant.took c.in_err-may_come.ensures.stopped)

pub returns-then-not-may_come-clause-taken : goal.returns-then-not-may_come-clause-taken
returns-then-not-may_come-clause-taken g c =
    let none = rw (c.in-Part.is, c.window.ensures) at c.in_ok-trailer_at.ensures in
    let full = rw c.if-not-may_come.true at c.in_ok-may_come.ensures.gathered.came in
    no_trailer_cut _ _ (Took_then _ _ _ _ _ c.ends.invariant.took c.in_ok-may_come.ensures.gathered.took) full none

pub ends-preserved : goal.ends-preserved
ends-preserved g c =
    let on = rw c.if-not-may_come.false at c.in_ok-may_come.ensures.gathered.came in
    scanned_then _ _ _ _ _ _ _ c.ends.invariant (omega (arith, on)) c.in_ok-may_come.ensures.gathered

pub returns-in-Other-clause-taken : goal.returns-in-Other-clause-taken
returns-in-Other-clause-taken g c =
    let over = rw (c.in-Other.is, c.window.ensures) at c.in_ok-trailer_at.ensures in
    no_trailer_end _ _ (Took_then _ _ _ _ _ c.ends.invariant.took c.in_ok-may_come.ensures.gathered.took) over

pub returns-in_err-trailer_at-clause-stopped : goal.returns-in_err-trailer_at-clause-stopped
returns-in_err-trailer_at-clause-stopped g c =
    on_err_of c.from_residual-in_err-trailer_at.result (Took_end _ _ _ (Took_then _ _ _ _ _ c.ends.invariant.took c.in_ok-may_come.ensures.gathered.took))

pub ends-smaller : goal.ends-smaller
ends-smaller g c =
    let on = rw c.if-not-may_come.false at c.in_ok-may_come.ensures.gathered.came in
    scans_less _ _ _ on c.in_ok-may_come.ensures.gathered.within
