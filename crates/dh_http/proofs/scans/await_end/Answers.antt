use Rattle.dh_http.proofs.Places.{Took_stop, on_err_of}
use Rattle.dh_http.proofs.ScanLaws.{scanned_none, scanned_more, gathered_end, gathered_all}
use Rattle.dh_http.proofs.scans.await_end.Goals as goal

pub pieces-init : goal.pieces-init
pieces-init g c = scanned_none _ _ c.requires.fits c.requires.seen

pub returns-then-find-clause-gathered : goal.returns-then-find-clause-gathered
returns-then-find-clause-gathered g c =
    let within = rw c.window.ensures at c.find.ensures.within in
    gathered_end _ _ _ _ _ c.pieces.invariant (c.find.ensures.on c.if-find.true) within

pub returns-in_err-grow-clause-stopped : goal.returns-in_err-grow-clause-stopped
returns-in_err-grow-clause-stopped g c = on_err_of c.from_residual.result (Took_stop _ _ _ _ c.pieces.invariant.took c.in_err-grow.ensures.stopped)

pub returns-then-not-branch-clause-gathered : goal.returns-then-not-branch-clause-gathered
returns-then-not-branch-clause-gathered g c =
    let within = rw c.window.ensures at c.find.ensures.within in
    let grown = rw c.if-not-branch.true at c.in_ok-grow.ensures.grown in
    gathered_all _ _ _ _ _ _ c.pieces.invariant within grown

pub pieces-preserved : goal.pieces-preserved
pieces-preserved g c =
    let within = rw c.window.ensures at c.find.ensures.within in
    let grown = rw c.if-not-branch.false at c.in_ok-grow.ensures.grown in
    scanned_more _ _ _ _ _ _ c.pieces.invariant c.find.ensures.back within grown
