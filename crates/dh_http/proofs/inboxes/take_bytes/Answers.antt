use Rattle.std.proofs.Common.{[], refl, append-nil, sym, arith}
use Rattle.dh_http.proofs.Places.{Took_none, HasMoved_then, HasMoved_stop, on_err_of}
use Rattle.dh_http.proofs.inboxes.take_bytes.Goals as goal

pub loop-moved-init : goal.loop-moved-init
loop-moved-init g c = record { bytes = []; took = Took_none _ c.requires.fits; added = sym (append-nil _); count = refl; bound = omega arith }

pub loop-moved-preserved : goal.loop-moved-preserved
loop-moved-preserved g c = HasMoved_then _ _ _ _ _ _ _ _ _ c.loop-moved.invariant c.in_ok-count.ensures.taken

pub returns-in_err-count-clause-stopped : goal.returns-in_err-count-clause-stopped
returns-in_err-count-clause-stopped g c = on_err_of c.from_residual.result (HasMoved_stop _ _ _ _ _ _ _ c.loop-moved.invariant c.in_err-count.ensures.stopped)
