use Rattle.std.proofs.Common.{rules}
use Rattle.dh_http.proofs.Places.{Took_none}
use Rattle.dh_http.proofs.inboxes.await_some.Goals as goal

pub returns-clause-awaited : goal.returns-clause-awaited
returns-clause-awaited g c = record { took = Took_none _ c.requires.fits; came = search rules }
