use Rattle.std.proofs.Common.{◌∙◌, refl, sym}
use Rattle.dh_http.proofs.Places.{Took_none}
use Rattle.dh_http.proofs.inboxes.fill.Goals as goal

pub returns-then-has_ended-clause-filled : goal.returns-then-has_ended-clause-filled
returns-then-has_ended-clause-filled g c =
    record { took = Took_none _ c.requires.fits; came = (refl, sym c.has_ended.ensures ∙ c.if-has_ended.true) }
