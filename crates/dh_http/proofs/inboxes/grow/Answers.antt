use Rattle.std.proofs.Common.{inl, refl, rules}
use Rattle.dh_http.proofs.Places.{Took_none}
use Rattle.dh_http.proofs.inboxes.grow.Goals as goal

pub returns-then-as_slice-ge-MOST_LINE-clause-grown : goal.returns-then-as_slice-ge-MOST_LINE-clause-grown
returns-then-as_slice-ge-MOST_LINE-clause-grown g c = (Took_none _ c.requires.fits, refl, inl (search rules))
