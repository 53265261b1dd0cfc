use Rattle.dh_tokens.proofs.PlaceLaws.{interpolation_pushed, no_interpolation_opens}
use Rattle.dh_tokens.proofs.places.Place.open_interpolation.Goals as goal

pub returns-in_ok-push-clause-value : goal.returns-in_ok-push-clause-value
returns-in_ok-push-clause-value c = λ at. interpolation_pushed at c.args.self.now.among _ _ c.in-Some.literal c.in-Some.is c.in_ok-push.ensures.items

pub returns-in_default-clause-value : goal.returns-in_default-clause-value
returns-in_default-clause-value c = λ at. no_interpolation_opens at c.args.self.now.among c.args.self.now.open.items c.in_default.is
