use Rattle.std.proofs.Common.{sym}
use Rattle.dh_tokens.proofs.PlaceLaws.{brace_pushed}
use Rattle.dh_tokens.proofs.places.Place.open_brace.Goals as goal

pub returns-clause-value : goal.returns-clause-value
returns-clause-value c = λ at. brace_pushed at c.args.self.now.among _ _ (sym c.if-is_some.ensures) c.in_ok-push.ensures.items
