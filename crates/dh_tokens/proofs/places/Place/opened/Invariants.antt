use Rattle.std.proofs.Common.{◌≡◌, drop}
use Rattle.dh_syntax.specs.Text.Lexing.{Outside}
use Rattle.dh_tokens.specs.Inside.Places.{within}
use Rattle.dh_tokens.proofs.places.Place.opened.Given as goal

abbrev pub invariant-outermost : goal.invariant-outermost
invariant-outermost l = within l.self.open.items Outside ≡ within (drop l.around-index l.around-items) Outside
