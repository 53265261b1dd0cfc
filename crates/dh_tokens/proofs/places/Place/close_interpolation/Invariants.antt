use Rattle.std.proofs.Common.{◌≡◌, ℕ, None, length}
use Rattle.dh_syntax.specs.Text.Lexing.{Outside, place_after}
use Rattle.dh_syntax.specs.declared.tokens.TokenKind.TheVariants as kinds
use Rattle.dh_tokens.specs.Inside.Places.{IsRooted, within}
use Rattle.dh_tokens.proofs.places.Place.close_interpolation.Given as goal

abbrev pub invariant-braces : goal.invariant-braces
invariant-braces l = record {
  outside : l.self.among ≡ None;
  so_far : (at : ℕ) → place_after kinds.InterpolationClose at (within l.self.open.items Outside)
      ≡ place_after kinds.InterpolationClose at (within l.fn.self.open.items Outside);
  rooted : IsRooted l.fn.self.open.items → IsRooted l.self.open.items;
}

abbrev pub decreases-braces : goal.decreases-braces
decreases-braces l = length l.self.open.items
