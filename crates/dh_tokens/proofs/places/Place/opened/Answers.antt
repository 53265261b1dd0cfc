use Rattle.std.proofs.Common.{◌∙◌, ap, sym}
use Rattle.dh_syntax.specs.Text.Lexing.{opened}
use Rattle.dh_tokens.proofs.PlaceLaws.{opened-from, opened-placed}
use Rattle.dh_tokens.proofs.places.Place.opened.Goals as goal

pub returns-in-Interpolation : goal.returns-in-Interpolation
returns-in-Interpolation c =
    opened-placed c.args.at c.args.self.now.among c.args.self.now.open.items c.in-Interpolation.literal.from (λ at.
    opened-from at c.outermost.around-index c.deref-around-items.result.now _ c.in-Interpolation.literal c.outermost-test.true c.in-Interpolation.is
    ∙ sym (ap (opened at) c.outermost.invariant))
