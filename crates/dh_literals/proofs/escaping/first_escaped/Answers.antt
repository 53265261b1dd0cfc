use Rattle.std.proofs.Common.{rules, ◌∙◌}
use borrow.Author.Tests.{tests}
use Rattle.std.proofs.lemmas.Iterator.{IsFirst-from_position, YieldsList-from_slice}
use Rattle.dh_literals.proofs.EscapesWritten.{first_escape, IsEscaped, IsPlain}
use Rattle.dh_literals.proofs.escaping.first_escaped.Goals as goal

pub returns : goal.returns
returns c =
    first_escape c.args.text.now c.position.result
    (IsFirst-from_position _ _ _ IsEscaped IsPlain c.position.ensures.ran (YieldsList-from_slice _ (c.iter.ensures.rest ∙ c.as_bytes.ensures.value)) (λ x q k. search (rules, tests)) (λ x q k. search (rules, tests)))
