use Rattle.std.proofs.Common.{◌≡◌, ◌∙◌, ap, refl, length, get_or}
use Rattle.dh_syntax.specs.Expressions.Spellable.{is_encoded}
use Rattle.dh_decode.specs.Inside.Spelling.{url_class, encoded_next}
use Rattle.dh_decode.proofs.SpellingLaws.{encoded_step, encoded_stop}
use Rattle.dh_decode.proofs.spelling.is_encoded.Goals as goal

pub returns-in-None : goal.returns-in-None
returns-in-None c =
    encoded_stop (url_class c.args.in_query) c.loop-b.digits c.args.text.now c.loop-b.b-index _ _ c.loop-b-test.true refl c.in-None.ensures c.loop-b.invariant

pub loop-b-preserved : goal.loop-b-preserved
loop-b-preserved c =
    encoded_step (url_class c.args.in_query) c.loop-b.digits c.in-Some.next c.args.text.now c.loop-b.b-index _ _ c.loop-b-test.true refl c.in-Some.ensures c.loop-b.invariant
