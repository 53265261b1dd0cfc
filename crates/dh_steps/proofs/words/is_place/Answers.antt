use Rattle.std.proofs.Common.{sym, ◌∙◌, codes}
use Rattle.dh_syntax.proofs.NativeTests.{bytes_eq-pointwise}
use Rattle.dh_steps.proofs.PlaceWords.{split_named}
use Rattle.dh_steps.proofs.words.is_place.Goals as goal

pub returns-else-eq : goal.returns-else-eq
returns-else-eq c =
    split_named c.args.word.now c.are_parts.result (bytes_eq-pointwise c.args.word.now (codes "root") ∙ sym c.eq.ensures ∙ c.if-eq.false) c.are_parts.ensures
