use Rattle.std.proofs.Common.{subst, IsTrue}
use Rattle.std.specs.Str.{is_utf8}
use Rattle.std.proofs.lemmas.Str.{is_utf8-from_IsUtf8}
use Rattle.dh_syntax.proofs.values.assure_piece.Goals as goal

pub returns : goal.returns
returns c = subst (λ x. IsTrue (is_utf8 x)) c.as_str-text.ensures (is_utf8-from_IsUtf8 c.as_str-text.result.now c.as_str-text.utf8)
