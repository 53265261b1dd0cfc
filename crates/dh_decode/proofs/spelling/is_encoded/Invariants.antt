use Rattle.std.proofs.Common.{◌≡◌, drop}
use Rattle.dh_syntax.specs.Expressions.Spellable.{is_encoded}
use Rattle.dh_decode.specs.Inside.Spelling.{url_class}
use Rattle.dh_decode.proofs.spelling.is_encoded.Given as goal

abbrev pub invariant-loop-b : goal.invariant-loop-b
invariant-loop-b l = is_encoded (url_class l.in_query) l.digits (drop l.b-index l.text) ≡ is_encoded (url_class l.in_query) 0 l.text
