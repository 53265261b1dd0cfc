use Rattle.std.proofs.Common.{◌≡◌, ◌∙◌, ℕ, List, ◌∷◌, ap, arith}
use Rattle.dh_syntax.specs.Expressions.Spellable.{is_encoded}
use Rattle.dh_decode.specs.Inside.Spelling.{url_class}
use Rattle.dh_decode.proofs.SpellingLaws.{encoded_digit, encoded_percent}
use Rattle.dh_decode.proofs.spelling.encoded_after.Goals as goal

pub returns-then-is_ascii_hexdigit : goal.returns-then-is_ascii_hexdigit
returns-then-is_ascii_hexdigit c =
    encoded_digit (url_class c.args.in_query) c.args.digits c.args.b c.is_ascii_hexdigit.result c.if-digits-gt0.true c.is_ascii_hexdigit.ensures.value c.if-is_ascii_hexdigit.true

pub returns-then-b-eq37 : goal.returns-then-b-eq37
returns-then-b-eq37 c = λ bs.
    let z : c.args.digits ≡ 0 = omega arith in
    ap (λ (n : ℕ). is_encoded (url_class c.args.in_query) n (c.args.b ∷ bs)) z ∙ ap (λ (b : ℕ). is_encoded (url_class c.args.in_query) 0 (b ∷ bs)) c.if-b-eq37.true ∙ encoded_percent c.args.in_query bs
