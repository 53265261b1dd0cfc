use Rattle.std.proofs.Common.{◌≤◌, length, subst, ap, sym, ◌∙◌, arith}
use Rattle.std.specs.Prelude.{Err, IsUtf8}
use Rattle.std.proofs.lemmas.Str.{utf8_valid_len_le}
use Rattle.dh_grammar.specs.Parsed.{parsed_lex}
use Rattle.dh_syntax.specs.Limits.{most_bytes}
use Rattle.dh_syntax.specs.Text.Lexing.{lex}
use Rattle.dh_syntax.specs.declared.faults.ParseFault.TheVariants as faults
use Rattle.dh_parse.proofs.Parsings.{moved, no_text, text, too_large}
use Rattle.dh_parse.proofs.texts.parse_bytes.Goals as goal

pub returns-then-bytes-gt-MOST_BYTES : goal.returns-then-bytes-gt-MOST_BYTES
returns-then-bytes-gt-MOST_BYTES c = λ n. too_large c.args.bytes.now (omega arith)

pub parse_text-requires-text-text : goal.parse_text-requires-text-text
parse_text-requires-text-text c = λ _. subst IsUtf8 (sym c.in-Ok.ensures.cases.0) c.in-Ok.ensures.cases.1

pub overflow_cast-result : goal.overflow_cast-result
overflow_cast-result c = let short = utf8_valid_len_le c.args.bytes.now in omega (arith, short, c.valid_up_to.ensures, c.in-Err.ensures.valid_len)

pub returns-in-Ok : goal.returns-in-Ok
returns-in-Ok c =
    let few : length c.args.bytes.now ≤ most_bytes = omega arith in
    moved _ _ _ (text c.args.bytes.now few c.in-Ok.ensures.cases.1 ∙ ap (λ t. parsed_lex (lex t)) (sym c.in-Ok.ensures.cases.0)) c.parse_text.ensures

pub returns-in-Err : goal.returns-in-Err
returns-in-Err c =
    let few : length c.args.bytes.now ≤ most_bytes = omega arith in
    λ n. no_text c.args.bytes.now few c.in-Err.ensures.cases.0 ∙ ap (λ k. Err (faults.NotUtf8 k)) (sym (c.valid_up_to.ensures ∙ c.in-Err.ensures.valid_len))

pub parse_text-requires : goal.parse_text-requires
parse_text-requires c = let e = ap length c.in-Ok.ensures.cases.0 in omega (arith, e)
