use Rattle.std.proofs.Common.{ap, arith}
use Rattle.dh_grammar.specs.Parsed.{parsed_lex}
use Rattle.dh_grammar.proofs.Lexed.EndsLast.{ends_last}
use Rattle.dh_grammar.proofs.Lexed.TokenCounts.{few_tokens}
use Rattle.dh_parse.proofs.Parsings.{moved}
use Rattle.dh_parse.proofs.texts.parse_text.Goals as goal

pub tokens-requires : goal.tokens-requires
tokens-requires c = omega arith

pub returns-in-Ok : goal.returns-in-Ok
returns-in-Ok c = moved _ _ _ (ap parsed_lex c.in-Ok.ensures.ok) c.parse_tokens.ensures

pub returns-in-Err : goal.returns-in-Err
returns-in-Err c = c.lexical_fault.ensures _ c.in-Err.ensures.fault

pub parse_tokens-requires-clause-ends : goal.parse_tokens-requires-clause-ends
parse_tokens-requires-clause-ends c = ends_last _ _ c.in-Ok.ensures.ok

pub parse_tokens-requires-clause-few : goal.parse_tokens-requires-clause-few
parse_tokens-requires-clause-few c = let few = few_tokens _ _ c.in-Ok.ensures.ok in omega (arith, few)
