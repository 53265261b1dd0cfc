use Rattle.std.proofs.Common.{[], Err, ap, sym, ◌∙◌}
use Rattle.dh_grammar.specs.Parsed.{answered}
use Rattle.dh_grammar.specs.Machine.{need}
use Rattle.dh_grammar.specs.Stubs.{stubs}
use Rattle.dh_parse.proofs.ReadingTokens.{by_kinds}
use Rattle.dh_parse.proofs.Parsings.{faulted, moved}
use Rattle.dh_parse.proofs.texts.parse_tokens.Goals as goal

pub returns-in-Ok : goal.returns-in-Ok
returns-in-Ok c = moved _ _ _ (ap answered (sym (by_kinds stubs 0 (need []) c.args.tokens) ∙ c.in-Ok.ensures.ok)) c.expression_of.ensures

pub returns-in-Err : goal.returns-in-Err
returns-in-Err c = moved _ _ (Err c.in-Err.fault) (ap answered (sym (by_kinds stubs 0 (need []) c.args.tokens))) (faulted _ _ c.in-Err.ensures.fault)

pub read-requires-clause-ends : goal.read-requires-clause-ends
read-requires-clause-ends c = c.requires.ends

pub read-requires-clause-few : goal.read-requires-clause-few
read-requires-clause-few c = c.requires.few
