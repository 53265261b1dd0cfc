use Rattle.std.proofs.Common.{ap, refl, subst}
use Rattle.dh_grammar.specs.Parsed.{parsed_lex}
use Rattle.dh_tokens.specs.Reading.{IsFault}
use Rattle.dh_parse.proofs.texts.lexical_fault.Goals as goal

pub returns-in-Bad : goal.returns-in-Bad
returns-in-Bad c = λ read h n. ap parsed_lex (subst (IsFault read) c.in-Bad.is h)

pub returns-in-Wide : goal.returns-in-Wide
returns-in-Wide c = λ read h n. ap parsed_lex (subst (IsFault read) c.in-Wide.is h)

pub returns-in-Out : goal.returns-in-Out
returns-in-Out c = λ read h n. ap parsed_lex (subst (IsFault read) c.in-Out.is h)

pub returns-in-Memory : goal.returns-in-Memory
returns-in-Memory c = λ read h n. absurd (n refl)
