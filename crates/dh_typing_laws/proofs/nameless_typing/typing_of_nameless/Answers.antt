use Rattle.dh_typing_laws.proofs.Typing.Weakenings.{nameless_judgments, nameless_licences}
use Rattle.dh_typing_laws.proofs.nameless_typing.typing_of_nameless.Goals as goal

pub returns-clause-judged : goal.returns-clause-judged
returns-clause-judged c = nameless_judgments

pub returns-clause-licensed : goal.returns-clause-licensed
returns-clause-licensed c = nameless_licences
