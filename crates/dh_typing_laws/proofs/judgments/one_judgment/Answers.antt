use Rattle.dh_typing_laws.proofs.Typing.OneTyping.{one_judgment}
use Rattle.dh_typing_laws.proofs.judgments.one_judgment.Goals as goal

pub returns-clause-named : goal.returns-clause-named
returns-clause-named c = one_judgment _

pub returns-clause-with_names : goal.returns-clause-with_names
returns-clause-with_names c = one_judgment _

pub returns-clause-without_names : goal.returns-clause-without_names
returns-clause-without_names c = one_judgment _
