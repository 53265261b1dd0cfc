use Rattle.dh_typing_laws.proofs.Typing.OneTyping.{more_heights}
use Rattle.dh_typing_laws.proofs.judgments.judged_with_more_heights.Goals as goal

pub returns-clause-named : goal.returns-clause-named
returns-clause-named c = more_heights _

pub returns-clause-with_names : goal.returns-clause-with_names
returns-clause-with_names c = more_heights _

pub returns-clause-without_names : goal.returns-clause-without_names
returns-clause-without_names c = more_heights _
