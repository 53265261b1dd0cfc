use Rattle.dh_typing_laws.proofs.Typing.Weakenings.{weakenings, core_weakenings, bare_weakenings}
use Rattle.dh_typing_laws.proofs.nameless_typing.weakening.Goals as goal

pub returns-clause-named : goal.returns-clause-named
returns-clause-named c = weakenings

pub returns-clause-with_names : goal.returns-clause-with_names
returns-clause-with_names c = core_weakenings

pub returns-clause-without_names : goal.returns-clause-without_names
returns-clause-without_names c = bare_weakenings
