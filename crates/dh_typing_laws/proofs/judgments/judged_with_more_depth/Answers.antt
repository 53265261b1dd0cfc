use Rattle.dh_syntax.specs.Normalising.Named.{names}
use Rattle.dh_syntax.specs.Normalising.NamelessRuns.{cores, bares}
use Rattle.dh_syntax.specs.Typing.NamedTyping.{scopes}
use Rattle.dh_syntax.specs.Typing.NamelessTyping.{core_scopes, bare_scopes}
use Rattle.dh_typing_laws.proofs.Typing.OneTyping.{more_depth}
use Rattle.dh_typing_laws.proofs.judgments.judged_with_more_depth.Goals as goal

pub returns-clause-named : goal.returns-clause-named
returns-clause-named c = more_depth scopes names

pub returns-clause-with_names : goal.returns-clause-with_names
returns-clause-with_names c = more_depth core_scopes cores

pub returns-clause-without_names : goal.returns-clause-without_names
returns-clause-without_names c = more_depth bare_scopes bares
