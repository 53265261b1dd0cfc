use Rattle.std.proofs.Common.{ap, sym, ◌∙◌, option_map}
use Rattle.std.proofs.lemmas.Result.{IfOk-weaker}
use Rattle.dh_syntax.specs.Typing.NamelessTyping.{core_scopes}
use Rattle.dh_store.specs.Cells.{code_core}
use Rattle.dh_types.specs.Following.{facts_of, follow, known_or, WantsNormal}
use Rattle.dh_typerows.specs.Mapping.{beside}
use Rattle.dh_typerows.proofs.maps.annotated_map.Goals as goal

pub returns-in-Some-clause-rule : goal.returns-in-Some-clause-rule
returns-in-Some-clause-rule c =
    IfOk-weaker c.beside.result _ _
    (λ d h. h (facts_of (code_core c.args.codes.now) c.args.found.now)
    ∙ ap (λ o. known_or (WantsNormal 1) (option_map (code_core c.args.codes.now) o) (λ t. follow (facts_of (code_core c.args.codes.now) c.args.found.now) (beside core_scopes (code_core c.args.codes.now c.args.v) t))) (sym c.in-Some.is))
    c.beside.ensures.rule
