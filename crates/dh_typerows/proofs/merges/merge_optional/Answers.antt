use Rattle.std.proofs.Common.{Some, sym, ◌∙◌}
use Rattle.std.proofs.lemmas.Result.{IfOk-weaker}
use Rattle.dh_syntax.specs.Typing.NamelessTyping.{core_scopes}
use Rattle.dh_syntax.specs.Typing.TypeRulesUnions.{merged}
use Rattle.dh_syntax.specs.Typing.TypeViews.{optional_alternatives}
use Rattle.dh_store.specs.Cells.{code_core}
use Rattle.dh_types.specs.Following.{facts_of}
use Rattle.dh_types.specs.Parts.{fields_of}
use Rattle.dh_typerows.proofs.HandlerLists.{handled-goes, handled-refused, optional-handled, same-optional}
use Rattle.dh_typerows.proofs.Commons.{along-follow, result-goes, result-refused}
use Rattle.dh_typerows.proofs.merges.merge_optional.Goals as goal

pub returns-then-not-are_optional_labels-clause-rule : goal.returns-then-not-are_optional_labels-clause-rule
returns-then-not-are_optional_labels-clause-rule c =
    handled-refused (facts_of (code_core c.args.codes.now) c.args.found.now) c.args.annotated (fields_of (code_core c.args.codes.now) c.args.labels.now c.args.handlers.now) (optional_alternatives (code_core c.args.codes.now c.args.t))
    (same-optional (code_core c.args.codes.now) c.args.labels.now c.args.handlers.now (code_core c.args.codes.now c.args.t) c.requires.paired ∙ sym c.are_optional_labels.ensures ∙ c.if-not-are_optional_labels.true)

pub returns-in-Ok-clause-rule : goal.returns-in-Ok-clause-rule
returns-in-Ok-clause-rule c =
    IfOk-weaker c.merged.result _ _
    (λ d h. h
    ∙ sym (result-goes (code_core c.args.codes.now) _ c.in-Ok.outcome _ c.in-Ok.is)
    ∙ sym (c.in_ok-outcome-in-len2.ensures.rule (facts_of (code_core c.args.codes.now) c.args.found.now) (λ q. merged core_scopes c.args.annotated (Some q)))
    ∙ sym (along-follow (facts_of (code_core c.args.codes.now) c.args.found.now)
    (optional-handled (code_core c.args.codes.now) c.args.labels.now c.args.handlers.now c.none-item.result c.some-item.result (code_core c.args.codes.now c.args.t) (λ result. merged core_scopes c.args.annotated result) c.in-len2.len_at_least
    c.in-len2.len_below c.requires.paired c.none-item.is c.some-item.is))
    ∙ handled-goes (facts_of (code_core c.args.codes.now) c.args.found.now) c.args.annotated (fields_of (code_core c.args.codes.now) c.args.labels.now c.args.handlers.now) (optional_alternatives (code_core c.args.codes.now c.args.t))
    (same-optional (code_core c.args.codes.now) c.args.labels.now c.args.handlers.now (code_core c.args.codes.now c.args.t) c.requires.paired ∙ sym c.are_optional_labels.ensures ∙ c.if-not-are_optional_labels.false))
    c.merged.ensures.rule

pub returns-in-Err-clause-rule : goal.returns-in-Err-clause-rule
returns-in-Err-clause-rule c =
    sym (result-refused (code_core c.args.codes.now) _ c.in-Err.rule _ c.in-Err.is)
    ∙ sym (c.in_ok-outcome-in-len2.ensures.rule (facts_of (code_core c.args.codes.now) c.args.found.now) (λ q. merged core_scopes c.args.annotated (Some q)))
    ∙ sym (along-follow (facts_of (code_core c.args.codes.now) c.args.found.now)
    (optional-handled (code_core c.args.codes.now) c.args.labels.now c.args.handlers.now c.none-item.result c.some-item.result (code_core c.args.codes.now c.args.t) (λ result. merged core_scopes c.args.annotated result) c.in-len2.len_at_least
    c.in-len2.len_below c.requires.paired c.none-item.is c.some-item.is))
    ∙ handled-goes (facts_of (code_core c.args.codes.now) c.args.found.now) c.args.annotated (fields_of (code_core c.args.codes.now) c.args.labels.now c.args.handlers.now) (optional_alternatives (code_core c.args.codes.now c.args.t))
    (same-optional (code_core c.args.codes.now) c.args.labels.now c.args.handlers.now (code_core c.args.codes.now c.args.t) c.requires.paired ∙ sym c.are_optional_labels.ensures ∙ c.if-not-are_optional_labels.false)
