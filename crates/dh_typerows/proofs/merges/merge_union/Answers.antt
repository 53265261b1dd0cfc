use Rattle.std.proofs.Common.{sym, ◌∙◌}
use Rattle.std.proofs.lemmas.Result.{IfOk-weaker}
use Rattle.dh_syntax.specs.Typing.NamelessTyping.{core_scopes}
use Rattle.dh_syntax.specs.Typing.TypeRulesUnions.{merged}
use Rattle.dh_store.specs.Cells.{code_core}
use Rattle.dh_types.specs.Following.{facts_of}
use Rattle.dh_types.specs.Parts.{alternatives_of, fields_of}
use Rattle.dh_typerows.proofs.Commons.{results-go, results-refused}
use Rattle.dh_typerows.proofs.HandlerLists.{handled-goes, handled-refused, labels-count, same-labels}
use Rattle.dh_typerows.proofs.merges.merge_union.Goals as goal

pub returns-then-not-are_labels-clause-rule : goal.returns-then-not-are_labels-clause-rule
returns-then-not-are_labels-clause-rule c =
    handled-refused (facts_of (code_core c.args.codes.now) c.args.found.now) c.args.annotated (fields_of (code_core c.args.codes.now) c.args.labels.now c.args.handlers.now) (alternatives_of (code_core c.args.codes.now) c.args.alts.now c.args.types.now) (same-labels (code_core c.args.codes.now) c.args.labels.now c.args.handlers.now c.args.alts.now c.args.types.now c.requires.paired ∙ sym c.are_labels.ensures ∙ c.if-not-are_labels.true)

pub all_handled-requires-clause-counted : goal.all_handled-requires-clause-counted
all_handled-requires-clause-counted c = labels-count c.args.labels.now c.args.alts.now (sym c.are_labels.ensures ∙ c.if-not-are_labels.false)

pub returns-in-Ok-clause-rule : goal.returns-in-Ok-clause-rule
returns-in-Ok-clause-rule c =
    IfOk-weaker c.merged.result _ _
    (λ d h. h
    ∙ sym (results-go (code_core c.args.codes.now) _ c.in-Ok.outcome _ c.in-Ok.is)
    ∙ sym (c.in_ok-outcome.ensures.rule (facts_of (code_core c.args.codes.now) c.args.found.now) (λ q. merged core_scopes c.args.annotated q))
    ∙ handled-goes (facts_of (code_core c.args.codes.now) c.args.found.now) c.args.annotated (fields_of (code_core c.args.codes.now) c.args.labels.now c.args.handlers.now) (alternatives_of (code_core c.args.codes.now) c.args.alts.now c.args.types.now) (same-labels (code_core c.args.codes.now) c.args.labels.now c.args.handlers.now c.args.alts.now c.args.types.now c.requires.paired ∙ sym c.are_labels.ensures ∙ c.if-not-are_labels.false))
    c.merged.ensures.rule

pub returns-in-Err-clause-rule : goal.returns-in-Err-clause-rule
returns-in-Err-clause-rule c =
    sym (results-refused (code_core c.args.codes.now) _ c.in-Err.rule _ c.in-Err.is)
    ∙ sym (c.in_ok-outcome.ensures.rule (facts_of (code_core c.args.codes.now) c.args.found.now) (λ q. merged core_scopes c.args.annotated q))
    ∙ handled-goes (facts_of (code_core c.args.codes.now) c.args.found.now) c.args.annotated (fields_of (code_core c.args.codes.now) c.args.labels.now c.args.handlers.now) (alternatives_of (code_core c.args.codes.now) c.args.alts.now c.args.types.now) (same-labels (code_core c.args.codes.now) c.args.labels.now c.args.handlers.now c.args.alts.now c.args.types.now c.requires.paired ∙ sym c.are_labels.ensures ∙ c.if-not-are_labels.false)
