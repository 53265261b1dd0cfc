use Rattle.std.proofs.Common.{subst as along}
use Rattle.std.proofs.lemmas.Result.{IfOk-weaker}
use Rattle.std.specs.Prelude.{◌≡◌, map, option_map}
use Rattle.dh_syntax.specs.Typing.NamelessTyping.{core_scopes}
use Rattle.dh_syntax.specs.Typing.TypeRulesOperators.{operator_ruling}
use Rattle.dh_store.specs.Cells.{code_core}
use Rattle.dh_types.specs.Following.{course_of, facts_of, follow}
use Rattle.dh_infer.proofs.AskedRules.{by-second, types-closed}
use Rattle.dh_infer.proofs.Readiness.{below-more}
use Rattle.dh_infer.proofs.asking.group_step.Goals as goal

pub row_step-requires-clause-types : goal.row_step-requires-clause-types
row_step-requires-clause-types c = below-more _ _ c.in_ok-step.ensures.grows.more c.args.types.now c.requires.types

pub row_step-requires-clause-closed : goal.row_step-requires-clause-closed
row_step-requires-clause-closed c = types-closed c.args.codes.now c.operator_step.new.codes c.in_ok-step.ensures.grows c.args.types.now c.requires.types c.requires.closed

pub returns-in-None-clause-rule : goal.returns-in-None-clause-rule
returns-in-None-clause-rule c =
    IfOk-weaker c.row_step.result _ _
    (λ o h. by-second c.args.codes.now c.operator_step.new.codes c.in_ok-step.ensures.grows c.args.op.now c.args.types.now c.args.found.now c.requires.types c.requires.found c.row_step.new.codes o
    (along
    (λ z. option_map (course_of (code_core c.operator_step.new.codes)) z ≡ option_map (follow (facts_of (code_core c.args.codes.now) c.args.found.now)) (operator_ruling core_scopes c.args.op.now (map (code_core c.args.codes.now) c.args.types.now)))
    c.in-None.is c.in_ok-step.ensures.rule) h)
    c.row_step.ensures.rule
