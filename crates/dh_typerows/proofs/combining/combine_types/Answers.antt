use Rattle.std.proofs.Common.{sym, ◌∙◌}
use Rattle.dh_store.specs.Cells.{code_core}
use Rattle.dh_types.specs.Following.{course_of}
use Rattle.dh_typerows.proofs.CombinedTypes.{left-there}
use Rattle.dh_typerows.proofs.combining.combine_types.Goals as goal

pub returns-then-is_record_type-clause-rule : goal.returns-then-is_record_type-clause-rule
returns-then-is_record_type-clause-rule c =
    left-there (code_core c.args.codes.now) c.args.found.now (code_core c.args.codes.now c.args.t) (code_core c.args.codes.now c.args.u) c.in-Some.l c.in-Some.is (λ s. course_of (code_core c.right_combined.new.codes) s)
    c.right_combined.result c.universe_of-left.result c.universe_of-right.result c.universe_of-left.ensures c.universe_of-right.ensures (sym c.is_record_type.ensures ∙ c.if-is_record_type.true) c.right_combined.ensures.rule
