use Rattle.std.proofs.Common.{sym, ◌∙◌}
use Rattle.dh_store.specs.Cells.{code_core}
use Rattle.dh_types.specs.Following.{course_of}
use Rattle.dh_typerows.proofs.CombinedTypes.{right-there}
use Rattle.dh_typerows.proofs.combining.right_combined.Goals as goal

pub returns-then-is_record_type-clause-rule : goal.returns-then-is_record_type-clause-rule
returns-then-is_record_type-clause-rule c =
    right-there (code_core c.args.codes.now) c.args.found.now (code_core c.args.codes.now c.args.l) c.in-Some.r c.args.left c.args.right c.in-Some.is (λ s. course_of (code_core c.types_combined.new.codes) s) c.types_combined.result
    (sym c.is_record_type.ensures ∙ c.if-is_record_type.true) c.types_combined.ensures.rule
