use Rattle.std.proofs.Common.{sym, ◌∙◌}
use Rattle.dh_store.specs.Cells.{code_core}
use Rattle.dh_types.specs.Following.{course_of}
use Rattle.dh_typerows.proofs.CombinedTypes.{combine-both}
use Rattle.dh_typerows.proofs.combining.combine.Goals as goal

pub returns-clause-rule : goal.returns-clause-rule
returns-clause-rule c =
    combine-both (code_core c.args.codes.now c.args.l) (code_core c.args.codes.now c.args.r) (λ s. course_of (code_core c.combined.new.codes) s) c.combined.result (sym c.is_record_type.ensures ∙ c.if-not-is_record_type.false)
    (sym c.is_record_type-2.ensures ∙ c.if-not-is_record_type-2.false) c.combined.ensures.rule
