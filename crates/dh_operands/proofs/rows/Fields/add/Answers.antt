use Rattle.std.proofs.Common.{◌∙◌, ap}
use Rattle.dh_syntax.specs.Text.Derivation.{key_label}
use Rattle.dh_syntax.specs.Text.Meaning.{insert}
use Rattle.dh_operands.specs.Operands.{part_of}
use Rattle.dh_operands.specs.Rows.{rows_of}
use Rattle.dh_making.specs.Words.{key_of}
use Rattle.dh_making.proofs.SortedRows.{insert-seen}
use Rattle.dh_operands.proofs.rows.Fields.add.Goals as goal

pub returns : goal.returns
returns c =
    let part = part_of c.args.annotation.part in
    ap rows_of c.in_ok-insert.ensures
    ∙ insert-seen part_of c.in_ok-into_label.field-0 c.args.annotation.part c.fields_so_far-rows.result
    ∙ ap (λ x. insert (x, part) (rows_of c.fields_so_far-rows.result)) c.in_ok-into_label.ensures
    ∙ ap (insert (key_label (key_of c.args.key), part)) c.fields_so_far-rows.ensures
