use Rattle.std.proofs.Common.{◌∙◌, ap}
use Rattle.dh_syntax.specs.Text.Derivation.{key_label}
use Rattle.dh_syntax.specs.Text.Meaning.{insert}
use Rattle.dh_operands.specs.Operands.{note_of}
use Rattle.dh_operands.specs.Rows.{alternative_rows}
use Rattle.dh_making.specs.Words.{key_of}
use Rattle.dh_making.proofs.SortedRows.{insert-seen}
use Rattle.dh_operands.proofs.alternatives.Alternatives.add.Goals as goal

pub returns : goal.returns
returns c =
    let note = note_of c.args.annotation in
    ap alternative_rows c.in_ok-insert.ensures ∙ insert-seen note_of c.in_ok-into_label.field-0 c.args.annotation c.rows_so_far-by_label.result
    ∙ ap (λ x. insert (x, note) (alternative_rows c.rows_so_far-by_label.result)) c.in_ok-into_label.ensures
    ∙ ap (insert (key_label (key_of c.args.key), note)) c.rows_so_far-by_label.ensures
