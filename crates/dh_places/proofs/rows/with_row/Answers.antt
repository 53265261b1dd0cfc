use Rattle.std.proofs.Common.{◌∙◌, ap}
use Rattle.dh_making.proofs.SortedRows.{insert-seen}
use Rattle.dh_syntax.specs.Text.Meaning.{insert}
use Rattle.dh_places.specs.Parts.{labelled}
use Rattle.dh_places.proofs.rows.with_row.Goals as goal

pub returns : goal.returns
returns g c =
    let n = g.N.Notes in
    ap (labelled n.noting n.view) c.in_ok-insert.ensures ∙ insert-seen n.view c.in_ok-into_label.field-0 c.args.nodes c.args.rows
    ∙ ap (λ x. insert (x, n.view c.args.nodes) (labelled n.noting n.view c.args.rows)) c.in_ok-into_label.ensures
