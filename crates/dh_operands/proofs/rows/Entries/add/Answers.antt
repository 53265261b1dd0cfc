use Rattle.std.proofs.Common.{◌≡◌, true, ◌∙◌, ap, sym, option_map}
use Rattle.std.specs.Map.{remove_entry}
use Rattle.dh_syntax.specs.Expressions.Numbers.{bytes_eq}
use Rattle.dh_syntax.specs.Expressions.Order.{ascending}
use Rattle.dh_syntax.specs.Text.Meaning.{put, insert, names}
use Rattle.dh_grammar.specs.Stubs.{joined}
use Rattle.dh_making.specs.Views.{with_old}
use Rattle.dh_operands.specs.Operands.{part_of}
use Rattle.dh_operands.specs.Rows.{rows_of}
use Rattle.dh_making.proofs.SortedRows.{insert-seen, remove-seen, lookup-seen, names-seen, put_back}
use Rattle.dh_operands.proofs.rows.Entries.add.Goals as goal

pub returns : goal.returns
returns c =
    let x = c.args.entry.label in
    let part = part_of c.args.entry.value in
    let rows = c.entries_so_far-rows.result in
    let value = c.in_ok-value.value in
    let left = remove_entry (bytes_eq x) (rows_of rows) in
    let ordered : ascending (names (rows_of rows)) ≡ true = ap ascending (names-seen part_of rows) ∙ c.remove-old.ensures.ordered in
    ap rows_of c.in_ok-insert.ensures ∙ insert-seen part_of x value c.remove-old.new.self
    ∙ ap (λ r. insert (x, part_of value) (rows_of r)) c.remove-old.ensures.others
    ∙ ap (insert (x, part_of value)) (sym (remove-seen part_of (bytes_eq x) rows))
    ∙ ap (λ w. insert (x, w) left)
    (c.in_ok-value.ensures
    ∙ ap (λ o. with_old joined o part) (ap (option_map part_of) c.remove-old.ensures.value ∙ sym (lookup-seen part_of (bytes_eq x) rows)))
    ∙ put_back joined x part (rows_of rows) ordered ∙ ap (put joined (x, part)) c.entries_so_far-rows.ensures
