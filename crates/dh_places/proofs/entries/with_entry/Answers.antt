use Rattle.std.proofs.Common.{◌≡◌, true, ◌∙◌, ap, sym, option_map}
use Rattle.std.specs.Map.{remove_entry}
use Rattle.dh_making.proofs.SortedRows.{insert-seen, remove-seen, lookup-seen, names-seen, put_back}
use Rattle.dh_making.specs.Views.{with_old}
use Rattle.dh_syntax.specs.Expressions.Numbers.{bytes_eq}
use Rattle.dh_syntax.specs.Expressions.Order.{ascending}
use Rattle.dh_syntax.specs.Text.Meaning.{insert, names}
use Rattle.dh_syntax.specs.Text.Noting.{stand_joined}
use Rattle.dh_places.specs.Parts.{stand_of, stands_under}
use Rattle.dh_places.proofs.entries.with_entry.Goals as goal

pub returns : goal.returns
returns g c =
    let n = g.N.Notes in
    let seen = stand_of n.noting n.view in
    let x = c.args.entry.label in
    let new = seen c.args.entry.stand in
    let rows = c.args.rows in
    let stand = c.in_ok-stand.stand in
    let all = stands_under n.noting n.view rows in
    let left = remove_entry (bytes_eq x) all in
    let ordered : ascending (names all) ≡ true = ap ascending (names-seen seen rows) ∙ c.remove-old.ensures.ordered in
    ap (stands_under n.noting n.view) c.in_ok-insert.ensures ∙ insert-seen seen x stand c.remove-old.new.self
    ∙ ap (λ r. insert (x, seen stand) (stands_under n.noting n.view r)) c.remove-old.ensures.others
    ∙ ap (insert (x, seen stand)) (sym (remove-seen seen (bytes_eq x) rows))
    ∙ ap (λ w. insert (x, w) left)
    (c.in_ok-stand.ensures
    ∙ ap (λ o. with_old (stand_joined n.noting) o new) (ap (option_map seen) c.remove-old.ensures.value ∙ sym (lookup-seen seen (bytes_eq x) rows)))
    ∙ put_back (stand_joined n.noting) x new all ordered
