use Rattle.std.proofs.Common.{◌∙◌, ap, sym}
use Rattle.std.specs.Map.{lookup, remove_entry}
use Rattle.dh_syntax.specs.Expressions.Numbers.{bytes_eq}
use Rattle.dh_syntax.specs.Expressions.Order.{ascending}
use Rattle.dh_syntax.specs.Text.Meaning.{names}
use Rattle.dh_making.proofs.SortedRows.{lookup-bytes, remove-bytes, ascending_names}
use Rattle.dh_making.proofs.labels.ByLabel.remove.Goals as goal

pub returns-clause-value : goal.returns-clause-value
returns-clause-value g c = c.remove.ensures.value ∙ lookup-bytes c.args.label.now c.self.inside.map.entries ∙ ap (lookup (bytes_eq c.args.label.now)) c.self.view_is

pub returns-clause-others : goal.returns-clause-others
returns-clause-others g c =
    c.remove.ensures.entries ∙ remove-bytes c.args.label.now c.self.inside.map.entries ∙ ap (remove_entry (bytes_eq c.args.label.now)) c.self.view_is

pub returns-clause-ordered : goal.returns-clause-ordered
returns-clause-ordered g c = ap (λ es. ascending (names es)) (sym c.self.view_is) ∙ ascending_names c.self.inside.map.entries c.self.invariant
