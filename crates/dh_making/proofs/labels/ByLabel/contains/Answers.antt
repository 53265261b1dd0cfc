use Rattle.std.proofs.Common.{◌∙◌, ap}
use Rattle.dh_syntax.specs.Text.Derived.{among}
use Rattle.dh_syntax.specs.Text.Meaning.{names}
use Rattle.dh_making.proofs.SortedRows.{found-among}
use Rattle.dh_making.proofs.labels.ByLabel.contains.Goals as goal

pub returns : goal.returns
returns g c = c.contains_key.ensures ∙ found-among c.args.label.now c.self.inside.map.entries ∙ ap (λ es. among c.args.label.now (names es)) c.self.view_is
