use Rattle.std.proofs.Common.{◌≡◌, ◌∙◌, ap, sym, true, false}
use Rattle.dh_syntax.specs.Text.Derived.{among}
use Rattle.dh_syntax.specs.Text.Meaning.{insert, names}
use Rattle.dh_making.proofs.SortedRows.{inserted_new, inserted_again, ascending_names}
use Rattle.dh_making.proofs.labels.ByLabel.insert.Goals as goal
use Rattle.dh_making.proofs.labels.ByLabel.insert.Goals.{in-Some-1, in-None-1}

pub returns-in_ok-insert : goal.returns-in_ok-insert
returns-in_ok-insert g c =
    let x = c.args.label in
    let es = c.self.inside.map.entries in
    let absent : among x (names c.args.self.now) ≡ false = cc in
    let new : among x (names es) ≡ false = ap (λ es. among x (names es)) c.self.view_is ∙ absent in
    let whole : c.insert.new.self.entries ≡ insert (x, c.args.value) c.args.self.now =
    c.in_ok-insert.ensures.entries ∙ inserted_new x c.args.value es new ∙ ap (insert (x, c.args.value)) c.self.view_is in
    elim c.match-branch-2.branch [ in-Some-1 w ↦ w.self-is ∙ whole | in-None-1 w ↦ w.self-is ∙ whole ]

pub returns-else-is_new : goal.returns-else-is_new
returns-else-is_new g c =
    let x = c.args.label in
    let es = c.self.inside.map.entries in
    let there : among x (names c.args.self.now) ≡ true = cc in
    let again : among x (names es) ≡ true = ap (λ es. among x (names es)) c.self.view_is ∙ there in
    sym c.self.view_is ∙ inserted_again x c.args.value es (ascending_names es c.self.invariant) again ∙ ap (insert (x, c.args.value)) c.self.view_is
