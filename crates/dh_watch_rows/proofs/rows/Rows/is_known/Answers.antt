use Rattle.std.specs.Prelude.{◌≡◌, Option, Some, None, is_some, refl}
use Rattle.std.specs.Option.{option_copied}
use Rattle.std.proofs.Common.{Bor, sym, ◌∙◌}
use Rattle.dh_watch_rows.proofs.Standing.{known_row}
use Rattle.dh_watch_rows.proofs.rows.Rows.is_known.Goals as goal

some_copied : {A : Type 0} (o : Option (Bor A)) → is_some o ≡ is_some (option_copied o)
some_copied None = refl
some_copied (Some o) = refl

pub returns : goal.returns
returns c =
    c.is_some.ensures ∙ some_copied c.outcome.result
    ∙ sym (known_row c.args.self.now c.requires.good c.args.n (option_copied c.outcome.result) c.requires.inside c.outcome.ensures)
