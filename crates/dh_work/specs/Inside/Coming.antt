-- What comes of the item of a key.
use Rattle.std.specs.Prelude.{◌≡◌, ℕ, true, false, List, Option, [], None}
use Rattle.dh_syntax.specs.declared.locations.Key.{Key}
use Rattle.dh_imports.specs.declared.outcomes.Outcome.{Outcome}
use Rattle.dh_syntax.specs.Bytes.BinaryRead.{Reads}
use Rattle.dh_syntax.specs.Expressions.Tree.{Term}
use Rattle.dh_imports.specs.LastStep as last
use Rattle.dh_imports.specs.Outcomes.{plain}
use Rattle.dh_imports.specs.Records.{IsClosed}
use Rattle.dh_imports.specs.Resolver.{Has}
use Rattle.dh_imports.specs.Walk.{keys_of}
use Rattle.dh_import_laws.specs.ImportLaws.{ComesOf}
use Rattle.dh_record.specs.declared.items.Item.{Item}
use Rattle.dh_record.specs.Items.{IsLast, IsLimit}
use Rattle.dh_record.specs.Values.{HasValue}
use Rattle.dh_work.specs.declared.codes.Came.{Came}
use Rattle.dh_work.specs.declared.codes.Came.TheVariants as cames

-- it is the outcome of the last step, or a limit that is licensed for the item
abbrev pub IsCame : Item → Came → Type 0
IsCame i (cames.Last o) = IsLast i o false × HasValue o
IsCame i (cames.Limit o) = IsLast i o true

-- so of the code e of a key
abbrev pub IsCodeCame : Key → Term → Option (List ℕ) → Came → Type 0
IsCodeCame k e allow (cames.Last o) = ComesOf k e allow (plain o) × HasValue o
IsCodeCame k e allow (cames.Limit o) = IsLimit k (Has (last.Code e allow)) (plain o)

-- these bytes are this expression, which has no import and no free variable
abbrev pub IsWhole : List ℕ → Term → Type 0
IsWhole bytes e = Reads bytes e × (keys_of None e ≡ []) × IsClosed e
