-- How the root of a run ends over what the run found.
use Rattle.std.specs.Prelude.{◌≡◌, true, false, Some}
use Rattle.dh_syntax.specs.Expressions.Tree.{Term}
use Rattle.dh_imports.specs.Machine.{opening}
use Rattle.dh_imports.specs.Records.{Record}
use Rattle.dh_imports.specs.Replay.{RootEnd, too_many, end_of, has_too_many}
use Rattle.dh_imports.specs.Resolver.{ResolvesRoot}
use Rattle.dh_imports.specs.Walk.{Walked}

-- the keys of the root and of the texts that were found are too many
abbrev pub AreTooMany : Record → Term → Type 0
AreTooMany r root = has_too_many (record (opening root) { recorded = r }) ≡ true

-- they are not
abbrev pub AreFew : Record → Term → Type 0
AreFew r root = has_too_many (record (opening root) { recorded = r }) ≡ false

-- so the resolver's walk of the root ends, unless the keys are too many
pub data EndsBy (r : Record) (root : Term) : RootEnd → Type 0 where
  resolved : {end : RootEnd} (w : Walked Term) → AreFew r root → ResolvesRoot r root w → end_of w ≡ Some end → EndsBy r root end
  overflows : AreTooMany r root → EndsBy r root too_many
