-- The greatest of the universes that types are.
use Rattle.std.specs.Prelude.{List, Option, Some, None, option_map}
use Rattle.dh_syntax.specs.declared.operators.Builtin.{Builtin}
use Rattle.dh_syntax.specs.Names.Nameless.{Core}
use Rattle.dh_syntax.specs.Typing.TypeRulesRecords.{universes}
use Rattle.dh_syntax.specs.Typing.Universes.{greater, greatest}

-- none where one of these is no universe
abbrev pub greatest_type : List Core → Option Builtin
greatest_type ts = option_map greatest (universes ts)

-- one more universe
abbrev pub with_greatest : Option Builtin → Option Builtin → Option Builtin
with_greatest (Some c) (Some d) = Some (greater c d)
with_greatest _ _ = None
