-- The type of a node by its rule alone, where all is known of its parts that the rule needs.
use Rattle.std.specs.Prelude.{List, Option, option_and_then}
use Rattle.dh_syntax.specs.declared.expressions.Op.{Op}
use Rattle.dh_syntax.specs.Typing.Scopes.{Scopes}
use Rattle.dh_syntax.specs.Expressions.Tree.{Tree}
use Rattle.dh_syntax.specs.Typing.TypeRulesOperators.{operator_ruling}
use Rattle.dh_syntax.specs.Typing.TypeRulesUnions.{record_ruling}
use Rattle.dh_syntax.specs.Typing.TypeRuling.{Known, Ruled, types_of, ruled}

module _ {A B : Type 0} (S : Scopes A B) where
  -- for the forms of `TypeRulesRecords` and `TypeRulesUnions`; none for another form, and where a normal form is missing
  abbrev pub type_row : Op → List (Known (Tree A B)) → Option (Ruled (Tree A B))
  type_row op parts = option_and_then (ruled parts) (record_ruling S op (types_of parts))

  -- for the forms of `TypeRulesOperators`, likewise
  abbrev pub type_op : Op → List (Known (Tree A B)) → Option (Ruled (Tree A B))
  type_op op parts = option_and_then (ruled parts) (operator_ruling S op (types_of parts))
