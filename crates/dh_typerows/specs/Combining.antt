-- Parts of the rules of `∧` and `⩓`: what follows once a side is known to be a record type.
use Rattle.std.specs.Prelude.{Option}
use Rattle.dh_syntax.specs.declared.operators.Builtin.{Builtin}
use Rattle.dh_syntax.specs.Expressions.Forms.{builtin}
use Rattle.dh_syntax.specs.Expressions.Tree.{Tree}
use Rattle.dh_syntax.specs.Expressions.Views.{as_record_type}
use Rattle.dh_syntax.specs.Typing.TypeRules as rule
use Rattle.dh_syntax.specs.Typing.TypeRulesRecords.{joined}
use Rattle.dh_syntax.specs.Typing.TypeRuling.{Ruling, Takes, Forms, WithNormal, given}
use Rattle.dh_syntax.specs.Typing.Universes.{greater}

module _ {A B : Type 0} where
  -- `l ∧ r`, whose sides have these record types as their types
  abbrev pub combined : Tree A B → Tree A B → Ruling (Tree A B)
  combined l r = given (joined l r) rule.FieldsCollide (λ t. Forms t)

  -- `l ⩓ r`, whose sides can be joined, and are in these universes
  abbrev pub in_universes : Option Builtin → Option Builtin → Ruling (Tree A B)
  in_universes left right =
      given left rule.LeftNoRecordType (λ c.
      given right rule.RightNoRecordType (λ d.
      Takes (builtin (greater c d))))

  -- `l ⩓ r`, whose sides are these record types, in these universes
  abbrev pub types_combined : Tree A B → Tree A B → Option Builtin → Option Builtin → Ruling (Tree A B)
  types_combined l r left right = given (joined l r) rule.FieldTypesCollide (λ j. in_universes left right)

  -- `l ⩓ r`, whose left side is this record type, and whose sides are in these universes
  abbrev pub right_combined : Tree A B → Option Builtin → Option Builtin → Ruling (Tree A B)
  right_combined l left right =
      WithNormal 1 (λ r.
      given (as_record_type r) rule.RightNoRecordType (λ gs.
      types_combined l r left right))
