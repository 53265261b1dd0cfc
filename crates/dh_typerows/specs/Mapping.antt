-- Parts of the rule of `toMap`: what follows once the fields, a universe or the annotation are known.
use Rattle.std.specs.Prelude.{Bool, List, Option}
use Rattle.dh_syntax.specs.declared.operators.Builtin.{Builtin}
use Rattle.dh_syntax.specs.Expressions.Tree.{Tree}
use Rattle.dh_syntax.specs.Typing.Scopes.{Scopes}
use Rattle.dh_syntax.specs.Typing.TypeRules as rule
use Rattle.dh_syntax.specs.Typing.TypeRulesUnions.{map_type, mapped}
use Rattle.dh_syntax.specs.Typing.TypeRuling.{Ruling, Forms, WithUniverse, require, given}
use Rattle.dh_syntax.specs.Typing.TypeViews.{as_map_type, each}
use Rattle.dh_syntax.specs.Typing.Universes.{is_type}

module _ {A B : Type 0} (S : Scopes A B) where
  -- fields of the type v beside the annotation, which is in normal form
  abbrev pub beside : Tree A B → Tree A B → Ruling (Tree A B)
  beside v t =
      given (as_map_type t) rule.ToMapAnnotation (λ w.
      require (S.same v w) rule.ToMapAnnotation (
      Forms (map_type S v)))

  -- fields of the type v, which is in the universe u
  abbrev pub in_universe : Bool → Tree A B → Option Builtin → Ruling (Tree A B)
  in_universe annotated v u = require (is_type u) rule.ToMapFieldsDiffer (mapped S annotated v)

  -- a first field of the type v, and others of these types
  abbrev pub some_entries : Bool → Tree A B → List (Tree A B) → Ruling (Tree A B)
  some_entries annotated v ts = require (each (S.same v) ts) rule.ToMapFieldsDiffer (WithUniverse 0 (λ u. in_universe annotated v u))
