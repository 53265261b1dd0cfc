-- Parts of the rules of this group: what follows once a universe or a normal form is known.
use Rattle.std.specs.Prelude.{List, Option}
use Rattle.dh_syntax.specs.declared.operators.Builtin.{Builtin}
use Rattle.dh_syntax.specs.Expressions.Forms.{list_type}
use Rattle.dh_syntax.specs.Expressions.Tree.{Tree}
use Rattle.dh_syntax.specs.Typing.Scopes.{Scopes}
use Rattle.dh_syntax.specs.Typing.TypeRules as rule
use Rattle.dh_syntax.specs.Typing.TypeRuling.{Ruling, Takes, Forms, require, given}
use Rattle.dh_syntax.specs.Typing.TypeViews.{each, as_equivalence}
use Rattle.dh_syntax.specs.Typing.Universes.{is_type}

module _ {A B : Type 0} (S : Scopes A B) where
  -- two branches, the first one's type in the universe u
  abbrev pub branches : Option Builtin → Tree A B → Tree A B → Ruling (Tree A B)
  branches u l r = require (is_type u) rule.BranchesNotInType (require (S.same l r) rule.BranchesDiffer (Takes l))

  -- the elements of a list, the first one's type in the universe u
  abbrev pub elements : Option Builtin → Tree A B → List (Tree A B) → Ruling (Tree A B)
  elements u t ts = require (is_type u) rule.ElementsNotInType (require (each (S.same t) ts) rule.ElementsDiffer (Forms (list_type t)))

  -- an assertion of e, which is in normal form
  abbrev pub asserted : Tree A B → Ruling (Tree A B)
  asserted e = given (as_equivalence e) rule.AssertionNoEquivalence (λ (l, r). require (S.same l r) rule.AssertionFails (Takes e))
