-- Parts of the rules of selection, projection and `⫽`: what follows once a normal form or the fields are known.
use Rattle.dh_syntax.specs.Expressions.Forms.{Fields, record_type}
use Rattle.dh_syntax.specs.Expressions.Labels.{all_fields}
use Rattle.dh_syntax.specs.Expressions.Tree.{Tree, Name}
use Rattle.dh_syntax.specs.Expressions.Views.{as_record_type}
use Rattle.dh_syntax.specs.Typing.Scopes.{Scopes}
use Rattle.dh_syntax.specs.Typing.TypeRules as rule
use Rattle.dh_syntax.specs.Typing.TypeRulesRecords.{all_there, alternative}
use Rattle.dh_syntax.specs.Typing.TypeRuling.{Ruling, Takes, Forms, require, given}
use Rattle.dh_syntax.specs.Typing.TypeViews.{alternative_at, as_union_type}

module _ {A B : Type 0} (S : Scopes A B) where
  -- `e.(r)`, where e has these fields, and r is in normal form
  abbrev pub projected : Fields A B → Tree A B → Ruling (Tree A B)
  projected fs r =
      given (as_record_type r) rule.TypedProjectionNoRecordType (λ gs.
      require (all_there S fs gs) rule.TypedProjectionDiffers (
      Takes r))

  -- `u.x`, where u is in normal form
  abbrev pub selected : Name → Tree A B → Ruling (Tree A B)
  selected x u =
      given (as_union_type u) rule.NothingToSelect (λ alts.
      given (alternative_at x alts) rule.NothingToSelect (λ a.
      alternative S x u a))

-- `l ⫽ r`, where l and r have these fields
abbrev pub preferred : {A B : Type 0} → Fields A B → Fields A B → Ruling (Tree A B)
preferred fs gs = Forms (record_type (all_fields (λ d e. e) fs gs))
