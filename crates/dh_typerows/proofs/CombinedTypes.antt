-- The rules of `∧` and `⩓`, once a side is known to be a record type.
use Rattle.std.specs.Prelude.{◌≡◌, ℕ, true, false, Option, Some, None, option_map, is_some, Result, Ok, Err, IfOk, refl}
use Rattle.std.proofs.Common.{ap, sym, ◌∙◌}
use Rattle.std.proofs.lemmas.Bool.{false≢true}
use Rattle.dh_syntax.specs.declared.operators.Builtin.{Builtin}
use Rattle.dh_syntax.specs.Expressions.Views.{as_record_type}
use Rattle.dh_syntax.specs.Names.Nameless.{Core}
use Rattle.dh_syntax.specs.Typing.NamelessTyping.{core_scopes}
use Rattle.dh_syntax.specs.Typing.TypeRules as rule
use Rattle.dh_syntax.specs.Typing.TypeRules.{Rule, rule_number}
use Rattle.dh_syntax.specs.Typing.TypeRulesRecords.{combine, combine_types}
use Rattle.dh_syntax.specs.Typing.TypeRuling as ruling
use Rattle.dh_syntax.specs.Typing.TypeRuling.{Ruling, given}
use Rattle.dh_syntax.specs.Typing.Universes.{as_universe}
use Rattle.dh_types.specs.declared.steps.Found.{Found}
use Rattle.dh_types.specs.Following.{facts_of, follow, known_or, Course, Facts, Refuses, WantsNormal}
use Rattle.dh_typerows.specs.Combining as parts

given-there : {X : Type 0} (o : Option X) (number : Rule) (r : Ruling Core) → is_some o ≡ true → given o number (λ x. r) ≡ r
given-there (Some x) number r h = refl
given-there None number r h = absurd (false≢true h)

given-absent : {X : Type 0} (o : Option X) (number : Rule) (next : X → Ruling Core) → is_some o ≡ false → given o number next ≡ ruling.Refuses number
given-absent (Some x) number next h = absurd (false≢true (sym h))
given-absent None number next h = refl

module _ {D E : Type 0} (r s : Ruling Core) (same : r ≡ s) where
  along-rule : (P : D → Course Core) (o : Result D E) → IfOk o (λ d. (facts : Facts Core) → P d ≡ follow facts r) → IfOk o (λ d. (facts : Facts Core) → P d ≡ follow facts s)
  along-rule P (Ok d) h = λ facts. h facts ∙ ap (follow facts) same
  along-rule P (Err x) h = tt

-- what follows from a rule, whatever is known, where it is what is left of one
left-over : {D E : Type 0} (P : D → Course Core) (o : Result D E) (facts : Facts Core) (r : Ruling Core) (c : Course Core) → follow facts r ≡ c → IfOk o (λ d. (facts : Facts Core) → P d ≡ follow facts r) → IfOk o (λ d. P d ≡ c)
left-over P (Ok d) facts r c e h = h facts ∙ e
left-over P (Err x) facts r c e h = tt

-- ---- `∧`

module _ (l r : Core) where
  pub combine-left : (facts : Facts Core) → is_some (as_record_type l) ≡ false → Refuses 28 ≡ follow facts (combine core_scopes l r)
  combine-left facts h = sym (ap (follow facts) (given-absent (as_record_type l) rule.LeftNoRecord (λ fs. given (as_record_type r) rule.RightNoRecord (λ gs. parts.combined l r)) h))

  pub combine-right : (facts : Facts Core) → is_some (as_record_type l) ≡ true → is_some (as_record_type r) ≡ false → Refuses 29 ≡ follow facts (combine core_scopes l r)
  combine-right facts p h =
      sym (ap (follow facts) (given-there (as_record_type l) rule.LeftNoRecord (given (as_record_type r) rule.RightNoRecord (λ gs. parts.combined l r)) p ∙ given-absent (as_record_type r) rule.RightNoRecord (λ gs. parts.combined l r) h))

  pub combine-both : {D E : Type 0} (P : D → Course Core) (o : Result D E) → is_some (as_record_type l) ≡ true → is_some (as_record_type r) ≡ true
      → IfOk o (λ d. (facts : Facts Core) → P d ≡ follow facts (parts.combined l r)) → IfOk o (λ d. (facts : Facts Core) → P d ≡ follow facts (combine core_scopes l r))
  combine-both P o p q h =
      along-rule (parts.combined l r) (combine core_scopes l r)
      (sym (given-there (as_record_type l) rule.LeftNoRecord (given (as_record_type r) rule.RightNoRecord (λ gs. parts.combined l r)) p ∙ given-there (as_record_type r) rule.RightNoRecord (parts.combined l r) q)) P o h

-- ---- `⩓`

module _ (f : ℕ → Core) (found : Found) where
  abbrev known : Facts Core
  known = facts_of f found

  second-known : (c : ℕ) (next : Core → Ruling Core) → found.second ≡ Some c → follow known (ruling.WithNormal 1 next) ≡ follow known (next (f c))
  second-known c next e = ap (λ o. known_or (WantsNormal 1) (option_map f o) (λ e. follow known (next e))) e

  first-known : (c : ℕ) (next : Core → Ruling Core) → found.first ≡ Some c → follow known (ruling.WithNormal 0 next) ≡ follow known (next (f c))
  first-known c next e = ap (λ o. known_or (WantsNormal 0) (option_map f o) (λ e. follow known (next e))) e

  module _ (l : Core) (c : ℕ) (left right : Option Builtin) (is : found.second ≡ Some c) where
    pub right-refused : is_some (as_record_type (f c)) ≡ false → Refuses 32 ≡ follow known (parts.right_combined l left right)
    right-refused h =
        sym (second-known c (λ r. given (as_record_type r) rule.RightNoRecordType (λ gs. parts.types_combined l r left right)) is
        ∙ ap (follow known) (given-absent (as_record_type (f c)) rule.RightNoRecordType (λ gs. parts.types_combined l (f c) left right) h))

    pub right-there : {D E : Type 0} (P : D → Course Core) (o : Result D E) → is_some (as_record_type (f c)) ≡ true → IfOk o (λ d. (facts : Facts Core) → P d ≡ follow facts (parts.types_combined l (f c) left right))
        → IfOk o (λ d. P d ≡ follow known (parts.right_combined l left right))
    right-there P o h k =
        left-over P o known (parts.types_combined l (f c) left right) (follow known (parts.right_combined l left right))
        (sym (second-known c (λ r. given (as_record_type r) rule.RightNoRecordType (λ gs. parts.types_combined l r left right)) is
        ∙ ap (follow known) (given-there (as_record_type (f c)) rule.RightNoRecordType (parts.types_combined l (f c) left right) h))) k

  module _ (t u : Core) (c : ℕ) (is : found.first ≡ Some c) where
    abbrev next : Core → Ruling Core
    next l = given (as_record_type l) rule.LeftNoRecordType (λ fs. parts.right_combined l (as_universe t) (as_universe u))

    pub left-refused : is_some (as_record_type (f c)) ≡ false → Refuses 31 ≡ follow known (combine_types core_scopes t u)
    left-refused h = sym (first-known c next is ∙ ap (follow known) (given-absent (as_record_type (f c)) rule.LeftNoRecordType (λ fs. parts.right_combined (f c) (as_universe t) (as_universe u)) h))

    pub left-there : {D E : Type 0} (P : D → Course Core) (o : Result D E) (left right : Option Builtin) → left ≡ as_universe t → right ≡ as_universe u → is_some (as_record_type (f c)) ≡ true
        → IfOk o (λ d. P d ≡ follow known (parts.right_combined (f c) left right)) → IfOk o (λ d. P d ≡ follow known (combine_types core_scopes t u))
    left-there P (Ok d) left right p q h k =
        k ∙ ap (λ v. follow known (parts.right_combined (f c) v right)) p ∙ ap (λ v. follow known (parts.right_combined (f c) (as_universe t) v)) q
        ∙ sym (first-known c next is ∙ ap (follow known) (given-there (as_record_type (f c)) rule.LeftNoRecordType (parts.right_combined (f c) (as_universe t) (as_universe u)) h))
    left-there P (Err x) left right p q h k = tt
