-- What is told of the rules of typing, by their numbers.
use Rattle.std.specs.Prelude.{ℕ, ◌==◌, List, [], ◌∷◌, ◌++◌, Option, Some, None, option_map, find, map, codes}
use Rattle.std.specs.Fmt.{decimal}
use Rattle.dh_explain.specs.Explained.{explained}
use Rattle.dh_explain.specs.Explanations.{Explanation}
use Rattle.dh_syntax.specs.Typing.TypeRules as rule
use Rattle.dh_syntax.specs.Typing.TypeRules.{Rule, rule_number}

-- every rule, in the order of their numbers
abbrev pub rules : List Rule
rules =
    rule.UnboundVariable ∷ rule.SortHasNoType ∷ rule.LambdaDomain ∷ rule.LambdaBody ∷ rule.ForallDomain ∷ rule.ForallRange
    ∷ rule.NoFunction ∷ rule.WrongArgument ∷ rule.LetAnnotation ∷ rule.ConditionNoBool ∷ rule.BranchesNotInType ∷ rule.BranchesDiffer
    ∷ rule.LeftSide ∷ rule.RightSide ∷ rule.EmptyListAnnotation ∷ rule.ElementsNotInType ∷ rule.ElementsDiffer ∷ rule.SomeNotInType
    ∷ rule.FieldTypeNoUniverse ∷ rule.FieldOfSort ∷ rule.AlternativeNoUniverse ∷ rule.NothingToSelect ∷ rule.ProjectionNoRecord ∷ rule.ProjectionLacksField
    ∷ rule.TypedProjectionNoRecord ∷ rule.TypedProjectionNoRecordType ∷ rule.TypedProjectionDiffers ∷ rule.LeftNoRecord ∷ rule.RightNoRecord ∷ rule.FieldsCollide
    ∷ rule.LeftNoRecordType ∷ rule.RightNoRecordType ∷ rule.FieldTypesCollide ∷ rule.HandlersNoRecord ∷ rule.MergeNoUnion ∷ rule.HandlerLabels
    ∷ rule.HandlerNoFunction ∷ rule.HandlerResultDepends ∷ rule.HandlerResultsDiffer ∷ rule.MergeAnnotation ∷ rule.MergeEmpty ∷ rule.ToMapNoRecord
    ∷ rule.ToMapFieldsDiffer ∷ rule.ToMapEmpty ∷ rule.ToMapAnnotation ∷ rule.InterpolationNoText ∷ rule.AssertionNotInType ∷ rule.AssertionNoEquivalence
    ∷ rule.AssertionFails ∷ rule.SidesDiffer ∷ rule.SidesNotInType ∷ rule.AnnotationDiffers ∷ rule.CompletionHasNoType ∷ rule.UpdateNoRecord
    ∷ rule.UpdateOfSort ∷ rule.NotResolved ∷ []

-- the rule that has a number
abbrev pub rule_of : ℕ → Option Rule
rule_of n = find (λ r. rule_number r == n) rules

-- these lines, each with its line feed
abbrev pub lines : List (List ℕ) → List ℕ
lines [] = []
lines (l ∷ ls) = l ++ codes "\n" ++ lines ls

-- the line of a text that fails, if there is one
abbrev pub failing : Option (List ℕ) → List (List ℕ)
failing None = []
failing (Some text) = (codes "fails: " ++ text) ∷ []

-- an explanation of the rule with this number
abbrev pub told : ℕ → Explanation → List ℕ
told n x = lines ((codes "type rule " ++ decimal n ++ codes ": " ++ x.name) ∷ x.wants ++ failing x.fails ++ ((codes "types: " ++ x.types) ∷ []))

-- what is told of a rule
abbrev pub told_of : Rule → List ℕ
told_of r = told (rule_number r) (explained r)

-- what is told of the rule with a number, if there is one
unfoldable pub explanation : ℕ → Option (List ℕ)
explanation n = option_map told_of (rule_of n)

-- the number and the name of a rule
abbrev pub numbered : Rule → List ℕ
numbered r = decimal (rule_number r) ++ codes ": " ++ (explained r).name

-- the rules, a line each
unfoldable pub rule_list : List ℕ
rule_list = lines (map numbered rules)
