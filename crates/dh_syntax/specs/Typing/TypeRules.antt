-- The rules of typing by name, with the numbers that the program prints (the standard's "Type inference").
use Rattle.std.specs.Prelude.{ℕ}

-- what fails where a rule fails
pub data Rule : Type 0 where
  -- a variable is not bound
  UnboundVariable : Rule
  -- `Sort` has no type
  SortHasNoType : Rule
  -- λ: the domain's type is no universe; the type of the body is `Sort`
  LambdaDomain : Rule
  LambdaBody : Rule
  -- ∀: the domain's type is no universe; the range's type is none
  ForallDomain : Rule
  ForallRange : Rule
  -- application: the type of the function is no ∀; the type of the argument is not its domain
  NoFunction : Rule
  WrongArgument : Rule
  -- `let`: the type of the value is not the annotation
  LetAnnotation : Rule
  -- `if`: the condition is no Bool; the type of the branches is not in Type; the types of the branches differ
  ConditionNoBool : Rule
  BranchesNotInType : Rule
  BranchesDiffer : Rule
  -- an operator on Bool, Natural, Text or List: the left side is no such value; the right side is none
  LeftSide : Rule
  RightSide : Rule
  -- `[] : t`: t is no `List x`
  EmptyListAnnotation : Rule
  -- a list: the type of the first element is not in Type; that of another one differs
  ElementsNotInType : Rule
  ElementsDiffer : Rule
  -- `Some e`: the type of e is not in Type
  SomeNotInType : Rule
  -- a record type: the type of a field's type is no universe
  FieldTypeNoUniverse : Rule
  -- a record: the type of a field is `Sort`
  FieldOfSort : Rule
  -- a union: the type of an alternative's type is no universe
  AlternativeNoUniverse : Rule
  -- `e.x`: e is no record with x and no union with x
  NothingToSelect : Rule
  -- `e.{ x, .. }`: e is no record; it lacks a field
  ProjectionNoRecord : Rule
  ProjectionLacksField : Rule
  -- `e.(t)`: e is no record; t is no record type; e lacks a field of t or has it with another type
  TypedProjectionNoRecord : Rule
  TypedProjectionNoRecordType : Rule
  TypedProjectionDiffers : Rule
  -- `⫽` and `∧`: the left side is no record; the right side is none
  LeftNoRecord : Rule
  RightNoRecord : Rule
  -- `∧`: a common field, at any depth, is not a record on both sides
  FieldsCollide : Rule
  -- `⩓`: the left side is no record type; the right side is none; a common field, at any depth, is not one on both sides
  LeftNoRecordType : Rule
  RightNoRecordType : Rule
  FieldTypesCollide : Rule
  -- `merge`: the handlers are no record; what is merged is no union and no optional value; the handlers' labels are not
  -- those of the alternatives
  HandlersNoRecord : Rule
  MergeNoUnion : Rule
  HandlerLabels : Rule
  -- `merge`: a handler is no function from its alternative's type; its result mentions its argument; its result is not
  -- that of the handlers before
  HandlerNoFunction : Rule
  HandlerResultDepends : Rule
  HandlerResultsDiffer : Rule
  -- `merge`: the result is not the annotation; there is neither an alternative nor an annotation
  MergeAnnotation : Rule
  MergeEmpty : Rule
  -- `toMap`: the argument is no record; its fields' types differ or are not in Type; it has no field and there is no
  -- annotation; the annotation is no list of entries of that type
  ToMapNoRecord : Rule
  ToMapFieldsDiffer : Rule
  ToMapEmpty : Rule
  ToMapAnnotation : Rule
  -- a text: an interpolation is no Text
  InterpolationNoText : Rule
  -- `assert : t`: the type of t is not Type; t is no `l ≡ r`; l and r are not equivalent
  AssertionNotInType : Rule
  AssertionNoEquivalence : Rule
  AssertionFails : Rule
  -- `l ≡ r`: the types of l and r differ; they are not in Type
  SidesDiffer : Rule
  SidesNotInType : Rule
  -- `e : t`: the type of e is not t
  AnnotationDiffers : Rule
  -- `t::r`: the longer expression that it stands for has no type
  CompletionHasNoType : Rule
  -- `with`: what is on the path is no record; the new value has the type `Sort`
  UpdateNoRecord : Rule
  UpdateOfSort : Rule
  -- an import or `?`
  NotResolved : Rule

-- the number of a rule
abbrev pub rule_number : Rule → ℕ
rule_number UnboundVariable = 1
rule_number SortHasNoType = 2
rule_number LambdaDomain = 3
rule_number LambdaBody = 4
rule_number ForallDomain = 5
rule_number ForallRange = 6
rule_number NoFunction = 7
rule_number WrongArgument = 8
rule_number LetAnnotation = 9
rule_number ConditionNoBool = 10
rule_number BranchesNotInType = 11
rule_number BranchesDiffer = 12
rule_number LeftSide = 13
rule_number RightSide = 14
rule_number EmptyListAnnotation = 15
rule_number ElementsNotInType = 16
rule_number ElementsDiffer = 17
rule_number SomeNotInType = 18
rule_number FieldTypeNoUniverse = 19
rule_number FieldOfSort = 20
rule_number AlternativeNoUniverse = 21
rule_number NothingToSelect = 22
rule_number ProjectionNoRecord = 23
rule_number ProjectionLacksField = 24
rule_number TypedProjectionNoRecord = 25
rule_number TypedProjectionNoRecordType = 26
rule_number TypedProjectionDiffers = 27
rule_number LeftNoRecord = 28
rule_number RightNoRecord = 29
rule_number FieldsCollide = 30
rule_number LeftNoRecordType = 31
rule_number RightNoRecordType = 32
rule_number FieldTypesCollide = 33
rule_number HandlersNoRecord = 34
rule_number MergeNoUnion = 35
rule_number HandlerLabels = 36
rule_number HandlerNoFunction = 37
rule_number HandlerResultDepends = 38
rule_number HandlerResultsDiffer = 39
rule_number MergeAnnotation = 40
rule_number MergeEmpty = 41
rule_number ToMapNoRecord = 42
rule_number ToMapFieldsDiffer = 43
rule_number ToMapEmpty = 44
rule_number ToMapAnnotation = 45
rule_number InterpolationNoText = 46
rule_number AssertionNotInType = 47
rule_number AssertionNoEquivalence = 48
rule_number AssertionFails = 49
rule_number SidesDiffer = 50
rule_number SidesNotInType = 51
rule_number AnnotationDiffers = 52
rule_number CompletionHasNoType = 53
rule_number UpdateNoRecord = 54
rule_number UpdateOfSort = 55
rule_number NotResolved = 56
