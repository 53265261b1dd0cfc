-- What each rule of typing wants, with a smallest text that fails by it and one that has a type.
use Rattle.std.specs.Prelude.{[], ◌∷◌, Some, None, codes}
use Rattle.dh_explain.specs.Explanations.{Explanation}
use Rattle.dh_syntax.specs.Typing.TypeRules as rule
use Rattle.dh_syntax.specs.Typing.TypeRules.{Rule}

-- what each rule wants
unfoldable pub explained : Rule → Explanation
explained rule.UnboundVariable = record {
  name = codes "unbound variable";
  wants =
      codes "A variable must be bound around where it stands, by `\\`, `forall` or `let`."
      ∷ codes "`x@1` is the second `x` from within, so two binders of `x` must stand around it."
      ∷ [];
  fails = Some (codes "x");
  types = codes "let x = 1 in x";
}
explained rule.SortHasNoType = record {
  name = codes "Sort has no type";
  wants =
      codes "`Type` has the type `Kind`, and `Kind` has the type `Sort`. `Sort` has no type."
      ∷ codes "So it can stand only as an annotation, where it is not typed itself."
      ∷ [];
  fails = Some (codes "Sort");
  types = codes "Kind : Sort";
}
explained rule.LambdaDomain = record {
  name = codes "domain of a function";
  wants =
      codes "In `\\(x : A) -> b` the domain `A` must be a type, a kind or a sort."
      ∷ codes "Its own type must be `Type`, `Kind` or `Sort`, so a value such as `1` is none."
      ∷ [];
  fails = Some (codes "\\(x : 1) -> x");
  types = codes "\\(x : Bool) -> x";
}
explained rule.LambdaBody = record {
  name = codes "body of a function";
  wants =
      codes "In `\\(x : A) -> b` the type of the body `b` must not be `Sort`."
      ∷ codes "The type of the function would end in `Sort`, and so have no type itself. `Kind` has the type `Sort`."
      ∷ [];
  fails = Some (codes "\\(x : Bool) -> Kind");
  types = codes "\\(x : Bool) -> Type";
}
explained rule.ForallDomain = record {
  name = codes "domain of a function type";
  wants =
      codes "In `A -> B` and in `forall (x : A) -> B` the domain `A` must be a type, a kind or a sort."
      ∷ codes "Its own type must be `Type`, `Kind` or `Sort`, so a value such as `1` is none."
      ∷ [];
  fails = Some (codes "1 -> Bool");
  types = codes "Bool -> Bool";
}
explained rule.ForallRange = record {
  name = codes "range of a function type";
  wants =
      codes "In `A -> B` and in `forall (x : A) -> B` the range `B` must be a type, a kind or a sort."
      ∷ codes "Its own type must be `Type`, `Kind` or `Sort`, so a value such as `1` is none."
      ∷ [];
  fails = Some (codes "Bool -> 1");
  types = codes "Bool -> Bool";
}
explained rule.NoFunction = record {
  name = codes "no function";
  wants =
      codes "In `f a` the part `f` must be a function: its type must be a `forall`."
      ∷ codes "Two expressions side by side are an application, also where a comma or an operator was forgotten between them."
      ∷ [];
  fails = Some (codes "1 2");
  types = codes "Natural/show 2";
}
explained rule.WrongArgument = record {
  name = codes "wrong argument";
  wants =
      codes "In `f a` the type of the argument `a` must be the domain of the function `f`."
      ∷ codes "Nothing is converted: where a `Text` is wanted, a `Natural` is an argument of `Natural/show` first."
      ∷ [];
  fails = Some (codes "Natural/show True");
  types = codes "Natural/show 1";
}
explained rule.LetAnnotation = record {
  name = codes "annotation of a let";
  wants =
      codes "In `let x : A = a in b` the type of `a` must be `A`."
      ∷ codes "Without `: A` the variable has the type of `a`, whatever that is."
      ∷ [];
  fails = Some (codes "let x : Bool = 1 in x");
  types = codes "let x : Natural = 1 in x";
}
explained rule.ConditionNoBool = record {
  name = codes "condition no Bool";
  wants =
      codes "In `if c then a else b` the condition `c` must be a `Bool`."
      ∷ codes "No number, text or list counts as true or false."
      ∷ [];
  fails = Some (codes "if 1 then 2 else 3");
  types = codes "if True then 2 else 3";
}
explained rule.BranchesNotInType = record {
  name = codes "branches no values";
  wants =
      codes "In `if c then a else b` both branches must be values: the type of their type must be `Type`."
      ∷ codes "A type is none, and neither is a record that holds one."
      ∷ [];
  fails = Some (codes "if True then Bool else Bool");
  types = codes "if True then True else False";
}
explained rule.BranchesDiffer = record {
  name = codes "branches differ";
  wants =
      codes "In `if c then a else b` both branches must have one type."
      ∷ codes "Values of two types become one as alternatives of a union."
      ∷ [];
  fails = Some (codes "if True then 1 else False");
  types = codes "if True then 1 else 2";
}
explained rule.LeftSide = record {
  name = codes "left side of an operator";
  wants =
      codes "The left side of `+` and `*` must be a `Natural`, that of `++` a `Text`, and that of `||`, `&&`, `==` and `!=` a `Bool`."
      ∷ codes "The left side of `#` must be a list."
      ∷ [];
  fails = Some (codes "True + 1");
  types = codes "2 + 1";
}
explained rule.RightSide = record {
  name = codes "right side of an operator";
  wants =
      codes "The right side of `+` and `*` must be a `Natural`, that of `++` a `Text`, and that of `||`, `&&`, `==` and `!=` a `Bool`."
      ∷ codes "The right side of `#` must be a list of the same type as the left side."
      ∷ codes "A number with a sign, as `+1`, is an `Integer` and no `Natural`."
      ∷ [];
  fails = Some (codes "1 + True");
  types = codes "1 + 2";
}
explained rule.EmptyListAnnotation = record {
  name = codes "annotation of an empty list";
  wants =
      codes "In `[] : T` the annotation `T` must be the type of the list, which is `List` with the type of the elements."
      ∷ [];
  fails = Some (codes "[] : Bool");
  types = codes "[] : List Bool";
}
explained rule.ElementsNotInType = record {
  name = codes "elements no values";
  wants =
      codes "The elements of a list must be values: the type of the type of the first one must be `Type`."
      ∷ codes "A type is none, and neither is a record that holds one."
      ∷ [];
  fails = Some (codes "[ Bool ]");
  types = codes "[ True ]";
}
explained rule.ElementsDiffer = record {
  name = codes "elements differ";
  wants =
      codes "Each element of a list must have the type of the first one."
      ∷ codes "Values of several types stand in one list as alternatives of a union."
      ∷ [];
  fails = Some (codes "[ 1, True ]");
  types = codes "[ 1, 2 ]";
}
explained rule.SomeNotInType = record {
  name = codes "Some of no value";
  wants =
      codes "In `Some a` the part `a` must be a value: the type of its type must be `Type`."
      ∷ codes "`Some` takes the value alone, and `None` takes a type."
      ∷ [];
  fails = Some (codes "Some Bool");
  types = codes "Some True";
}
explained rule.FieldTypeNoUniverse = record {
  name = codes "field of a record type";
  wants =
      codes "In a record type `{ x : A }` each `A` must be a type, a kind or a sort: its own type must be `Type`, `Kind` or `Sort`."
      ∷ codes "A value stands after `=`, in a record."
      ∷ [];
  fails = Some (codes "{ a : 1 }");
  types = codes "{ a : Bool }";
}
explained rule.FieldOfSort = record {
  name = codes "field of type Sort";
  wants =
      codes "No field of a record may have the type `Sort`, as `Kind` has."
      ∷ codes "The type of the record would hold `Sort`, and so have no type itself."
      ∷ [];
  fails = Some (codes "{ a = Kind }");
  types = codes "{ a = Type }";
}
explained rule.AlternativeNoUniverse = record {
  name = codes "alternative of a union";
  wants =
      codes "In a union `< x : A | y >` each `A` must be a type, a kind or a sort: its own type must be `Type`, `Kind` or `Sort`."
      ∷ codes "An alternative without a value has no colon."
      ∷ [];
  fails = Some (codes "< a : 1 >");
  types = codes "< a : Bool >";
}
explained rule.NothingToSelect = record {
  name = codes "nothing to select";
  wants =
      codes "In `e.x` the part `e` must be a record with the field `x`, or a union with the alternative `x`."
      ∷ codes "An alternative is selected from the union, which is a type, and not from a value of it."
      ∷ [];
  fails = Some (codes "{ a = 1 }.b");
  types = codes "{ a = 1 }.a";
}
explained rule.ProjectionNoRecord = record {
  name = codes "projection of no record";
  wants =
      codes "In `e.{ x, y }` the part `e` must be a record."
      ∷ codes "A record type is none."
      ∷ [];
  fails = Some (codes "True.{ a }");
  types = codes "{ a = True }.{ a }";
}
explained rule.ProjectionLacksField = record {
  name = codes "projection lacks a field";
  wants =
      codes "In `e.{ x, y }` the record `e` must have each field that is named."
      ∷ codes "Its other fields are left out."
      ∷ [];
  fails = Some (codes "{ a = 1 }.{ b }");
  types = codes "{ a = 1, b = 2 }.{ b }";
}
explained rule.TypedProjectionNoRecord = record {
  name = codes "projection by a type, of no record";
  wants =
      codes "In `e.(T)` the part `e` must be a record."
      ∷ codes "It is narrowed to the fields of the record type `T`."
      ∷ [];
  fails = Some (codes "True.({ a : Bool })");
  types = codes "{ a = True }.({ a : Bool })";
}
explained rule.TypedProjectionNoRecordType = record {
  name = codes "projection by no record type";
  wants =
      codes "In `e.(T)` the normal form of `T` must be a record type."
      ∷ codes "A projection by names has braces in place of the brackets, as `e.{ x, y }`."
      ∷ [];
  fails = Some (codes "{ a = 1 }.(Bool)");
  types = codes "{ a = 1 }.({ a : Natural })";
}
explained rule.TypedProjectionDiffers = record {
  name = codes "projection by another type";
  wants =
      codes "In `e.(T)` the record `e` must have each field of the record type `T`, and with the type that `T` says."
      ∷ codes "Its other fields are left out."
      ∷ [];
  fails = Some (codes "{ a = 1 }.({ a : Bool })");
  types = codes "{ a = 1, b = 2 }.({ a : Natural })";
}
explained rule.LeftNoRecord = record {
  name = codes "left side no record";
  wants =
      codes "The left side of `//` and of `/\\` must be a record. For record types there is `//\\\\`."
      ∷ codes "A record that names a field twice joins both values by `/\\`, so there this rule is told of the field."
      ∷ [];
  fails = Some (codes "1 // {=}");
  types = codes "{ a = 1 } // {=}";
}
explained rule.RightNoRecord = record {
  name = codes "right side no record";
  wants =
      codes "The right side of `//` and of `/\\` must be a record. For record types there is `//\\\\`."
      ∷ [];
  fails = Some (codes "{=} // 1");
  types = codes "{=} // { a = 1 }";
}
explained rule.FieldsCollide = record {
  name = codes "fields collide";
  wants =
      codes "In `l /\\ r` a field of both sides must be a record on both sides, and so on with the fields of these."
      ∷ codes "`l // r` takes such a field from the right side, whatever it is."
      ∷ [];
  fails = Some (codes "{ a = 1 } /\\ { a = 2 }");
  types = codes "{ a = 1 } /\\ { b = 2 }";
}
explained rule.LeftNoRecordType = record {
  name = codes "left side no record type";
  wants =
      codes "The left side of `//\\\\` must be a record type. For records there are `/\\` and `//`."
      ∷ [];
  fails = Some (codes "Bool //\\\\ {}");
  types = codes "{ a : Bool } //\\\\ {}";
}
explained rule.RightNoRecordType = record {
  name = codes "right side no record type";
  wants =
      codes "The right side of `//\\\\` must be a record type. For records there are `/\\` and `//`."
      ∷ [];
  fails = Some (codes "{} //\\\\ Bool");
  types = codes "{} //\\\\ { a : Bool }";
}
explained rule.FieldTypesCollide = record {
  name = codes "field types collide";
  wants =
      codes "In `l //\\\\ r` a field of both sides must be a record type on both sides, and so on with the fields of these."
      ∷ codes "Two equal types are refused, too."
      ∷ [];
  fails = Some (codes "{ a : Bool } //\\\\ { a : Bool }");
  types = codes "{ a : Bool } //\\\\ { b : Bool }";
}
explained rule.HandlersNoRecord = record {
  name = codes "handlers no record";
  wants =
      codes "In `merge h u` the handlers `h` must be a record, with a field for each alternative of the union."
      ∷ [];
  fails = Some (codes "merge 1 < a >.a");
  types = codes "merge { a = 1 } < a >.a";
}
explained rule.MergeNoUnion = record {
  name = codes "merge of no union";
  wants =
      codes "In `merge h u` the part `u` must be a value of a union, or an `Optional`."
      ∷ codes "A union itself is none: it is a type, and `< a >.a` is a value of it."
      ∷ [];
  fails = Some (codes "merge {=} 1");
  types = codes "merge { None = 1, Some = \\(n : Natural) -> n } (Some 2)";
}
explained rule.HandlerLabels = record {
  name = codes "labels of the handlers";
  wants =
      codes "In `merge h u` the record `h` must have a handler for each alternative of the union, and no others."
      ∷ codes "The handlers of an `Optional` are `None` and `Some`."
      ∷ [];
  fails = Some (codes "merge { b = 1 } < a >.a");
  types = codes "merge { a = 1, b = 2 } < a | b >.a";
}
explained rule.HandlerNoFunction = record {
  name = codes "handler no function";
  wants =
      codes "In `merge h u` the handler of an alternative with a value must be a function from the type of that value."
      ∷ codes "The handler of an alternative without a value is the result alone."
      ∷ [];
  fails = Some (codes "merge { a = 1 } (< a : Bool >.a True)");
  types = codes "merge { a = \\(x : Bool) -> 1 } (< a : Bool >.a True)";
}
explained rule.HandlerResultDepends = record {
  name = codes "type of a result depends";
  wants =
      codes "In `merge h u` the type of the result of a handler must not mention the argument of the handler."
      ∷ codes "It is the type of the whole, where that argument is not bound."
      ∷ [];
  fails = Some (codes "merge { a = \\(t : Type) -> [] : List t } (< a : Type >.a Bool)");
  types = codes "merge { a = \\(t : Type) -> [] : List Bool } (< a : Type >.a Bool)";
}
explained rule.HandlerResultsDiffer = record {
  name = codes "results of the handlers differ";
  wants =
      codes "In `merge h u` all handlers must give results of one type, which is the type of the whole."
      ∷ [];
  fails = Some (codes "merge { a = 1, b = True } < a | b >.a");
  types = codes "merge { a = 1, b = 2 } < a | b >.a";
}
explained rule.MergeAnnotation = record {
  name = codes "annotation of a merge";
  wants =
      codes "In `merge h u : T` the handlers must give results of the type `T`."
      ∷ [];
  fails = Some (codes "merge { a = 1 } < a >.a : Bool");
  types = codes "merge { a = 1 } < a >.a : Natural";
}
explained rule.MergeEmpty = record {
  name = codes "merge without a type";
  wants =
      codes "In `merge h u` a union without alternatives has no handler that would tell the type of the whole."
      ∷ codes "So there it must be told by an annotation."
      ∷ [];
  fails = Some (codes "\\(x : <>) -> merge {=} x");
  types = codes "\\(x : <>) -> merge {=} x : Bool";
}
explained rule.ToMapNoRecord = record {
  name = codes "toMap of no record";
  wants =
      codes "In `toMap e` the part `e` must be a record."
      ∷ codes "It becomes a list with an entry for each field."
      ∷ [];
  fails = Some (codes "toMap 1");
  types = codes "toMap { a = 1 }";
}
explained rule.ToMapFieldsDiffer = record {
  name = codes "fields of a toMap differ";
  wants =
      codes "In `toMap e` all fields of `e` must have one type, and be values: the type of their type must be `Type`."
      ∷ codes "They become the elements of one list."
      ∷ [];
  fails = Some (codes "toMap { a = 1, b = True }");
  types = codes "toMap { a = 1, b = 2 }";
}
explained rule.ToMapEmpty = record {
  name = codes "toMap without a type";
  wants =
      codes "In `toMap e` a record without fields does not tell the type of the list."
      ∷ codes "So there it must be told by an annotation."
      ∷ [];
  fails = Some (codes "toMap {=}");
  types = codes "toMap {=} : List { mapKey : Text, mapValue : Bool }";
}
explained rule.ToMapAnnotation = record {
  name = codes "annotation of a toMap";
  wants =
      codes "In `toMap e : T` the annotation `T` must be `List { mapKey : Text, mapValue : V }`, where `V` is the type of the fields of `e`."
      ∷ [];
  fails = Some (codes "toMap { a = 1 } : List Bool");
  types = codes "toMap { a = 1 } : List { mapKey : Text, mapValue : Natural }";
}
explained rule.InterpolationNoText = record {
  name = codes "interpolation no Text";
  wants =
      codes "In `\"${e}\"` the part `e` must be a `Text`."
      ∷ codes "`Natural/show` and `Integer/show` make one of a number."
      ∷ [];
  fails = Some (codes "\"${1}\"");
  types = codes "\"${Natural/show 1}\"";
}
explained rule.AssertionNotInType = record {
  name = codes "assertion of no type";
  wants =
      codes "In `assert : T` the part `T` must be a type: its own type must be `Type`."
      ∷ codes "An equivalence `a === b` is one."
      ∷ [];
  fails = Some (codes "assert : 1");
  types = codes "assert : 1 === 1";
}
explained rule.AssertionNoEquivalence = record {
  name = codes "assertion of no equivalence";
  wants =
      codes "In `assert : T` the normal form of `T` must be an equivalence `a === b`."
      ∷ codes "A test such as `a == b` gives a `Bool`, which is asserted by `a == b === True`."
      ∷ [];
  fails = Some (codes "assert : Bool");
  types = codes "assert : True === True";
}
explained rule.AssertionFails = record {
  name = codes "assertion fails";
  wants =
      codes "In `assert : a === b` both sides must have one normal form, but for the names of bound variables."
      ∷ codes "So here the program does not do what it asserts."
      ∷ [];
  fails = Some (codes "assert : 1 === 2");
  types = codes "assert : 1 + 1 === 2";
}
explained rule.SidesDiffer = record {
  name = codes "sides of an equivalence differ";
  wants =
      codes "In `a === b` both sides must have one type."
      ∷ codes "They need not have one value: only `assert` asks for that."
      ∷ [];
  fails = Some (codes "1 === True");
  types = codes "1 === 2";
}
explained rule.SidesNotInType = record {
  name = codes "sides of an equivalence no values";
  wants =
      codes "In `a === b` both sides must be values: the type of their type must be `Type`."
      ∷ codes "A type is none, and neither is a record that holds one."
      ∷ [];
  fails = Some (codes "Bool === Bool");
  types = codes "True === True";
}
explained rule.AnnotationDiffers = record {
  name = codes "annotation differs";
  wants =
      codes "In `e : T` the type of `e` must be `T`."
      ∷ codes "Both are compared by their normal forms, in which the names of bound variables do not matter."
      ∷ [];
  fails = Some (codes "1 : Bool");
  types = codes "1 : Natural";
}
explained rule.CompletionHasNoType = record {
  name = codes "completion has no type";
  wants =
      codes "`T::r` stands for `(T.default // r) : T.Type`, which must have a type."
      ∷ codes "So `T` must be a record with the fields `Type` and `default`, and `r` a record."
      ∷ codes "Both together must have just the fields that `T.Type` says, with their types."
      ∷ [];
  fails = Some (codes "{ Type = {}, default = {=} }::{ b = 1 }");
  types = codes "{ Type = { b : Natural }, default = {=} }::{ b = 1 }";
}
explained rule.UpdateNoRecord = record {
  name = codes "update of no record";
  wants =
      codes "In `e with x.y = v` the part `e` must be a record, and so must each field on the path but the last."
      ∷ codes "A field that is not there is made."
      ∷ [];
  fails = Some (codes "{ a = 1 } with a.b = 2");
  types = codes "{ a = {=} } with a.b = 2";
}
explained rule.UpdateOfSort = record {
  name = codes "update of type Sort";
  wants =
      codes "In `e with x = v` the type of the new value `v` must not be `Sort`, as that of `Kind` is."
      ∷ codes "The type of the record would hold `Sort`, and so have no type itself."
      ∷ [];
  fails = Some (codes "{=} with a = Kind");
  types = codes "{=} with a = Type";
}
explained rule.NotResolved = record {
  name = codes "not resolved";
  wants =
      codes "An import has no type, and neither has `l ? r`. Before a text is typed, each of them has its value in its place."
      ∷ codes "So no text fails by this rule. Only an entry of the cache can hold a `?`, if another program wrote it so."
      ∷ [];
  fails = None;
  types = codes "missing ? 1";
}
