-- Typing of nameless expressions: the same types, units, places and rules as with names.
use Rattle.std.specs.Prelude.{◌≡◌, refl, ℕ, [], ◌∷◌, Option, Some, None}
use Rattle.dh_syntax.specs.Expressions.Forms.{app, lambda, forall, list, field, union, merge, record_literal}
use Rattle.dh_syntax.specs.Typing.Inference.{Judgment, Has, Ill, judged_within}
use Rattle.dh_syntax.specs.Names.Nameless.{Core, Bare, to_core, bare}
use Rattle.dh_syntax.specs.Normalising.NamelessRuns.{cores, bares}
use Rattle.dh_syntax.specs.Typing.NamelessTyping.{core_scopes, bare_scopes}
use Rattle.dh_syntax.specs.Expressions.Tree.{Term}
use Rattle.dh_syntax.specs.Typing.TypeRules as rule
use Rattle.dh_examples.specs.Vocabulary.{a, assert, b, bool_type, equivalent, natural_type, one, plus, true_literal, two, type, typed, untyped, var, x, y}
use Rattle.dh_syntax.specs.Typing.Typing.{typing}

-- typing of an expression whose bound variables are numbers, with bounds that are enough
abbrev core_inferred : ℕ → Term → Judgment Core
core_inferred units e = judged_within cores 100 1000 units (typing core_scopes 100 [] (to_core e))

-- typing of an expression without names of binders, with bounds that are enough
abbrev bare_inferred : ℕ → Term → Judgment Bare
bare_inferred units e = judged_within bares 100 1000 units (typing bare_scopes 100 [] (bare e))

-- `λ(x : Type) → λ(y : x) → λ(x : Bool) → y`: the domains (1 + 1 + 1) and the types (3 + 5 + 7)
abbrev shadowed : Term
shadowed = lambda x type (lambda y (var x 0) (lambda x bool_type (var y 0)))

-- `∀(x : Type) → ∀(y : x) → ∀(x : Bool) → x@1`
abbrev shadowed_type : Term
shadowed_type = forall x type (forall y (var x 0) (forall x bool_type (var x 1)))

core_shadowed : core_inferred 18 shadowed ≡ Has (to_core shadowed_type) 0
core_shadowed = refl

bare_shadowed : bare_inferred 18 shadowed ≡ Has (bare shadowed_type) 0
bare_shadowed = refl

-- `λ(b : Type) → < b : b >.b`: the domain (1), the union (2), and the types `∀(b : b) → < b : b@1 >` (4) and that of the whole (6)
core_alternative : core_inferred 13 (lambda b type (field (union (typed b ∷ []) (var b 0 ∷ [])) b))
    ≡ Has (to_core (forall b type (forall b (var b 0) (union (typed b ∷ []) (var b 1 ∷ []))))) 0
core_alternative = refl

-- `merge { a = 1, b = λ(x : Bool) → 2 } (< a | b : Bool >.b True)`
abbrev merged : Term
merged = merge (record_literal ((a, one) ∷ (b, lambda x bool_type two) ∷ [])) (app (field (union (untyped a ∷ typed b ∷ []) (bool_type ∷ [])) b) true_literal)

bare_merged : bare_inferred 17 merged ≡ Has (bare natural_type) 0
bare_merged = refl

-- a handler whose result mentions its argument
abbrev dependent : Term
dependent = merge (record_literal ((b, lambda x bool_type (assert (equivalent (var x 0) (var x 0)))) ∷ [])) (app (field (union (typed b ∷ []) (bool_type ∷ [])) b) true_literal)

bare_dependent : bare_inferred 100 dependent ≡ Ill [] rule.HandlerResultDepends
bare_dependent = refl

-- `λ(x : Bool) → x + 1`
bare_plus : bare_inferred 1 (lambda x bool_type (plus (var x 0) one)) ≡ Ill (1 ∷ []) rule.LeftSide
bare_plus = refl

-- ---- types, without their units

-- the type, where one was derived
abbrev found : {T : Type 0} → Judgment T → Option T
found (Has t left) = Some t
found _ = None

-- `λ(x : Type) → λ(y : x) → λ(a : < a : Bool | b >) → merge { a = λ(x : Bool) → y, b = y } a`: the type y has below the
-- handler's binder is seen from outside it
abbrev alternatives : Term
alternatives = union (typed a ∷ untyped b ∷ []) (bool_type ∷ [])

core_handlers : found (core_inferred 100 (
    lambda x type (lambda y (var x 0) (lambda a alternatives (merge (record_literal ((a, lambda x bool_type (var y 0)) ∷ (b, var y 0) ∷ [])) (var a 0))))))
    ≡ Some (to_core (forall x type (forall y (var x 0) (forall a alternatives (var x 0)))))
core_handlers = refl

-- `λ(x : Bool) → λ(x : Natural) → λ(y : Type) → x@1`
core_outer : found (core_inferred 100 (lambda x bool_type (lambda x natural_type (lambda y type (var x 1)))))
    ≡ Some (to_core (forall x bool_type (forall x natural_type (forall y type bool_type))))
core_outer = refl

-- `(λ(x : Type) → λ(y : x) → y) Natural`
bare_applied : found (bare_inferred 100 (app (lambda x type (lambda y (var x 0) (var y 0))) natural_type)) ≡ Some (bare (forall y natural_type natural_type))
bare_applied = refl

-- a variable that is not bound
bare_unbound : bare_inferred 10 (lambda x bool_type (var y 0)) ≡ Ill (1 ∷ []) rule.UnboundVariable
bare_unbound = refl

-- the argument is mentioned below another binder, in a second part: `assert : (λ(y : Natural) → x) ≡ (λ(y : Natural) → x)`
abbrev dependent_below : Term
dependent_below =
    let constant = lambda y natural_type (var x 0) in
    merge (record_literal ((b, lambda x bool_type (assert (equivalent constant constant))) ∷ [])) (app (field (union (typed b ∷ []) (bool_type ∷ [])) b) true_literal)

bare_dependent_below : bare_inferred 100 dependent_below ≡ Ill [] rule.HandlerResultDepends
bare_dependent_below = refl

-- `[ 1, True ]`
bare_elements : bare_inferred 10 (list (one ∷ true_literal ∷ [])) ≡ Ill [] rule.ElementsDiffer
bare_elements = refl
