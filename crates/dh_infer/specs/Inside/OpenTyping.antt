-- Typing where the variables of the context are free variables, each with a number of its own.
--
-- A binder that is opened gives its variable the next number. So neither types nor expressions have a variable of a binder that
-- stands above them, and nothing is shifted where a binder is entered.
use Rattle.std.specs.Prelude.{ℕ, List, [], ◌∷◌, length, Option, Some, None, if◌then◌else◌}
use Rattle.dh_syntax.specs.Expressions.Tree.{Name}
use Rattle.dh_syntax.specs.Names.Nameless.{Ref, Bound, Free, Core}
use Rattle.dh_syntax.specs.Normalising.NamelessRuns.{ref_eq}
use Rattle.dh_syntax.specs.Typing.Inference.{Inference}
use Rattle.dh_syntax.specs.Typing.NamelessTyping.{nth_type, core_scopes}
use Rattle.dh_syntax.specs.Typing.Scopes.{Context}
use Rattle.dh_syntax.specs.Typing.TypeRules as rule
use Rattle.dh_syntax.specs.Typing.Typing.{given_type}
use Rattle.dh_store.specs.Cells.{outside}
use Rattle.dh_typing_laws.specs.KeptTypes.{typing_over}

-- the variable with this number
abbrev pub level : ℕ → Ref
level n = outside [] n

-- the type of a variable that is free, by the types of those that have numbers, the last number first
abbrev pub level_type : List Core → Ref → Option Core
level_type [] r = None
level_type (t ∷ ts) r = if ref_eq (level (length ts)) r then Some t else level_type ts r

-- the type of a variable, in a context of further binders
abbrev pub type_at : List Core → Context Ref Name → Ref → Option Core
type_at ts context (Bound i) = nth_type context i
type_at ts context (Free x n) = level_type ts (Free x n)

-- the inference of a variable: the type that it has in the context, or that it is unbound
abbrev pub looking : List Core → ℕ → Context Ref Name → Ref → Inference Core
looking ts depth context r = given_type (type_at ts context r) rule.UnboundVariable

-- typing where the variables that have numbers have these types, in a context of further binders
abbrev pub typing_in : List Core → ℕ → Context Ref Name → Core → Inference Core
typing_in ts depth context e = typing_over core_scopes (looking ts) depth context e

-- the typing of an expression below no binder, where the numbered variables have these types
abbrev pub typing_at : List Core → ℕ → Core → Inference Core
typing_at ts depth e = typing_in ts depth [] e
