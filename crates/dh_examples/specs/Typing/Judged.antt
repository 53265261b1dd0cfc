-- What typing comes to in the examples.
use Rattle.std.specs.Prelude.{ℕ, List, [], Option, Some, None}
use Rattle.dh_syntax.specs.Typing.Inference.{Judgment, Has, Ill}
use Rattle.dh_syntax.specs.Typing.NamedTyping.{infer}
use Rattle.dh_syntax.specs.Typing.TypeRules.{rule_number}
use Rattle.dh_syntax.specs.Expressions.Tree.{Term}

-- in the empty context, with heights and depth enough for the examples
abbrev pub inferred : ℕ → Term → Judgment Term
inferred units e = infer 100 1000 100 [] units e

-- the type, where one was derived
abbrev pub type_in : Judgment Term → Option Term
type_in (Has t left) = Some t
type_in _ = None

-- the place and the rule, where no type can be derived
abbrev pub place_in : Judgment Term → Option (List ℕ × ℕ)
place_in (Ill path rule) = Some (path, rule_number rule)
place_in _ = None

-- the type of an expression
abbrev pub type_of : Term → Option Term
type_of e = type_in (inferred 1000 e)

-- the place where no type can be derived, and the number of the rule that fails there
abbrev pub refused : Term → Option (List ℕ × ℕ)
refused e = place_in (inferred 1000 e)

-- the rule fails at the path; at the root
abbrev pub at : List ℕ → ℕ → Option (List ℕ × ℕ)
at path number = Some (path, number)

-- the rule fails at the root
abbrev pub at_root : ℕ → Option (List ℕ × ℕ)
at_root number = at [] number
