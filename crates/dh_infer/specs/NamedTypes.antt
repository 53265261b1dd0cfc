-- What an inference of types answers.
use Rattle.std.specs.Prelude.{◌+◌, ◌≤◌, ℕ, []}
use Rattle.dh_syntax.specs.Expressions.Tree.{Term}
use Rattle.dh_syntax.specs.Typing.NamedTyping.{HasType}

-- t is the type of e in the empty context, and the units fell by at most what it takes to find it
pub record IsTypeOf (units left : ℕ) (e t : Term) : Type 0 where
  pub cost : ℕ
  pub typed : HasType [] e t cost
  pub most : units ≤ left + cost
