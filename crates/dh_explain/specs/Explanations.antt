-- What an explanation of a rule of typing has.
use Rattle.std.specs.Prelude.{ℕ, List, Option}

-- the name of a rule, what it wants, a text that fails by it, and one that has a type
pub record Explanation : Type 0 where
  pub name : List ℕ
  -- what the rule wants, a sentence or two each
  pub wants : List (List ℕ)
  -- a smallest text that fails by the rule, if any text does
  pub fails : Option (List ℕ)
  -- a smallest text like it that has a type
  pub types : List ℕ
