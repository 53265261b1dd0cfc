-- The values that an expression of the program has, where its texts hold no non-character.
use Rattle.std.specs.Prelude.{◌≡◌, ℕ, ◌^◌, ◌<◌, List, [], ◌∷◌, length, Option, Some, None, IsTrue, IsFalse, IsUtf8, nat_lt}
use Rattle.std.specs.List.{list_all}
use Rattle.dh_syntax.specs.declared.expressions.Op.{Op}
use Rattle.dh_syntax.specs.declared.expressions.Op.TheVariants as ops
use Rattle.dh_syntax.specs.declared.locations.Digest.{Digest}
use Rattle.dh_syntax.specs.Text.Characters.{code_at, is_noncharacter}
use Rattle.dh_syntax.specs.Expressions.Tree.{Row, Leaf, Node, end, kid, Name, Var, Term}
use Rattle.dh_syntax.specs.Limits.{integer_fits}

-- no non-character begins anywhere in these bytes (inside of a character none can)
abbrev pub HasNoNoncharacter : List ℕ → Type 0
HasNoNoncharacter [] = Unit {0}
HasNoNoncharacter (b ∷ bs) = IsFalse (is_noncharacter (code_at (b ∷ bs))) × HasNoNoncharacter bs

abbrev pub ArePieces : List (List ℕ) → Type 0
ArePieces [] = Unit {0}
ArePieces (p ∷ ps) = (IsUtf8 p × HasNoNoncharacter p) × ArePieces ps

abbrev pub IsDigest : Option Digest → Type 0
IsDigest None = Unit {0}
IsDigest (Some d) = (length d.0 ≡ 32) × IsTrue (list_all (λ b. nat_lt b 256) d.0)

abbrev pub OpHasValues : Op → Type 0
OpHasValues (ops.Nat n) = n < 2 ^ 128
OpHasValues (ops.Int z) = IsTrue (integer_fits z)
OpHasValues (ops.Text ps) = ArePieces ps
OpHasValues (ops.Import i) = IsDigest i.digest
OpHasValues _ = Unit {0}

abbrev mutual
  pub HasValues : Term → Type 0
  HasValues (Leaf v) = Unit {0}
  HasValues (Node op r) = OpHasValues op × HaveValues r

  pub HaveValues : Row Var Name → Type 0
  HaveValues end = Unit {0}
  HaveValues (kid b e r) = HasValues e × HaveValues r
