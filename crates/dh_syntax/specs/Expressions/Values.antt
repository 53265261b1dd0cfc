-- What a term must be, beside spellable, so that it can be written and read back: numbers in range, digests of 32 bytes, pieces
-- of text that are UTF-8. Every expression of the program is so.
use Rattle.std.specs.Prelude.{ℕ, Bool, true, not, ◌&&◌, ◌==◌, nat_lt, List, [], ◌∷◌, length, Option, Some, None, IsTrue}
use Rattle.std.specs.List.{list_all}
use Rattle.std.specs.Str.{is_utf8}
use Rattle.dh_syntax.specs.declared.expressions.Op.{Op}
use Rattle.dh_syntax.specs.declared.expressions.Op.TheVariants as ops
use Rattle.dh_syntax.specs.declared.locations.Digest.{Digest}
use Rattle.dh_syntax.specs.Expressions.Tree.{Tree, Row, Leaf, Node, end, kid, Term}
use Rattle.dh_syntax.specs.Limits.{natural_fits, integer_fits}
use Rattle.dh_syntax.specs.Text.Characters.{code_at, is_noncharacter}

-- whether every node of an expression, or of the parts of one, passes a test
abbrev mutual
  -- whether every node passes this test
  pub every : {A B : Type 0} → (Op → Bool) → Tree A B → Bool
  every test (Leaf a) = true
  every test (Node op r) = test op && every_part test r

  -- whether every node of these parts passes it
  pub every_part : {A B : Type 0} → (Op → Bool) → Row A B → Bool
  every_part test end = true
  every_part test (kid b e r) = every test e && every_part test r

-- 32 bytes (FIPS 180-4)
abbrev pub digest_fits : Digest → Bool
digest_fits d = (length d.0 == 32) && list_all (λ b. nat_lt b 256) d.0

-- whether a digest, if there is one, has 32 bytes
abbrev pub digest_if : Option Digest → Bool
digest_if None = true
digest_if (Some d) = digest_fits d

-- whether a node's number is in its range, and its digest has 32 bytes
abbrev pub op_in_range : Op → Bool
op_in_range (ops.Nat n) = natural_fits n
op_in_range (ops.Int z) = integer_fits z
op_in_range (ops.Import i) = digest_if i.digest
op_in_range _ = true

-- every number of an expression is in its range, and every digest has 32 bytes
abbrev pub IsInRange : Term → Type 0
IsInRange e = IsTrue (every op_in_range e)

-- whether a node's pieces of text are UTF-8
abbrev pub op_has_text : Op → Bool
op_has_text (ops.Text ps) = list_all is_utf8 ps
op_has_text _ = true

-- every piece of text in an expression is UTF-8
abbrev pub HasText : Term → Type 0
HasText e = IsTrue (every op_has_text e)

-- an expression's numbers and digests are in range, and its pieces of text are UTF-8
abbrev pub HasValues : Term → Type 0
HasValues e = IsInRange e × HasText e

-- whether no non-character begins anywhere in these bytes (inside of a character none can)
abbrev pub has_no_noncharacter : List ℕ → Bool
has_no_noncharacter [] = true
has_no_noncharacter (b ∷ bs) = not (is_noncharacter (code_at (b ∷ bs))) && has_no_noncharacter bs

-- whether a node's pieces of text hold no non-character
abbrev pub op_has_no_noncharacter : Op → Bool
op_has_no_noncharacter (ops.Text ps) = list_all has_no_noncharacter ps
op_has_no_noncharacter _ = true

-- What a text must be beside that to be printed and read again: `valid-non-ascii` leaves non-characters out, but bytes of the
-- binary form may hold them.
abbrev pub HasNoNoncharacters : Term → Type 0
HasNoNoncharacters e = IsTrue (every op_has_no_noncharacter e)
