-- Rows of parts, one after the other.
use Rattle.std.specs.Prelude.{ℕ, zero, suc}
use Rattle.dh_syntax.specs.Expressions.Tree.{Row, end, kid}

infixr 65 ◌+++◌
-- the parts of the first row, and then those of the second
abbrev pub ◌+++◌ : {A B : Type 0} → Row A B → Row A B → Row A B
end +++ s = s
(kid b e r) +++ s = kid b e (r +++ s)

-- how many parts there are
abbrev pub row_length : {A B : Type 0} → Row A B → ℕ
row_length end = zero
row_length (kid b e r) = suc (row_length r)
