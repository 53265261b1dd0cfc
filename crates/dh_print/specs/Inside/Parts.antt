-- The parts of a node with the texts before them.
use Rattle.std.specs.Prelude.{ℕ, suc, List, [], ◌∷◌, ◌++◌, codes, map}
use Rattle.std.specs.Borrow.{Bor}
use Rattle.dh_syntax.specs.declared.operators.BinOp.{BinOp}
use Rattle.dh_syntax.specs.declared.operators.BinOp.TheVariants as op
use Rattle.dh_syntax.specs.Expressions.Tree.{Row, end, kid, Name, Var}
use Rattle.dh_syntax.specs.Expressions.Levels.{level_of, left_level}
use Rattle.dh_syntax.specs.Text.Literals.{escape}
use Rattle.dh_syntax.specs.Text.Printed.{at, braced, fields, interpolated, label, layout, op_mark, separated}

-- a text before a part, and the level at which the part is needed
abbrev pub form_of : Bor (List ℕ) × ℕ → List ℕ × ℕ
form_of f = (f.0.now, f.1)

-- each part at its level, after its text
abbrev pub parts_text : List (List ℕ × ℕ) → Row Var Name → List ℕ
parts_text [] r = []
parts_text (f ∷ fs) end = []
parts_text (f ∷ fs) (kid b e r) = (f.0 ++ at f.1 (layout e)) ++ parts_text fs r

-- an operator between its parts
abbrev pub mark_between : BinOp → List ℕ
mark_between op.Complete = codes "::"
mark_between o = codes " " ++ op_mark o ++ codes " "

-- two parts with an operator between them
abbrev pub operation_text : BinOp → Row Var Name → List ℕ
operation_text o (kid b e (kid c f r)) = at (left_level o) (layout e) ++ mark_between o ++ at (suc (level_of o)) (layout f)
operation_text o _ = []

-- labels with their parts, in braces where there are some
abbrev pub fields_text : List ℕ → List ℕ → List Name → List (List ℕ) → List ℕ
fields_text empty mark [] ts = empty
fields_text empty mark (x ∷ xs) ts = braced (fields mark (x ∷ xs) ts)

-- the pieces of a text with the parts between them
abbrev pub quoted_text : List (List ℕ) → List (List ℕ) → List ℕ
quoted_text pieces ts = codes "\"" ++ interpolated pieces ts ++ codes "\""

-- an expression with a value put at a path
abbrev pub update_text : List Name → Row Var Name → List ℕ
update_text path (kid b e (kid c v r)) = at 15 (layout e) ++ codes " with " ++ separated (codes ".") (map label path) ++ codes " = " ++ at 1 (layout v)
update_text path _ = []

-- texts in a row, the first of them after one text and each of the others after another
abbrev pub led : List ℕ → List ℕ → List (List ℕ) → List ℕ
led first next [] = []
led first next (t ∷ ts) = first ++ (t ++ led next next ts)

-- what follows the first piece of a text
abbrev pub interpolated_later : List (List ℕ) → List (List ℕ) → List ℕ
interpolated_later (q ∷ qs) (t ∷ ts) = codes "${" ++ t ++ codes "}" ++ escape q ++ interpolated_later qs ts
interpolated_later qs ts = []
