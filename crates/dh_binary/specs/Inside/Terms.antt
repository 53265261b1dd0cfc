-- Expressions, as the machine makes them.
use Rattle.std.specs.Prelude.{List, [], ◌∷◌, Some, None}
use Rattle.dh_syntax.specs.Bytes.BinaryRead.{plain_row}
use Rattle.dh_syntax.specs.Expressions.Tree.{Row, Leaf, Node, end, kid, Name, Var, Term}
use Rattle.dh_binary.specs.Machine.{Making}

-- the row of these parts with one more at its end, which stands under a binder
abbrev pub under_row : List Term → Name → Term → Row Var Name
under_row [] x b = kid (Some x) b end
under_row (e ∷ es) x b = kid None e (under_row es x b)

-- plain expressions, made of their parts
abbrev pub terms : Making Term
terms = record { leaf = λ v. Leaf v; node = λ op es. Node op (plain_row es); under = λ op es x b. Node op (under_row es x b) }
