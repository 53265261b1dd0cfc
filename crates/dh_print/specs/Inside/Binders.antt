-- The names under which parts stand.
use Rattle.std.specs.Prelude.{ℕ, Bool, false, List, [], Option, Some, None, codes}
use Rattle.dh_syntax.specs.Expressions.Numbers.{bytes_eq}
use Rattle.dh_syntax.specs.Expressions.Tree.{Row, end, kid, Name, Var}
use Rattle.dh_syntax.specs.Text.Printed.{label}

-- the name that the last part stands under
abbrev pub last_binder : Row Var Name → Option Name
last_binder end = None
last_binder (kid b e end) = b
last_binder (kid b e (kid c f r)) = last_binder (kid c f r)

-- the printed name of the variable that a part stands under, if it stands under any
abbrev pub binder_text : Option Name → List ℕ
binder_text None = []
binder_text (Some x) = label x

-- whether a part stands under the name `_`
abbrev pub is_blank : Option Name → Bool
is_blank None = false
is_blank (Some x) = bytes_eq x (codes "_")
