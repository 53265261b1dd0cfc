-- The name that the last part of a node stands under.
use Rattle.std.proofs.Common.{◌≡◌, List, [], ◌∷◌, ◌++◌, length, Option, None, refl, ap, ◌∙◌, arith}
use Rattle.dh_syntax.specs.declared.expressions.Kid.{Kid}
use Rattle.dh_syntax.specs.Expressions.Bridge.{term, row_of}
use Rattle.dh_syntax.specs.Expressions.Rows.{◌+++◌}
use Rattle.dh_syntax.specs.Expressions.Tree.{Row, end, kid, Name, Var, Term}
use Rattle.dh_syntax.proofs.Bridge.{row_of-nil}
use Rattle.dh_syntax.proofs.Rows.{row_of-push}
use Rattle.dh_print.specs.Inside.Binders.{last_binder}

last_binder-push : (r : Row Var Name) (b : Option Name) (e : Term) → last_binder (r +++ kid b e end) ≡ b
last_binder-push end b e = refl
last_binder-push (kid c f end) b e = refl
last_binder-push (kid c f (kid d g r)) b e = last_binder-push (kid d g r) b e

pub last_binder-last : (ks front : List Kid) (k : Kid) → ks ≡ front ++ k ∷ [] → last_binder (row_of ks) ≡ k.binder
last_binder-last ks front k e = ap (λ js. last_binder (row_of js)) e ∙ ap last_binder (row_of-push front k) ∙ last_binder-push (row_of front) k.binder (term k.body)

pub last_binder-none : (ks : List Kid) → length ks ≡ 0 → last_binder (row_of ks) ≡ None
last_binder-none [] h = ap last_binder row_of-nil
last_binder-none (k ∷ ks) h = absurd (omega arith)
