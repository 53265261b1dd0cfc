-- The keys of the imports of an expression, part by part.
use Rattle.std.specs.Prelude.{◌≡◌, ◌<◌, ◌≤◌, ◌+◌, ◌++◌, ℕ, List, length, drop, Option}
use Rattle.std.proofs.Common.{ap, sym, ◌∙◌, get_or, append_assoc, append-nil}
use Rattle.dh_syntax.specs.declared.expressions.Expr.{Expr}
use Rattle.dh_syntax.specs.declared.expressions.Expr.TheVariants as expr
use Rattle.dh_syntax.specs.declared.expressions.Kid.{Kid}
use Rattle.dh_syntax.specs.declared.expressions.Op.{Op}
use Rattle.dh_syntax.specs.declared.locations.Key.{Key}
use Rattle.dh_syntax.specs.declared.locations.Loc.{Loc}
use Rattle.dh_syntax.specs.Expressions.Bridge.{term, row_of}
use Rattle.dh_syntax.specs.Expressions.Tree.{Name}
use Rattle.dh_imports.specs.Walk.{form_of, keys_of, keys_of_form, keys_of_row}
use Rattle.dh_syntax.proofs.Bridge.{at_term-Var, at_term-Node}
use Rattle.dh_syntax.proofs.Rows.{at_row_of-drop_item, at_row_of-drop_all}

pub variable_keys : (at : Option Loc) (e : Expr) (x : Name) (i : ℕ) (ks : List Key) → e ≡ expr.Var x i → ks ≡ ks ++ keys_of at (term e)
variable_keys at e x i ks h = sym (append-nil ks) ∙ ap (λ ls. ks ++ ls) (sym (at_term-Var (keys_of at) e x i h))

pub node_keys : (at : Option Loc) (e : Expr) (op : Op) (js : List Kid) (ks own all : List Key) → e ≡ expr.Node op js → own ≡ ks ++ keys_of_form at (form_of op) → all ≡ own ++ keys_of_row at (row_of js)
    → all ≡ ks ++ keys_of at (term e)
node_keys at e op js ks own all h p q =
    q ∙ ap (λ ls. ls ++ keys_of_row at (row_of js)) p ∙ append_assoc ks (keys_of_form at (form_of op)) (keys_of_row at (row_of js))
    ∙ ap (λ ls. ks ++ ls) (sym (at_term-Node (keys_of at) e op js h))

pub more_keys : (at : Option Loc) (js : List Kid) (i : ℕ) (j : Kid) (ks next whole : List Key) → i < length js → j ≡ get_or js i j → next ≡ ks ++ keys_of at (term j.body)
    → ks ++ keys_of_row at (row_of (drop i js)) ≡ whole → next ++ keys_of_row at (row_of (drop (i + 1) js)) ≡ whole
more_keys at js i j ks next whole h e p so_far =
    ap (λ ls. ls ++ keys_of_row at (row_of (drop (i + 1) js))) p ∙ append_assoc ks (keys_of at (term j.body)) (keys_of_row at (row_of (drop (i + 1) js)))
    ∙ ap (λ ls. ks ++ ls) (sym (at_row_of-drop_item (keys_of_row at) js i j h e)) ∙ so_far

pub all_keys : (at : Option Loc) (js : List Kid) (i : ℕ) (ks whole : List Key) → length js ≤ i → ks ++ keys_of_row at (row_of (drop i js)) ≡ whole → ks ≡ whole
all_keys at js i ks whole h so_far = sym (append-nil ks) ∙ ap (λ ls. ks ++ ls) (sym (at_row_of-drop_all (keys_of_row at) js i h)) ∙ so_far
