-- Going past the imports of an expression.
use Rattle.std.specs.Prelude.{◌≡◌, ◌<◌, ◌≤◌, ◌+◌, ℕ, List, length, drop, refl}
use Rattle.std.proofs.Common.{ap, sym, ◌∙◌, get_or}
use Rattle.std.proofs.lemmas.List.{drop-drop}
use Rattle.dh_syntax.specs.declared.expressions.Expr.{Expr}
use Rattle.dh_syntax.specs.declared.expressions.Expr.TheVariants as expr
use Rattle.dh_syntax.specs.declared.expressions.Kid.{Kid}
use Rattle.dh_syntax.specs.declared.expressions.Op.{Op}
use Rattle.dh_syntax.specs.Expressions.Bridge.{term, row_of}
use Rattle.dh_syntax.specs.Expressions.Tree.{Name}
use Rattle.dh_imports.specs.Walk.{form_of}
use Rattle.dh_syntax.proofs.Bridge.{at_term-Var, at_term-Node}
use Rattle.dh_syntax.proofs.Rows.{at_row_of-drop_item, at_row_of-drop_all}
use Rattle.dh_demand.specs.declared.scans.Edge.{Edge}
use Rattle.dh_demand.specs.Scans.{imports, imports_of_parts, own_imports}

pub skip_variable : (e : Expr) (x : Name) (n : ℕ) (es : List Edge) → e ≡ expr.Var x n → es ≡ drop (imports (term e)) es
skip_variable e x n es h = sym (ap (λ m. drop m es) (at_term-Var imports e x n h))

pub skip_node : (e : Expr) (op : Op) (ks : List Kid) (es own rest : List Edge) → e ≡ expr.Node op ks → own ≡ drop (own_imports (form_of op)) es
    → rest ≡ drop (imports_of_parts (row_of ks)) own → rest ≡ drop (imports (term e)) es
skip_node e op ks es own rest h p q =
    q ∙ ap (drop (imports_of_parts (row_of ks))) p ∙ drop-drop (imports_of_parts (row_of ks)) (own_imports (form_of op)) es
    ∙ sym (ap (λ m. drop m es) (at_term-Node imports e op ks h))

pub skip_begins : (ks : List Kid) (es : List Edge) → drop (imports_of_parts (row_of (drop 0 ks))) es ≡ drop (imports_of_parts (row_of ks)) es
skip_begins ks es = refl

pub skip_keeps : (ks : List Kid) (i : ℕ) (k : Kid) (rest next whole : List Edge) → i < length ks → k ≡ get_or ks i k → next ≡ drop (imports (term k.body)) rest
    → drop (imports_of_parts (row_of (drop i ks))) rest ≡ whole → drop (imports_of_parts (row_of (drop (i + 1) ks))) next ≡ whole
skip_keeps ks i k rest next whole h e p so_far =
    ap (drop (imports_of_parts (row_of (drop (i + 1) ks)))) p
    ∙ drop-drop (imports_of_parts (row_of (drop (i + 1) ks))) (imports (term k.body)) rest
    ∙ sym (ap (λ m. drop m rest) (at_row_of-drop_item imports_of_parts ks i k h e)) ∙ so_far

pub skip_ends : (ks : List Kid) (i : ℕ) (rest whole : List Edge) → length ks ≤ i → drop (imports_of_parts (row_of (drop i ks))) rest ≡ whole → rest ≡ whole
skip_ends ks i rest whole h so_far = sym (ap (λ m. drop m rest) (at_row_of-drop_all imports_of_parts ks i h)) ∙ so_far
