-- Testing the parts of two nodes for equality, one by one.
use Rattle.std.specs.Prelude.{◌≡◌, ◌<◌, ◌≤◌, ◌+◌, ℕ, Bool, true, false, ◌&&◌, List, [], ◌∷◌, length, drop, refl}
use Rattle.std.proofs.Common.{sym, ◌∙◌, ap, arith, get_or}
use Rattle.std.proofs.Math.Bool.{and-false}
use Rattle.dh_syntax.specs.declared.expressions.Expr.{Expr}
use Rattle.dh_syntax.specs.declared.expressions.Expr.TheVariants as expr
use Rattle.dh_syntax.specs.declared.expressions.Kid.{Kid}
use Rattle.dh_syntax.specs.declared.expressions.Op.{Op}
use Rattle.dh_syntax.specs.Expressions.Bridge.{term, row_of}
use Rattle.dh_syntax.specs.Expressions.Numbers.{eq, bytes_eq}
use Rattle.dh_syntax.specs.Expressions.SameTree.{option_eq, op_eq, term_eq, row_eq}
use Rattle.dh_syntax.specs.Expressions.Tree.{Leaf, Node, end, kid, Name}
use Rattle.dh_syntax.proofs.Bridge.{term-Var, term-Node}
use Rattle.dh_syntax.proofs.Rows.{row_of-drop_item, row_of-drop_all}

abbrev pub kid_eq : Kid → Kid → Bool
kid_eq k j = option_eq bytes_eq k.binder j.binder && term_eq (term k.body) (term j.body)

rows_at_item : (ks js : List Kid) (i : ℕ) (k j : Kid) → i < length ks → i < length js → k ≡ get_or ks i k → j ≡ get_or js i j →
    row_eq (row_of (drop i ks)) (row_of (drop i js)) ≡ (kid_eq k j && row_eq (row_of (drop (i + 1) ks)) (row_of (drop (i + 1) js)))
rows_at_item ks js i k j h l e f = ap (λ r. row_eq r (row_of (drop i js))) (row_of-drop_item ks i k h e) ∙ ap (row_eq (kid k.binder (term k.body) (row_of (drop (i + 1) ks)))) (row_of-drop_item js i j l f)

pub rows_differ : (ks js : List Kid) (i : ℕ) (k j : Kid) (whole : Bool) → i < length ks → i < length js → k ≡ get_or ks i k → j ≡ get_or js i j → kid_eq k j ≡ false →
    row_eq (row_of (drop i ks)) (row_of (drop i js)) ≡ whole → false ≡ whole
rows_differ ks js i k j whole h l e f t so_far = ap (λ b. b && row_eq (row_of (drop (i + 1) ks)) (row_of (drop (i + 1) js))) (sym t) ∙ sym (rows_at_item ks js i k j h l e f) ∙ so_far

pub rows_agree : (ks js : List Kid) (i : ℕ) (k j : Kid) (whole : Bool) → i < length ks → i < length js → k ≡ get_or ks i k → j ≡ get_or js i j → kid_eq k j ≡ true →
    row_eq (row_of (drop i ks)) (row_of (drop i js)) ≡ whole → row_eq (row_of (drop (i + 1) ks)) (row_of (drop (i + 1) js)) ≡ whole
rows_agree ks js i k j whole h l e f t so_far = ap (λ b. b && row_eq (row_of (drop (i + 1) ks)) (row_of (drop (i + 1) js))) (sym t) ∙ sym (rows_at_item ks js i k j h l e f) ∙ so_far

pub rows_end : (ks js : List Kid) (i : ℕ) (whole : Bool) → length ks ≤ i → length js ≤ i → row_eq (row_of (drop i ks)) (row_of (drop i js)) ≡ whole → true ≡ whole
rows_end ks js i whole h l so_far = sym (ap (λ r. row_eq r (row_of (drop i js))) (row_of-drop_all ks i h) ∙ ap (row_eq end) (row_of-drop_all js i l)) ∙ so_far

-- as many kids as there are in the other list, or not
pub counts_differ : (ks js : List Kid) → (length ks ≡ length js → ⊥) → false ≡ row_eq (row_of ks) (row_of js)
unfolding row_of
counts_differ [] [] h = absurd (h refl)
counts_differ [] (j ∷ js) h = refl
counts_differ (k ∷ ks) [] h = refl
counts_differ (k ∷ ks) (j ∷ js) h = sym (and-false (kid_eq k j)) ∙ ap (λ b. kid_eq k j && b) (counts_differ ks js (λ e. h (omega arith)))

-- Two expressions by their forms.
pub same-Var : (a b : Expr) (x y : Name) (i j : ℕ) → a ≡ expr.Var x i → b ≡ expr.Var y j → term_eq (term a) (term b) ≡ (bytes_eq x y && eq i j)
same-Var a b x y i j h k = ap (λ c. term_eq (term c) (term b)) h ∙ ap (λ c. term_eq (term (expr.Var x i)) (term c)) k ∙ ap (λ t. term_eq t (term (expr.Var y j))) (term-Var x i) ∙ ap (term_eq (Leaf (record { name = x; index = i }))) (term-Var y j)

pub same-Node : (a b : Expr) (o p : Op) (ks js : List Kid) → a ≡ expr.Node o ks → b ≡ expr.Node p js → term_eq (term a) (term b) ≡ (op_eq o p && row_eq (row_of ks) (row_of js))
same-Node a b o p ks js h k = ap (λ c. term_eq (term c) (term b)) h ∙ ap (λ c. term_eq (term (expr.Node o ks)) (term c)) k ∙ ap (λ t. term_eq t (term (expr.Node p js))) (term-Node o ks) ∙ ap (term_eq (Node o (row_of ks))) (term-Node p js)

pub not-same_forms : (a b : Expr) (x : Name) (i : ℕ) (p : Op) (js : List Kid) → a ≡ expr.Var x i → b ≡ expr.Node p js → false ≡ term_eq (term a) (term b)
not-same_forms a b x i p js h k =
    sym (ap (λ c. term_eq (term c) (term b)) h ∙ ap (λ c. term_eq (term (expr.Var x i)) (term c)) k ∙ ap (λ t. term_eq t (term (expr.Node p js))) (term-Var x i)
    ∙ ap (term_eq (Leaf (record { name = x; index = i }))) (term-Node p js))

pub not-same_forms_either : (a b : Expr) (o : Op) (ks : List Kid) (y : Name) (j : ℕ) → a ≡ expr.Node o ks → b ≡ expr.Var y j → false ≡ term_eq (term a) (term b)
not-same_forms_either a b o ks y j h k =
    sym (ap (λ c. term_eq (term c) (term b)) h ∙ ap (λ c. term_eq (term (expr.Node o ks)) (term c)) k ∙ ap (λ t. term_eq t (term (expr.Var y j))) (term-Node o ks)
    ∙ ap (term_eq (Node o (row_of ks))) (term-Var y j))
