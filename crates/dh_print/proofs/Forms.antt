-- The texts of nodes by the texts of their parts.
use Rattle.std.proofs.Common.{◌≡◌, ℕ, suc, ◌+◌, true, false, List, [], ◌∷◌, ◌++◌, codes, Some, None, if◌then◌else◌, sym, ap, subst, ◌∙◌, append_assoc, append-nil, arith}
use Rattle.std.proofs.lemmas.Bool.{and_parts}
use Rattle.dh_syntax.specs.declared.expressions.Op.{Op}
use Rattle.dh_syntax.specs.declared.expressions.Op.TheVariants as ops
use Rattle.dh_syntax.specs.declared.operators.BinOp.{BinOp}
use Rattle.dh_syntax.specs.Expressions.Arity.{fits, plain}
use Rattle.dh_syntax.specs.Expressions.Levels.{level_of, left_level}
use Rattle.dh_syntax.specs.Expressions.Order.{ascending}
use Rattle.dh_syntax.specs.Expressions.Rows.{row_length}
use Rattle.dh_syntax.specs.Expressions.Tree.{Row, end, kid, Name, Var, Term}
use Rattle.dh_syntax.specs.Text.Printed.{arrow, at, forall, form, function_type, label, layout, layouts, node, projection_text, quantified}
use Rattle.dh_print.specs.Inside.Binders.{last_binder, binder_text, is_blank}
use Rattle.dh_print.specs.Inside.Parts.{mark_between, operation_text, parts_text}
use Rattle.dh_print.proofs.Shapes.{one_part, part_and_bound, any_two}

-- the text of a node, where its operator is known
pub node_of : (o o' : Op) (r : Row Var Name) (x : List ℕ) → o ≡ o' → (fits o' r ≡ true → x ≡ (node o' (layouts r)).text) → fits o r ≡ true → x ≡ (node o (layouts r)).text
node_of o o' r x e f h = subst (λ p. fits p r ≡ true → x ≡ (node p (layouts r)).text) (sym e) f h

-- ---- texts and parts, grouped to the right and to the left

glue_one : (x a : List ℕ) → (x ++ a) ++ [] ≡ x ++ a
glue_one x a = append-nil (x ++ a)

glue_two : (x a y b : List ℕ) → (x ++ a) ++ ((y ++ b) ++ []) ≡ x ++ a ++ y ++ b
glue_two x a y b = ap (λ l. (x ++ a) ++ l) (append-nil (y ++ b)) ∙ sym (append_assoc (x ++ a) y b)

-- ---- nodes that bind a name

-- a text and the name, and then two parts
glue_bound : (o l y a z b : List ℕ) → (o ++ l) ++ ((y ++ a) ++ ((z ++ b) ++ [])) ≡ o ++ l ++ y ++ a ++ z ++ b
glue_bound o l y a z b = ap (λ t. (o ++ l) ++ t) (glue_two y a z b) ∙ regroup o l y a z b
  where
    regroup : (o l y a z b : List ℕ) → (o ++ l) ++ (y ++ a ++ z ++ b) ≡ o ++ l ++ y ++ a ++ z ++ b
    regroup o l y a z b = simp append_assoc

-- an arrow between spaces
glue_arrow : (s x y b : List ℕ) → s ++ (x ++ y ++ codes " ") ++ b ≡ s ++ x ++ y ++ codes " " ++ b
glue_arrow s x y b = simp append_assoc

-- what the printing of a function writes
abbrev bound_parts : List ℕ → Row Var Name → List ℕ
bound_parts mark r = ((mark ++ codes "(") ++ binder_text (last_binder r)) ++ parts_text ((codes " : ", 0) ∷ (codes ") " ++ arrow ++ codes " ", 0) ∷ []) r

quantified_text : (mark : List ℕ) (e : Term) (x : Name) (b : Term) →
    bound_parts mark (kid None e (kid (Some x) b end)) ≡ (quantified mark x (layout e) (layout b)).text
quantified_text mark e x b =
    glue_bound (mark ++ codes "(") (label x) (codes " : ") (at 0 (layout e)) (codes ") " ++ arrow ++ codes " ") (at 0 (layout b))
    ∙ glue_arrow (mark ++ codes "(" ++ label x ++ codes " : " ++ at 0 (layout e)) (codes ") ") arrow (at 0 (layout b))

forall_named : (e : Term) (x : Name) (b : Term) → is_blank (Some x) ≡ false →
    bound_parts forall (kid None e (kid (Some x) b end)) ≡ (function_type x (layout e) (layout b)).text
forall_named e x b named =
    quantified_text forall e x b
    ∙ ap (λ t. (if t then form 0 (at 1 (layout e) ++ codes " " ++ arrow ++ codes " " ++ at 0 (layout b)) else quantified forall x (layout e) (layout b)).text) (sym named)

pub forall_text : (r : Row Var Name) → is_blank (last_binder r) ≡ false → fits ops.Pi r ≡ true → bound_parts forall r ≡ (node ops.Pi (layouts r)).text
forall_text r named h = part_and_bound (λ s. is_blank (last_binder s) ≡ false → bound_parts forall s ≡ (node ops.Pi (layouts s)).text) forall_named r h named

-- ---- selections

pub field_text : (x : Name) (r : Row Var Name) → fits (ops.Field x) r ≡ true → parts_text (([], 16) ∷ []) r ++ (codes "." ++ label x) ≡ (node (ops.Field x) (layouts r)).text
field_text x r h =
    one_part (λ s. parts_text (([], 16) ∷ []) s ++ (codes "." ++ label x) ≡ (node (ops.Field x) (layouts s)).text)
    (λ e. ap (λ l. l ++ (codes "." ++ label x)) (glue_one [] (at 16 (layout e))) ∙ sym (append_assoc (at 16 (layout e)) (codes ".") (label x))) r h

pub project_text : (xs : List Name) (r : Row Var Name) → fits (ops.Project xs) r ≡ true →
    parts_text (([], 16) ∷ []) r ++ (codes "." ++ projection_text xs) ≡ (node (ops.Project xs) (layouts r)).text
project_text xs r h =
    one_part (λ s. parts_text (([], 16) ∷ []) s ++ (codes "." ++ projection_text xs) ≡ (node (ops.Project xs) (layouts s)).text)
    (λ e. ap (λ l. l ++ (codes "." ++ projection_text xs)) (glue_one [] (at 16 (layout e))) ∙ sym (append_assoc (at 16 (layout e)) (codes ".") (projection_text xs)))
    r (and_parts (ascending xs) (plain 1 r) h).1

-- ---- operators

pub operation_parts : (o : BinOp) (m n : ℕ) (mark : List ℕ) (r : Row Var Name) → m ≡ left_level o → n ≡ level_of o → mark ≡ mark_between o → row_length r ≡ 2 →
    parts_text (([], m) ∷ (mark, n + 1) ∷ []) r ≡ operation_text o r
operation_parts o m n mark r left right is two =
    let next : n + 1 ≡ suc (level_of o) = omega arith in
    let claim : ℕ → ℕ → List ℕ → Type 0 = λ (j k : ℕ) (t : List ℕ). parts_text (([], j) ∷ (t, k) ∷ []) r ≡ operation_text o r in
    subst (λ j. claim j (n + 1) mark) (sym left) (subst (λ k. claim (left_level o) k mark) (sym next) (subst (λ t. claim (left_level o) (suc (level_of o)) t) (sym is)
    (any_two (λ s. parts_text (([], left_level o) ∷ (mark_between o, suc (level_of o)) ∷ []) s ≡ operation_text o s)
    (λ b e c f. glue_two [] (at (left_level o) (layout e)) (mark_between o) (at (suc (level_of o)) (layout f))) r two)))
