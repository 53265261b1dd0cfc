-- Nodes that are built part by part: a text literal, the type of locations, and its alternatives.
use Rattle.std.specs.Prelude.{◌≡◌, ◌++◌, ℕ, true, false, List, [], ◌∷◌, None, codes, refl}
use Rattle.std.proofs.Common.{ap, sym, ◌∙◌}
use Rattle.dh_syntax.specs.declared.expressions.Alt.{Alt}
use Rattle.dh_syntax.specs.declared.expressions.Expr.{Expr}
use Rattle.dh_syntax.specs.declared.expressions.Expr.TheVariants as expr
use Rattle.dh_syntax.specs.declared.expressions.Kid.{Kid}
use Rattle.dh_syntax.specs.declared.expressions.Op.TheVariants as ops
use Rattle.dh_syntax.specs.declared.operators.Builtin.TheVariants as builtins
use Rattle.dh_syntax.specs.Expressions.Bridge.{term, row_of}
use Rattle.dh_syntax.specs.Expressions.Forms as form
use Rattle.dh_syntax.specs.Expressions.Tree.{Row, Node, end, kid, Name, Var, Term}
use Rattle.dh_imports.specs.LastStep as last
use Rattle.dh_syntax.proofs.Bridge.{row_of-nil, term-Node}
use Rattle.dh_syntax.proofs.Rows.{row_of-one, row_of-two, row_of-three}

-- one more item at the end of these
pub pushed : {A : Type 0} (qs ps xs : List A) (x y : A) → qs ≡ ps ++ x ∷ [] → ps ≡ xs → x ≡ y → qs ≡ xs ++ y ∷ []
pushed qs ps xs x y h p q = h ∙ ap (λ z. z ++ x ∷ []) p ∙ ap (λ z. xs ++ z ∷ []) q

abbrev pub part : Expr → Kid
part e = record { binder = None; body = e }

no_parts : (ks : List Kid) → ks ≡ [] → row_of ks ≡ end
no_parts ks h = ap row_of h ∙ row_of-nil

-- ---- literals

pub built_text : (ps : List (List ℕ)) (ks : List Kid) (t : List ℕ) → ps ≡ t ∷ [] → ks ≡ [] → term (expr.Node (ops.Text ps) ks) ≡ form.plain_text t
built_text ps ks t p q =
    ap (λ x. term (expr.Node (ops.Text x) ks)) p ∙ term-Node (ops.Text (t ∷ [])) ks ∙ ap (Node (ops.Text (t ∷ []))) (no_parts ks q)

-- ---- locations

pub built_text_type : (ks : List Kid) → ks ≡ [] → term (expr.Node (ops.Builtin builtins.Text) ks) ≡ last.text_type
built_text_type ks h = term-Node (ops.Builtin builtins.Text) ks ∙ ap (Node (ops.Builtin builtins.Text)) (no_parts ks h)

abbrev pub alternatives : List Alt
alternatives =
    record { label = codes "Environment"; typed = true } ∷ record { label = codes "Local"; typed = true } ∷ record { label = codes "Missing"; typed = false }
    ∷ record { label = codes "Remote"; typed = true } ∷ []

three_kids : (s t u w : Term) → s ≡ w → t ≡ w → u ≡ w → kid None s (kid None t (kid None u end)) ≡ kid None w (kid None w (kid None w end))
three_kids s t u w p q r = λ i. kid None (p i) (kid None (q i) (kid None (r i) end))

pub built_type : (alts : List Alt) (ks : List Kid) (a b d : Expr) → alts ≡ alternatives → ks ≡ part a ∷ part b ∷ part d ∷ [] → term a ≡ last.text_type
    → term b ≡ last.text_type → term d ≡ last.text_type → term (expr.Node (ops.Union alts) ks) ≡ last.location_type
built_type alts ks a b d p q r s t =
    ap (λ x. term (expr.Node (ops.Union x) ks)) p ∙ term-Node (ops.Union alternatives) ks
    ∙ ap (Node (ops.Union alternatives)) (ap row_of q ∙ row_of-three (part a) (part b) (part d) ∙ three_kids (term a) (term b) (term d) last.text_type r s t)

one_kid : (s t : Term) → s ≡ t → kid None s end ≡ kid None t end
one_kid s t p = λ i. kid None (p i) end

pub built_field : (x label : Name) (ks : List Kid) (a : Expr) (t : Term) → x ≡ label → ks ≡ part a ∷ [] → term a ≡ t → term (expr.Node (ops.Field x) ks) ≡ form.field t label
built_field x label ks a t p q r =
    ap (λ y. term (expr.Node (ops.Field y) ks)) p ∙ term-Node (ops.Field label) ks
    ∙ ap (Node (ops.Field label)) (ap row_of q ∙ row_of-one (part a) ∙ one_kid (term a) t r)

two_kids : (s t u w : Term) → s ≡ u → t ≡ w → kid None s (kid None t end) ≡ kid None u (kid None w end)
two_kids s t u w p q = λ i. kid None (p i) (kid None (q i) end)

pub built_app : (ks : List Kid) (a b : Expr) (f t : Term) → ks ≡ part a ∷ part b ∷ [] → term a ≡ f → term b ≡ t → term (expr.Node ops.App ks) ≡ form.app f t
built_app ks a b f t q r s =
    term-Node ops.App ks ∙ ap (Node ops.App) (ap row_of q ∙ row_of-two (part a) (part b) ∙ two_kids (term a) (term b) f t r s)
