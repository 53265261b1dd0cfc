-- Nodes with parts, as they are made.
use Rattle.std.proofs.Common.{◌≡◌, ℕ, suc, ◌+◌, ◌^◌, ◌<◌, ◌≤◌, max, List, [], ◌∷◌, ◌++◌, map, length, Some, None, Result, Ok, Err, IfOk, refl, sym, ◌∙◌, ap, arith}
use Rattle.dh_syntax.proofs.Bridge.{term-Node, row_of-nil}
use Rattle.dh_syntax.proofs.Rows.{row_of-one, row_of-two, row_of-three, row_of-push, +++_assoc, +++-end}
use Rattle.dh_syntax.specs.Expressions.Bridge.{term, row_of}
use Rattle.dh_syntax.specs.Expressions.Rows.{◌+++◌}
use Rattle.dh_syntax.specs.Expressions.Tree as tree
use Rattle.dh_syntax.specs.Expressions.Tree.{Name, Row, end, kid, Term}
use Rattle.dh_syntax.specs.declared.expressions.Expr.TheVariants as expr
use Rattle.dh_syntax.specs.declared.expressions.Kid.{Kid}
use Rattle.dh_syntax.specs.declared.expressions.Op.{Op}
use Rattle.dh_decode.specs.Inside.Views.{part_of}
use Rattle.dh_decode.specs.declared.parts.Part.{Part}
use Rattle.dh_binary.specs.Stubs.{Kept, kept, stubs, row, deepest, row_with, deepest_with}

-- what was made is also what that equals
pub made_as : {E : Type 0} (r : Result Part E) (p q : Kept) → IfOk r (λ x. part_of x ≡ p) → p ≡ q → IfOk r (λ x. part_of x ≡ q)
made_as (Ok x) p q h e = h ∙ e
made_as (Err x) p q h e = tt

abbrev nesting_so : ℕ → Term → Kept
nesting_so n e = record { expression = e; nests = n }

-- the same of an expression that nests so deep
pub made_of : {E : Type 0} (r : Result Part E) (n : ℕ) (e f : Term) → IfOk r (λ x. part_of x ≡ record { expression = e; nests = n }) → e ≡ f → IfOk r (λ x. part_of x ≡ record { expression = f; nests = n })
made_of r n e f h g = made_as r (nesting_so n e) (nesting_so n f) h (ap (nesting_so n) g)

pub no_part : (op : Op) (kids : List Kid) → kids ≡ [] → term (expr.Node op kids) ≡ tree.Node op end
no_part op kids e = term-Node op kids ∙ ap (λ ks. tree.Node op (row_of ks)) e ∙ ap (tree.Node op) row_of-nil

pub one_part : (op : Op) (k : Kid) (none one : List Kid) → none ≡ [] → one ≡ none ++ k ∷ [] → term (expr.Node op one) ≡ tree.Node op (kid k.binder (term k.body) end)
one_part op k none one e f = term-Node op one ∙ ap (λ ks. tree.Node op (row_of ks)) (f ∙ ap (λ ks. ks ++ k ∷ []) e) ∙ ap (tree.Node op) (row_of-one k)

pub two_parts : (op : Op) (k l : Kid) (none one two : List Kid) → none ≡ [] → one ≡ none ++ k ∷ [] → two ≡ one ++ l ∷ [] →
    term (expr.Node op two) ≡ tree.Node op (kid k.binder (term k.body) (kid l.binder (term l.body) end))
two_parts op k l none one two e f g =
    term-Node op two ∙ ap (λ ks. tree.Node op (row_of ks)) (g ∙ ap (λ ks. ks ++ l ∷ []) (f ∙ ap (λ ks. ks ++ k ∷ []) e)) ∙ ap (tree.Node op) (row_of-two k l)

pub three_parts : (op : Op) (k l m : Kid) (none one two three : List Kid) → none ≡ [] → one ≡ none ++ k ∷ [] → two ≡ one ++ l ∷ [] → three ≡ two ++ m ∷ [] →
    term (expr.Node op three) ≡ tree.Node op (kid k.binder (term k.body) (kid l.binder (term l.body) (kid m.binder (term m.body) end)))
three_parts op k l m none one two three e f g h =
    term-Node op three ∙ ap (λ ks. tree.Node op (row_of ks)) (h ∙ ap (λ ks. ks ++ m ∷ []) (g ∙ ap (λ ks. ks ++ l ∷ []) (f ∙ ap (λ ks. ks ++ k ∷ []) e))) ∙ ap (tree.Node op) (row_of-three k l m)

pub kept_node : (op : Op) (ps : List Kept) (e : Term) (n : ℕ) → e ≡ tree.Node op (row ps) → n ≡ deepest ps → kept e n ≡ stubs.node op ps
kept_node op ps e n f g = ap (λ t. kept t n) f ∙ ap (kept (tree.Node op (row ps))) g

pub kept_under : (op : Op) (ps : List Kept) (x : Name) (q : Kept) (e : Term) (n : ℕ) → e ≡ tree.Node op (row_with ps x q) → n ≡ deepest_with ps q → kept e n ≡ stubs.under op ps x q
kept_under op ps x q e n f g = ap (λ t. kept t n) f ∙ ap (kept (tree.Node op (row_with ps x q))) g

-- ---- a node with all of these parts

pub all_first : (kids : List Kid) (ps qs : List Part) → kids ≡ [] → qs ≡ ps → row_of kids +++ row (map part_of qs) ≡ row (map part_of ps)
all_first kids ps qs e f = ap (λ ks. row_of ks +++ row (map part_of qs)) e ∙ ap (λ r. r +++ row (map part_of qs)) row_of-nil ∙ ap (λ qs. row (map part_of qs)) f

pub all_next : (kids more : List Kid) (k : Kid) (p : Part) (ps qs : List Part) → k ≡ record { binder = None; body = p.held.value.expression } → more ≡ kids ++ k ∷ [] → ps ≡ p ∷ qs →
    row_of more +++ row (map part_of qs) ≡ row_of kids +++ row (map part_of ps)
all_next kids more k p ps qs h e f =
    let r = row (map part_of qs) in
    ap (λ ks. row_of ks +++ r) e ∙ ap (λ s. s +++ r) (row_of-push kids k) ∙ +++_assoc (row_of kids) (kid k.binder (term k.body) end) r
    ∙ ap (λ k. row_of kids +++ kid k.binder (term k.body) r) h ∙ ap (λ ps. row_of kids +++ row (map part_of ps)) (sym f)

pub all_nests : (n m : ℕ) (p : Part) (ps qs : List Part) → m ≡ max n (p.held.value.nests + 1) → ps ≡ p ∷ qs → max m (deepest (map part_of qs)) ≡ max n (deepest (map part_of ps))
all_nests n m p ps qs e f = let g = ap (λ ps. deepest (map part_of ps)) f in omega arith

pub all_last : (op : Op) (kids : List Kid) (n : ℕ) (ps qs : List Part) → qs ≡ [] → row_of kids +++ row (map part_of qs) ≡ row (map part_of ps) → max n (deepest (map part_of qs)) ≡ deepest (map part_of ps) →
    kept (term (expr.Node op kids)) n ≡ stubs.node op (map part_of ps)
all_last op kids n ps qs e f g =
    let a : row_of kids ≡ row (map part_of ps) = sym (+++-end (row_of kids)) ∙ ap (λ qs. row_of kids +++ row (map part_of qs)) (sym e) ∙ f in
    let d = ap (λ qs. deepest (map part_of qs)) e in
    kept_node op (map part_of ps) _ n (term-Node op kids ∙ ap (tree.Node op) a) (omega arith)

pub all_few : (n m p : ℕ) → m ≡ max n (p + 1) → n < 2 ^ 10 → p ≤ 501 → m < 2 ^ 10
all_few n m p e h k = omega arith

pub none_left : (ps : List Part) → length ps ≡ 0 → ps ≡ []
none_left [] h = refl
none_left (p ∷ ps) h = absurd (omega arith)
