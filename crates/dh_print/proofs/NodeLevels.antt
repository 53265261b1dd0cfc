-- The level of a node that has its parts.
use Rattle.std.proofs.Common.{◌≡◌, ℕ, Bool, true, false, if◌then◌else◌, List, [], ◌∷◌, ◌++◌, codes, nat_lt, length, get_or, ◌<◌, refl, sym, ap, subst, ◌∙◌, arith}
use Rattle.std.specs.Prelude.{IsTrue}
use Rattle.std.proofs.lemmas.Bool.{and_parts, false≢true}
use Rattle.dh_syntax.specs.declared.expressions.Expr.{Expr}
use Rattle.dh_syntax.specs.declared.expressions.Expr.TheVariants as expr
use Rattle.dh_syntax.specs.declared.expressions.Kid.{Kid}
use Rattle.dh_syntax.specs.declared.expressions.Op.{Op}
use Rattle.dh_syntax.specs.declared.expressions.Op.TheVariants as ops
use Rattle.dh_syntax.specs.declared.operators.BinOp.{BinOp}
use Rattle.dh_syntax.specs.declared.operators.BinOp.TheVariants as binary
use Rattle.dh_syntax.specs.Expressions.Arity.{fits, has_some, plain, IsWellFormed, AreWellFormed}
use Rattle.dh_syntax.specs.Expressions.Bridge.{term, row_of}
use Rattle.dh_syntax.specs.Expressions.Levels.{level_of}
use Rattle.dh_syntax.specs.Expressions.Numbers.{bytes_eq}
use Rattle.dh_syntax.specs.Expressions.Order.{ascending}
use Rattle.dh_syntax.specs.Expressions.Tree.{Row, Leaf, Node, Name, Var, Term}
use Rattle.dh_syntax.specs.Text.Printed.{Layout, annotated, arrow, at, bracketed, forall, form, function_type, layout, layouts, node, operation, quantified}
use Rattle.dh_syntax.proofs.Bridge.{row_of-nil, row_of-cons, at_term-Var, at_term-Node}
use Rattle.dh_syntax.proofs.WellFormed.{IsWellFormed-Node}
use Rattle.dh_print.specs.Inside.Levels.{level_by_op, is_bare_op, IsLevelBeforeAnnotation}
use Rattle.dh_print.proofs.Shapes.{one_part, two_parts, three_parts, part_and_bound, parts_and_bound}

function_level : (x : Name) (a b : Layout) → (function_type x a b).level ≡ 0
function_level x a b = by (bytes_eq x (codes "_"))
  where
    by : (t : Bool) → (if t then form 0 (at 1 a ++ codes " " ++ arrow ++ codes " " ++ at 0 b) else quantified forall x a b).level ≡ 0
    by true = refl
    by false = refl

function_bare : (x : Name) (a b : Layout) → (function_type x a b).bare ≡ false
function_bare x a b = by (bytes_eq x (codes "_"))
  where
    by : (t : Bool) → (if t then form 0 (at 1 a ++ codes " " ++ arrow ++ codes " " ++ at 0 b) else quantified forall x a b).bare ≡ false
    by true = refl
    by false = refl

operation_level : (o : BinOp) (l r : Layout) → (operation o l r).level ≡ level_of o
operation_level binary.Complete l r = refl
operation_level _ l r = refl

operation_bare : (o : BinOp) (l r : Layout) → (operation o l r).bare ≡ false
operation_bare binary.Complete l r = refl
operation_bare _ l r = refl

-- that a node of this operator has this level, and whether it is bare
abbrev HasLevel : Op → Row Var Name → Type 0
HasLevel op r = ((node op (layouts r)).level ≡ level_by_op op) × ((node op (layouts r)).bare ≡ is_bare_op op)

pub node_level : (op : Op) (r : Row Var Name) → fits op r ≡ true → HasLevel op r
node_level (ops.Builtin b) r h = (refl, refl)
node_level (ops.Bool b) r h = (refl, refl)
node_level (ops.Nat n) r h = (refl, refl)
node_level (ops.Int z) r h = (refl, refl)
node_level (ops.Text ps) r h = (refl, refl)
node_level (ops.Import i) r h = (refl, refl)
node_level ops.Lam r h = part_and_bound (HasLevel ops.Lam) (λ e x b. (refl, refl)) r h
node_level ops.Pi r h = part_and_bound (HasLevel ops.Pi) (λ e x b. (function_level x (layout e) (layout b), function_bare x (layout e) (layout b))) r h
node_level (ops.Let false) r h = part_and_bound (HasLevel (ops.Let false)) (λ e x b. (refl, refl)) r h
node_level (ops.Let true) r h = parts_and_bound (HasLevel (ops.Let true)) (λ e f x b. (refl, refl)) r h
node_level ops.App r h = two_parts (HasLevel ops.App) (λ e f. (refl, refl)) r h
node_level ops.If r h = three_parts (HasLevel ops.If) (λ e f g. (refl, refl)) r h
node_level (ops.Bin o) r h = two_parts (HasLevel (ops.Bin o)) (λ e f. (operation_level o (layout e) (layout f), operation_bare o (layout e) (layout f))) r h
node_level ops.EmptyList r h = one_part (HasLevel ops.EmptyList) (λ e. (refl, refl)) r h
node_level ops.List r h = (refl, refl)
node_level ops.Some r h = one_part (HasLevel ops.Some) (λ e. (refl, refl)) r h
node_level (ops.Merge false) r h = two_parts (HasLevel (ops.Merge false)) (λ e f. (refl, refl)) r h
node_level (ops.Merge true) r h = three_parts (HasLevel (ops.Merge true)) (λ e f g. (refl, refl)) r h
node_level (ops.RecordType xs) r h = (refl, refl)
node_level (ops.Record xs) r h = (refl, refl)
node_level (ops.Field x) r h = one_part (HasLevel (ops.Field x)) (λ e. (refl, refl)) r h
node_level (ops.Project xs) r h = one_part (HasLevel (ops.Project xs)) (λ e. (refl, refl)) r (and_parts (ascending xs) (plain 1 r) h).1
node_level ops.ProjectType r h = two_parts (HasLevel ops.ProjectType) (λ e f. (refl, refl)) r h
node_level (ops.Union alts) r h = (refl, refl)
node_level ops.Assert r h = one_part (HasLevel ops.Assert) (λ e. (refl, refl)) r h
node_level ops.Annot r h = two_parts (HasLevel ops.Annot) (λ e f. (refl, refl)) r h
node_level (ops.ToMap false) r h = one_part (HasLevel (ops.ToMap false)) (λ e. (refl, refl)) r h
node_level (ops.ToMap true) r h = two_parts (HasLevel (ops.ToMap true)) (λ e f. (refl, refl)) r h
node_level (ops.With path) r h = two_parts (HasLevel (ops.With path)) (λ e f. (refl, refl)) r (and_parts (has_some path) (plain 2 r) h).1

-- ---- the same of expressions

pub parts_of : (e : Expr) (op : Op) (kids ks : List Kid) → e ≡ expr.Node op kids → ks ≡ kids → IsWellFormed (term e) → IsTrue (fits op (row_of ks)) × AreWellFormed (row_of ks)
parts_of e op kids ks is same h =
    subst (λ js. IsTrue (fits op (row_of js)) × AreWellFormed (row_of js)) (sym same) ((IsWellFormed-Node op kids).0 (subst (λ d. IsWellFormed (term d)) is h))

pub level-Var : (e : Expr) (x : Name) (n : ℕ) → e ≡ expr.Var x n → 17 ≡ (layout (term e)).level
level-Var e x n is = sym (at_term-Var (λ t. (layout t).level) e x n is)

pub level-Node : (e : Expr) (op : Op) (ks : List Kid) → e ≡ expr.Node op ks → IsWellFormed (term e) → level_by_op op ≡ (layout (term e)).level
level-Node e op ks is h = sym (at_term-Node (λ t. (layout t).level) e op ks is ∙ (node_level op (row_of ks) (parts_of e op ks ks is refl h).0).0)

pub bare-Var : (e : Expr) (x : Name) (n : ℕ) → e ≡ expr.Var x n → false ≡ (layout (term e)).bare
bare-Var e x n is = sym (at_term-Var (λ t. (layout t).bare) e x n is)

pub bare-Node : (e : Expr) (op : Op) (ks : List Kid) → e ≡ expr.Node op ks → IsWellFormed (term e) → is_bare_op op ≡ (layout (term e)).bare
bare-Node e op ks is h = sym (at_term-Node (λ t. (layout t).bare) e op ks is ∙ (node_level op (row_of ks) (parts_of e op ks ks is refl h).0).1)

-- ---- before an annotation

-- what is bare has the level of an application
bare_level : (op : Op) (r : Row Var Name) → fits op r ≡ true → is_bare_op op ≡ true → (node op (layouts r)).level ≡ 14
bare_level (ops.Merge false) r h e = (node_level (ops.Merge false) r h).0
bare_level (ops.ToMap false) r h e = (node_level (ops.ToMap false) r h).0
bare_level _ r h e = absurd (false≢true e)

first_bare : (e : Term) → IsWellFormed e → true ≡ (layout e).bare → at 15 (layout e) ≡ annotated (layout e)
first_bare (Leaf v) h b = absurd (false≢true (sym b))
first_bare (Node op r) h b =
    let l = bare_level op r h.0 (sym (node_level op r h.0).1 ∙ sym b) in
    ap (λ m. if nat_lt m 15 then bracketed (node op (layouts r)).text else (node op (layouts r)).text) l
    ∙ ap (λ t. if t then bracketed (node op (layouts r)).text else at 1 (node op (layouts r))) b

pub before_annotation_bare : (ks : List Kid) (k : Kid) → 0 < length ks → k ≡ get_or ks 0 k → AreWellFormed (row_of ks) → true ≡ (layout (term k.body)).bare → IsLevelBeforeAnnotation 15 (row_of ks)
before_annotation_bare [] k h e w b = absurd (omega arith)
before_annotation_bare (j ∷ ks) k h e w b =
    let bare : true ≡ (layout (term j.body)).bare = b ∙ ap (λ (d : Kid). (layout (term d.body)).bare) e in
    subst (IsLevelBeforeAnnotation 15) (sym (row_of-cons j ks)) (first_bare (term j.body) (subst AreWellFormed (row_of-cons j ks) w).0 bare)

pub before_annotation : (ks : List Kid) (k : Kid) → 0 < length ks → k ≡ get_or ks 0 k → false ≡ (layout (term k.body)).bare → IsLevelBeforeAnnotation 1 (row_of ks)
before_annotation [] k h e b = absurd (omega arith)
before_annotation (j ∷ ks) k h e b =
    let l = layout (term j.body) in
    let bare : false ≡ l.bare = b ∙ ap (λ (d : Kid). (layout (term d.body)).bare) e in
    subst (IsLevelBeforeAnnotation 1) (sym (row_of-cons j ks)) (ap (λ t. if t then bracketed l.text else at 1 l) bare)

pub none_before_annotation : (m : ℕ) (ks : List Kid) → length ks < 1 → IsLevelBeforeAnnotation m (row_of ks)
none_before_annotation m [] h = subst (IsLevelBeforeAnnotation m) (sym row_of-nil) tt
none_before_annotation m (k ∷ ks) h = absurd (omega arith)
