-- Whether an expression is the constant `Sort`, where values are put in.
use Rattle.std.specs.Prelude.{◌≡◌, ℕ, suc, false, List, Some, None, slice_get, refl}
use Rattle.std.proofs.Common.{ap, sym, ◌∙◌}
use Rattle.dh_syntax.specs.declared.expressions.Op.{Op}
use Rattle.dh_syntax.specs.declared.expressions.Op.TheVariants as ops
use Rattle.dh_syntax.specs.declared.operators.Builtin.{Builtin}
use Rattle.dh_syntax.specs.declared.operators.Builtin.TheVariants as builtins
use Rattle.dh_syntax.specs.Expressions.Tree.{Row, Leaf, Node, Name}
use Rattle.dh_syntax.specs.Names.Nameless as ref
use Rattle.dh_syntax.specs.Names.Nameless.{Ref, Core, sub}
use Rattle.dh_syntax.specs.Typing.TypeViews.{is_constant}
use Rattle.dh_infer.specs.declared.forms.Form.{Form}
use Rattle.dh_infer.specs.declared.forms.Form.TheVariants as forms
use Rattle.dh_infer.specs.declared.frames.Entry.{Entry}
use Rattle.dh_infer.specs.Inside.Forms.{has_own_rule, IsForm, IsLiteral}
use Rattle.dh_infer.specs.Inside.OpenTyping.{typing_at}
use Rattle.dh_infer.specs.Inside.Scopes.{env, in_scope}
use Rattle.dh_infer.proofs.Scoping.{env-there, env-past}

group-sort : (op : Op) (r : Row Ref Name) → has_own_rule op ≡ false → is_constant builtins.Sort (Node op r) ≡ false
group-sort (ops.Builtin b) r n = absurd cc
group-sort op r n = refl

-- neither a variable of a binder nor a built-in
abbrev pub IsOther : Form → Type 0
IsOther (forms.Bound i) = ⊥
IsOther (forms.Builtin b) = ⊥
IsOther form = Unit {0}

pub other-sort : (g : ℕ → Core) (s : ℕ → Core) (e : Core) (f : Form) → IsForm g e f → IsOther f → is_constant builtins.Sort (sub s e) ≡ false
other-sort g s e (forms.Bound i) h o = absurd o
other-sort g s e (forms.Level n) h o = ap (λ z. is_constant builtins.Sort (sub s z)) h
other-sort g s e forms.Free h o = let (b, x, n, p) = h in ap (λ z. is_constant builtins.Sort (sub s z)) p
other-sort g s e (forms.Builtin b) h o = absurd o
other-sort g s e forms.Bool h o = let (b, (r, p, q)) = h in ap (λ z. is_constant builtins.Sort (sub s z)) p
other-sort g s e forms.Natural h o = let (b, (r, p, q)) = h in ap (λ z. is_constant builtins.Sort (sub s z)) p
other-sort g s e forms.Integer h o = let (b, (r, p, q)) = h in ap (λ z. is_constant builtins.Sort (sub s z)) p
other-sort g s e (forms.Lambda x a b) h o = let (r, p, q) = h in ap (λ z. is_constant builtins.Sort (sub s z)) p
other-sort g s e (forms.Forall x a b) h o = let (r, p, q) = h in ap (λ z. is_constant builtins.Sort (sub s z)) p
other-sort g s e (forms.Let a b) h o = let (r, p, q) = h in ap (λ z. is_constant builtins.Sort (sub s z)) p
other-sort g s e (forms.LetTyped t a b) h o = let (r, p, q) = h in ap (λ z. is_constant builtins.Sort (sub s z)) p
other-sort g s e (forms.Application f a) h o = let (r, p, q) = h in ap (λ z. is_constant builtins.Sort (sub s z)) p
other-sort g s e (forms.Completion t r) h o = let (q, p, k) = h in ap (λ z. is_constant builtins.Sort (sub s z)) p
other-sort g s e forms.Plain h o = let (op, n, (r, p, q)) = h in ap (λ z. is_constant builtins.Sort (sub s z)) p ∙ group-sort op _ n

pub builtin-sort : (g : ℕ → Core) (s : ℕ → Core) (e : Core) (b : Builtin) → IsForm g e (forms.Builtin b) → is_constant builtins.Sort (sub s e) ≡ is_constant builtins.Sort e
builtin-sort g s e b h = let (r, p, q) = h in ap (λ z. is_constant builtins.Sort (sub s z)) p ∙ sym (ap (is_constant builtins.Sort) p)

pub value-sort : (g : ℕ → Core) (es : List Entry) (k i : ℕ) (e : Entry) → g k ≡ Leaf (ref.Bound i) → slice_get es i ≡ Some e → is_constant builtins.Sort (in_scope g es k) ≡ is_constant builtins.Sort (g e.value)
value-sort g es k i e h p = ap (is_constant builtins.Sort) (ap (sub (env g es)) h ∙ env-there g es i e p)

pub past-sort : (g : ℕ → Core) (es : List Entry) (k i : ℕ) → g k ≡ Leaf (ref.Bound i) → slice_get es i ≡ None → is_constant builtins.Sort (in_scope g es k) ≡ false
past-sort g es k i h p = let (j, q) = env-past g es i p in ap (is_constant builtins.Sort) (ap (sub (env g es)) h ∙ q)

-- ---- literals

pub bool-literal : (g : ℕ → Core) (e : Core) → IsForm g e forms.Bool → IsLiteral e builtins.Bool
bool-literal g e h = λ ts s d. let (b, (r, p, q)) = h in ap (λ z. typing_at ts (suc d) (sub s z)) p

pub natural-literal : (g : ℕ → Core) (e : Core) → IsForm g e forms.Natural → IsLiteral e builtins.Natural
natural-literal g e h = λ ts s d. let (b, (r, p, q)) = h in ap (λ z. typing_at ts (suc d) (sub s z)) p

pub integer-literal : (g : ℕ → Core) (e : Core) → IsForm g e forms.Integer → IsLiteral e builtins.Integer
integer-literal g e h = λ ts s d. let (b, (r, p, q)) = h in ap (λ z. typing_at ts (suc d) (sub s z)) p
